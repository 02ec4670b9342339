-- The sets: who may own and join one, its members in order, filing and removing.
use Rattle.std.specs.Prelude.{◌≡◌, ℕ, ◌<◌, cond, if◌then◌else◌, ◌==◌, List, [], ◌∷◌, ◌++◌, length, ℤ, pos, Option, Some, None, Result, Ok, Err, slice_get}
use Rattle.ss_base.specs.declared.fault.FaultKind.{FaultKind}
use Rattle.ss_base.specs.declared.fault.FaultKind.TheVariants.{FiledTwice, NotFiled}
use Rattle.ss_base.specs.declared.layout.Owner.{Owner}
use Rattle.ss_base.specs.declared.layout.Owner.TheVariants.{System, Class}
use Rattle.ss_base.specs.declared.layout.SetLayout.{SetLayout}
use Rattle.ss_base.specs.declared.layout.Layout.{Layout}
use Rattle.ss_world.specs.Lists.{head0, last_or, IsInList, AreAllDistinct}
use Rattle.ss_world.specs.State.{State, Members, and_then, entity_in, number_in, members_of, contains, owner_of, is_filed, with_members}

-- ## Owners and members

abbrev pub member_in : Option SetLayout → ℕ
member_in None = 0
member_in (Some t) = t.member

-- the class of the members of the set s
abbrev pub member_class : Layout → ℕ → ℕ
member_class l s = member_in (slice_get l.sets s)

abbrev pub owner_in : Option SetLayout → Owner
owner_in None = System
owner_in (Some t) = t.owner

-- who owns the set s
abbrev pub owner_kind : Layout → ℕ → Owner
owner_kind l s = owner_in (slice_get l.sets s)

-- what x means as one that may be a member of the set s
abbrev pub joiner : State → ℕ → ℤ → Result ℕ FaultKind
joiner st s x = and_then (entity_in st (member_class st.layout s) x) (λ r. Ok (number_in x))

abbrev pub owner_by : State → Owner → ℤ → Result ℕ FaultKind
owner_by st System o = Ok 0
owner_by st (Class c) o = and_then (entity_in st c o) (λ r. Ok (number_in o))

-- what o means as an owner of a set s. The system, known as 0, owns one set of each of its names
abbrev pub owner : State → ℕ → ℤ → Result ℕ FaultKind
owner st s o = owner_by st (owner_kind st.layout s) o

-- ## Looking

-- the member that follows y, 0 where there is none
abbrev pub follower : ℕ → List ℕ → ℕ
follower y [] = 0
follower y (z ∷ zs) = cond (z == y) (head0 zs) (follower y zs)

-- the member that precedes y: p before the first, 0 where y is no member
abbrev pub precursor : ℕ → ℕ → List ℕ → ℕ
precursor p y [] = 0
precursor p y (z ∷ zs) = cond (z == y) p (precursor z y zs)

-- the members of the set s of an owner, none where there is no owner
abbrev pub members_by : List Members → ℕ → Option ℕ → List ℕ
members_by ms s None = []
members_by ms s (Some o) = members_of ms s o

-- the members of the set of the name s that has x
abbrev pub companions : List Members → ℕ → ℕ → List ℕ
companions ms s x = members_by ms s (owner_of ms s x)

abbrev pub first_in : State → ℕ → ℤ → Result ℤ FaultKind
first_in st s o = and_then (owner st s o) (λ n. Ok (pos (head0 (members_of st.lists s n))))

abbrev pub last_in : State → ℕ → ℤ → Result ℤ FaultKind
last_in st s o = and_then (owner st s o) (λ n. Ok (pos (last_or 0 (members_of st.lists s n))))

abbrev pub count_in : State → ℕ → ℤ → Result ℤ FaultKind
count_in st s o = and_then (owner st s o) (λ n. Ok (pos (length (members_of st.lists s n))))

abbrev pub next_in : State → ℕ → ℤ → Result ℤ FaultKind
next_in st s x = and_then (joiner st s x) (λ n. Ok (pos (follower n (companions st.lists s n))))

abbrev pub previous_in : State → ℕ → ℤ → Result ℤ FaultKind
previous_in st s x = and_then (joiner st s x) (λ n. Ok (pos (precursor 0 n (companions st.lists s n))))

abbrev pub as_number : Option ℕ → Option ℤ
as_number None = None
as_number (Some n) = Some (pos n)

-- whose set s has x, if any
abbrev pub owner_of_member : State → ℕ → ℤ → Result (Option ℤ) FaultKind
owner_of_member st s x = and_then (joiner st s x) (λ n. Ok (as_number (owner_of st.lists s n)))

-- ## Filing and removing

-- the list with x directly before y, or last where y is no member
abbrev pub put_before : ℕ → ℕ → List ℕ → List ℕ
put_before y x [] = x ∷ []
put_before y x (z ∷ zs) = cond (z == y) (x ∷ z ∷ zs) (z ∷ put_before y x zs)

-- the list with x directly after y
abbrev pub put_after : ℕ → ℕ → List ℕ → List ℕ
put_after y x [] = x ∷ []
put_after y x (z ∷ zs) = cond (z == y) (z ∷ x ∷ zs) (z ∷ put_after y x zs)

-- the list without x
abbrev pub less : ℕ → List ℕ → List ℕ
less x [] = []
less x (z ∷ zs) = cond (z == x) zs (z ∷ less x zs)

-- the state with a list for the set s of the owner o
abbrev pub with_list_of : State → ℕ → ℕ → List ℕ → State
with_list_of st s o l = record st { lists = with_members st.lists s o l }

-- the state once x is put where `put` says. No entity is in two sets of a name
abbrev pub put_in : (ℕ → List ℕ → List ℕ) → State → ℕ → ℕ → ℕ → Result State FaultKind
put_in put st s o x = if is_filed st.lists s x then Err FiledTwice else Ok (with_list_of st s o (put x (members_of st.lists s o)))

abbrev pub filed_first : State → ℕ → ℤ → ℤ → Result State FaultKind
filed_first st s o x = and_then (joiner st s x) (λ n. and_then (owner st s o) (λ m. put_in (λ y l. y ∷ l) st s m n))

abbrev pub filed_last : State → ℕ → ℤ → ℤ → Result State FaultKind
filed_last st s o x = and_then (joiner st s x) (λ n. and_then (owner st s o) (λ m. put_in (λ y l. l ++ y ∷ []) st s m n))

-- the state once x is put beside a member k of the set
abbrev pub put_beside : (ℕ → ℕ → List ℕ → List ℕ) → State → ℕ → ℕ → ℕ → ℕ → Result State FaultKind
put_beside put st s o x k =
    if is_filed st.lists s x then Err FiledTwice
    else (if contains (members_of st.lists s o) k then Ok (with_list_of st s o (put k x (members_of st.lists s o)))
    else Err NotFiled)

abbrev pub filed_before : State → ℕ → ℤ → ℤ → ℤ → Result State FaultKind
filed_before st s o x y = and_then (joiner st s x) (λ n. and_then (joiner st s y) (λ k. and_then (owner st s o) (λ m. put_beside put_before st s m n k)))

abbrev pub filed_after : State → ℕ → ℤ → ℤ → ℤ → Result State FaultKind
filed_after st s o x y = and_then (joiner st s x) (λ n. and_then (joiner st s y) (λ k. and_then (owner st s o) (λ m. put_beside put_after st s m n k)))

abbrev pub taken_out : State → ℕ → ℕ → ℕ → Result State FaultKind
taken_out st s o x = if contains (members_of st.lists s o) x then Ok (with_list_of st s o (less x (members_of st.lists s o))) else Err NotFiled

abbrev pub removed : State → ℕ → ℤ → ℤ → Result State FaultKind
removed st s o x = and_then (joiner st s x) (λ n. and_then (owner st s o) (λ m. taken_out st s m n))

-- ## What holds of every heap

-- members are entities of their class; none is twice in a set, or in two sets of a name
pub record AreMembersApart (st : State) : Type 0 where
  pub distinct : (s o : ℕ) → s < length st.layout.sets → AreAllDistinct (members_of st.lists s o)
  pub members : (s o x : ℕ) → s < length st.layout.sets → IsInList x (members_of st.lists s o) → (0 ≡ x → ⊥) × (joiner st s (pos x) ≡ Ok x)
  pub sole : (s o x : ℕ) → s < length st.layout.sets → IsInList x (members_of st.lists s o) → owner_of st.lists s x ≡ Some o
