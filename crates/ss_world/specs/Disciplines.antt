-- Where a discipline puts a member, and taking out the first or the last.
use Rattle.std.specs.Prelude.{ℕ, zero, suc, ◌<◌, Bool, false, not, cond, List, [], ◌∷◌, length, ℤ, pos, Result, Ok, Err, All}
use Rattle.std.specs.Ordering.{match_ordering}
use Rattle.ss_base.specs.Order.{value_cmp}
use Rattle.ss_base.specs.declared.value.Value.{Value}
use Rattle.ss_base.specs.declared.value.Value.TheVariants.{Whole}
use Rattle.ss_base.specs.declared.fault.FaultKind.{FaultKind}
use Rattle.ss_base.specs.declared.fault.FaultKind.TheVariants.{EmptySet}
use Rattle.ss_base.specs.declared.layout.RankKey.{RankKey}
use Rattle.ss_base.specs.declared.layout.Discipline.{Discipline}
use Rattle.ss_base.specs.declared.layout.Discipline.TheVariants.{Fifo, Lifo, Ranked}
use Rattle.ss_base.specs.declared.layout.Layout.{Layout}
use Rattle.ss_world.specs.State.{State, and_then, value_in, members_of, contains, modes_of}
use Rattle.ss_world.specs.Sets.{joiner, owner, member_class, put_in, first_in, last_in, removed, filed_first, filed_last}

-- ## Taking out

-- the state without x in a set, and x; 0 is none
abbrev pub take : State → ℕ → ℤ → ℤ → Result (ℤ × State) FaultKind
take st s o (pos zero) = Err EmptySet
take st s o x = and_then (removed st s o x) (λ t. Ok (x, t))

-- the first member of a set, and the state once it is removed
abbrev pub first_removed : State → ℕ → ℤ → Result (ℤ × State) FaultKind
first_removed st s o = and_then (first_in st s o) (take st s o)

-- the last member of a set, and the state once it is removed
abbrev pub last_removed : State → ℕ → ℤ → Result (ℤ × State) FaultKind
last_removed st s o = and_then (last_in st s o) (take st s o)

-- whether x is a member of this set
abbrev pub member_test : State → ℕ → ℤ → ℤ → Result Bool FaultKind
member_test st s o x = and_then (joiner st s x) (λ n. and_then (owner st s o) (λ m. Ok (contains (members_of st.lists s m) n)))

-- ## Ranks

abbrev pub value_or_zero : Result Value FaultKind → Value
value_or_zero (Ok v) = v
value_or_zero (Err e) = Whole (pos 0)

-- the value of the attribute f of an entity of a class
abbrev pub value_of : State → ℕ → ℕ → ℤ → Value
value_of st c f x = value_or_zero (value_in st c f x)

-- whether y ranks strictly after x: by the first key in which they differ
abbrev pub ranks_after : State → ℕ → List RankKey → ℤ → ℤ → Bool
ranks_after st c [] y x = false
ranks_after st c (k ∷ ks) y x = match_ordering (value_cmp (value_of st c k.field y) (value_of st c k.field x)) k.high (ranks_after st c ks y x) (not k.high)

-- the list with x directly before the first member that ranks strictly after it, last where there is none
abbrev pub put_ranked : State → ℕ → List RankKey → ℕ → List ℕ → List ℕ
put_ranked st c ks x [] = x ∷ []
put_ranked st c ks x (y ∷ ys) = cond (ranks_after st c ks (pos y) (pos x)) (x ∷ y ∷ ys) (y ∷ put_ranked st c ks x ys)

abbrev pub filed_ranked : State → List RankKey → ℕ → ℤ → ℤ → Result State FaultKind
filed_ranked st ks s o x = and_then (joiner st s x) (λ n. and_then (owner st s o) (λ m. put_in (put_ranked st (member_class st.layout s) ks) st s m n))

-- the state once x is filed by a discipline
abbrev pub filed : State → Discipline → ℕ → ℤ → ℤ → Result State FaultKind
filed st Fifo s o x = filed_last st s o x
filed st Lifo s o x = filed_first st s o x
filed st (Ranked ks) s o x = filed_ranked st ks s o x

-- ## What a caller keeps to, and what filing costs

-- keys are fields of a class
abbrev pub AreFields : Layout → ℕ → List RankKey → Type 0
AreFields l c ks = All (λ (k : RankKey). k.field < length (modes_of l c)) ks

-- the keys of a discipline are fields of the class of the set's members
abbrev pub HasMemberKeys : Layout → ℕ → Discipline → Type 0
HasMemberKeys l s Fifo = Unit {0}
HasMemberKeys l s Lifo = Unit {0}
HasMemberKeys l s (Ranked ks) = AreFields l (member_class l s) ks

-- how many members x passes
abbrev pub members_passed : State → ℕ → List RankKey → ℤ → List ℕ → ℕ
members_passed st c ks x [] = 0
members_passed st c ks x (y ∷ ys) = cond (ranks_after st c ks (pos y) x) 0 (suc (members_passed st c ks x ys))

abbrev pub members_owned_by : State → ℕ → Result ℕ FaultKind → List ℕ
members_owned_by st s (Ok m) = members_of st.lists s m
members_owned_by st s (Err e) = []

-- the members of the set of an owner, none where there is no owner
abbrev pub owned : State → ℕ → ℤ → List ℕ
owned st s o = members_owned_by st s (owner st s o)

-- how many members filing by a discipline passes
abbrev pub passed_by : State → Discipline → ℕ → ℤ → ℤ → ℕ
passed_by st Fifo s o x = 0
passed_by st Lifo s o x = 0
passed_by st (Ranked ks) s o x = members_passed st (member_class st.layout s) ks x (owned st s o)
