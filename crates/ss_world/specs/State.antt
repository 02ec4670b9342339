-- What a heap holds: records by creation number, permanent entities by index, and the members of each set.
use Rattle.std.specs.Prelude.{◌≡◌, ℕ, zero, suc, ◌+◌, ◌-◌, nat_lt, nat_le, Bool, true, false, ◌&&◌, ◌||◌, ◌==◌, cond, if◌then◌else◌, List, [], ◌∷◌, ◌++◌, length, map, ℤ, pos, negsuc, Option, Some, None, is_some, Result, Ok, Err, IsOk, slice_get, slice_index_or, slice_set, replicate}
use Rattle.ss_base.specs.declared.value.Value.{Value}
use Rattle.ss_base.specs.declared.value.Value.TheVariants.{Whole}
use Rattle.ss_base.specs.declared.fault.FaultKind.{FaultKind}
use Rattle.ss_base.specs.declared.fault.FaultKind.TheVariants.{NoEntity, NeverCreated, DestroyedEntity, WrongClass, Index, InASet, OwnsMembers, Overflow, CreatedTwice, BadCount}
use Rattle.ss_base.specs.declared.fault.Refused.{Refused}
use Rattle.ss_base.specs.declared.fault.Refused.TheVariants.{Fault, Memory}
use Rattle.ss_base.specs.declared.layout.ClassKind.{ClassKind}
use Rattle.ss_base.specs.declared.layout.ClassKind.TheVariants.{Permanent, Temporary, Notice}
use Rattle.ss_base.specs.declared.layout.Mode.{Mode}
use Rattle.ss_base.specs.declared.layout.Owner.{Owner}
use Rattle.ss_base.specs.declared.layout.Owner.TheVariants.{System, Class}
use Rattle.ss_base.specs.Layout.{first_value}
use Rattle.ss_base.specs.declared.layout.ClassLayout.{ClassLayout}
use Rattle.ss_base.specs.declared.layout.SetLayout.{SetLayout}
use Rattle.ss_base.specs.declared.layout.Layout.{Layout}

-- an entity: its class, the values of its attributes, and the time of a notice
pub record Record : Type 0 where
  pub class : ℕ
  pub values : List Value
  pub time : ℤ

-- the members of the set of one owner, from the first to the last
pub record Members : Type 0 where
  pub set : ℕ
  pub owner : ℕ
  pub list : List ℕ

-- the state of a heap: the record of creation number n is the n-th, None once it is destroyed; for each
-- class the records of its permanent entities by index, None until they are made
pub record State : Type 0 where
  pub layout : Layout
  pub records : List (Option Record)
  pub permanents : List (Option (List Record))
  pub lists : List Members

-- what the contracts of a heap speak of: its state; the touches of the last call and of all calls; the
-- pages of the directory; the blocks
pub record Heaped : Type 0 where
  pub state : State
  pub touches : ℕ
  pub total : ℕ
  pub pages : ℕ
  pub blocks : ℕ

-- ## Classes

abbrev pub kind_in : Option ClassLayout → ClassKind
kind_in None = Temporary
kind_in (Some c) = c.kind

abbrev pub kind_of : Layout → ℕ → ClassKind
kind_of l c = kind_in (slice_get l.classes c)

abbrev pub modes_in : Option ClassLayout → List Mode
modes_in None = []
modes_in (Some c) = c.fields

abbrev pub modes_of : Layout → ℕ → List Mode
modes_of l c = modes_in (slice_get l.classes c)

-- ## References

abbrev pub and_then : {A B : Type 0} → Result A FaultKind → (A → Result B FaultKind) → Result B FaultKind
and_then (Ok a) f = f a
and_then (Err e) f = Err e

abbrev pub issued_record : Option (Option Record) → Result Record FaultKind
issued_record None = Err NeverCreated
issued_record (Some None) = Err DestroyedEntity
issued_record (Some (Some r)) = Ok r

-- the record of a creation number: 0 is no entity
abbrev pub numbered_record : State → ℤ → Result Record FaultKind
numbered_record s (pos zero) = Err NoEntity
numbered_record s (pos (suc i)) = issued_record (slice_get s.records i)
numbered_record s (negsuc k) = Err NeverCreated

abbrev pub indexed_record : Option Record → Result Record FaultKind
indexed_record None = Err Index
indexed_record (Some r) = Ok r

abbrev pub records_in : Option (Option (List Record)) → List Record
records_in (Some (Some rs)) = rs
records_in _ = []

-- the record of an index of a permanent class, from 1 on
abbrev pub indexed : State → ℕ → ℤ → Result Record FaultKind
indexed s c (pos (suc i)) = indexed_record (slice_get (records_in (slice_get s.permanents c)) i)
indexed s c _ = Err Index

abbrev pub of_class : ℕ → Record → Result Record FaultKind
of_class c r = if r.class == c then Ok r else Err WrongClass

abbrev pub is_notice : ClassKind → Bool
is_notice Notice = true
is_notice _ = false

abbrev pub of_notice : Layout → Record → Result Record FaultKind
of_notice l r = if is_notice (kind_of l r.class) then Ok r else Err WrongClass

abbrev pub entity_of_kind : State → ClassKind → ℕ → ℤ → Result Record FaultKind
entity_of_kind s Permanent c x = indexed s c x
entity_of_kind s _ c x = and_then (numbered_record s x) (of_class c)

-- what a number means as an entity of a class
abbrev pub entity_in : State → ℕ → ℤ → Result Record FaultKind
entity_in s c x = entity_of_kind s (kind_of s.layout c) c x

-- what a number means as a notice of any class
abbrev pub notice : State → ℤ → Result Record FaultKind
notice s x = and_then (numbered_record s x) (of_notice s.layout)

-- the number of an entity that is there
abbrev pub number_in : ℤ → ℕ
number_in (pos n) = n
number_in (negsuc k) = 0

-- ## Values

-- a record as it is created
abbrev pub first_record : Layout → ℕ → Record
first_record l c = record { class = c; values = map first_value (modes_of l c); time = pos 0 }

abbrev pub record_with_value : Record → ℕ → Value → Record
record_with_value r f v = record { class = r.class; values = slice_set r.values f v; time = r.time }

abbrev pub with_time : Record → ℤ → Record
with_time r t = record { class = r.class; values = r.values; time = t }

abbrev pub with_indexed : Option (Option (List Record)) → ℕ → Record → Option (List Record)
with_indexed (Some (Some rs)) i r = Some (slice_set rs (i - 1) r)
with_indexed _ i r = None

abbrev pub with_entity_of_kind : State → ClassKind → ℕ → ℕ → Record → State
with_entity_of_kind s Permanent c n r = record s { permanents = slice_set s.permanents c (with_indexed (slice_get s.permanents c) n r) }
with_entity_of_kind s _ c n r = record s { records = slice_set s.records (n - 1) (Some r) }

-- the state with r as the record of the entity n of the class c
abbrev pub with_entity : State → ℕ → ℕ → Record → State
with_entity s c n r = with_entity_of_kind s (kind_of s.layout c) c n r

-- the value of the attribute f of an entity
abbrev pub value_in : State → ℕ → ℕ → ℤ → Result Value FaultKind
value_in s c f x = and_then (entity_in s c x) (λ r. Ok (slice_index_or r.values f (Whole (pos 0))))

-- the state once the attribute f of an entity is v
abbrev pub assigned : State → ℕ → ℕ → ℤ → Value → Result State FaultKind
assigned s c f x v = and_then (entity_in s c x) (λ r. Ok (with_entity s c (number_in x) (record_with_value r f v)))

-- the time of a notice
abbrev pub time_in : State → ℤ → Result ℤ FaultKind
time_in s x = and_then (notice s x) (λ r. Ok r.time)

-- the state once the time of a notice is t
abbrev pub timed : State → ℤ → ℤ → Result State FaultKind
timed s x t = and_then (notice s x) (λ r. Ok (record s { records = slice_set s.records (number_in x - 1) (Some (with_time r t)) }))

-- ## Creating

-- why a call is refused: for the fault that is due, and out of memory only where none is due
abbrev pub IsRefusalOf : {A : Type 0} → Result A FaultKind → Refused → Type 0
IsRefusalOf r (Fault f) = r ≡ Err f
IsRefusalOf r Memory = IsOk r

-- how many creation numbers there are at most
abbrev pub LAST_NUMBER : ℕ
LAST_NUMBER = 4611686018427387903

abbrev pub with_created : State → ℕ → State
with_created s c = record s { records = s.records ++ Some (first_record s.layout c) ∷ [] }

-- the number of the next record and the state with it
abbrev pub created : State → ℕ → Result (ℤ × State) FaultKind
created s c = if nat_lt (length s.records) LAST_NUMBER then Ok (pos (length s.records + 1), with_created s c) else Err Overflow

-- how many entities a permanent class has at most
abbrev pub MOST_ENTITIES : ℕ
MOST_ENTITIES = 1048576

abbrev pub is_made_in : Option (Option (List Record)) → Bool
is_made_in (Some (Some rs)) = true
is_made_in _ = false

-- whether the entities of a permanent class are made
abbrev pub is_made : State → ℕ → Bool
is_made s c = is_made_in (slice_get s.permanents c)

-- the state with n entities of a permanent class
abbrev pub with_made : State → ℕ → ℕ → State
with_made s c n = record s { permanents = slice_set s.permanents c (Some (replicate n (first_record s.layout c))) }

abbrev pub made_many : State → ℕ → ℤ → Result State FaultKind
made_many s c (pos n) = if nat_le n MOST_ENTITIES then Ok (with_made s c n) else Err BadCount
made_many s c (negsuc k) = Err BadCount

-- the state once all entities of a permanent class are made, which happens once
abbrev pub created_all : State → ℕ → ℤ → Result State FaultKind
created_all s c n = if is_made s c then Err CreatedTwice else made_many s c n

-- ## Sets

-- the members of the set s of the owner o; 0 is the system
abbrev pub members_of : List Members → ℕ → ℕ → List ℕ
members_of [] s o = []
members_of (m ∷ ms) s o = cond ((m.set == s) && (m.owner == o)) m.list (members_of ms s o)

abbrev pub contains : List ℕ → ℕ → Bool
contains [] x = false
contains (y ∷ ys) x = (y == x) || contains ys x

-- the first owner of those named in ms whose set s, by all lists, has the member x
abbrev pub owner_among : List Members → List Members → ℕ → ℕ → Option ℕ
owner_among [] all s x = None
owner_among (m ∷ ms) all s x = if (m.set == s) && contains (members_of all s m.owner) x then Some m.owner else owner_among ms all s x

-- whose set s has the member x
abbrev pub owner_of : List Members → ℕ → ℕ → Option ℕ
owner_of ms s x = owner_among ms ms s x

-- whether x is a member of any set s
abbrev pub is_filed : List Members → ℕ → ℕ → Bool
is_filed ms s x = is_some (owner_of ms s x)

-- the lists with l as the members of the set s of the owner o
abbrev pub with_members : List Members → ℕ → ℕ → List ℕ → List Members
with_members [] s o l = record { set = s; owner = o; list = l } ∷ []
with_members (m ∷ ms) s o l = cond ((m.set == s) && (m.owner == o)) (record { set = s; owner = o; list = l } ∷ ms) (m ∷ with_members ms s o l)

abbrev pub has_members : List ℕ → Bool
has_members [] = false
has_members (x ∷ xs) = true

abbrev pub is_owner_class : Owner → ℕ → Bool
is_owner_class System c = false
is_owner_class (Class d) c = d == c

-- whether x of the class c is in one of the sets that begin with number s
abbrev pub in_a_set : List SetLayout → ℕ → List Members → ℕ → ℕ → Bool
in_a_set [] s ms c x = false
in_a_set (t ∷ ts) s ms c x = ((t.member == c) && is_filed ms s x) || in_a_set ts (s + 1) ms c x

-- whether x of the class c has members in one of the sets that begin with number s
abbrev pub owns_members : List SetLayout → ℕ → List Members → ℕ → ℕ → Bool
owns_members [] s ms c x = false
owns_members (t ∷ ts) s ms c x = (is_owner_class t.owner c && has_members (members_of ms s x)) || owns_members ts (s + 1) ms c x

abbrev pub let_go : State → ℕ → ℕ → Result State FaultKind
let_go s c n =
    if in_a_set s.layout.sets 0 s.lists c n then Err InASet
    else (if owns_members s.layout.sets 0 s.lists c n then Err OwnsMembers
    else Ok (record s { records = slice_set s.records (n - 1) None }))

-- the state once a record is destroyed
abbrev pub destroyed : State → ℕ → ℤ → Result State FaultKind
destroyed s c x = and_then (entity_in s c x) (λ r. let_go s c (number_in x))

-- ## The state at first, and what is counted

abbrev pub not_made : ClassLayout → Option (List Record)
not_made c = None

-- no record, nothing made, all sets empty
abbrev pub first_state : Layout → State
first_state l = record { layout = l; records = []; permanents = map not_made l.classes; lists = [] }

abbrev pub no_value : {A : Type 0} → Result A FaultKind → Result (Unit {0}) FaultKind
no_value (Ok a) = Ok tt
no_value (Err e) = Err e

-- whether a number is an entity of a class, and whether it is a notice
abbrev pub known_in : State → ℕ → ℤ → Result (Unit {0}) FaultKind
known_in s c x = no_value (entity_in s c x)

abbrev pub known_notice_in : State → ℤ → Result (Unit {0}) FaultKind
known_notice_in s x = no_value (notice s x)

-- how many entities with a creation number are living
abbrev pub living_numbers : List (Option Record) → ℕ
living_numbers [] = 0
living_numbers (None ∷ rs) = living_numbers rs
living_numbers (Some r ∷ rs) = suc (living_numbers rs)

abbrev pub made_entities : List (Option (List Record)) → ℕ
made_entities [] = 0
made_entities (None ∷ ps) = made_entities ps
made_entities (Some rs ∷ ps) = length rs + made_entities ps

-- how many entities there are
abbrev pub living_records : State → ℕ
living_records s = living_numbers s.records + made_entities s.permanents
