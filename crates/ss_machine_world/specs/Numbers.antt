-- Operations of the meaning by the numbers of entities and owners, where 0 is the system.
use Rattle.std.specs.Prelude.{◌≡◌, ℕ, ◌<◌, Bool, length, ℤ, Option, Some, Result, Ok, Err, slice_get, if◌then◌else◌}
use Rattle.ss_base.specs.Plain.{PlainLayout}
use Rattle.ss_base.specs.declared.fault.FaultKind.{FaultKind}
use Rattle.ss_base.specs.declared.fault.FaultKind.TheVariants.{CreatedTwice, NotFiled, Overflow}
use Rattle.ss_base.specs.declared.layout.Mode.TheVariants.{Integer}
use Rattle.ss_base.specs.declared.layout.Owner.{Owner}
use Rattle.ss_base.specs.declared.value.Value.{Value}
use Rattle.ss_base.specs.declared.value.Value.TheVariants.{Whole}
use Rattle.ss_machine_time.specs.Figures.{subject_in, held_by}
use Rattle.ss_machine_time.specs.Unnoted.{Unnoted}
use Rattle.ss_machine_time.specs.Unnoted.TheVariants.{Full, TypeError}
use Rattle.ss_meaning.specs.Entities.{class_at, attribute, is_permanent, with_all}
use Rattle.ss_meaning.specs.Histories.{home, noted}
use Rattle.ss_meaning.specs.Sets.{owner_as, beside, recounted}
use Rattle.ss_meaning.specs.Store.{Store}
use Rattle.ss_meaning.specs.Values.{Failure, if_ok, turned, due, where_fit, unless_fault}
use Rattle.ss_program.specs.declared.sections.Subject.{Subject}
use Rattle.ss_program.specs.declared.sections.Subject.TheVariants.{OfVariable, OfAttribute, OfCount}
use Rattle.ss_world.specs.Disciplines.{member_test}
use Rattle.ss_world.specs.Sets.{owner, count_in}
use Rattle.ss_world.specs.State.{State, modes_of, and_then, no_value, known_in, value_in, is_made, created_all}
use Rattle.ss_machine_world.specs.Seen.{Seen}

-- ## References

-- what refers to an owner, or to nothing where that is the system, has this number
abbrev pub IsReferenceTo : Owner → Option Value → (number : ℤ) → Type 0
IsReferenceTo whose o n = owner_as whose o ≡ Ok n

-- and so has what refers to the entity of which a statistic is asked
abbrev pub IsReferenceToSubject : Seen → (statistic : ℕ) → Option Value → (number : ℤ) → Type 0
IsReferenceToSubject e j o n = (t : Subject) → subject_in e.statistics j ≡ Some t → IsReferenceTo (home e.heap.layout t) o n

-- ## Classes

-- what CREATE EVERY does once the number of entities is known
abbrev pub created_all_known : (class : ℕ) → (number : ℤ) → Store → Result Store Failure
created_all_known class n s = where_fit (is_permanent (class_at class s)) (turned (with_all class s) (due (created_all s.world.heap class n)))

-- N. of a permanent class may be assigned until its entities are made
abbrev pub count_open : (class : ℕ) → Store → Result (Unit {0}) Failure
count_open class s = where_fit (is_permanent (class_at class s)) (unless_fault (is_made s.world.heap class) CreatedTwice (Ok tt))

-- ## Walks

-- where a walk begins: with a member of the set of an owner, or with the one that comes after it
abbrev pub begun_from : (reverse after : Bool) → State → (set : ℕ) → (owner member : ℤ) → Result ℤ FaultKind
begun_from reverse after h set o x =
    and_then (member_test h set o x) (λ b. if b then (if after then beside reverse h set x else Ok x) else Err NotFiled)

-- ## Notes

-- histories note N. of the set of an owner as it is now
abbrev pub count_noted : (set : ℕ) → (owner : ℤ) → Store → Result Store Failure
count_noted set o s = recounted set o s s.world.heap

-- histories note an attribute of an entity as it is now
abbrev pub attribute_noted : (class field : ℕ) → (entity : ℤ) → Store → Result Store Failure
attribute_noted class field x s = if_ok (attribute class field (Whole x) s) (λ v. noted (OfAttribute class field) x v s)

-- the answer of noting a value. A history that there is not notes nothing
abbrev pub or_full : Result (Unit {0}) Unnoted → Result (Unit {0}) FaultKind
or_full (Ok u) = Ok u
or_full (Err Full) = Err Overflow
or_full (Err TypeError) = Ok tt

-- ## Subjects of statistics

-- a subject is a variable, an attribute of whole numbers that a layout has, or N. of a set that it has
abbrev pub IsSubject : PlainLayout → Subject → Type 0
IsSubject l (OfVariable k) = Unit {0}
IsSubject l (OfAttribute class field) = (class < length l.classes) × (slice_get (modes_of l class) field ≡ Some Integer)
IsSubject l (OfCount set) = set < length l.sets

-- so is that of a statistic, if there is one
abbrev pub HasValidSubject : Seen → (statistic : ℕ) → Type 0
HasValidSubject e j = (t : Subject) → subject_in e.statistics j ≡ Some t → IsSubject e.heap.layout t

-- a look at the entity that has a subject
abbrev pub looked_in : State → Subject → (entity : ℤ) → Result (Unit {0}) FaultKind
looked_in h (OfVariable k) x = Ok tt
looked_in h (OfAttribute class field) x = known_in h class x
looked_in h (OfCount set) x = no_value (owner h set x)

-- the value that a subject has, where a variable holds this number
abbrev pub present_in : State → Subject → (entity held : ℤ) → Result Value FaultKind
present_in h (OfVariable k) x held = Ok (Whole held)
present_in h (OfAttribute class field) x held = value_in h class field x
present_in h (OfCount set) x held = and_then (count_in h set x) (λ n. Ok (Whole n))

-- the global variable that a statistic is about holds this number, if it is about one
abbrev pub IsHeldBySubject : (statistic : ℕ) → (held : ℤ) → Store → Type 0
IsHeldBySubject j held s = (v : Value) → held_by j s ≡ Some v → v ≡ Whole held
