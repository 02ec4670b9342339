-- What an instruction does to the world: it changes what is seen, and notes what has changed.
use Rattle.std.specs.Prelude.{◌≡◌, ℕ, ◌+◌, Bool, true, false, List, length, ℤ, Option, Some, None, Result, Ok, Err, slice_get}
use Rattle.ss_base.specs.declared.fault.FaultKind.{FaultKind}
use Rattle.ss_base.specs.declared.fault.Refused.{Refused}
use Rattle.ss_base.specs.declared.layout.Discipline.{Discipline}
use Rattle.ss_base.specs.declared.line.Line.{Line}
use Rattle.ss_base.specs.declared.value.Value.{Value}
use Rattle.ss_base.specs.declared.value.Value.TheVariants.{Whole}
use Rattle.ss_world.specs.Disciplines.{HasMemberKeys}
use Rattle.ss_world.specs.State.{State}
use Rattle.ss_world.specs.Sets.{owner_kind, next_in, previous_in, owner_of_member}
use Rattle.ss_program.specs.declared.expression.MemberQuery.{MemberQuery}
use Rattle.ss_program.specs.declared.expression.MemberQuery.TheVariants.{Predecessor, Successor, Membership}
use Rattle.ss_program.specs.declared.sections.Subject.{Subject}
use Rattle.ss_program.specs.declared.sections.Subject.TheVariants.{OfCount}
use Rattle.ss_base.specs.declared.words.End.{End}
use Rattle.ss_meaning.specs.Values.{Failure, Fails}
use Rattle.ss_meaning.specs.Store.{Store}
use Rattle.ss_meaning.specs.Sets.{Filing, is_fit, is_one, filed_in, removed_from, removed_at}
use Rattle.ss_code_instructions.specs.Facts.{watch}
use Rattle.ss_code_instructions.specs.States.{Core, Moved, did, onward}
use Rattle.ss_machine_frames.specs.Holding.{AreCellsAt}
use Rattle.ss_machine_world.specs.Numbers.{IsReferenceTo, count_noted}
use Rattle.ss_machine_world.specs.Seen.{Seen, IsRight, HasChanged, number_if, with_seen}
use Rattle.ss_machine_instructions.specs.declared.flow.Here.{Here}
use Rattle.ss_machine_instructions.specs.declared.state.State.{State as Machine}
use Rattle.ss_machine_instructions.specs.Ways.{on_at, refused_by}

-- ## What an operation does

-- it changes what is seen, or has a fault. After a fault what is seen is left open
abbrev pub IsSettled : (Store → Result Store Failure) → (old new : Seen) → Result (Unit {0}) FaultKind → Type 0
IsSettled f old new (Ok u) = (s : Store) → IsRight (f (with_seen s old)) → f (with_seen s old) ≡ Ok (with_seen s new)
IsSettled f old new (Err kind) = (s : Store) → IsRight (f (with_seen s old)) → f (with_seen s old) ≡ Err (Fails kind)

-- it gives a number as well
abbrev pub IsSettledGiving : (Store → Result (Value × Store) Failure) → (old new : Seen) → Result ℤ FaultKind → Type 0
IsSettledGiving f old new (Ok n) = (s : Store) → IsRight (f (with_seen s old)) → f (with_seen s old) ≡ Ok (Whole n, with_seen s new)
IsSettledGiving f old new (Err kind) = (s : Store) → IsRight (f (with_seen s old)) → f (with_seen s old) ≡ Err (Fails kind)

-- ## Notes

-- an operation is done where something is so, and else nothing
abbrev pub HasChangedIf : Bool → (Store → Result Store Failure) → (old new : Seen) → Result (Unit {0}) FaultKind → Type 0
HasChangedIf true f old new r = HasChanged f old new r
HasChangedIf false f old new r = (r ≡ Ok tt) × (new ≡ old)

-- where nothing is noted of a subject no statistic watches it
abbrev pub IsNotedRight : Bool → Subject → Seen → Type 0
IsNotedRight noted subject e = noted ≡ false → watch e.statistics subject ≡ false

-- ## Sets

-- a number is that of an owner of a set
abbrev pub IsOwner : Seen → (set : ℕ) → Option Value → (number : ℤ) → Type 0
IsOwner e set o n = IsReferenceTo (owner_kind e.heap.layout set) o n

-- a set has its discipline, whose keys are attributes of the members
pub record IsRuled (e : Seen) (set : ℕ) : Type 0 where
  pub discipline : Discipline
  pub there : slice_get e.disciplines set ≡ Some discipline
  pub fits : is_fit e.heap.layout set discipline ≡ true
  pub keys : HasMemberKeys e.heap.layout set discipline

-- a set has changed, or there was a fault; then N. of it is noted, where that is so
abbrev pub IsCounted : (set : ℕ) → (owner : ℤ) → (changed : Result (Unit {0}) FaultKind) → (noted : Bool) → (old new : Seen) → Result (Unit {0}) FaultKind → Type 0
IsCounted set o (Ok u) noted old new r = HasChangedIf noted (count_noted set o) old new r
IsCounted set o (Err kind) noted old new r = r ≡ Err kind

-- a set has changed or there was a fault, as in `IsCounted`, where a member was taken out, which is the answer
abbrev pub IsCountedOut : (set : ℕ) → (owner : ℤ) → (taken : Result ℤ FaultKind) → (noted : Bool) → (old new : Seen) → Result ℤ FaultKind → Type 0
IsCountedOut set o (Ok x) noted old new r = (q : Result (Unit {0}) FaultKind) × IsCounted set o (Ok tt) noted old new q × (r ≡ number_if x q)
IsCountedOut set o (Err kind) noted old new r = r ≡ Err kind

-- a member is filed in the set of an owner
abbrev pub HasFiled : Filing → (set : ℕ) → (noted : Bool) → (old new : Seen) → Result (Unit {0}) FaultKind → (owner member : ℤ) → Type 0
HasFiled at set noted old new r m x =
    (o : Option Value) → IsOwner old set o m → IsNotedRight noted (OfCount set) old → IsSettled (filed_in at set (Whole x) o) old new r

-- one is removed from it
abbrev pub HasRemoved : (set : ℕ) → (noted : Bool) → (old new : Seen) → Result (Unit {0}) FaultKind → (owner member : ℤ) → Type 0
HasRemoved set noted old new r m x =
    (o : Option Value) → IsOwner old set o m → IsNotedRight noted (OfCount set) old → IsSettled (removed_from set (Whole x) o) old new r

-- the first or the last is removed from it, and is the answer
abbrev pub HasTaken : End → (set : ℕ) → (noted : Bool) → (old new : Seen) → Result ℤ FaultKind → (owner : ℤ) → Type 0
HasTaken end set noted old new r m =
    (o : Option Value) → IsOwner old set o m → IsNotedRight noted (OfCount set) old → IsSettledGiving (removed_at end set o) old new r

-- 1 where there is an owner, and 0 where there is none, or a fault
abbrev pub one_of : Result (Option ℤ) FaultKind → Result ℤ FaultKind
one_of (Ok o) = Ok (is_one o)
one_of (Err kind) = Err kind

-- what is asked of a member, by its number
abbrev pub member_answer : MemberQuery → State → (set : ℕ) → (member : ℤ) → Result ℤ FaultKind
member_answer Predecessor h set n = previous_in h set n
member_answer Successor h set n = next_in h set n
member_answer Membership h set n = one_of (owner_of_member h set n)

-- ## Where it leads, where memory may be refused

abbrev pub unless_refused : Result (Unit {0}) Refused → Option (Unit {0})
unless_refused (Ok u) = Some u
unless_refused (Err refused) = None

abbrev pub refused_where : Result (Unit {0}) Refused → Machine → Machine
refused_where (Ok u) s = s
refused_where (Err refused) s = refused_by refused s

-- ## What is left of an instruction once an operation of the world is done

-- it goes on with the cells that are left, in the store that the operation leaves
pub record IsSettling (c : Core) (l : Line) (m : Moved) (here : Here) (s : Machine) (f : Store → Result Store Failure) : Type 0 where
  pub below : List Value
  pub acts : m ≡ did l (f c.store) (λ t. onward below c t)
  pub right : IsRight (f c.store)
  pub at : AreCellsAt s.rows (here.frame + length c.store.locals) below
