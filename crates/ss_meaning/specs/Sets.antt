-- Sets: looking at them, filing and removing, and going over their members. An owner is an entity, or none where the system owns the set.
use Rattle.std.specs.Prelude.{ℕ, zero, nat_lt, Bool, true, false, not, length, ℤ, pos, Option, Some, None, is_some, Result, Ok, Err, slice_get, if◌then◌else◌}
use Rattle.std.specs.List.{list_all}
use Rattle.ss_base.specs.declared.fault.FaultKind.{FaultKind}
use Rattle.ss_base.specs.declared.fault.FaultKind.TheVariants.{NotFiled, LoopMemberGone}
use Rattle.ss_base.specs.declared.value.Value.{Value}
use Rattle.ss_base.specs.declared.value.Value.TheVariants.{Whole}
use Rattle.ss_base.specs.declared.layout.RankKey.{RankKey}
use Rattle.ss_base.specs.declared.layout.Discipline.{Discipline}
use Rattle.ss_base.specs.declared.layout.Discipline.TheVariants.{Ranked}
use Rattle.ss_base.specs.declared.layout.Owner.{Owner}
use Rattle.ss_base.specs.declared.layout.Owner.TheVariants.{System, Class}
use Rattle.ss_base.specs.declared.layout.SetLayout.{SetLayout}
use Rattle.ss_base.specs.declared.layout.Layout.{Layout}
use Rattle.ss_world.specs.State.{State, modes_of}
use Rattle.ss_world.specs.Sets.{member_class, joiner, owner, first_in, last_in, count_in, next_in, previous_in, owner_of_member, filed_first, filed_last, filed_before, filed_after, removed}
use Rattle.ss_world.specs.Disciplines.{first_removed, last_removed, member_test, filed}
use Rattle.ss_program.specs.declared.expression.SetQuery.{SetQuery}
use Rattle.ss_program.specs.declared.expression.SetQuery.TheVariants.{FirstMember, LastMember, MemberCount}
use Rattle.ss_program.specs.declared.expression.MemberQuery.{MemberQuery}
use Rattle.ss_program.specs.declared.expression.MemberQuery.TheVariants.{Predecessor, Successor, Membership}
use Rattle.ss_program.specs.declared.sections.Subject.TheVariants.{OfCount}
use Rattle.ss_base.specs.declared.words.End.{End}
use Rattle.ss_base.specs.declared.words.End.TheVariants as ends
use Rattle.ss_meaning.specs.Values.{Failure, Fails, TypeError, if_ok, turned, due, sure, where_fit, unless_fault, number_of}
use Rattle.ss_meaning.specs.Store.{Store, with_heap}
use Rattle.ss_meaning.specs.Histories.{noted}

-- ## Members and owners

-- the set of a number
abbrev pub set_at : ℕ → Store → Option SetLayout
set_at set s = slice_get s.world.heap.layout.sets set

-- the number of an entity that may be a member of a set
abbrev pub member : (set : ℕ) → Value → Store → Result ℤ Failure
member set x s =
    if_ok (number_of x) (λ n. where_fit (is_some (set_at set s)) (turned (λ _. n) (due (joiner s.world.heap set n))))

-- the number of an owner, 0 for the system, by who owns a set
abbrev pub owner_as : Owner → Option Value → Result ℤ Failure
owner_as System None = Ok (pos 0)
owner_as (Class c) (Some x) = number_of x
owner_as _ _ = Err TypeError

abbrev pub owner_by_layout : Option SetLayout → Option Value → Result ℤ Failure
owner_by_layout None o = Err TypeError
owner_by_layout (Some t) o = owner_as t.owner o

abbrev pub owner_number : (set : ℕ) → Option Value → Store → Result ℤ Failure
owner_number set o s = owner_by_layout (set_at set s) o

-- the number of an owner that must be there: one that isn't is a fault
abbrev pub known_owner : (set : ℕ) → Option Value → Store → Result ℤ Failure
known_owner set o s = if_ok (owner_number set o s) (λ n. turned (λ _. n) (due (owner s.world.heap set n)))

-- ## Looking

abbrev pub set_answer : SetQuery → State → ℕ → ℤ → Result ℤ FaultKind
set_answer FirstMember h set o = first_in h set o
set_answer LastMember h set o = last_in h set o
set_answer MemberCount h set o = count_in h set o

-- F., L. and N. of the set of an owner
abbrev pub of_set : SetQuery → (set : ℕ) → Option Value → Store → Result Value Failure
of_set query set o s = if_ok (owner_number set o s) (λ n. turned Whole (due (set_answer query s.world.heap set n)))

abbrev pub is_one : Option ℤ → ℤ
is_one None = pos 0
is_one (Some o) = pos 1

-- P., S. and M. of a member
abbrev pub of_member : MemberQuery → (set : ℕ) → Value → Store → Result Value Failure
of_member Predecessor set x s = if_ok (member set x s) (λ n. turned Whole (due (previous_in s.world.heap set n)))
of_member Successor set x s = if_ok (member set x s) (λ n. turned Whole (due (next_in s.world.heap set n)))
of_member Membership set x s = if_ok (member set x s) (λ n. turned (λ o. Whole (is_one o)) (due (owner_of_member s.world.heap set n)))

-- whether a number is 0, which is no entity
abbrev pub is_none : ℤ → Bool
is_none (pos zero) = true
is_none _ = false

-- whether the set of an owner has no member
abbrev pub is_empty : (set : ℕ) → Option Value → Store → Result Bool Failure
is_empty set o s = if_ok (owner_number set o s) (λ n. turned is_none (due (count_in s.world.heap set n)))

-- whether x is in the set of an owner
abbrev pub is_in : (set : ℕ) → Value → Option Value → Store → Result Bool Failure
is_in set x o s = if_ok (member set x s) (λ n. if_ok (owner_number set o s) (λ m. due (member_test s.world.heap set m n)))

-- ## Filing and removing

-- the store with other entities, once N. of the set of an owner has changed, which its histories note
abbrev pub recounted : (set : ℕ) → (owner : ℤ) → Store → State → Result Store Failure
recounted set o s h = if_ok (due (count_in h set o)) (λ n. noted (OfCount set) o (Whole n) (with_heap s h))

abbrev pub is_field : Layout → ℕ → RankKey → Bool
is_field l class key = nat_lt key.field (length (modes_of l class))

-- whether the keys of a discipline are attributes of the members of a set
abbrev pub is_fit : Layout → ℕ → Discipline → Bool
is_fit l set (Ranked keys) = list_all (is_field l (member_class l set)) keys
is_fit l set _ = true

-- where a member is filed: by the discipline of the set, first, last, directly before a member, or directly after it
pub data Filing : Type 0 where
  ByRule : Filing
  Foremost : Filing
  Hindmost : Filing
  JustBefore : Value → Filing
  JustAfter : Value → Filing

-- the entities once x is filed in the set of o
abbrev pub filed_by : Filing → (set : ℕ) → (o x : ℤ) → Store → Result State Failure
filed_by ByRule set o x s =
    if_ok (sure (slice_get s.world.setting.disciplines set)) (λ d.
    where_fit (is_fit s.world.heap.layout set d) (due (filed s.world.heap d set o x)))
filed_by Foremost set o x s = due (filed_first s.world.heap set o x)
filed_by Hindmost set o x s = due (filed_last s.world.heap set o x)
filed_by (JustBefore y) set o x s = if_ok (member set y s) (λ k. due (filed_before s.world.heap set o x k))
filed_by (JustAfter y) set o x s = if_ok (member set y s) (λ k. due (filed_after s.world.heap set o x k))

-- the store once x is a member of the set of an owner
abbrev pub filed_in : Filing → (set : ℕ) → Value → Option Value → Store → Result Store Failure
filed_in filing set x o s =
    if_ok (member set x s) (λ n. if_ok (owner_number set o s) (λ m. if_ok (filed_by filing set m n s) (recounted set m s)))

-- the store once x is out of the set of an owner
abbrev pub removed_from : (set : ℕ) → Value → Option Value → Store → Result Store Failure
removed_from set x o s =
    if_ok (member set x s) (λ n. if_ok (owner_number set o s) (λ m. if_ok (due (removed s.world.heap set m n)) (recounted set m s)))

abbrev pub end_removed : End → State → ℕ → ℤ → Result (ℤ × State) FaultKind
end_removed ends.First h set o = first_removed h set o
end_removed ends.Last h set o = last_removed h set o

-- the member at an end of the set of an owner, and the store once it is out
abbrev pub removed_at : End → (set : ℕ) → Option Value → Store → Result (Value × Store) Failure
removed_at end set o s =
    if_ok (owner_number set o s) (λ m. if_ok (due (end_removed end s.world.heap set m)) (λ r.
    turned (λ t. (Whole r.0, t)) (recounted set m s r.1)))

-- ## Going over members: from the first on or, in reverse, from the last backwards

abbrev pub outset : Bool → State → ℕ → ℤ → Result ℤ FaultKind
outset false h set o = first_in h set o
outset true h set o = last_in h set o

abbrev pub beside : Bool → State → ℕ → ℤ → Result ℤ FaultKind
beside false h set x = next_in h set x
beside true h set x = previous_in h set x

-- the member that comes first, 0 where there is none
abbrev pub begun : (reverse : Bool) → (set : ℕ) → Option Value → Store → Result ℤ Failure
begun reverse set o s = if_ok (owner_number set o s) (λ m. due (outset reverse s.world.heap set m))

-- the member that comes after x, 0 where there is none
abbrev pub coming : (reverse : Bool) → (set : ℕ) → (x : ℤ) → Store → Result ℤ Failure
coming reverse set x s = where_fit (is_some (set_at set s)) (due (beside reverse s.world.heap set x))

abbrev pub from_or_after : (reverse after : Bool) → (set : ℕ) → (x : ℤ) → Store → Result ℤ Failure
from_or_after reverse false set x s = Ok x
from_or_after reverse true set x s = coming reverse set x s

-- the member that comes first from a member x on, or after it; where x is no member of the set there is the fault NOT FILED
abbrev pub begun_at : (reverse after : Bool) → (set : ℕ) → Value → Option Value → Store → Result ℤ Failure
begun_at reverse after set x o s =
    if_ok (is_in set x o s) (λ b. unless_fault (not b) NotFiled (if_ok (number_of x) (λ n. from_or_after reverse after set n s)))

abbrev pub or_gone : Result Bool Failure → Result Bool Failure
or_gone (Ok true) = Ok true
or_gone (Err TypeError) = Err TypeError
or_gone _ = Err (Fails LoopMemberGone)

-- whether a loop goes on with the member that was fixed before: not where there was none; one that is gone since is the fault LOOP MEMBER GONE
abbrev pub goes_on : (set : ℕ) → (x : ℤ) → Option Value → Store → Result Bool Failure
goes_on set x o s = if is_none x then Ok false else or_gone (is_in set (Whole x) o s)
