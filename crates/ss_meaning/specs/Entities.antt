-- Entities: references, attributes, how many of a class there are, creating and destroying.
use Rattle.std.specs.Prelude.{ℕ, Bool, true, false, not, length, ℤ, Option, Some, None, is_some, Result, slice_get}
use Rattle.ss_base.specs.declared.fault.FaultKind.TheVariants.{Scheduled}
use Rattle.ss_base.specs.declared.value.Value.{Value}
use Rattle.ss_base.specs.declared.value.Value.TheVariants.{Whole}
use Rattle.ss_base.specs.declared.layout.Mode.{Mode}
use Rattle.ss_base.specs.declared.layout.ClassKind.{ClassKind}
use Rattle.ss_base.specs.declared.layout.ClassKind.TheVariants.{Permanent}
use Rattle.ss_base.specs.declared.layout.ClassLayout.{ClassLayout}
use Rattle.ss_base.specs.declared.layout.Owner.TheVariants.{Class}
use Rattle.ss_world.specs.State.{State, modes_of, known_in, value_in, time_in, created, created_all, records_in, destroyed}
use Rattle.ss_world.specs.PendingList.{is_pending}
use Rattle.ss_program.specs.declared.expression.Variable.TheVariants.{Global}
use Rattle.ss_program.specs.declared.statement.CountedClass.{CountedClass}
use Rattle.ss_meaning.specs.Values.{Failure, if_ok, turned, due, sure, where_fit, unless_fault, number_of}
use Rattle.ss_meaning.specs.Store.{Store, with_heap, fetched}
use Rattle.ss_meaning.specs.Histories.{started, all_started, ended}

-- ## References

-- the class of a number
abbrev pub class_at : ℕ → Store → Option ClassLayout
class_at class s = slice_get s.world.heap.layout.classes class

-- the mode of an attribute
abbrev pub field_at : (class field : ℕ) → Store → Option Mode
field_at class field s = slice_get (modes_of s.world.heap.layout class) field

-- the number of an entity of a class that a value refers to: an index in range; or a number that was created, is not destroyed, and is of the class
abbrev pub entity : (class : ℕ) → Value → Store → Result ℤ Failure
entity class x s =
    if_ok (number_of x) (λ n. where_fit (is_some (class_at class s)) (turned (λ _. n) (due (known_in s.world.heap class n))))

-- the value of an attribute
abbrev pub attribute : (class field : ℕ) → Value → Store → Result Value Failure
attribute class field x s =
    if_ok (entity class x s) (λ n. where_fit (is_some (field_at class field s)) (due (value_in s.world.heap class field n)))

-- TIME.A of a notice
abbrev pub time_of : Value → Store → Result Value Failure
time_of x s = if_ok (number_of x) (λ n. turned Whole (due (time_in s.world.heap n)))

-- ## Classes

-- whether the entities of a class come and go one by one
abbrev pub comes_singly : ClassKind → Bool
comes_singly Permanent = false
comes_singly _ = true

abbrev pub is_single : Option ClassLayout → Bool
is_single None = false
is_single (Some c) = comes_singly c.kind

-- whether they are made all together
abbrev pub is_permanent : Option ClassLayout → Bool
is_permanent None = false
is_permanent (Some c) = not (comes_singly c.kind)

-- how many entities a permanent class has
abbrev pub made_count : (class : ℕ) → Store → ℕ
made_count class s = length (records_in (slice_get s.world.heap.permanents class))

-- ## Creating

-- an entity's number, and the store with it
abbrev pub with_new : ℕ → Store → ℤ × State → Value × Store
with_new class s b = (Whole b.0, started (Class class) b.0 (with_heap s b.1))

abbrev pub made_one : (class : ℕ) → Store → Result (Value × Store) Failure
made_one class s = where_fit (is_single (class_at class s)) (turned (with_new class s) (due (created s.world.heap class)))

-- the store with all entities of a permanent class, as many as N. of the class says
abbrev pub with_all : ℕ → Store → State → Store
with_all class s h = let t : Store = with_heap s h in all_started class (made_count class t) t

abbrev pub made_all : CountedClass → Store → Result Store Failure
made_all c s =
    if_ok (sure (fetched (Global c.variable) s)) (λ v. if_ok (number_of v) (λ n.
    where_fit (is_permanent (class_at c.class s)) (turned (with_all c.class s) (due (created_all s.world.heap c.class n)))))

-- ## Destroying

-- the store without an entity, whose histories end
abbrev pub with_none : (class : ℕ) → (entity : ℤ) → Store → State → Store
with_none class x s h = ended class x (with_heap s h)

-- the store once an entity was destroyed: one that is in a set or owns members may not go
abbrev pub gone : (class : ℕ) → Value → Store → Result Store Failure
gone class x s =
    if_ok (number_of x) (λ n. where_fit (is_single (class_at class s)) (turned (with_none class n s) (due (destroyed s.world.heap class n))))

-- the store once DESTROY was done: nor may a notice go that is pending
abbrev pub without : (class : ℕ) → Value → Store → Result Store Failure
without class x s =
    if_ok (entity class x s) (λ n. unless_fault (is_pending n s.world.pending.entries) Scheduled (gone class x s))
