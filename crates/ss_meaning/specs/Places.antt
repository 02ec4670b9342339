-- The one write: what can be assigned a value, and what an assignment does.
use Rattle.std.specs.Prelude.{ℕ, Bool, false, pos, Option, Some, None, Result}
use Rattle.ss_base.specs.declared.fault.FaultKind.TheVariants.{CreatedTwice}
use Rattle.ss_base.specs.declared.value.Value.{Value}
use Rattle.ss_base.specs.declared.layout.Mode.{Mode}
use Rattle.ss_base.specs.Layout.{mode_of}
use Rattle.ss_world.specs.State.{assigned, is_made}
use Rattle.ss_program.specs.declared.expression.Variable.{Variable}
use Rattle.ss_program.specs.declared.expression.Variable.TheVariants.{Global, Local}
use Rattle.ss_program.specs.declared.sections.Subject.TheVariants.{OfVariable, OfAttribute}
use Rattle.ss_program.specs.declared.statement.CountedClass.{CountedClass}
use Rattle.ss_meaning.specs.Values.{Failure, same_mode, if_ok, due, sure, where_fit, unless_fault}
use Rattle.ss_meaning.specs.Store.{Store, with_heap, fetched, put}
use Rattle.ss_meaning.specs.Histories.{noted}
use Rattle.ss_meaning.specs.Entities.{class_at, field_at, entity, attribute, is_permanent}

-- a place whose reference was looked at: a variable, an attribute of an entity, or N. of a permanent class
pub data Spot : Type 0 where
  InVariable : Variable → Spot
  InAttribute : (class field : ℕ) (x : Value) → Spot
  InCount : CountedClass → Spot

-- what a place holds
abbrev pub held : Spot → Store → Result Value Failure
held (InVariable x) s = sure (fetched x s)
held (InAttribute class field x) s = attribute class field x s
held (InCount c) s = sure (fetched (Global c.variable) s)

-- a variable is assigned a value, which the histories of a global one note
abbrev pub assigned_variable : Variable → Value → Store → Result Store Failure
assigned_variable (Global k) v s = if_ok (put (Global k) v s) (noted (OfVariable k) (pos 0) v)
assigned_variable (Local k) v s = put (Local k) v s

abbrev pub is_of_mode : Value → Option Mode → Bool
is_of_mode v None = false
is_of_mode v (Some mode) = same_mode (mode_of v) mode

-- an attribute is assigned a value of its mode, which its histories note
abbrev pub assigned_attribute : (class field : ℕ) → (x v : Value) → Store → Result Store Failure
assigned_attribute class field x v s =
    if_ok (entity class x s) (λ n. where_fit (is_of_mode v (field_at class field s))
    (if_ok (due (assigned s.world.heap class field n v)) (λ h. noted (OfAttribute class field) n v (with_heap s h))))

-- N. of a permanent class is assigned a value, until its entities are made
abbrev pub assigned_count : CountedClass → Value → Store → Result Store Failure
assigned_count c v s =
    where_fit (is_permanent (class_at c.class s))
    (unless_fault (is_made s.world.heap c.class) CreatedTwice (assigned_variable (Global c.variable) v s))

-- the store once a value was written to a place
abbrev pub written : Spot → Value → Store → Result Store Failure
written (InVariable x) v s = assigned_variable x v s
written (InAttribute class field x) v s = assigned_attribute class field x v s
written (InCount c) v s = assigned_count c v s
