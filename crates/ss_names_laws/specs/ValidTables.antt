-- What a table without breaches says of its program.
use Rattle.std.specs.Prelude.{◌≡◌, ◌≢◌, ℕ, ◌+◌, ◌≤◌, true, List, [], ◌++◌, length, slice_get, get_or, take, Some, Contains}
use Rattle.std.specs.List.{AllByRecursion as Every}
use Rattle.std.specs.Map.{keys_of, values_of}
use Rattle.ss_base.specs.declared.layout.ClassKind.{ClassKind}
use Rattle.ss_base.specs.declared.layout.ClassKind.TheVariants.{Permanent}
use Rattle.ss_base.specs.declared.layout.Mode.{Mode}
use Rattle.ss_base.specs.declared.layout.Mode.TheVariants.{Integer}
use Rattle.ss_base.specs.declared.layout.SetLayout.{SetLayout}
use Rattle.ss_base.specs.Plain.{PlainClass}
use Rattle.ss_tree.specs.Names.{NameBytes}
use Rattle.ss_tree.specs.Tree.{SectionKindTree, main, routine, event}
use Rattle.ss_program.specs.declared.expression.Variable.TheVariants.{Global, Local}
use Rattle.ss_program.specs.declared.sections.Statistic.{Statistic}
use Rattle.ss_program.specs.declared.statement.CountedClass.{CountedClass}
use Rattle.ss_names_declarations.specs.NameTable.{place_in, value_for}
use Rattle.ss_names.specs.declared.entry.RoutineSection.{RoutineSection}
use Rattle.ss_names.specs.declared.entry.Set.{Set}
use Rattle.ss_names.specs.declared.meaning.Meaning.{Meaning}
use Rattle.ss_names.specs.declared.meaning.Meaning.TheVariants as m
use Rattle.ss_names.specs.Entries.{count_name}
use Rattle.ss_names.specs.Table.{Table, mode_of_attribute, subject_of}
use Rattle.ss_names_scopes.specs.Locals.{Moded}
use Rattle.ss_tables_rules.specs.Rules.{may_be_hidden}
use Rattle.ss_names_meaning.specs.Answers.{each}
use Rattle.ss_names_meaning.specs.Layouts.{ResolvedLayout, resolved_layout, set_layout}
use Rattle.ss_names_meaning.specs.Resolved.{local_modes}

-- ---- what a name means

-- a set of the table, with its layout
pub record IsSetAt (t : Table) (x : ResolvedLayout) (set : ℕ) : Type 0 where
  pub known : Set
  pub laid : SetLayout
  pub there : slice_get t.sets set ≡ Some known
  pub is_laid : set_layout known ≡ Some laid
  pub laid_there : slice_get x.layout.sets set ≡ Some laid

-- a class of this kind
abbrev pub IsClassAt : ResolvedLayout → ℕ → ClassKind → Type 0
IsClassAt x class kind = (c : PlainClass) × (slice_get x.layout.classes class ≡ Some c) × (c.kind ≡ kind)

-- a global variable of this mode, which isn't N. of a permanent class
abbrev pub IsPlainAt : ResolvedLayout → ℕ → Mode → Type 0
IsPlainAt x k mode = (slice_get x.globals k ≡ Some mode) × Every (λ (c : CountedClass). c.variable ≢ k) x.counts

-- a statistic, by the name of its subject
abbrev pub IsStatisticAt : Table → ℕ → Type 0
IsStatisticAt t k = (name : NameBytes) × (place_in t.histories name ≡ Some k)

-- what a name means in the whole program is there, and of its mode and kind
abbrev pub IsMeant : Table → ResolvedLayout → Meaning → Type 0
IsMeant t x (m.Variable (Global k) mode) = IsPlainAt x k mode
IsMeant t x (m.Variable (Local k) mode) = ⊥
IsMeant t x (m.Class class kind variable) = IsClassAt x class kind × IsPlainAt x variable Integer
IsMeant t x (m.Count count) = Contains x.counts count × (slice_get x.globals count.variable ≡ Some Integer)
IsMeant t x (m.Attribute class field mode) = (c : PlainClass) × (slice_get x.layout.classes class ≡ Some c) × (slice_get c.fields field ≡ Some mode)
IsMeant t x (m.Set set) = IsSetAt t x set
IsMeant t x (m.OfSet query set) = IsSetAt t x set
IsMeant t x (m.OfMember query set) = IsSetAt t x set
IsMeant t x (m.Statistic fold k) = IsStatisticAt t k
IsMeant t x (m.Routine k) = (known : RoutineSection) × (slice_get (values_of t.routines) k ≡ Some known)
IsMeant t x m.Clock = ⊥
IsMeant t x m.NoticeTime = ⊥

-- ---- a table

-- the class of this number has a name, which means it, and the attributes that its layout has
pub record IsNamedClass (t : Table) (class : ℕ) (c : PlainClass) : Type 0 where
  pub name : NameBytes
  pub variable : ℕ
  pub there : slice_get (keys_of t.classes) class ≡ Some name
  pub meant : value_for t.meanings name ≡ Some (m.Class class c.kind variable)
  pub fields : each (mode_of_attribute t) (get_or t.fields class []) ≡ Some c.fields

-- a subject of TALLY or ACCUMULATE, with its statistic
pub record IsWatched (t : Table) (x : ResolvedLayout) (name : NameBytes) : Type 0 where
  pub number : ℕ
  pub statistic : Statistic
  pub there : place_in t.histories name ≡ Some number
  pub laid : slice_get x.statistics number ≡ Some statistic
  pub known : slice_get t.subjects number ≡ Some (Some statistic.subject)
  pub meant : subject_of (value_for t.meanings name) ≡ Some statistic.subject

-- the table has this layout, and each name means something in it
pub record IsValidTable (t : Table) (x : ResolvedLayout) : Type 0 where
  pub laid : resolved_layout t ≡ Some x
  pub meanings : (name : NameBytes) (meaning : Meaning) → value_for t.meanings name ≡ Some meaning → IsMeant t x meaning
  pub classes : (class : ℕ) (c : PlainClass) → slice_get x.layout.classes class ≡ Some c → IsNamedClass t class c
  pub numbered : (name : NameBytes) (class : ℕ) (kind : ClassKind) (variable : ℕ) → value_for t.meanings name ≡ Some (m.Class class kind variable) → place_in t.classes name ≡ Some class
  pub counts : (name : NameBytes) (class variable : ℕ) → value_for t.meanings name ≡ Some (m.Class class Permanent variable) → (count : CountedClass) × (value_for t.meanings (count_name name) ≡ Some (m.Count count))
  pub routines : (name : NameBytes) (k : ℕ) → value_for t.meanings name ≡ Some (m.Routine k) → (known : RoutineSection) × (slice_get (values_of t.routines) k ≡ Some known) × (value_for t.routines name ≡ Some known)
  pub watched : (name : NameBytes) (number : ℕ) → place_in t.histories name ≡ Some number → IsWatched t x name

-- ---- sections

abbrev pub parameters_of : SectionKindTree → List NameBytes
parameters_of main = []
parameters_of (routine name given yielding) = given ++ yielding
parameters_of (event name given saving) = given

-- the local variables of a section: each has a mode, none hides what may not be hidden, and the parameters come first
pub record IsValidSection (t : Table) (kind : SectionKindTree) (locals : Moded) : Type 0 where
  pub modes : List Mode
  pub moded : local_modes locals ≡ Some modes
  pub hides : (name : NameBytes) (number : ℕ) → place_in locals name ≡ Some number → may_be_hidden (value_for t.meanings name) ≡ true
  pub parameters : take (length (parameters_of kind)) (keys_of locals) ≡ parameters_of kind

-- each routine has a section, with a local variable for each parameter at least
abbrev pub HasRoutines : Table → List Moded → Type 0
HasRoutines t all = (k : ℕ) (known : RoutineSection) → slice_get (values_of t.routines) k ≡ Some known → (locals : Moded) × (slice_get all known.section ≡ Some locals) × (known.given + known.yielding ≤ length locals)
