-- The table of a program that breaks no rule.
use Rattle.std.specs.Prelude.{◌≡◌, ℕ, List, map, slice_get, Some, None}
use Rattle.std.specs.List.{AllZip, AllByRecursion as Every}
use Rattle.std.specs.Map.{keys_of}
use Rattle.ss_base.specs.declared.layout.RankKey.{RankKey}
use Rattle.ss_base.specs.Plain.{PlainLayout}
use Rattle.ss_tree.specs.Names.{NameBytes}
use Rattle.ss_tree.specs.Tree.{SectionTree, ProgramTree}
use Rattle.ss_program.specs.Program.{Program}
use Rattle.ss_program.specs.WellTyped.{IsTypedCount, IsTypedDiscipline, AreTypedKeys, IsTypedSubject}
use Rattle.ss_names.specs.Table.{table}
use Rattle.ss_names_scopes.specs.Locals.{locals_of}
use Rattle.ss_tables_rules.specs.Broken.{refusal_of_declarations}
use Rattle.ss_check_rules.specs.Refusal.{refusal_of_uses}
use Rattle.ss_names_meaning.specs.Layouts.{ResolvedLayout, resolved_layout, layout, tie_keys}
use Rattle.ss_names_laws.specs.ValidTables.{IsValidTable, IsValidSection, HasRoutines}

-- a program that breaks no rule on declarations has classes and sets
abbrev pub LayoutsAreThere : Type 0
LayoutsAreThere = (p : ProgramTree) → refusal_of_declarations p ≡ None → (laid : PlainLayout) × (layout (table p) ≡ Some laid)

-- a program that breaks no rule has a layout with disciplines, counts and statistics
abbrev pub TablesAreThere : Type 0
TablesAreThere =
    (p : ProgramTree) → refusal_of_declarations p ≡ None → refusal_of_uses p ≡ None → (x : ResolvedLayout) × (resolved_layout (table p) ≡ Some x)

-- each name means something that is there
abbrev pub TablesAreValid : Type 0
TablesAreValid =
    (p : ProgramTree) (x : ResolvedLayout) → refusal_of_declarations p ≡ None → resolved_layout (table p) ≡ Some x → IsValidTable (table p) x

-- a program with this layout
pub record HasLayout (x : ResolvedLayout) (r : Program) : Type 0 where
  pub layout : r.layout ≡ x.layout
  pub disciplines : r.disciplines ≡ x.disciplines
  pub globals : r.globals ≡ x.globals
  pub counts : r.counts ≡ x.counts
  pub statistics : r.statistics ≡ x.statistics

-- the layout of a program that breaks no rule is well typed, and each class has keys for its ties
pub record IsWellLaid (p : ProgramTree) (r : Program) : Type 0 where
  pub disciplines : AllZip (IsTypedDiscipline r) r.layout.sets r.disciplines
  pub counts : Every (IsTypedCount r) r.counts
  pub statistics : Every (λ s. IsTypedSubject r s.subject) r.statistics
  pub ties : (class : ℕ) (name : NameBytes) → slice_get (keys_of (table p).classes) class ≡ Some name → (keys : List RankKey) × (tie_keys (table p) class name ≡ Some keys) × AreTypedKeys r class keys

abbrev pub LayoutsAreWellTyped : Type 0
LayoutsAreWellTyped =
    (p : ProgramTree) (x : ResolvedLayout) (r : Program) → refusal_of_declarations p ≡ None → refusal_of_uses p ≡ None →
    resolved_layout (table p) ≡ Some x → HasLayout x r → IsWellLaid p r

-- the local variables of the sections of a program that breaks no rule on declarations
abbrev pub SectionsAreValid : Type 0
SectionsAreValid =
    (p : ProgramTree) → refusal_of_declarations p ≡ None → Every (λ (s : SectionTree). IsValidSection (table p) s.kind (locals_of (table p) s)) p.sections

abbrev pub RoutinesAreThere : Type 0
RoutinesAreThere = (p : ProgramTree) → refusal_of_declarations p ≡ None → HasRoutines (table p) (map (locals_of (table p)) p.sections)
