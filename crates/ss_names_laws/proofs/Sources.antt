-- What makes a declaration: a statement of the preamble or a section, of which it may have the number.
use Rattle.std.proofs.Common.{◌≡◌, ℕ, ◌+◌, List, [], ◌∷◌, length, map, Some, None, refl, ap, ◌∙◌, false}
use Rattle.ss_names_laws.proofs.Common.{ClassKind, Declaration, Declared, given_by, length-append, Line, NameBytes, NamedKey, parameters_of, slice_get}
use Rattle.std.specs.List.{AllByRecursion as Every, flat_map}
use Rattle.ss_base.specs.declared.layout.ClassKind.TheVariants as kinds
use Rattle.ss_names_declarations.specs.Declarations.{at_line, declarations, flat_map_from, in_definition, in_preamble_statement, in_section, in_section_head, parameter_declaration, in_clause, in_set_order, local_declaration, rule_of}
use Rattle.ss_tree.specs.Tree.{event, main, PreambleTree, ProgramTree, routine, SectionKindTree, SectionTree, ClauseTree, has, owns, belongs_to, OrderTree, fifo, lifo, ranked, permanent_entities, temporary_entities, event_notices, every, normally, system_owns, define_variables, define_sets, priority_order, break_ties, statistics, DefinitionTree}
use Rattle.ss_tree.specs.declared.preamble.NamedStatistic.{NamedStatistic}
use Rattle.ss_names.specs.declared.entry.EventSection.{EventSection}
use Rattle.ss_names.specs.declared.entry.RoutineSection.{RoutineSection}
use Rattle.ss_names_scopes.specs.Scopes.{is_main}
use Rattle.ss_names_declarations.specs.declared.declaration.Declared.TheVariants as d
use Rattle.ss_names_laws.proofs.Each.{every_image, every_numbered, every_piece, joined}
use Rattle.ss_names_laws.proofs.Items.{Among, at_item}

-- the section of a routine, which isn't MAIN, with as many parameters
abbrev pub IsRoutineSection : ProgramTree → RoutineSection → Type 0
IsRoutineSection p known = (s : SectionTree) × (slice_get p.sections known.section ≡ Some s) × (length (parameters_of s.kind) ≡ known.given + known.yielding) × (is_main s.kind ≡ false)

-- the section of an event routine: its class, what it is given, and whether it saves its notice
abbrev pub IsEventSection : ProgramTree → NameBytes × EventSection → Type 0
IsEventSection p e =
    (s : SectionTree) × (given : List NameBytes) × (slice_get p.sections e.1.section ≡ Some s) × (s.kind ≡ event e.0 given e.1.saving) × (e.1.given ≡ length given)

-- a statement of the preamble declares a class, of this kind if it names one
abbrev pub DeclaresClass : NameBytes → ClassKind → PreambleTree → Type 0
DeclaresClass name kind (event_notices line names) = Among names name
DeclaresClass name kind (every line own class clauses) = (class ≡ name) × (own ≡ kind)
DeclaresClass name kind _ = ⊥

-- what makes a class, the order of a set, a key, a subject and a section, where this holds if sections are made
abbrev pub IsMadeIf : Type 0 → ProgramTree → Declared → Type 0
IsMadeIf S p (d.Class name kind) = (k : ℕ) × (s : PreambleTree) × (slice_get p.preamble k ≡ Some s) × DeclaresClass name kind s
IsMadeIf S p (d.Order set rule k) = (line : Line) × (sets : List NameBytes) × (order : OrderTree) × (slice_get p.preamble k ≡ Some (define_sets line sets order)) × Among sets set
IsMadeIf S p (d.RankKey name high k) = (line : Line) × (sets : List NameBytes) × (keys : List NamedKey) × (key : NamedKey) × (slice_get p.preamble k ≡ Some (define_sets line sets (ranked keys))) × Among keys key × (key.name ≡ name)
IsMadeIf S p (d.Subject name weighting) = (k : ℕ) × (line : Line) × (found : List NamedStatistic) × (slice_get p.preamble k ≡ Some (statistics line weighting found name))
IsMadeIf S p d.Main = S
IsMadeIf S p (d.Routine name k given yielding) = S × IsRoutineSection p (record { section = k; given = given; yielding = yielding })
IsMadeIf S p (d.Event name k given saving) = S × IsEventSection p (name, record { section = k; given = given; saving = saving })
IsMadeIf S p _ = Unit {0}

abbrev pub IsMade : ProgramTree → Declared → Type 0
IsMade p w = IsMadeIf (Unit {0}) p w

module _ (S : Type 0) (p : ProgramTree) where
  abbrev Said : Declaration → Type 0
  Said x = IsMadeIf S p x.what

  -- ---- statements of the preamble

  of_clause : (line : Line) (class : NameBytes) (c : ClauseTree) → Every Said (in_clause line class c)
  of_clause line class (has names) = every_image Said (λ (name : NameBytes). at_line line (d.Attribute name class)) names (λ name a. tt)
  of_clause line class (owns names) = every_image Said (λ (set : NameBytes). at_line line (d.Owner set (Some class))) names (λ name a. tt)
  of_clause line class (belongs_to names) = every_image Said (λ (set : NameBytes). at_line line (d.Member set class)) names (λ name a. tt)

  of_order : (k : ℕ) (line : Line) (sets : List NameBytes) (order : OrderTree) → slice_get p.preamble k ≡ Some (define_sets line sets order) → Every Said (in_set_order line k order)
  of_order k line sets fifo at = tt
  of_order k line sets lifo at = tt
  of_order k line sets (ranked keys) at = every_image Said (λ (key : NamedKey). at_line line (d.RankKey key.name key.high k)) keys (λ key a. (line, sets, keys, key, at, a, refl))

  of_statement : (k : ℕ) (s : PreambleTree) → slice_get p.preamble k ≡ Some s → Every Said (in_preamble_statement k s)
  of_statement k (permanent_entities line) at = tt
  of_statement k (temporary_entities line) at = tt
  of_statement k (event_notices line names) at = every_image Said (λ (name : NameBytes). at_line line (d.Class name kinds.Notice)) names (λ name a. (k, event_notices line names, at, a))
  of_statement k (every line kind class clauses) at = ((k, every line kind class clauses, at, (refl, refl)), every_piece Said (in_clause line class) clauses (λ c a. of_clause line class c))
  of_statement k (normally line mode) at = (tt, tt)
  of_statement k (system_owns line sets) at = every_image Said (λ (set : NameBytes). at_line line (d.Owner set None)) sets (λ set a. tt)
  of_statement k (define_variables line names mode) at = every_image Said (λ (name : NameBytes). at_line line (d.Variable name mode)) names (λ name a. tt)
  of_statement k (define_sets line sets order) at =
      joined Said (map (λ (set : NameBytes). at_line line (d.Order set (rule_of order) k)) sets) (in_set_order line k order)
      (every_image Said (λ (set : NameBytes). at_line line (d.Order set (rule_of order) k)) sets (λ set a. (line, sets, order, at, a))) (of_order k line sets order at)
  of_statement k (priority_order line classes) at = (tt, every_image Said (λ (class : NameBytes). at_line line (d.Priority class)) classes (λ class a. tt))
  of_statement k (break_ties line class keys) at = (tt, every_image Said (λ (key : NamedKey). at_line line (d.TieKey class key.name key.high)) keys (λ key a. tt))
  of_statement k (statistics line weighting found subject) at =
      joined Said (map (λ (s : NamedStatistic). at_line line (d.Statistic s.name s.kind subject)) found) (at_line line (d.Subject subject weighting) ∷ [])
      (every_image Said (λ (s : NamedStatistic). at_line line (d.Statistic s.name s.kind subject)) found (λ s a. tt)) ((k, line, found, at), tt)

  pub preamble_made : Every Said (flat_map_from in_preamble_statement 0 p.preamble)
  preamble_made = every_numbered in_preamble_statement Said p.preamble of_statement

module _ (p : ProgramTree) where
  abbrev pub Made : Declaration → Type 0
  Made x = IsMade p x.what

  -- ---- sections

  of_head : (k : ℕ) (s : SectionTree) (kind : SectionKindTree) → slice_get p.sections k ≡ Some s → s.kind ≡ kind → Every Made (in_section_head s.line k kind)
  of_head k s main at is = (tt, tt)
  of_head k s (routine name given yielding) at is = (
    (tt, (s, at, ap (λ (w : SectionKindTree). length (parameters_of w)) is ∙ length-append given yielding, ap is_main is)),
    joined Made (map (parameter_declaration s.line k) given) (map (parameter_declaration s.line k) yielding)
        (every_image Made (parameter_declaration s.line k) given (λ name a. tt)) (every_image Made (parameter_declaration s.line k) yielding (λ name a. tt)),
  )
  of_head k s (event name given saving) at is = ((tt, (s, given, at, is, refl)), every_image Made (parameter_declaration s.line k) given (λ name a. tt))

  of_section : (k : ℕ) (s : SectionTree) → slice_get p.sections k ≡ Some s → Every Made (in_section k s)
  of_section k s at =
      joined Made (in_section_head s.line k s.kind) (flat_map (in_definition k) s.definitions) (of_head k s s.kind at refl)
      (every_piece Made (in_definition k) s.definitions (λ (x : DefinitionTree) a. every_image Made (local_declaration x.line k x.mode) x.names (λ name b. tt)))

  pub all_made : Every Made (declarations p)
  all_made =
      joined Made (flat_map_from in_preamble_statement 0 p.preamble) (flat_map_from in_section 0 p.sections)
      (preamble_made (Unit {0}) p) (every_numbered in_section Made p.sections of_section)

  -- what all that is made gives
  pub every_made : {A : Type 0} (P : A → Type 0) (f : Declared → List A) → ((w : Declared) → IsMade p w → Every P (f w)) → Every P (given_by f (declarations p))
  every_made P f rule = every_piece P (λ (x : Declaration). f x.what) (declarations p) (λ x a. rule x.what (at_item Made (declarations p) x all_made a))
