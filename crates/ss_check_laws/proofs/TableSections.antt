-- The routines and EVENT sections that a program declares are its sections.
use Rattle.std.proofs.Common.{◌≡◌, ℕ, ◌+◌, List, [], ◌∷◌, ◌++◌, length, map, refl, ap, ◌∙◌, append-nil, flat_map}
use Rattle.std.specs.List.{AllByRecursion as Every}
use Rattle.std.proofs.lemmas.List.Concat.{flat_map-append}
use Rattle.ss_check_laws.proofs.Common.{Declaration, declarations, Declared, event_by, flat_map_from, given_by, Line, routine_by}
use Rattle.ss_tree.specs.Tree as tree
use Rattle.ss_names_declarations.specs.Declarations as said
use Rattle.ss_names_declarations.specs.declared.declaration.Declared.TheVariants as d
use Rattle.ss_names_laws.proofs.Sources.{IsMadeIf, preamble_made}

-- ---- sections

-- what the head of a section declares
abbrev pub head_of : ℕ → tree.SectionKindTree → Declared
head_of n tree.main = d.Main
head_of n (tree.routine name given yielding) = d.Routine name n (length given) (length yielding)
head_of n (tree.event name given saving) = d.Event name n (length given) saving

-- what a program gives that gives nothing but of sections
module _ {B : Type 0} (f : Declared → List B) (p : tree.ProgramTree) (quiet : (x : Declared) → IsMadeIf ⊥ p x → f x ≡ []) where
  abbrev of_declaration : Declaration → List B
  of_declaration x = f x.what

  none_mapped : {X : Type 0} (g : X → Declaration) → ((x : X) → f (g x).what ≡ []) → (xs : List X) → given_by f (map g xs) ≡ []
  none_mapped g h [] = refl
  none_mapped g h (x ∷ xs) = λ i. h x i ++ none_mapped g h xs i

  none_given : (ds : List Declaration) → Every (λ (x : Declaration). IsMadeIf ⊥ p x.what) ds → given_by f ds ≡ []
  none_given [] h = refl
  none_given (x ∷ ds) h = λ i. quiet x.what h.0 i ++ none_given ds h.1 i

  head_given : (line : Line) (n : ℕ) (k : tree.SectionKindTree) → given_by f (said.in_section_head line n k) ≡ f (head_of n k)
  head_given line n tree.main = append-nil (f d.Main)
  head_given line n (tree.routine name given yielding) =
      let of = said.parameter_declaration line n in
      ap (λ l. f (head_of n (tree.routine name given yielding)) ++ l)
      (flat_map-append of_declaration (map of given) (map of yielding) ∙ (λ i. none_mapped of (λ x. quiet (d.Parameter x n) tt) given i ++ none_mapped of (λ x. quiet (d.Parameter x n) tt) yielding i))
      ∙ append-nil (f (head_of n (tree.routine name given yielding)))
  head_given line n (tree.event name given saving) =
      ap (λ l. f (head_of n (tree.event name given saving)) ++ l) (none_mapped (said.parameter_declaration line n) (λ x. quiet (d.Parameter x n) tt) given)
      ∙ append-nil (f (head_of n (tree.event name given saving)))

  definitions_given : (n : ℕ) (ds : List tree.DefinitionTree) → given_by f (flat_map (said.in_definition n) ds) ≡ []
  definitions_given n [] = refl
  definitions_given n (x ∷ ds) =
      flat_map-append of_declaration (said.in_definition n x) (flat_map (said.in_definition n) ds)
      ∙ (λ i. none_mapped (said.local_declaration x.line n x.mode) (λ name. quiet (d.Local name n x.mode) tt) x.names i ++ definitions_given n ds i)

  section_given : (n : ℕ) (s : tree.SectionTree) → given_by f (said.in_section n s) ≡ f (head_of n s.kind)
  section_given n s =
      flat_map-append of_declaration (said.in_section_head s.line n s.kind) (flat_map (said.in_definition n) s.definitions)
      ∙ (λ i. head_given s.line n s.kind i ++ definitions_given n s.definitions i)
      ∙ append-nil (f (head_of n s.kind))

  sections_given : (n : ℕ) (ss : List tree.SectionTree) → given_by f (flat_map_from said.in_section n ss) ≡ flat_map_from (λ m s. f (head_of m s.kind)) n ss
  sections_given n [] = refl
  sections_given n (s ∷ ss) =
      flat_map-append of_declaration (said.in_section n s) (flat_map_from said.in_section (n + 1) ss) ∙ (λ i. section_given n s i ++ sections_given (n + 1) ss i)

  pub of_sections : given_by f (declarations p) ≡ flat_map_from (λ m s. f (head_of m s.kind)) 0 p.sections
  of_sections =
      let before = flat_map_from said.in_preamble_statement 0 p.preamble in
      flat_map-append of_declaration before (flat_map_from said.in_section 0 p.sections) ∙ (λ i. none_given before (preamble_made ⊥ p) i ++ sections_given 0 p.sections i)

pub routines_quiet : (p : tree.ProgramTree) (x : Declared) → IsMadeIf ⊥ p x → routine_by x ≡ []
routines_quiet p (d.Routine name section given yielding) h = absurd h.0
routines_quiet p _ h = refl

pub events_quiet : (p : tree.ProgramTree) (x : Declared) → IsMadeIf ⊥ p x → event_by x ≡ []
events_quiet p (d.Event name section given saving) h = absurd h.0
events_quiet p _ h = refl
