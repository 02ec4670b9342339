-- What the sections of a program that breaks no rule resolve to, and its routines.
use Rattle.std.proofs.Common.{◌≡◌, ℕ, ◌+◌, ◌≤◌, Bool, List, [], ◌++◌, length, map, take, drop, slice_get, option_map, flat_map, Option, Some, None, refl, sym, ap, subst, subst₂, ◌∙◌, take-append-drop, arith}
use Rattle.std.specs.List.{AllByRecursion as Every}
use Rattle.ss_check_laws.proofs.Common.{AreValid, at_place, Block, BodiesResolve, Done, each_at, each_empty, each_made, Event, from_places, goes, in_parts, is_main, IsLinked, local_mode, locals_of, Mode, Moded, numbers_length, Program, ResolvedLayout, Routine, RoutineSection, same_Some, scope_of, slice_get-map, Table, table, Use, values_of}
use Rattle.ss_check_rules.specs.Refusal.{use_breaks, breaches, in_preamble, in_program, breaches_in_section}
use Rattle.ss_names_meaning.specs.Answers.{each, ◌>>=◌}
use Rattle.ss_names_meaning.specs.Resolved.{local_modes, Parts, parts_with_locals, routine_from, routine_of}
use Rattle.ss_program.specs.WellTyped.{IsTypedBlock, TypedScope as Place, IsTypedRoutine}
use Rattle.ss_tree.specs.Tree as tree
use Rattle.ss_names_uses.specs.Uses as uses
use Rattle.ss_names_laws.specs.Laws.{HasLayout, IsWellLaid}
use Rattle.ss_names_laws.specs.ValidTables.{HasRoutines, IsValidSection, IsValidTable}
use Rattle.ss_names_laws.proofs.Each.{each_none}
use Rattle.ss_names_laws.proofs.Items.{both_empty}
use Rattle.ss_names_laws.proofs.Routines.{section_of_routine}
use Rattle.ss_names_laws.proofs.Steps.{mapped}

-- what is known of a program that breaks no rule
pub record IsUnbroken (p : tree.ProgramTree) (x : ResolvedLayout) : Type 0 where
  pub valid : IsValidTable (table p) x
  pub kept : breaches (table p) p ≡ []
  pub sections : Every (λ (s : tree.SectionTree). IsValidSection (table p) s.kind (locals_of (table p) s)) p.sections
  pub routines : HasRoutines (table p) (map (locals_of (table p)) p.sections)
  pub typed : (r : Program) → HasLayout x r → IsWellLaid p r
  pub bodies : BodiesResolve

-- ---- steps

-- a section without statements
abbrev bare : tree.SectionTree → List Mode → Parts
bare s modes = record { line = s.line; modes = modes; body = Done }

all_locals : (given yielding : ℕ) (modes : List Mode) → take given modes ++ (take yielding (drop given modes) ++ drop yielding (drop given modes)) ≡ modes
all_locals given yielding modes = ap (λ l. take given modes ++ l) (take-append-drop yielding (drop given modes)) ∙ take-append-drop given modes

module _ (p : tree.ProgramTree) (x : ResolvedLayout) (k : IsUnbroken p x) where
  abbrev pub t : Table
  t = table p

  abbrev pub all : List Moded
  all = map (locals_of t) p.sections

  -- ---- what breaks no rule

  after_preamble : (flat_map (in_preamble t) p.preamble ≡ []) × (in_program p.sections ++ flat_map (breaches_in_section t p.sections) p.sections ≡ [])
  after_preamble = both_empty (flat_map (in_preamble t) p.preamble) (in_program p.sections ++ flat_map (breaches_in_section t p.sections) p.sections) k.kept

  pub preamble_kept : Every (λ s. in_preamble t s ≡ []) p.preamble
  preamble_kept = each_empty (in_preamble t) p.preamble after_preamble.0

  in_sections : (in_program p.sections ≡ []) × (flat_map (breaches_in_section t p.sections) p.sections ≡ [])
  in_sections = both_empty (in_program p.sections) (flat_map (breaches_in_section t p.sections) p.sections) after_preamble.1

  pub main_kept : in_program p.sections ≡ []
  main_kept = in_sections.0

  abbrev pub Keeps : tree.SectionTree → List Use → Type 0
  Keeps s = AreValid (scope_of t p.sections s) (is_main s.kind)

  section_kept : (n : ℕ) (s : tree.SectionTree) → slice_get p.sections n ≡ Some s → Keeps s (uses.uses s)
  section_kept n s e =
      let here = at_place (λ z. breaches_in_section t p.sections z ≡ []) p.sections n s (each_empty (breaches_in_section t p.sections) p.sections in_sections.1) e in
      each_none (use_breaks (scope_of t p.sections s) (is_main s.kind)) (uses.uses s) here

  -- the head of a section, and its statements
  pub uses_kept : (n : ℕ) (s : tree.SectionTree) → slice_get p.sections n ≡ Some s → Keeps s (uses.in_kind s.line s.kind) × Keeps s (uses.in_body s.body)
  uses_kept n s e =
      let holds = λ (u : Use). use_breaks (scope_of t p.sections s) (is_main s.kind) u ≡ None in
      let head = uses.in_kind s.line s.kind in
      let definitions = flat_map uses.in_local_definition s.definitions in
      let parts = in_parts holds (head ++ definitions) (uses.in_body s.body) (section_kept n s e) in
      ((in_parts holds head definitions parts.0).0, parts.1)

  pub section_valid : (n : ℕ) (s : tree.SectionTree) → slice_get p.sections n ≡ Some s → IsValidSection t s.kind (locals_of t s)
  section_valid n s e = at_place (λ (z : tree.SectionTree). IsValidSection t z.kind (locals_of t z)) p.sections n s k.sections e

  -- ---- routines, by a function that resolves each section

  -- each section has a resolved form, with the modes of its local variables
  abbrev pub HasModes : (ℕ → Option Parts) → Type 0
  HasModes section = (n : ℕ) (s : tree.SectionTree) → slice_get p.sections n ≡ Some s → (parts : Parts) × (section n ≡ Some parts) × (local_modes (locals_of t s) ≡ Some parts.modes)

  -- the resolved section of a routine
  record HasRoutine (section : ℕ → Option Parts) (known : RoutineSection) : Type 0 where
    locals : Moded
    parts : Parts
    there : slice_get all known.section ≡ Some locals
    resolved : section known.section ≡ Some parts
    modes : local_modes locals ≡ Some parts.modes
    enough : known.given + known.yielding ≤ length parts.modes

  has_routine : (section : ℕ → Option Parts) → HasModes section → (i : ℕ) (known : RoutineSection) → slice_get (values_of t.routines) i ≡ Some known → HasRoutine section known
  has_routine section m i known e =
      let r = k.routines i known e in
      let s = mapped (locals_of t) (slice_get p.sections known.section) r.0 (sym (slice_get-map (locals_of t) p.sections known.section) ∙ r.1) in
      let parts = m known.section s.0 s.1 in
      let modes : local_modes r.0 ≡ Some parts.0.modes = subst (λ l. local_modes l ≡ Some parts.0.modes) s.2 parts.2 in
      let count = numbers_length (local_mode r.0) (length r.0) parts.0.modes modes in
      let enough = r.2 in
      record { locals = r.0; parts = parts.0; there = r.1; resolved = parts.1; modes = modes; enough = omega arith }

  -- the routine with this section
  abbrev made : RoutineSection → Parts → Routine
  made known parts = routine_of known.given known.yielding parts

  is_made : (section : ℕ → Option Parts) (known : RoutineSection) (parts : Parts) → section known.section ≡ Some parts → routine_from section known ≡ Some (made known parts)
  is_made section known parts e = ap (λ (o : Option Parts). o >>= λ found. Some (made known found)) e

  routines_made : (section : ℕ → Option Parts) (m : HasModes section) (Q : Routine → Type 0) →
      ((i : ℕ) (known : RoutineSection) (e : slice_get (values_of t.routines) i ≡ Some known) → Q (made known (has_routine section m i known e).parts)) →
      (rs : List Routine) × (each (routine_from section) (values_of t.routines) ≡ Some rs) × Every Q rs
  routines_made section m Q h =
      each_made (routine_from section) Q (values_of t.routines) (from_places (λ known. (r : Routine) × (routine_from section known ≡ Some r) × Q r) (values_of t.routines) (λ i known e.
      let r = has_routine section m i known e in (made known r.parts, is_made section known r.parts r.resolved, h i known e)))

  -- a program with the layout and these routines
  pub record IsBuilt (section : ℕ → Option Parts) (q : Program) : Type 0 where
    pub layout : HasLayout x q
    pub routines : each (routine_from section) (values_of t.routines) ≡ Some q.routines

  linked : (section : ℕ → Option Parts) → HasModes section → (q : Program) → IsBuilt section q → (s : tree.SectionTree) (v : IsValidSection t s.kind (locals_of t s)) (in_main : Bool) →
      IsLinked (scope_of t p.sections s) (record { program = q; locals = v.modes; is_main = in_main })
  linked section m q b s v in_main = record {
    laid = x;
    table = k.valid;
    layout = b.layout.layout;
    globals = b.layout.globals;
    counts = b.layout.counts;
    statistics = b.layout.statistics;
    moded = v.moded;
    hides = v.hides;
    routines = λ i known e.
        let r = has_routine section m i known e in
        let at = each_at (routine_from section) (values_of t.routines) q.routines i known b.routines e in
        record {
          routine = made known r.parts;
          locals = r.locals;
          modes = r.parts.modes;
          there = at.1 ∙ sym at.2 ∙ is_made section known r.parts r.resolved;
          section = r.there;
          moded = r.modes;
          given = refl;
          yielding = refl;
          enough = r.enough;
        };
  }

  -- ---- the statements of a section

  -- they resolve, and are well typed in a program
  record HasPart (q : Program) (n : ℕ) (s : tree.SectionTree) : Type 0 where
    parts : Parts
    resolved : parts_with_locals t all p.sections n ≡ Some parts
    modes : local_modes (locals_of t s) ≡ Some parts.modes
    body : IsTypedBlock (record { program = q; locals = parts.modes; is_main = is_main s.kind }) parts.body

  part_there : (section : ℕ → Option Parts) → HasModes section → (q : Program) → IsBuilt section q → (n : ℕ) (s : tree.SectionTree) → slice_get p.sections n ≡ Some s → HasPart q n s
  part_there section m q b n s e =
      let v = section_valid n s e in
      let place : Place = record { program = q; locals = v.modes; is_main = is_main s.kind } in
      let done = k.bodies (scope_of t p.sections s) place (linked section m q b s v (is_main s.kind)) s.body (uses_kept n s e).1 in
      let parts : Parts = record { line = s.line; modes = v.modes; body = done.0 } in
      let there = slice_get-map (locals_of t) p.sections n ∙ ap (option_map (locals_of t)) e in
      record {
        parts = parts;
        resolved = goes _ _ s parts e (goes _ _ (locals_of t s) parts there (goes _ _ v.modes parts v.moded (goes _ _ done.0 parts done.1 refl)));
        modes = v.moded;
        body = done.2;
      }

  -- ---- a program without statements, by which those of all sections resolve

  abbrev sketch : ℕ → Option Parts
  sketch n = slice_get p.sections n >>= λ s. local_modes (locals_of t s) >>= λ modes. Some (bare s modes)

  sketch_modes : HasModes sketch
  sketch_modes n s e = let v = section_valid n s e in (bare s v.modes, goes _ _ s (bare s v.modes) e (goes _ _ v.modes (bare s v.modes) v.moded refl), v.moded)

  abbrev pub program_with : List Routine → List Event → List Mode → Block → Program
  program_with routines events locals main = record {
    layout = x.layout;
    disciplines = x.disciplines;
    globals = x.globals;
    counts = x.counts;
    statistics = x.statistics;
    routines = routines;
    events = events;
    locals = locals;
    main = main;
  }

  pub laid_with : (routines : List Routine) (events : List Event) (locals : List Mode) (main : Block) → HasLayout x (program_with routines events locals main)
  laid_with routines events locals main = record { layout = refl; disciplines = refl; globals = refl; counts = refl; statistics = refl }

  outline : (rs : List Routine) × (each (routine_from sketch) (values_of t.routines) ≡ Some rs) × Every (λ r. Unit {0}) rs
  outline = routines_made sketch sketch_modes (λ r. Unit {0}) (λ i known e. tt)

  outline_built : IsBuilt sketch (program_with outline.0 [] [] Done)
  outline_built = record { layout = laid_with outline.0 [] [] Done; routines = outline.1 }

  -- ---- sections

  abbrev pub section : ℕ → Option Parts
  section = parts_with_locals t all p.sections

  pub section_modes : HasModes section
  section_modes n s e =
      let part = part_there sketch sketch_modes (program_with outline.0 [] [] Done) outline_built n s e in
      (part.parts, part.resolved, part.modes)

  -- a program with the layout and the routines that these sections are
  abbrev pub IsWhole : Program → Type 0
  IsWhole q = IsBuilt section q

  -- the statements of a section are well typed in each such program
  pub body_good : (q : Program) → IsWhole q → (n : ℕ) (s : tree.SectionTree) (parts : Parts) → slice_get p.sections n ≡ Some s → section n ≡ Some parts → IsTypedBlock (record { program = q; locals = parts.modes; is_main = is_main s.kind }) parts.body
  body_good q b n s parts e f =
      let part = part_there section section_modes q b n s e in
      subst (λ (z : Parts). IsTypedBlock (record { program = q; locals = z.modes; is_main = is_main s.kind }) z.body) (same_Some part.parts parts (sym part.resolved ∙ f)) part.body

  -- ---- routines

  -- they are well typed in each such program
  pub routines_there : (rs : List Routine) × (each (routine_from section) (values_of t.routines) ≡ Some rs) × Every (λ r. (q : Program) → IsWhole q → IsTypedRoutine q r) rs
  routines_there = routines_made section section_modes (λ r. (q : Program) → IsWhole q → IsTypedRoutine q r) (λ i known e q b.
      let parts = (has_routine section section_modes i known e).parts in
      let s = section_of_routine p i known e in
      subst₂ (λ (locals : List Mode) (in_main : Bool). IsTypedBlock (record { program = q; locals = locals; is_main = in_main }) parts.body) (sym (all_locals known.given known.yielding parts.modes)) s.3
      (body_good q b known.section s.0 parts s.1 (has_routine section section_modes i known e).resolved))
