-- The local variables of a section: each has a mode, and none hides what may not be hidden.
use Rattle.std.proofs.Common.{◌≡◌, ℕ, Bool, true, false, List, [], ◌++◌, length, map, Option, Some, None, option_and_then, refl, sym, ap, subst, ◌∙◌}
use Rattle.std.specs.Prelude.{not, ◌&&◌, ◌==◌, is_none, is_some, slice_get}
use Rattle.std.specs.List.{AllByRecursion as Every, flat_map}
use Rattle.std.specs.Map.{lookup}
use Rattle.ss_names_laws.proofs.Common.{as_attribute, cond_some, Declaration, DefinitionTree, event, first_entries, firsts_once, flat_map_from, in_body, in_definition, in_kind, in_places, in_preamble_statement, in_section, in_section_head, Line, local_declaration, main, Meaning, Mode, NameBytes, option_or, parameter_declaration, place_in, ProgramTree, refusal_of_declarations, Role, routine, same_name, same_Some, SectionKindTree, SectionTree, Table, table, there, upto, Use, Used, uses, value_at, value_by_place, value_for, value_from_place}
use Rattle.std.proofs.lemmas.Bool.{and_parts, cond-false}
use Rattle.ss_names_scopes.specs.Locals.{locals_of, Moded, defined, is_local_place, may_be_variable, local_of, local_place, local_used, locals, moded_in}
use Rattle.ss_tables_rules.specs.Rules.{broken_by, has_no_mode, is_real, lacks_mode, may_be_hidden, unmoded_in, unmoded_use}
use Rattle.ss_tree.specs.declared.expression.Designator.{Designator}
use Rattle.ss_tree.specs.declared.expression.Designator.TheVariants as designators
use Rattle.ss_names_uses.specs.declared.used.Used.TheVariants.{Place}
use Rattle.ss_names_uses.specs.Uses as used
use Rattle.ss_tables_rules.specs.declared.error.TableError.TheVariants as errors
use Rattle.ss_names_scopes.specs.Scopes.{local_mode}
use Rattle.ss_names_meaning.specs.Resolved.{local_modes}
use Rattle.ss_names_laws.proofs.Bodies.{IsSilent, body_silent, declares_local, places}
use Rattle.ss_names_laws.proofs.Each.{at_number, at_place, each_empty, every_first, every_image, every_listed, every_named, every_piece, in_parts, joined}
use Rattle.ss_names_laws.proofs.Items.{at_item, each_item, in_image, in_pieces}
use Rattle.ss_names_laws.proofs.Kept.{none_broken, none_unmoded}
use Rattle.ss_names_laws.proofs.Results.{each_made, upto_every}
use Rattle.ss_names_laws.proofs.Unbroken.{holds_unless, none_breaks, two_fit}

-- ---- entries

-- what holds of each name that uses name as a local variable holds of each local variable
every_local : (t : Table) (P : NameBytes → Type 0) (us : List Use) → Every P (flat_map (local_used t) us) → Every (λ (e : NameBytes × Option Mode). P e.0) (locals t us)
every_local t P us h = every_named P (moded_in t.usual (defined us)) (λ name k. k) (flat_map (local_used t) us) h

some_mode : (o : Option Mode) (usual : Mode) → (mode : Mode) × (option_or o (Some usual) ≡ Some mode)
some_mode None usual = (usual, refl)
some_mode (Some mode) usual = (mode, refl)

mode_there : (o : Option Mode) → has_no_mode (Some o) ≡ false → (mode : Mode) × (o ≡ Some mode)
mode_there None h = absurd cc
mode_there (Some mode) h = (mode, refl)

-- ---- names that are only used

nothing_hidden : (o : Option Meaning) → is_none o ≡ true → may_be_hidden o ≡ true
nothing_hidden None h = refl
nothing_hidden (Some meaning) h = absurd cc

module _ (p : ProgramTree) where
  abbrev IsHidable : NameBytes → Type 0
  IsHidable name = may_be_hidden (value_for (table p).meanings name) ≡ true

  -- what a use names as a local variable may be hidden
  abbrev Hides : Use → Type 0
  Hides u = (name : NameBytes) → local_of (table p) u.what ≡ Some name → IsHidable name

  this_one : (n : NameBytes) → IsHidable n → (name : NameBytes) → Some n ≡ Some name → IsHidable name
  this_one n h name e = subst IsHidable (same_Some n name e) h

  nothing_named : (name : NameBytes) → None ≡ Some name → IsHidable name
  nothing_named name g = absurd cc

  of_place : (role : Role) (place : Designator) (subscripts : ℕ) (name : NameBytes) → local_place (table p) role place subscripts ≡ Some name → IsHidable name
  of_place role (designators.Name n) subscripts name h =
      let meant : Option Meaning = value_for (table p).meanings n in
      let found = cond_some (is_local_place (table p) role n subscripts) n name h in
      subst IsHidable found.1 (nothing_hidden meant (and_parts (may_be_variable role && (subscripts == 0)) (is_none meant) found.0).1)
  of_place role _ subscripts name h = absurd cc

  of_silent : (w : Used) → declares_local w ≡ false → (name : NameBytes) → local_of (table p) w ≡ Some name → IsHidable name
  of_silent (Place role place subscripts is_number) h name g = of_place role place subscripts name g
  of_silent _ h name g = absurd cc

  all_silent : (us : List Use) → Every IsSilent us → Every Hides us
  all_silent us h = each_item Hides us (λ u a. of_silent u.what (at_item IsSilent us u h a))

module _ (p : ProgramTree) (kept : refusal_of_declarations p ≡ None) where
  -- ---- declared names

  abbrev Unbroken : Declaration → Type 0
  Unbroken x = broken_by (table p) x ≡ None

  of_parameters : (line : Line) (k : ℕ) (names : List NameBytes) → Every Unbroken (map (parameter_declaration line k) names) → Every (Hides p) (map (used.parameter_use line) names)
  of_parameters line k names h =
      every_image (Hides p) (used.parameter_use line) names
      (λ n a. this_one p n (holds_unless (may_be_hidden (value_for (table p).meanings n)) (errors.Twice line) (at_item Unbroken (map (parameter_declaration line k) names) (parameter_declaration line k n) h (in_image (parameter_declaration line k) names n a))))

  of_head : (line : Line) (k : ℕ) (kind : SectionKindTree) → Every Unbroken (in_section_head line k kind) → Every (Hides p) (in_kind line kind)
  of_head line k main h = tt
  of_head line k (routine name given yielding) h =
      let parts = in_parts Unbroken (map (parameter_declaration line k) given) (map (parameter_declaration line k) yielding) h.1 in
      joined (Hides p) (map (used.parameter_use line) given) (map (used.parameter_use line) yielding) (of_parameters line k given parts.0) (of_parameters line k yielding parts.1)
  of_head line k (event name given saving) h =
      let same = in_places (as_attribute line name) 0 given in
      let rest = joined (Hides p) (map (used.parameter_use line) given) same (of_parameters line k given h.1) (all_silent p same (places (as_attribute line name) 0 given (λ i n. record { each = (refl, tt) })).each) in
      (nothing_named p, (nothing_named p, rest))

  of_definitions : (k : ℕ) (ds : List DefinitionTree) → Every Unbroken (flat_map (in_definition k) ds) → Every (Hides p) (flat_map used.in_local_definition ds)
  of_definitions k ds h =
      every_piece (Hides p) used.in_local_definition ds
      (λ (x : DefinitionTree) a. every_image (Hides p) (used.local_use x.line x.mode) x.names
      (λ n b.
      let here = at_item Unbroken (flat_map (in_definition k) ds) (local_declaration x.line k x.mode n) h (in_pieces (in_definition k) ds x (local_declaration x.line k x.mode n) a (in_image (local_declaration x.line k x.mode) x.names n b)) in
      let hidable : Bool = may_be_hidden (value_for (table p).meanings n) in
      this_one p n (two_fit hidable (not (is_real x.mode)) (errors.Twice x.line) (errors.RealMode x.line) here).0))

  section_hides : (k : ℕ) (s : SectionTree) → slice_get p.sections k ≡ Some s → Every (Hides p) (uses s)
  section_hides k s at =
      let all = (in_parts Unbroken (flat_map_from in_preamble_statement 0 p.preamble) (flat_map_from in_section 0 p.sections) (none_broken p kept)).1 in
      let here = at_number in_section (Every Unbroken) (in_parts Unbroken) p.sections k s all at in
      let parts = in_parts Unbroken (in_section_head s.line k s.kind) (flat_map (in_definition k) s.definitions) here in
      joined (Hides p) (in_kind s.line s.kind ++ flat_map used.in_local_definition s.definitions) (in_body s.body)
      (joined (Hides p) (in_kind s.line s.kind) (flat_map used.in_local_definition s.definitions) (of_head s.line k s.kind parts.0) (of_definitions k s.definitions parts.1))
      (all_silent p (in_body s.body) (body_silent s.body).each)

  pub hides : (k : ℕ) (s : SectionTree) → slice_get p.sections k ≡ Some s → (name : NameBytes) (number : ℕ) → place_in (locals_of (table p) s) name ≡ Some number → IsHidable p name
  hides k s at name number h =
      let us = uses s in
      let named = every_piece (IsHidable p) (local_used (table p)) us (λ (u : Use) a. every_listed (IsHidable p) (local_of (table p) u.what) (at_item (Hides p) us u (section_hides k s at) a)) in
      let found = value_by_place (locals_of (table p) s) name number h in
      at_place (λ (e : NameBytes × Option Mode). IsHidable p e.0) (locals_of (table p) s) number (name, found.0) (every_local (table p) (IsHidable p) us named) found.2

  -- ---- modes

  -- the local variable in each place has a mode
  abbrev HaveModes : Moded → Type 0
  HaveModes ls = (i : ℕ) (name : NameBytes) (o : Option Mode) → slice_get ls i ≡ Some (name, o) → (mode : Mode) × (o ≡ Some mode)

  by_normally : (usual : Mode) (us : List Use) → (table p).usual ≡ Some usual → HaveModes (locals (table p) us)
  by_normally usual us is i name o at =
      let HasMode = λ (e : NameBytes × Option Mode). (mode : Mode) × (e.1 ≡ Some mode) in
      let names = flat_map (local_used (table p)) us in
      let moded = λ (u : Option Mode). map (moded_in u (defined us)) names in
      let all = every_first HasMode (moded (Some usual)) (every_image HasMode (moded_in (Some usual) (defined us)) names (λ n a. some_mode (value_for (defined us) n) usual)) in
      at_place HasMode (locals (table p) us) i (name, o) (subst (λ (u : Option Mode). Every HasMode (first_entries (moded u))) (sym is) all) at

  by_definitions : (k : ℕ) (s : SectionTree) → slice_get p.sections k ≡ Some s → (table p).usual ≡ None → HaveModes (locals_of (table p) s)
  by_definitions k s at is i name o here =
      let us = uses s in
      let ls = locals_of (table p) s in
      let IsModed = λ (n : NameBytes). has_no_mode (lookup (same_name n) ls) ≡ false in
      let none = sym (cond-false (is_some (table p).usual) [] (flat_map (unmoded_in (table p)) p.sections) (ap is_some is)) ∙ none_unmoded p kept in
      let unmoded = at_place (λ (x : SectionTree). unmoded_in (table p) x ≡ []) p.sections k s (each_empty (unmoded_in (table p)) p.sections none) at in
      let each_use = each_empty (unmoded_use (table p) ls) us unmoded in
      let named = every_piece IsModed (local_used (table p)) us (λ (u : Use) a. every_listed IsModed (local_of (table p) u.what)
      (λ n q. sym (ap (lacks_mode ls) q) ∙ none_breaks (lacks_mode ls (local_of (table p) u.what)) (errors.RealMode u.line) (at_item (λ (w : Use). unmoded_use (table p) ls w ≡ []) us u each_use a))) in
      let moded = at_place (λ (x : NameBytes × Option Mode). IsModed x.0) ls i (name, o) (every_local (table p) IsModed us named) here in
      let value : value_for ls name ≡ Some o = value_from_place ls i name o (firsts_once (map (moded_in (table p).usual (defined us)) (flat_map (local_used (table p)) us))) here in
      mode_there o (sym (ap has_no_mode value) ∙ moded)

  have_modes : (k : ℕ) (s : SectionTree) → slice_get p.sections k ≡ Some s → HaveModes (locals_of (table p) s)
  have_modes k s at = by (table p).usual refl
    where
      by : (o : Option Mode) → (table p).usual ≡ o → HaveModes (locals_of (table p) s)
      by None is = by_definitions k s at is
      by (Some usual) is = by_normally usual (uses s) is

  pub modes_there : (k : ℕ) (s : SectionTree) → slice_get p.sections k ≡ Some s → (modes : List Mode) × (local_modes (locals_of (table p) s) ≡ Some modes)
  modes_there k s at =
      let ls = locals_of (table p) s in
      let made = each_made (local_mode ls) (λ (mode : Mode). Unit {0}) (upto (length ls))
      (upto_every (λ (n : ℕ). (mode : Mode) × (local_mode ls n ≡ Some mode) × Unit {0}) (length ls)
      (λ n lt.
      let x = there ls n lt in
      let mode = have_modes k s at n x.0.0 x.0.1 x.1 in
      (mode.0, ap (λ (o : Option (Option Mode)). option_and_then (λ (m : Option Mode). m) o) (value_at ls n x.0.0 x.0.1 x.1) ∙ mode.1, tt))) in
      (made.0, made.1)
