-- A program that breaks no rule has a resolved form, which is well typed.
use Rattle.std.proofs.Common.{◌≡◌, ℕ, ◌<◌, ◌≤◌, Bool, true, false, cond, List, [], ◌∷◌, length, get_or, map, slice_get, option_map, Option, Some, None, Contains, ⊎_elim, refl, sym, ap, subst, ◌∙◌, nat_eq, arith}
use Rattle.std.specs.List.{AllByRecursion as Every, list_all, list_any, position, position_or_len}
use Rattle.ss_check_laws.proofs.Common.{at_item, BodiesResolve, breaches, CheckError, cond-true, each, each_at, each_item, Event, first_holds, get_or_from_slice_get, goes, is_main, is_main_section, is_notice_class, Meaning, PlainClass, PlainLayout, Program, ResolvedLayout, same_Some, slice_get-get_or, slice_get-map, slice_get_within, suits_class, Table, table, value_by_place, value_for}
use Rattle.std.proofs.lemmas.Bool.{both_ways, cases_lt, eqb-true, lt-ltb}
use Rattle.std.proofs.lemmas.List.Folds.{Any-from_list_any}
use Rattle.std.proofs.lemmas.List.Sums.{fails_before_first, list_all-from_AllPass, passes_at_first}
use Rattle.ss_base.specs.declared.layout.ClassKind.TheVariants as kinds
use Rattle.ss_names_meaning.specs.Resolved.{event_from, is_known, is_known_kind, resolved, resolved_with_locals}
use Rattle.ss_program.specs.WellTyped.{IsTypedBlock, kind_of_class, IsTypedEvent, IsTypedRoutine, IsWellTyped}
use Rattle.ss_tree.specs.Tree as tree
use Rattle.ss_names_uses.specs.declared.used.ClassNeed.TheVariants as needs
use Rattle.ss_names.specs.declared.meaning.Meaning.TheVariants as m
use Rattle.ss_check_rules.specs.Order.{check_error_order}
use Rattle.ss_names_laws.specs.Laws.{LayoutsAreWellTyped, RoutinesAreThere, SectionsAreValid, TablesAreThere, TablesAreValid}
use Rattle.ss_check_laws.specs.ProgramLaws.{ProgramsResolve}
use Rattle.ss_names_laws.proofs.Kept.{nothing_found}
use Rattle.ss_names_laws.proofs.Parts.{parts_of}
use Rattle.ss_names_laws.proofs.Steps.{mapped}
use Rattle.ss_check_laws.proofs.Events.{class_is_ranked, class_there, event_kept, event_there, events_there}
use Rattle.ss_check_laws.proofs.Routines.{IsUnbroken, IsWhole, body_good, laid_with, main_kept, program_with, routines_there, section, section_modes}

-- ---- steps

any_main : (b : Bool) (breach : CheckError) → cond b [] (breach ∷ []) ≡ [] → b ≡ true
any_main true breach e = refl
any_main false breach e = absurd cc

notice_found : (o : Option Meaning) → suits_class o needs.Notice ≡ true → (class : ℕ) × (variable : ℕ) × (o ≡ Some (m.Class class kinds.Notice variable))
notice_found (Some (m.Class class kinds.Notice variable)) e = (class, variable, refl)
notice_found _ e = absurd cc

module _ (p : tree.ProgramTree) (x : ResolvedLayout) (k : IsUnbroken p x) where
  abbrev t : Table
  t = table p

  -- ---- MAIN

  main_there : (n : ℕ) × (s : tree.SectionTree) × (slice_get p.sections n ≡ Some s) × (position is_main_section p.sections ≡ Some n) × (is_main s.kind ≡ true)
  main_there =
      let any = Any-from_list_any is_main_section p.sections (any_main (list_any is_main_section p.sections) _ (main_kept p x k)) in
      let within = any.2 in
      let n = position_or_len is_main_section p.sections in
      let is : is_main_section (get_or p.sections any.0 any.1) ≡ true = ap is_main_section any.3 ∙ any.4 in
      let lt : n < length p.sections =
      ⊎_elim
      (λ (l : n < length p.sections). l)
      (λ (l : length p.sections ≤ n). absurd (both_ways (is_main_section (get_or p.sections any.0 any.1)) (fails_before_first is_main_section p.sections any.0 any.1 (omega arith)) is))
      (cases_lt n (length p.sections)) in
      let s = get_or p.sections n any.1 in
      (n, s, slice_get-get_or p.sections n any.1 lt, ap (λ b. cond b (Some n) None) (lt-ltb n (length p.sections) lt), passes_at_first is_main_section p.sections any.1 lt)

  -- ---- the class of each EVENT section is one of notices

  kind_known : (n : ℕ) (s : tree.SectionTree) (kind : tree.SectionKindTree) → slice_get p.sections n ≡ Some s → s.kind ≡ kind → is_known_kind t kind ≡ true
  kind_known n s tree.main e f = refl
  kind_known n s (tree.routine name given yielding) e f = refl
  kind_known n s (tree.event name given saving) e f =
      let c = notice_found (value_for t.meanings name) (first_holds (suits_class (value_for t.meanings name) needs.Notice) _ _ (event_kept p x k n s name given saving e f).0).0 in
      let laid = (k.valid.meanings name (m.Class c.0 kinds.Notice c.1) c.2).0 in
      let entry = value_by_place t.classes name c.0 (k.valid.numbered name c.0 kinds.Notice c.1 c.2) in
      let known = class_there p x k c.0 name entry.0 entry.2 in
      let kind : entry.0 ≡ kinds.Notice = sym known.2 ∙ ap (λ (z : PlainClass). z.kind) (same_Some known.0 laid.0 (sym known.1 ∙ laid.1)) ∙ laid.2 in
      ap is_notice_class (entry.1 ∙ ap Some kind)

  all_known : list_all (is_known t) p.sections ≡ true
  all_known =
      list_all-from_AllPass (is_known t) p.sections (λ n s lt. let here = get_or p.sections n s in kind_known n here here.kind (slice_get-get_or p.sections n s lt) refl)

  -- ---- a program with these routines and event routines

  module _ (q : Program) (b : IsWhole p x k q) (made : each (event_from t (section p x k)) t.ranks ≡ Some q.events) where
    served : (class : ℕ) → kind_of_class q class ≡ Some kinds.Notice → Contains (map (λ (e : Event). e.class) q.events) class
    served class h =
        let class_of = λ (e : Event). e.class in
        let c = mapped (λ (z : PlainClass). z.kind) (slice_get q.layout.classes class) kinds.Notice h in
        let laid : slice_get x.layout.classes class ≡ Some c.0 = ap (λ (l : PlainLayout). slice_get l.classes class) (sym b.layout.layout) ∙ c.1 in
        let any = Any-from_list_any (nat_eq class) t.ranks (class_is_ranked p x k class c.0 laid c.2) in
        let at : slice_get t.ranks any.0 ≡ Some class = slice_get-get_or t.ranks any.0 any.1 any.2 ∙ ap Some (any.3 ∙ sym (eqb-true class any.1 any.4)) in
        let event = each_at (event_from t (section p x k)) t.ranks q.events any.0 class made at in
        let known = event_there p x k any.0 class at in
        let same : event.0.class ≡ class = ap class_of (same_Some event.0 known.0 (sym event.2 ∙ known.1)) ∙ known.2 in
        let mapped : slice_get (map class_of q.events) any.0 ≡ Some class = slice_get-map class_of q.events any.0 ∙ ap (option_map class_of) event.1 ∙ ap Some same in
        (any.0, slice_get_within (map class_of q.events) any.0 class mapped, get_or_from_slice_get (map class_of q.events) any.0 class class mapped)

  -- what holds in each whole program holds in this one
  in_whole : {A : Type 0} (P : Program → A → Type 0) (q : Program) → IsWhole p x k q → (xs : List A) → Every (λ z. (r : Program) → IsWhole p x k r → P r z) xs → Every (P q) xs
  in_whole P q b xs h = each_item (P q) xs (λ z a. at_item (λ z. (r : Program) → IsWhole p x k r → P r z) xs z h a q b)

  program_resolves : (q : Program) × (resolved t p.sections ≡ Some q) × IsWellTyped q
  unfolding resolved_with_locals
  program_resolves =
      let routines = routines_there p x k in
      let events = events_there p x k in
      let main = main_there in
      let parts = section_modes p x k main.0 main.1 main.2 in
      let q = program_with p x k routines.0 events.0 parts.0.modes parts.0.body in
      let b : IsWhole p x k q = record { layout = laid_with p x k routines.0 events.0 parts.0.modes parts.0.body; routines = routines.1 } in
      let body = subst (λ in_main. IsTypedBlock (record { program = q; locals = parts.0.modes; is_main = in_main }) parts.0.body) main.4 (body_good p x k q b main.0 main.1 parts.0 main.2 parts.1) in
      let laid = k.typed q b.layout in (
        q,
        goes _ _ x q k.valid.laid
            (goes _ _ p.sections q (cond-true (list_all (is_known t) p.sections) (Some p.sections) None all_known)
            (goes _ _ routines.0 q routines.1 (goes _ _ events.0 q events.1 (goes _ _ parts.0 q (goes _ _ main.0 parts.0 main.3 parts.1) refl)))),
        record {
          sets = (parts_of t x k.valid.laid).sound;
          disciplines = laid.disciplines;
          counts = laid.counts;
          statistics = laid.statistics;
          routines = in_whole IsTypedRoutine q b routines.0 routines.2;
          events = in_whole IsTypedEvent q b events.0 events.2;
          served = served q b events.1;
          main = body;
        },
      )

pub programs_resolve : BodiesResolve → TablesAreThere → TablesAreValid → LayoutsAreWellTyped → SectionsAreValid → RoutinesAreThere → ProgramsResolve
programs_resolve bodies there valid typed sections routines p declared used =
    let x = there p declared used in
    let k : IsUnbroken p x.0 = record {
      valid = valid p x.0 declared x.1;
      kept = nothing_found check_error_order (breaches (table p) p) used;
      sections = sections p declared;
      routines = routines p declared;
      typed = λ r h. typed p x.0 r declared used x.1 h;
      bodies = bodies;
    } in
    program_resolves p x.0 k
