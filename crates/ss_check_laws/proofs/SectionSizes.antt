-- Each section is that of one routine or of one event routine at most, or MAIN. So a whole program has no more nodes than its tree.
use Rattle.std.proofs.Common.{◌≡◌, ℕ, suc, ◌+◌, ◌≤◌, Bool, true, false, cond, List, [], ◌∷◌, ◌++◌, length, Option, Some, None, option_map, unwrap_or, refl, sym, ap, subst, ◌∙◌, add-zero, nat_eq, nat_le, nat_lt, map, slice_get, get_or, sum_by, arith}
use Rattle.std.specs.Cmp.Lexicographic.{bytes_decides}
use Rattle.std.specs.List.{AllByRecursion as Every, IsDistinct, fold, list_all, list_any, position, position_or_len}
use Rattle.std.specs.Map.{keys_of, remove_entry, values_of}
use Rattle.std.proofs.lemmas.Bool.{both_ways, cond-false, eq-eqb, false_from_ne_true, ltb-true}
use Rattle.std.proofs.lemmas.Cmp.{nat_eq_equiv}
use Rattle.std.proofs.lemmas.List.Folds.{fold-map}
use Rattle.std.proofs.lemmas.List.Sums.{get_or-le-sum_by, passes_at_first, sum_by-append, sum_by-cons, sum_by_push}
use Rattle.std.proofs.lemmas.Map.Entries.{sum_by-remove_entry}
use Rattle.std.proofs.lemmas.Map.Keys.{IsDistinct-head, IsDistinct-push, IsDistinct-tail}
use Rattle.ss_check_laws.proofs.Common.{at_item, class_by, ClassKind, declarations, Declared, each_item, entry_of_key, event_by, EventSection, firsts_once, flat_map_from, given_by, is_main, is_main_section, locals_of, Moded, NameBytes, notice_by, number_added, place_from, priority_by, resolved_layout, routine_by, RoutineSection, same_Some, slice_get-get_or, table, there, tie_keys, where_holds}
use Rattle.ss_names_declarations.specs.NameTable.{value_for, entry_beside, first_entries, same_name, with_first}
use Rattle.ss_names_meaning.specs.Resolved.{event_from, local_modes, Parts, parts_with_locals, routine_from, is_known, resolved_with_locals, saved}
use Rattle.ss_program.specs.Nodes.{option_nodes, block_nodes, routine_nodes, event_nodes, nodes}
use Rattle.ss_tree.specs.Tree.{StatementTree, SectionKindTree, main, SectionTree, statement_row, ProgramTree}
use Rattle.ss_tree.specs.Nodes as tree
use Rattle.ss_check_laws.specs.SizeLaws.{ProgramsStaySmall}
use Rattle.ss_check_laws.proofs.Within.{Within, at_most, followed, held, looked, there_within, each_small}
use Rattle.ss_check_laws.proofs.StatementSizes.{row_small}
use Rattle.ss_names_laws.proofs.Sources.{IsMadeIf}
use Rattle.ss_check_laws.proofs.TableSections.{events_quiet, head_of, of_sections, routines_quiet}

-- ---- sections

-- a section and its statements
abbrev weight : SectionTree → ℕ
weight s = 1 + tree.statements_nodes (statement_row s.body)

row_nodes : (ss : List StatementTree) → tree.statements_nodes (statement_row ss) ≡ sum_by tree.statement_tree_nodes ss
row_nodes [] = refl
row_nodes (s ∷ ss) = let e = row_nodes ss in omega (arith, sum_by-cons tree.statement_tree_nodes s ss)

-- this weight, for each entry that its head gives
abbrev part : {V : Type 0} → (Declared → List (NameBytes × V)) → SectionTree → ℕ
part {V} f s = sum_by (λ (e : NameBytes × V). weight s) (f (head_of 0 s.kind))

-- this weight, if it is MAIN
abbrev main_part : SectionTree → ℕ
main_part s = cond (is_main_section s) (weight s) 0

kinds_add : (k : SectionKindTree) (n : ℕ) →
    cond (is_main k) n 0 + sum_by (λ (e : NameBytes × RoutineSection). n) (routine_by (head_of 0 k)) + sum_by (λ (e : NameBytes × EventSection). n) (event_by (head_of 0 k)) ≡ n
kinds_add main n = omega arith
kinds_add _ n = omega arith

sections_add : (ss : List SectionTree) → sum_by main_part ss + sum_by (part routine_by) ss + sum_by (part event_by) ss ≤ sum_by tree.section_nodes ss
sections_add [] = omega arith
sections_add (s ∷ ss) =
    let row = row_nodes s.body in
    let kinds = kinds_add s.kind (weight s) in
    let rest = sections_add ss in
    omega (arith, sum_by-cons main_part s ss, sum_by-cons (part routine_by) s ss, sum_by-cons (part event_by) s ss, sum_by-cons tree.section_nodes s ss)

-- ---- what is declared, and the first of each name

numbered_less : {A B : Type 0} (g : B → ℕ) (f : ℕ → A → List B) (h : A → ℕ) (n : ℕ) (xs : List A) → ((i : ℕ) (x : A) → slice_get xs i ≡ Some x → sum_by g (f (n + i) x) ≤ h x) → sum_by g (flat_map_from f n xs) ≤ sum_by h xs
numbered_less g f h n [] le = omega arith
numbered_less g f h n (x ∷ xs) le =
    let here : sum_by g (f n x) ≤ h x = subst (λ k. sum_by g (f k x) ≤ h x) (add-zero n) (le 0 x refl) in
    let rest = numbered_less g f h (n + 1) xs (λ i y e. let same : n + suc i ≡ n + 1 + i = omega arith in subst (λ k. sum_by g (f k y) ≤ h y) same (le (suc i) y e)) in
    omega (arith, sum_by-append g (f n x) (flat_map_from f (n + 1) xs), sum_by-cons h x xs)

firsts_less : {V : Type 0} (g : NameBytes × V → ℕ) (acc es : List (NameBytes × V)) → sum_by g (fold with_first acc es) ≤ sum_by g acc + sum_by g es
firsts_less g acc [] = omega arith
firsts_less {V} g acc (e ∷ es) =
    let here = by (value_for acc e.0) in
    let rest = firsts_less g (with_first acc e) es in
    omega (arith, sum_by-cons g e es)
  where
    by : (known : Option V) → sum_by g (entry_beside acc e known) ≤ sum_by g acc + g e
    by None = omega (arith, sum_by_push g acc e)
    by (Some v) = omega arith

module _ (p : ProgramTree) where
  -- what the first entry of each name weighs, where the heads of sections declare it
  declared_less : {V : Type 0} (h : V → ℕ) (f : Declared → List (NameBytes × V)) → ((x : Declared) → IsMadeIf ⊥ p x → f x ≡ []) →
      ((n : ℕ) (s : SectionTree) → slice_get p.sections n ≡ Some s → sum_by (λ (e : NameBytes × V). h e.1) (f (head_of n s.kind)) ≤ part f s) →
      sum_by h (values_of (first_entries (given_by f (declarations p)))) ≤ sum_by (part f) p.sections
  declared_less {V} h f quiet heads =
      let g = λ (e : NameBytes × V). h e.1 in
      let ds = given_by f (declarations p) in
      let values : sum_by h (values_of (first_entries ds)) ≡ sum_by g (first_entries ds) = fold-map (λ (a : ℕ) (v : V). a + h v) (λ (e : NameBytes × V). e.1) 0 (first_entries ds) in
      let all = ap (sum_by g) (of_sections f p quiet) in
      let less = numbered_less g (λ n s. f (head_of n s.kind)) (part f) 0 p.sections (λ i s e. heads (0 + i) s (let same : 0 + i ≡ i = omega arith in ap (slice_get p.sections) same ∙ e)) in
      omega (arith, firsts_less g [] ds)

  abbrev weight_at : ℕ → ℕ
  weight_at n = option_nodes weight (slice_get p.sections n)

  abbrev routine_weight : RoutineSection → ℕ
  routine_weight k = weight_at k.section

  routine_head : (k : SectionKindTree) (n w : ℕ) → weight_at n ≡ w →
      sum_by (λ (e : NameBytes × RoutineSection). routine_weight e.1) (routine_by (head_of n k)) ≤ sum_by (λ (e : NameBytes × RoutineSection). w) (routine_by (head_of 0 k))
  routine_head main n w e = omega arith
  routine_head _ n w e = omega arith

  routines_less : sum_by routine_weight (values_of (table p).routines) ≤ sum_by (part routine_by) p.sections
  routines_less = declared_less routine_weight routine_by (routines_quiet p) (λ n s e. routine_head s.kind n (weight s) (ap (option_nodes weight) e))

  abbrev event_weight : EventSection → ℕ
  event_weight k = weight_at k.section

  event_head : (k : SectionKindTree) (n w : ℕ) → weight_at n ≡ w →
      sum_by (λ (e : NameBytes × EventSection). event_weight e.1) (event_by (head_of n k)) ≤ sum_by (λ (e : NameBytes × EventSection). w) (event_by (head_of 0 k))
  event_head main n w e = omega arith
  event_head _ n w e = omega arith

  events_less : sum_by event_weight (values_of (table p).events) ≤ sum_by (part event_by) p.sections
  events_less = declared_less event_weight event_by (events_quiet p) (λ n s e. event_head s.kind n (weight s) (ap (option_nodes weight) e))

  main_less : option_nodes weight_at (position is_main_section p.sections) ≤ sum_by main_part p.sections
  main_less = by (nat_lt n (length p.sections)) refl
    where
      n : ℕ
      n = position_or_len is_main_section p.sections

      by : (b : Bool) → nat_lt n (length p.sections) ≡ b → option_nodes weight_at (cond b (Some n) None) ≤ sum_by main_part p.sections
      by false e = omega arith
      by true e =
          let lt = ltb-true n (length p.sections) e in
          let s = (there p.sections n lt).0 in
          let here = get_or p.sections n s in
          let at = ap (option_nodes weight) (slice_get-get_or p.sections n s lt) in
          let all = ap (λ b. cond b (weight here) 0) (passes_at_first is_main_section p.sections s lt) in
          omega (arith, get_or-le-sum_by main_part p.sections n s lt)

-- ---- entries that are found by different numbers

-- what a name finds
abbrev named : {V : Type 0} → (V → ℕ) → List (NameBytes × V) → Option NameBytes → ℕ
named h es o = option_nodes (λ name. option_nodes h (value_for es name)) o

-- without the entry of a name, another name finds the same
others : {V : Type 0} (name other : NameBytes) (es : List (NameBytes × V)) → same_name other name ≡ false → value_for (remove_entry (same_name name) es) other ≡ value_for es other
others name other [] d = refl
others {V} name other (e ∷ es) d = by (same_name name e.0) refl (others name other es d)
  where
    by : (b : Bool) → same_name name e.0 ≡ b → value_for (remove_entry (same_name name) es) other ≡ value_for es other →
        value_for (cond b es (e ∷ remove_entry (same_name name) es)) other ≡ value_for (e ∷ es) other
    by true is rest = sym (cond-false (same_name other e.0) (Some e.1) (value_for es other) (ap (same_name other) (sym ((bytes_decides name e.0).0 is)) ∙ d))
    by false is rest = ap (cond (same_name other e.0) (Some e.1)) rest

module _ {V : Type 0} (h : V → ℕ) (key : ℕ → Option NameBytes) (one : (i j : ℕ) (name : NameBytes) → key i ≡ Some name → key j ≡ Some name → i ≡ j) where
  same_named : (name : NameBytes) (es : List (NameBytes × V)) (o : Option NameBytes) → (o ≡ Some name → ⊥) → named h (remove_entry (same_name name) es) o ≡ named h es o
  same_named name es None d = refl
  same_named name es (Some other) d =
      ap (option_nodes h) (others name other es (false_from_ne_true (same_name other name) (λ e. d (ap Some ((bytes_decides other name).0 e)))))

  same_sum : (name : NameBytes) (es : List (NameBytes × V)) (ns : List ℕ) → Every (λ n. key n ≡ Some name → ⊥) ns →
      sum_by (λ n. named h (remove_entry (same_name name) es) (key n)) ns ≡ sum_by (λ n. named h es (key n)) ns
  same_sum name es [] d = refl
  same_sum name es (n ∷ ns) d =
      let here = same_named name es (key n) d.0 in
      let rest = same_sum name es ns d.1 in
      omega (arith, sum_by-cons (λ i. named h (remove_entry (same_name name) es) (key i)) n ns, sum_by-cons (λ i. named h es (key i)) n ns)

  known_nodes : (o : Option V) → unwrap_or (option_map h o) 0 ≡ option_nodes h o
  known_nodes None = refl
  known_nodes (Some v) = refl

  named_less : (ns : List ℕ) (es : List (NameBytes × V)) → IsDistinct nat_eq ns → sum_by (λ n. named h es (key n)) ns ≤ sum_by h (values_of es)
  named_less [] es d = omega arith
  named_less (n ∷ ns) es d = by (key n) refl (λ fs. named_less ns fs (IsDistinct-tail nat_eq n ns d))
    where
      by : (o : Option NameBytes) → key n ≡ o → ((fs : List (NameBytes × V)) → sum_by (λ i. named h fs (key i)) ns ≤ sum_by h (values_of fs)) →
          sum_by (λ i. named h es (key i)) (n ∷ ns) ≤ sum_by h (values_of es)
      by None e next =
          let here = ap (named h es) e in
          let rest = next es in
          omega (arith, sum_by-cons (λ i. named h es (key i)) n ns)
      by (Some name) e next =
          let here = ap (named h es) e in
          let apart = each_item (λ m. key m ≡ Some name → ⊥) ns (λ m a f. both_ways (nat_eq n m) (at_item (λ i. nat_eq n i ≡ false) ns m (IsDistinct-head nat_eq n ns d) a) (eq-eqb n m (one n m name e f))) in
          let rest = next (remove_entry (same_name name) es) in
          omega (arith, sum_by-cons (λ i. named h es (key i)) n ns, same_sum name es ns apart, sum_by-remove_entry h (same_name name) es, known_nodes (value_for es name))

distinct_numbers : (acc ns : List ℕ) → IsDistinct nat_eq acc → IsDistinct nat_eq (fold number_added acc ns)
distinct_numbers acc [] d = d
distinct_numbers acc (n ∷ ns) d = distinct_numbers (number_added acc n) ns (by (list_any (nat_eq n) acc) refl)
  where
    by : (b : Bool) → list_any (nat_eq n) acc ≡ b → IsDistinct nat_eq (cond b acc (acc ++ n ∷ []))
    by true e = d
    by false e = IsDistinct-push nat_eq_equiv acc n d e

no_numbers : IsDistinct nat_eq []
unfolding IsDistinct
no_numbers = tt

one_number : (cs : List (NameBytes × ClassKind)) → IsDistinct same_name (keys_of cs) → (i j : ℕ) (name : NameBytes) → slice_get (keys_of cs) i ≡ Some name → slice_get (keys_of cs) j ≡ Some name → i ≡ j
one_number cs once i j name e f =
    let x = entry_of_key cs i name e in
    let y = entry_of_key cs j name f in
    same_Some i j (sym (place_from cs i name x.0 once x.1) ∙ place_from cs j name y.0 once y.1)

-- ---- programs

abbrev parts_nodes : Parts → ℕ
parts_nodes p = 1 + block_nodes p.body

module _ (p : ProgramTree) (all : List Moded) where
  parts_small : (n : ℕ) → Within parts_nodes (weight_at p n) (parts_with_locals (table p) all p.sections n)
  parts_small n =
      there_within (slice_get p.sections n) (λ s.
      looked (slice_get all n) (λ locals.
      looked (local_modes locals) (λ modes.
      followed (row_small (record { table = table p; locals = locals; sections = all }) (statement_row s.body)) (λ done q. omega arith))))

  routine_small : (k : RoutineSection) → Within routine_nodes (routine_weight p k) (routine_from (parts_with_locals (table p) all p.sections) k)
  routine_small k = followed (parts_small k.section) (λ parts q. omega arith)

  event_small : (class : ℕ) → Within event_nodes (named (event_weight p) (table p).events (slice_get (keys_of (table p).classes) class)) (event_from (table p) (parts_with_locals (table p) all p.sections) class)
  event_small class =
      there_within (slice_get (keys_of (table p).classes) class) (λ name.
      there_within (value_for (table p).events name) (λ k.
      looked (where_holds (nat_le k.given (length (get_or (table p).fields class []))) k.given) (λ given.
      looked (tie_keys (table p) class name) (λ keys.
      looked (saved (table p) name k.saving) (λ variable. followed (parts_small k.section) (λ parts q. omega arith))))))

  program_small : Within nodes (tree.tree_nodes p) (resolved_with_locals (table p) all p.sections)
  unfolding resolved_with_locals
  program_small =
      let t = table p in
      let ds = declarations p in
      let key : ℕ → Option NameBytes = slice_get (keys_of t.classes) in
      let ranked = given_by (priority_by t.classes) ds ++ given_by (notice_by t.classes) ds in
      let events = named_less (event_weight p) key (one_number t.classes (firsts_once (given_by class_by ds))) t.ranks t.events (distinct_numbers [] ranked no_numbers) in
      looked (resolved_layout t) (λ laid.
      held (list_all (is_known t) p.sections) p.sections _ (
      followed (each_small routine_small (values_of t.routines)) (λ rs q.
      followed (each_small event_small t.ranks) (λ es r.
      followed (there_within (position is_main_section p.sections) parts_small) (λ parts u.
      omega (arith, routines_less p, events, events_less p, main_less p, sections_add p.sections))))))

pub programs_stay_small : ProgramsStaySmall
programs_stay_small p r h =
    let all = map (locals_of (table p)) p.sections in
    at_most nodes (tree.tree_nodes p) (resolved_with_locals (table p) all p.sections) r (program_small p all) h
