-- What all passes together make of a list of declarations.
use Rattle.std.proofs.Common.{◌≡◌, List, [], ◌∷◌, ◌++◌, length, Option, Some, None, refl, sym, ap, ◌∙◌, append_assoc, append-nil}
use Rattle.ss_names.proofs.Common.{Declaration, fold, fold-append, length-map, length-map-range_with_len, Mode, NameBytes, option_or, slice_get, with_first, with_name}
use Rattle.ss_names.specs.Entries.{attribute_by, attributes_of_class, class_by, classes, event_by, events, given_by, histories, history_by, mode_by, mode_of_name, modes, notice_by, priority_by, rank_key_by, routine_by, routines, set_by, set_names, sets, tie_key_by, usual_by, usual_mode, variable_by, number_added}
use Rattle.ss_names.specs.Table.{Table, clashes, declared, numbered}
use Rattle.ss_names.specs.Filling.{Entering, Fields, HasRows, all_entered, entities_filled, entities_pass, table_fields, filled_table, first_line, kept_mode, mode_named, names_pass, no_names, no_set, pushed, set_part, variables_pass, with_all_meanings, with_field, with_meanings, with_rows, with_set, with_subjects}
use Rattle.ss_names.proofs.Fields.{attributes_below, attributes_filled, rows_kept}
use Rattle.ss_names.proofs.Sets.{sets_filled, sets_kept}
use Rattle.ss_names.proofs.Clashes.{meanings_filled}

-- ---- the first pass

names_passed : (t : Table) (ds : List Declaration) → fold names_pass t ds ≡ record t {
  usual = fold kept_mode t.usual (given_by usual_by ds);
  modes = fold with_first t.modes (given_by mode_by ds);
  classes = fold with_first t.classes (given_by class_by ds);
  set_names = fold with_name t.set_names (given_by set_by ds);
  routines = fold with_first t.routines (given_by routine_by ds);
  events = fold with_first t.events (given_by event_by ds);
  histories = fold with_first t.histories (given_by history_by ds);
  rank_keys = fold pushed t.rank_keys (given_by rank_key_by ds);
  tie_keys = fold pushed t.tie_keys (given_by tie_key_by ds);
}
names_passed t [] = refl
names_passed t (x ∷ ds) =
    names_passed (names_pass t x) ds
    ∙ (λ i. record t {
      usual = sym (fold-append kept_mode t.usual (usual_by x.what) (given_by usual_by ds)) i;
      modes = sym (fold-append with_first t.modes (mode_by x.what) (given_by mode_by ds)) i;
      classes = sym (fold-append with_first t.classes (class_by x.what) (given_by class_by ds)) i;
      set_names = sym (fold-append with_name t.set_names (set_by x.what) (given_by set_by ds)) i;
      routines = sym (fold-append with_first t.routines (routine_by x.what) (given_by routine_by ds)) i;
      events = sym (fold-append with_first t.events (event_by x.what) (given_by event_by ds)) i;
      histories = sym (fold-append with_first t.histories (history_by x.what) (given_by history_by ds)) i;
      rank_keys = sym (fold-append pushed t.rank_keys (rank_key_by x.what) (given_by rank_key_by ds)) i;
      tie_keys = sym (fold-append pushed t.tie_keys (tie_key_by x.what) (given_by tie_key_by ds)) i;
    })

kept_first : (known : Option Mode) (found : List Mode) → fold kept_mode known found ≡ option_or known (slice_get found 0)
kept_first None [] = refl
kept_first (Some mode) [] = refl
kept_first None (m ∷ ms) = kept_first (Some m) ms
kept_first (Some mode) (m ∷ ms) = kept_first (Some mode) ms

pushed_all : {A : Type 0} (xs ys : List A) → fold pushed xs ys ≡ xs ++ ys
pushed_all xs [] = sym (append-nil xs)
pushed_all xs (y ∷ ys) = pushed_all (xs ++ y ∷ []) ys ∙ append_assoc xs (y ∷ []) ys

-- the table after the first pass
abbrev named : List Declaration → Table
named ds = record no_names {
  usual = usual_mode ds;
  modes = modes ds;
  classes = classes ds;
  set_names = set_names ds;
  routines = routines ds;
  events = events ds;
  histories = histories ds;
  rank_keys = given_by rank_key_by ds;
  tie_keys = given_by tie_key_by ds;
}

names_filled : (ds : List Declaration) → fold names_pass no_names ds ≡ named ds
names_filled ds =
    names_passed no_names ds
    ∙ (λ i. record (named ds) {
      usual = kept_first None (given_by usual_by ds) i;
      rank_keys = pushed_all [] (given_by rank_key_by ds) i;
      tie_keys = pushed_all [] (given_by tie_key_by ds) i;
    })

-- ---- the second pass

abbrev fields_after : Table → List Declaration → Fields
fields_after t ds = fold (with_field (mode_named t)) (table_fields t) (given_by (attribute_by t.classes) ds)

entities_passed : (t : Table) (ds : List Declaration) → fold entities_pass t ds ≡ record t {
  attributes = (fields_after t ds).entries;
  fields = (fields_after t ds).rows;
  sets = fold (with_set t.set_names) t.sets (given_by (set_part t.classes) ds);
  ranks = fold number_added t.ranks (given_by (priority_by t.classes) ds);
}
entities_passed t [] = refl
entities_passed t (x ∷ ds) =
    let more : fields_after (entities_pass t x) ds ≡ fields_after t (x ∷ ds) =
    sym (fold-append (with_field (mode_named t)) (table_fields t) (attribute_by t.classes x.what) (given_by (attribute_by t.classes) ds)) in
    entities_passed (entities_pass t x) ds
    ∙ (λ i. record t {
      attributes = (more i).entries;
      fields = (more i).rows;
      sets = sym (fold-append (with_set t.set_names) t.sets (set_part t.classes x.what) (given_by (set_part t.classes) ds)) i;
      ranks = sym (fold-append number_added t.ranks (priority_by t.classes x.what) (given_by (priority_by t.classes) ds)) i;
    })

-- the table after the second pass
abbrev with_entities : List Declaration → Table
with_entities ds = record (numbered ds) { variables = []; ranks = fold number_added [] (given_by (priority_by (classes ds)) ds) }

entities_named : (ds : List Declaration) → fold entities_pass (with_rows (named ds)) ds ≡ with_entities ds
entities_named ds =
    let cs = classes ds in
    let fs = attributes_filled (mode_of_name ds) (length cs) (given_by (attribute_by cs) ds) (attributes_below cs ds) in
    entities_passed (with_rows (named ds)) ds
    ∙ (λ i. record (with_entities ds) {
      attributes = (fs i).entries;
      fields = (fs i).rows;
      sets = sets_filled cs ds i;
    })

entities_are : (ds : List Declaration) → entities_filled ds ≡ with_entities ds
entities_are ds = ap (λ t. fold entities_pass (with_rows t) ds) (names_filled ds) ∙ entities_named ds

-- ---- the third pass

variables_passed : (t : Table) (ds : List Declaration) → fold variables_pass t ds ≡ record t {
  variables = fold with_first t.variables (given_by (variable_by t.attributes) ds);
  ranks = fold number_added t.ranks (given_by (notice_by t.classes) ds);
}
variables_passed t [] = refl
variables_passed t (x ∷ ds) =
    variables_passed (variables_pass t x) ds
    ∙ (λ i. record t {
      variables = sym (fold-append with_first t.variables (variable_by t.attributes x.what) (given_by (variable_by t.attributes) ds)) i;
      ranks = sym (fold-append number_added t.ranks (notice_by t.classes x.what) (given_by (notice_by t.classes) ds)) i;
    })

variables_are : (ds : List Declaration) → fold variables_pass (with_entities ds) ds ≡ numbered ds
variables_are ds =
    let cs = classes ds in
    variables_passed (with_entities ds) ds
    ∙ (λ i. record (numbered ds) { ranks = sym (fold-append number_added [] (given_by (priority_by cs) ds) (given_by (notice_by cs) ds)) i })

-- ---- all passes

pub filled_is_declared : (ds : List Declaration) → filled_table ds ≡ declared ds
filled_is_declared ds =
    ap (λ (t : Table). with_subjects (with_all_meanings ds (fold variables_pass t ds))) (entities_are ds)
    ∙ ap (λ (t : Table). with_subjects (with_all_meanings ds t)) (variables_are ds)
    ∙ ap (λ (s : Entering). with_subjects (with_meanings (numbered ds) s.meanings)) (meanings_filled ds)

pub clash_filled : (ds : List Declaration) → (all_entered (fold variables_pass (entities_filled ds) ds) ds).clash ≡ first_line (clashes ds)
clash_filled ds =
    ap (λ (t : Table). (all_entered (fold variables_pass t ds) ds).clash) (entities_are ds)
    ∙ ap (λ (t : Table). (all_entered t ds).clash) (variables_are ds)
    ∙ ap (λ (s : Entering). s.clash) (meanings_filled ds)

-- three passes, one after the other
pub three_passed : {start named rowed made after : Table} (ds : List Declaration) → start ≡ no_names → named ≡ fold names_pass start ds → rowed ≡ with_rows named →
    made ≡ fold entities_pass rowed ds → after ≡ fold variables_pass made ds → after ≡ fold variables_pass (entities_filled ds) ds
three_passed ds s n r m a =
    a ∙ ap (λ (t : Table). fold variables_pass t ds) (m ∙ ap (λ (t : Table). fold entities_pass t ds) (r ∙ ap with_rows (n ∙ ap (λ (t : Table). fold names_pass t ds) s)))

-- ---- rows

pub rows_made : (t : Table) → HasRows (with_rows t)
rows_made t = record {
  fields = length-map-range_with_len (attributes_of_class []) 0 (length t.classes);
  sets = length-map t.set_names (λ (name : NameBytes). no_set);
}

-- the second pass keeps a row for each class and an entry for each set
pub rows_stay : (t : Table) (ds : List Declaration) → HasRows t → HasRows (fold entities_pass t ds)
rows_stay t [] h = h
rows_stay t (x ∷ ds) h = rows_stay (entities_pass t x) ds (record {
  fields = rows_kept (mode_named t) (table_fields t) (attribute_by t.classes x.what) ∙ h.fields;
  sets = sets_kept t.set_names t.sets (set_part t.classes x.what) ∙ h.sets;
})
