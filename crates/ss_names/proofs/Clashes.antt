-- What names mean, and the first line where a name is declared as two things, one declaration after the other.
use Rattle.std.proofs.Common.{◌≡◌, not, Bool, true, false, cond, List, [], ◌∷◌, ◌++◌, map, Option, Some, None, refl, sym, ap, ◌∙◌}
use Rattle.std.specs.List.{flat_map, fold}
use Rattle.ss_names.proofs.Common.{Declaration, first_entries, fold-append, given_by, Line, Meaning, NameBytes, value_for, with_first}
use Rattle.ss_base.specs.Lines.{line_if}
use Rattle.ss_names_declarations.proofs.Entries.{value_in_firsts}
use Rattle.ss_names.specs.Table.{Entered, Table, clashes, clashes_after, declares, entered_in_line, entered_by, is_another, meanings, numbered, same_of_set}
use Rattle.ss_names.specs.Filling.{all_entered, clash_after, enter_name, entered, first_line, meanings_pass, sooner}

abbrev pub pair_of : Entered → NameBytes × Meaning
pair_of e = (e.name, e.meaning)

-- the clash after these are entered
abbrev pub clash_of : List (NameBytes × Meaning) → Option Line → List Entered → Option Line
clash_of ms line [] = line
clash_of ms line (e ∷ es) = clash_of (with_first ms (pair_of e)) (clash_after line (value_for ms e.name) e.meaning e.line) es

-- ---- the passes

entered_one : (ms : List (NameBytes × Meaning)) (line : Option Line) (at : Line) (es : List (NameBytes × Meaning)) → fold (enter_name at) (entered ms line) es ≡ entered (fold with_first ms es) (clash_of ms line (map (entered_in_line at) es))
entered_one ms line at [] = refl
entered_one ms line at (e ∷ es) = entered_one (with_first ms e) (clash_after line (value_for ms e.0) e.1 at) at es

pairs_back : (at : Line) (es : List (NameBytes × Meaning)) → map pair_of (map (entered_in_line at) es) ≡ es
pairs_back at [] = refl
pairs_back at (e ∷ es) = ap (λ l. e ∷ l) (pairs_back at es)

clash_append : (ms : List (NameBytes × Meaning)) (line : Option Line) (xs ys : List Entered) → clash_of ms line (xs ++ ys) ≡ clash_of (fold with_first ms (map pair_of xs)) (clash_of ms line xs) ys
clash_append ms line [] ys = refl
clash_append ms line (x ∷ xs) ys = clash_append (with_first ms (pair_of x)) (clash_after line (value_for ms x.name) x.meaning x.line) xs ys

entered_all : (t : Table) (ms : List (NameBytes × Meaning)) (line : Option Line) (ds : List Declaration) → fold (meanings_pass t) (entered ms line) ds ≡ entered (fold with_first ms (given_by (declares t) ds)) (clash_of ms line (flat_map (entered_by t) ds))
entered_all t ms line [] = refl
entered_all t ms line (x ∷ ds) =
    let es = declares t x.what in
    let here = map (entered_in_line x.line) es in
    ap (λ s. fold (meanings_pass t) s ds) (entered_one ms line x.line es)
    ∙ entered_all t (fold with_first ms es) (clash_of ms line here) ds
    ∙ (λ i. entered
    (sym (fold-append with_first ms es (given_by (declares t) ds)) i)
    ((ap (λ l. clash_of (fold with_first ms l) (clash_of ms line here) (flat_map (entered_by t) ds)) (sym (pairs_back x.line es)) ∙ sym (clash_append ms line here (flat_map (entered_by t) ds))) i))

-- ---- the first clash

one_clash : (line : Option Line) (known : Option Meaning) (new : Meaning) (at : Line) → clash_after line known new at ≡ fold sooner line (line_if (is_another known new) at)
one_clash line None new at = refl
one_clash line (Some known) new at = by (same_of_set known new)
  where
    by : (b : Bool) → cond b line (sooner line at) ≡ fold sooner line (line_if (not b) at)
    by true = refl
    by false = refl

clash_is : (before : List (NameBytes × Meaning)) (line : Option Line) (es : List Entered) → clash_of (first_entries before) line es ≡ fold sooner line (clashes_after before es)
clash_is before line [] = refl
clash_is before line (e ∷ es) =
    let after = before ++ pair_of e ∷ [] in
    let here = line_if (is_another (value_for before e.name) e.meaning) e.line in
    ap (λ o. clash_of (with_first (first_entries before) (pair_of e)) (clash_after line o e.meaning e.line) es) (value_in_firsts before e.name)
    ∙ ap (λ l. clash_of (with_first (first_entries before) (pair_of e)) l es) (one_clash line (value_for before e.name) e.meaning e.line)
    ∙ ap (λ ms. clash_of ms (fold sooner line here) es) (sym (fold-append with_first [] before (pair_of e ∷ [])))
    ∙ clash_is after (fold sooner line here) es
    ∙ sym (fold-append sooner line here (clashes_after after es))

-- the names that the last pass enters, and the first clash
pub meanings_filled : (ds : List Declaration) → all_entered (numbered ds) ds ≡ entered (meanings ds) (first_line (clashes ds))
meanings_filled ds =
    let t = numbered ds in
    entered_all t [] None ds
    ∙ ap (entered (meanings ds)) (clash_is [] None (flat_map (entered_by t) ds))
