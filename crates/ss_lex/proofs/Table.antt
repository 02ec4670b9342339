-- The table of the reserved words.
use Rattle.std.proofs.Common.{◌≡◌, ℕ, zero, suc, ◌+◌, ◌<◌, Bool, true, false, not, ◌&&◌, List, [], ◌∷◌, length, get_or, map, nat_lt, Option, Some, None, Bor, refl, sym, ap, ◌∙◌, arith, rules, subst, inl, inr}
use Rattle.std.specs.declared.cmp.Ordering.{Ordering}
use Rattle.std.specs.declared.cmp.Ordering.TheVariants.{Less, Equal, Greater}
use Rattle.std.specs.Ordering.{is_lt, is_eq, nat_cmp, ordering_index}
use Rattle.std.specs.Cmp.Lexicographic.{slice_cmp, nat_list_cmp_total, same_text}
use Rattle.std.specs.List.Sorted.{IsNonDecreasingBy, IsPartitionPoint}
use Rattle.std.specs.Prelude.{slice_get}
use Rattle.std.specs.Str.{bytes_eq}
use Rattle.std.proofs.lemmas.List.Sorted.{searchable_from_sorted}
use Rattle.std.proofs.lemmas.Bool.{and_parts, cases_Bool, cases_lt, cond_both, not-true}
use Rattle.std.proofs.lemmas.Slice.Eq.{bytes_eq-Decides}
use Rattle.std.proofs.lemmas.Map.Text.{is_eq-slice_cmp}
use denote.Enum.Bare.{sameb, same_true}
use Rattle.ss_lex.specs.contracts.word.Word.{the_type}
use Rattle.ss_lex.specs.declared.word.Word.{Word}
use Rattle.ss_lex.specs.Parts.{part, part_for}
use Rattle.ss_lex.specs.Words.{reserved, word_in_table}

-- a row of the code's table, and of the definition's
abbrev pub WordRow : Type 0
WordRow = Bor (List ℕ) × Word

abbrev pub row_of : WordRow → List ℕ × Word
row_of row = (row.0.now, row.1)

abbrev pub order : List ℕ → WordRow → Ordering
order spelling row = slice_cmp nat_cmp row.0.now spelling

-- what holds of each part holds of that for a byte
in_each : (P : List (List ℕ × Word) → Type 0) → P (part 0 29) → P (part 29 42) → P (part 71 37) → P (part 108 33) → (first : ℕ) → P (part_for first)
in_each P a b c d first =
    cond_both (nat_lt first 69) _ _ P (λ _. a)
    (λ _. cond_both (nat_lt first 77) _ _ P (λ _. b)
    (λ _. cond_both (nat_lt first 83) _ _ P (λ _. c) (λ _. d)))

-- ---- the rows rise

rises : List (List ℕ × Word) → Bool
rises [] = true
rises (a ∷ []) = true
rises (a ∷ b ∷ rows) = not (is_lt (slice_cmp nat_cmp b.0 a.0)) && rises (b ∷ rows)

rises_for : (first : ℕ) → rises (part_for first) ≡ true
unfolding reserved rises
rises_for = in_each (λ rows. rises rows ≡ true) refl refl refl refl

rows_rise : (rows : List WordRow) → rises (map row_of rows) ≡ true → (k : ℕ) (d : WordRow) → suc k < length rows → is_lt (slice_cmp nat_cmp (get_or rows (suc k) d).0.now (get_or rows k d).0.now) ≡ false
unfolding rises
rows_rise [] e k d lt = absurd (omega arith)
rows_rise (a ∷ []) e k d lt = absurd (omega arith)
rows_rise (a ∷ b ∷ rows) e zero d lt = not-true _ (and_parts _ _ e).0
rows_rise (a ∷ b ∷ rows) e (suc k) d lt = rows_rise (b ∷ rows) (and_parts _ _ e).1 k d (omega arith)

pub searchable : (rows : List WordRow) (first : ℕ) (spelling : List ℕ) → map row_of rows ≡ part_for first → IsNonDecreasingBy (λ row. ordering_index (order spelling row)) rows
searchable rows first spelling e =
    searchable_from_sorted nat_list_cmp_total (λ (row : WordRow). row.0.now) rows spelling
    (λ k d low high. let n : k + 1 ≡ suc k = omega arith in subst (λ m. is_lt (slice_cmp nat_cmp (get_or rows m d).0.now (get_or rows k d).0.now) ≡ false) (sym n) (rows_rise rows (ap rises e ∙ rises_for first) k d (omega arith)))

-- ---- a row that is found

by_flag : (o : Ordering) → is_eq o ≡ true → o ≡ Equal
by_flag Equal e = refl
by_flag _ e = absurd cc

equal_text : (a b : List ℕ) → slice_cmp nat_cmp a b ≡ Equal → a ≡ b
equal_text a b e = same_text a b (sym (sym (is_eq-slice_cmp a b) ∙ ap is_eq e))

is_found : Option Word → Word → Bool
is_found None word = false
is_found (Some found) word = sameb the_type found word

each_found : (List ℕ → Option Word) → List (List ℕ × Word) → Bool
each_found find [] = true
each_found find (row ∷ rows) = is_found (find row.0) row.1 && each_found find rows

found_for : (first : ℕ) → each_found (word_in_table reserved) (part_for first) ≡ true
unfolding reserved each_found is_found
found_for = in_each (λ rows. each_found (word_in_table reserved) rows ≡ true) refl refl refl refl

found_true : (found : Option Word) (word : Word) → is_found found word ≡ true → found ≡ Some word
unfolding is_found
found_true None word e = absurd cc
found_true (Some found) word e = ap (λ w. Some w) (same_true the_type (search rules) found word e)

row_found : (find : List ℕ → Option Word) (rows : List WordRow) → each_found find (map row_of rows) ≡ true → (i : ℕ) (d : WordRow) → i < length rows → find (get_or rows i d).0.now ≡ Some (get_or rows i d).1
unfolding each_found
row_found find [] e i d lt = absurd (omega arith)
row_found find (row ∷ rows) e zero d lt = found_true _ _ (and_parts _ _ e).0
row_found find (row ∷ rows) e (suc i) d lt = row_found find rows (and_parts _ _ e).1 i d (omega arith)

pub found_at : (rows : List WordRow) (first : ℕ) (spelling : List ℕ) (i : ℕ) (d : WordRow) → map row_of rows ≡ part_for first → i < length rows → order spelling (get_or rows i d) ≡ Equal → Some (get_or rows i d).1 ≡ word_in_table reserved spelling
found_at rows first spelling i d e lt here =
    let found = row_found (word_in_table reserved) rows (ap (each_found (word_in_table reserved)) e ∙ found_for first) i d lt in
    sym found ∙ ap (word_in_table reserved) (equal_text (get_or rows i d).0.now spelling here)

-- ---- a spelling that is not there

pub none_empty : (spelling : List ℕ) → None ≡ slice_get spelling 0 → None ≡ word_in_table reserved spelling
unfolding reserved
none_empty [] e = refl
none_empty (b ∷ bs) e = absurd cc

none_equal : (rows : List WordRow) (spelling : List ℕ) → ((k : ℕ) (d : WordRow) → k < length rows → order spelling (get_or rows k d) ≡ Equal → ⊥) → None ≡ word_in_table (map row_of rows) spelling
none_equal [] spelling none = refl
none_equal (row ∷ rows) spelling none =
    let rest = none_equal rows spelling (λ k d lt e. none (suc k) d (omega arith) e) in
    elim (cases_Bool (bytes_eq row.0.now spelling)) [
      | inl t ↦ absurd (none 0 row (omega arith) (by_flag (slice_cmp nat_cmp row.0.now spelling) (is_eq-slice_cmp row.0.now spelling ∙ t)))
      | inr t ↦ rw t rest
    ]

-- the word with this spelling in the part for its first byte
abbrev own : List ℕ → Option Word
own [] = None
own (b ∷ bs) = word_in_table (part_for b) (b ∷ bs)

each_own : each_found own reserved ≡ true
unfolding reserved each_found is_found
each_own = refl

found_by : (find : List ℕ → Option Word) (rows : List (List ℕ × Word)) → each_found find rows ≡ true → (spelling : List ℕ) (word : Word) → word_in_table rows spelling ≡ Some word → find spelling ≡ Some word
unfolding each_found
found_by find [] e spelling word h = absurd cc
found_by find (row ∷ rows) e spelling word h =
    elim (cases_Bool (bytes_eq row.0 spelling)) [
      | inl t ↦
          let here : Some row.1 ≡ Some word = rw t at h in
          ap find (sym ((bytes_eq-Decides row.0 spelling).0 t)) ∙ found_true _ _ (and_parts _ _ e).0 ∙ here
      | inr f ↦ found_by find rows (and_parts _ _ e).1 spelling word (rw f at h)
    ]

none_reserved : (first : ℕ) (spelling : List ℕ) (o : Option Word) → Some first ≡ slice_get spelling 0 → word_in_table reserved spelling ≡ o → None ≡ word_in_table (part_for first) spelling → None ≡ o
none_reserved first spelling None begun e none = refl
none_reserved first [] (Some word) begun e none = absurd cc
none_reserved first (b ∷ bs) (Some word) begun e none =
    let same : first ≡ b = cc in
    none ∙ ap (λ f. word_in_table (part_for f) (b ∷ bs)) same ∙ found_by own reserved each_own (b ∷ bs) word e

pub not_found : (rows : List WordRow) (first : ℕ) (spelling : List ℕ) (i : ℕ) → map row_of rows ≡ part_for first → Some first ≡ slice_get spelling 0 → IsPartitionPoint (λ row. order spelling row ≡ Less) (λ row. order spelling row ≡ Greater) rows i → None ≡ word_in_table reserved spelling
not_found rows first spelling i e begun (low, high) =
    none_reserved first spelling _ begun refl
    (none_equal rows spelling (λ k d lt here. elim (cases_lt k i) [
      | inl h ↦ (let p = low k d (omega arith) h in absurd cc)
      | inr h ↦ (let p = high k d h lt in absurd cc)
    ])
    ∙ ap (λ table. word_in_table table spelling) e)
