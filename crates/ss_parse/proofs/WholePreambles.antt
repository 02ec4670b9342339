-- Whole preambles: what is read is spelled, and what is spelled is read.
use Rattle.std.proofs.Common.{◌≡◌, ℕ, ◌<◌, true, false, ◌||◌, ◌&&◌, List, [], ◌∷◌, ◌++◌, length, map, Option, None, Result, Ok, Err, refl, sym, ap, subst, ◌∙◌, arith, inl, inr, ◌⊎◌}
use Rattle.std.proofs.lemmas.List.{append-nil, map_push}
use Rattle.ss_parse.proofs.Common.{by_word_reads, ClassKind, closed_reads, continues_never, expect_reads, first_less, Form, Item, item_marked, item_of, Line, maybe_list_reads, ParseFailure, ParseFault, plain_form, PreambleTree, Reads, Token, Word}
use Rattle.ss_lex.specs.declared.word.Word.TheVariants as words
use Rattle.ss_tree.specs.declared.preamble.PreambleStatement.{PreambleStatement}
use Rattle.ss_parse_expressions.specs.declared.failure.ParseFailure.TheVariants as failures
use Rattle.ss_parse_expressions.specs.Shapes.{Shape, ◌▷◌, Word_is}
use Rattle.ss_parse_expressions.specs.Reading.{◌>>=◌, HasFailedReading, word, begins}
use Rattle.ss_parse_expressions.proofs.Rows.{Is_row, row_reads, row_enough, with_front, with_front_more}
use Rattle.ss_parse.specs.SpelledPreambles.{preamble_line, preamble_first, Preamble_rest, Preamble_from, group_after, Preambles_are, Whole_preamble}
use Rattle.ss_parse.specs.ReadPreambles.{preamble_at, preamble_word, begins_preamble, preamble_in, preambles, whole_preamble}
use Rattle.ss_parse.proofs.Orders.{preamble_more, continues_preamble}
use Rattle.ss_parse.proofs.Forms.{preamble_known, Pre_is, word_law}

module _ (k : ℕ) where
  -- ---- by the first word

  form_law : (group : Option ClassKind) (line : Line) (w : Word) → Form k w (preamble_at group line w) (preamble_at group line w) (Pre_is group line w) continues_preamble
  form_law group line w = plain_form w (word_law k group line w)

  preamble_reads : (group : Option ClassKind) → Reads k (preamble_in group) (preamble_in group) (Preamble_from group) continues_preamble
  preamble_reads group = by_word_reads preamble_line preamble_first (Preamble_rest group) (form_law group)

  preamble_less : (group : Option ClassKind) (ts : List Token) (x : PreambleTree) (rest : List Token) → Preamble_from group x ts rest → length rest < length ts
  preamble_less group ts x rest s = first_less preamble_line preamble_first (Preamble_rest group) (form_law group) ts x rest s

  preamble_begins : (group : Option ClassKind) (ts : List Token) (x : PreambleTree) (rest : List Token) → Preamble_from group x ts rest → begins_preamble ts ≡ true
  preamble_begins group ts x rest (at, (m, (span, line, e), s)) = ap begins_preamble e ∙ preamble_known x

  word_stops : (w : Word) → (preamble_word w && preamble_more w) ≡ false
  word_stops words.And = refl
  word_stops _ = refl

  preamble_stops : (group : Option ClassKind) (ts : List Token) (x : PreambleTree) (rest : List Token) → Preamble_from group x ts rest → continues_preamble ts ≡ false
  preamble_stops group ts x rest (at, (m, (span, line, e), s)) = ap continues_preamble e ∙ subst (λ b. (b && preamble_more (preamble_first x)) ≡ false) (preamble_known x) (word_stops (preamble_first x))

  -- ---- the statements of a preamble

  preamble_item : (group : Option ClassKind) → Item k begins_preamble (preamble_in group) (preamble_in group) (Preamble_from group) continues_preamble
  preamble_item group = item_of begins_preamble (preamble_reads group) (preamble_begins group) (preamble_less group)

  preambles_row : Is_row Preamble_from group_after Preambles_are
  preambles_row = record { nil = λ group ts. refl; none = λ group ts rest s. s; cons = λ group x xs ts rest s. s; parts = λ group x xs ts rest s. s }

  preambles_reads : (group : Option ClassKind) → Reads k (preambles group) (preambles group) (Preambles_are group) (λ ts. begins_preamble ts || continues_preamble ts)
  unfolding preambles
  preambles_reads group = row_reads preamble_item preambles_row preamble_stops group

  -- the words and statements of a preamble
  abbrev Preamble_words : List PreambleTree → Shape
  Preamble_words xs = Word_is words.Preamble ▷ Preambles_are None xs ▷ Word_is words.End

  whole_to : (xs : List PreambleTree) (ts rest : List Token) → Preamble_words xs ts rest → Whole_preamble xs ts rest
  whole_to [] ts rest (a, w, (b, e, end)) = inr (a, w, subst (λ r. Word_is words.End r rest) (sym e) end)
  whole_to (x ∷ xs) ts rest s = s

  whole_from : (xs : List PreambleTree) (ts rest : List Token) → Whole_preamble xs ts rest → ((xs ≡ []) × (ts ≡ rest)) ⊎ Preamble_words xs ts rest
  whole_from [] ts rest (inl e) = inl (refl, e)
  whole_from [] ts rest (inr (a, w, end)) = inr (a, w, (a, refl, end))
  whole_from (x ∷ xs) ts rest s = inr s

  pub whole_preamble_reads : Reads k whole_preamble whole_preamble Whole_preamble (λ ts. begins (word words.Preamble) ts || continues_never ts)
  unfolding whole_preamble
  whole_preamble_reads =
      maybe_list_reads (item_marked (word words.Preamble) (closed_reads (preambles_reads None) (expect_reads k (word words.End)) (λ ts rest s stop. ap (λ (r : List Token). begins_preamble r || continues_preamble r) s.2)))
      whole_to whole_from (λ ts. inl refl)

-- ---- the loop over the statements of a preamble

pub preamble_shrinks : (group : Option ClassKind) (ts : List Token) (x : PreambleTree) (rest : List Token) → preamble_in group ts ≡ Ok (x, rest) → length rest < length ts
preamble_shrinks group ts x rest e = preamble_less 0 group ts x rest ((preamble_reads 0 group).sound ts x rest e)

pub preambles_more : (group : Option ClassKind) (ts rest : List Token) (x : PreambleTree) → begins_preamble ts ≡ true → preamble_in group ts ≡ Ok (x, rest) → preambles group ts ≡ (preambles (group_after group x) rest >>= λ xs. Ok (x ∷ xs.0, xs.1))
unfolding preambles
preambles_more group [] rest x started e = absurd cc
preambles_more group (t ∷ ts) rest x started e =
    let small : length rest < length (t ∷ ts) = preamble_shrinks group (t ∷ ts) x rest e in
    let same = row_enough begins_preamble preamble_in group_after refl (λ g us y left there read. preamble_shrinks g us y left read) (length ts) (length rest) (group_after group x) rest (omega arith) (omega arith) in
    rw (started, e, same) refl

pub preambles_fail : (group : Option ClassKind) (ts : List Token) (f : ParseFault) → begins_preamble ts ≡ true → preamble_in group ts ≡ Err f → preambles group ts ≡ Err f
unfolding preambles
preambles_fail group [] f started e = absurd cc
preambles_fail group (t ∷ ts) f started e = rw (started, e) refl

pub preambles_done : (group : Option ClassKind) (ts : List Token) → begins_preamble ts ≡ false → preambles group ts ≡ Ok ([], ts)
unfolding preambles
preambles_done group [] e = refl
preambles_done group (t ∷ ts) e = rw e refl

pub preamble_grows : (view : PreambleStatement → PreambleTree) (old new : List PreambleStatement) (x : PreambleStatement) (group group' : Option ClassKind) (ts rest : List Token) (total : Result (List PreambleTree × List Token) ParseFault) → new ≡ old ++ x ∷ [] → begins_preamble ts ≡ true → preamble_in group ts ≡ Ok (view x, rest) → group' ≡ group_after group (view x) → with_front (map view old) (preambles group ts) ≡ total → with_front (map view new) (preambles group' rest) ≡ total
preamble_grows view old new x group group' ts rest total pushed started e goes so_far =
    let all : map view new ≡ map view old ++ view x ∷ [] = rw pushed (map_push view old x) in
    rw (all, goes) (with_front_more (map view old) (view x) (preambles (group_after group (view x)) rest)) ∙ ap (with_front (map view old)) (sym (preambles_more group ts rest (view x) started e)) ∙ so_far

pub preamble_ends : (view : PreambleStatement → PreambleTree) (read : List PreambleStatement) (group : Option ClassKind) (ts : List Token) (total : Result (List PreambleTree × List Token) ParseFault) → begins_preamble ts ≡ false → with_front (map view read) (preambles group ts) ≡ total → total ≡ Ok (map view read, ts)
preamble_ends view read group ts total over so_far = sym so_far ∙ ap (with_front (map view read)) (preambles_done group ts over) ∙ ap (λ (ys : List PreambleTree). Ok (ys, ts)) (append-nil (map view read))

pub preamble_breaks : (view : PreambleStatement → PreambleTree) (read : List PreambleStatement) (group : Option ClassKind) (ts : List Token) (e : ParseFailure) (total : Result (List PreambleTree × List Token) ParseFault) → begins_preamble ts ≡ true → HasFailedReading e (preamble_in group ts) → with_front (map view read) (preambles group ts) ≡ total → HasFailedReading e total
preamble_breaks view read group ts failures.Memory total started f so_far = tt
preamble_breaks view read group ts (failures.Refused f left) total started e so_far = sym so_far ∙ ap (with_front (map view read)) (preambles_fail group ts f started e)
