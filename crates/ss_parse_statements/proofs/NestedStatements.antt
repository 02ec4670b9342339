-- Statements with others in them: what is read is spelled, and what is spelled is read.
use Rattle.std.proofs.Common.{◌≡◌, ℕ, suc, ◌<◌, ◌≤◌, Bool, true, false, ◌||◌, List, [], ◌∷◌, length, refl, sym, ap, subst, ◌∙◌, arith, inl, inr, ◌⊎◌}
use Rattle.ss_parse_statements.proofs.Common.{GuardKind, Line, mark_skips, openers, rows_reads, Span, Token, token, Word}
use Rattle.ss_lex.specs.declared.word.Word.TheVariants as words
use Rattle.ss_lex.specs.declared.token.TokenKind.TheVariants as kinds
use Rattle.ss_base.specs.declared.words.GuardKind.TheVariants as guards
use Rattle.ss_tree.specs.declared.statement.FindOutcome.{FindOutcome}
use Rattle.ss_tree.specs.Tree.{ConditionTree, HeadTree, LoopHeadTree, for_head, guarded, StatementTree, if_statement, loop_statement, find_statement, find_if_statement, StatementRow, no_statement, and_statement, statement_row}
use Rattle.ss_parse_expressions.specs.Shapes.{Shape, ◌▷◌, nothing, either_shape, optional, provided, noise, Word_for, each_in_turn}
use Rattle.ss_parse_expressions.specs.SpelledConditions.{guard_word, Head_rest}
use Rattle.ss_parse_expressions.specs.WordTables.{guard_of, outcome_of}
use Rattle.ss_parse_expressions.specs.Reading.{word, kind_of_mark, is, is_some, begins, after_dropped, closed, choose_reader, comma, skip_comma}
use Rattle.ss_parse_expressions.specs.ReadWords.{fail, begins_noisy, expect_noisy}
use Rattle.ss_parse_expressions.specs.ReadHeads.{begins_guard, guard_tree}
use Rattle.ss_parse_expressions.proofs.Tools.{chosen, or_false}
use Rattle.ss_parse_expressions.proofs.Depth.{upto_if, upto_same, bounded_if}
use Rattle.ss_parse_expressions.proofs.ReaderLaws.{Reads, Item, continues_never, Made, item_of, seq_reads, following_reads, marked_reads, closed_reads, expect_reads, bind_reads, apply_reads, made_reads, reshaped_reads, fewer_reads, optional_reads, maybe_list_reads, noisy_item, done_reads, either_reads}
use Rattle.ss_parse_expressions.proofs.WordLaws.{word_in_reads, noisy_mark_reads, noisy_begins, noisy_less, noisy_stops}
use Rattle.ss_parse_expressions.proofs.ConditionLaws.{In_condition, continues_condition, condition_in_reads}
use Rattle.ss_parse_expressions.proofs.HeadLaws.{continues_head, continues_for, continues_guarded, for_reads, Guarded_parts, guarded_reads}
use Rattle.ss_parse_statements.specs.SpelledStatements.{noisy, Find_words, opening_word, May_be_governed, Statement_from, Statements_are, Else_part, Branches, Governed}
use Rattle.ss_parse_statements.specs.ReadStatements.{form_word, begins_form, begins_statement, begins_find_if, statements_with, else_with, branches_with, do_with, governed_with, body_with, find_words, if_with, loop_with, find_if_with, found_with, find_with, for_with, guarded_with, nested_word, nested_at, statement_in}
use Rattle.ss_parse_statements.proofs.StatementParts.{continues_simple}
use Rattle.ss_parse_statements.proofs.SimpleLaws.{form_first, Form_is}
use Rattle.ss_parse_statements.proofs.Beginnings.{both_false, word_no_other, form_begins, form_no_comma, false_past_comma, word_no_condition, continues_statement, head_no_if, statement_stops, head_guards, may_govern, governed_first, guard_same, no_phrase}

-- ---- rows as lists

statements_to : (n : ℕ) (xs : List StatementTree) (ts rest : List Token) → each_in_turn (λ x. noise ▷ Statement_from x n) xs ts rest → Statements_are (statement_row xs) n ts rest
statements_to n [] ts rest s = s
statements_to n (x ∷ xs) ts rest (a, one, more) = (a, one, statements_to n xs a rest more)

statements_from : (n : ℕ) (row : StatementRow) (ts rest : List Token) → Statements_are row n ts rest → (xs : List StatementTree) × (statement_row xs ≡ row) × each_in_turn (λ x. noise ▷ Statement_from x n) xs ts rest
statements_from n no_statement ts rest s = ([], refl, s)
statements_from n (and_statement x row) ts rest (a, one, more) =
    let found = statements_from n row a rest more in
    (x ∷ found.0, ap (and_statement x) found.1, (a, one, found.2))

-- ---- statements in statements, given the law of the inner ones

module _ (k j : ℕ) (le : k ≤ j) (inner : Reads (suc k) (statement_in (suc k)) (statement_in (suc j)) (λ x. Statement_from x k) continues_statement) (inner_less : (ts : List Token) (x : StatementTree) (rest : List Token) → Statement_from x k ts rest → length rest < length ts) where
  abbrev Noisy_statement : StatementTree → Shape
  Noisy_statement x = noise ▷ Statement_from x k

  abbrev continues_statements : List Token → Bool
  continues_statements ts = begins_statement ts || continues_statement ts

  inner_item : Item (suc k) begins_statement (λ r. statement_in (suc k) (skip_comma r)) (λ r. statement_in (suc j) (skip_comma r)) Noisy_statement continues_statement
  inner_item = noisy_item inner begins_form (λ ts x rest s. form_begins k x ts rest s) form_no_comma inner_less

  pub statements_reads : Reads (suc k) (statements_with (statement_in (suc k))) (statements_with (statement_in (suc j))) (each_in_turn Noisy_statement) continues_statements
  statements_reads = rows_reads inner_item (λ ts x rest s. statement_stops k x ts rest s)

  -- ---- ELSE and ALWAYS

  abbrev Else_words : List StatementTree → Shape
  Else_words xs = noisy words.Else ▷ each_in_turn Noisy_statement xs

  abbrev Else_list : List StatementTree → Shape
  Else_list [] = optional (noisy words.Else)
  Else_list (x ∷ xs) = Else_words (x ∷ xs)

  else_reads : Reads (suc k) (else_with (statement_in (suc k))) (else_with (statement_in (suc j))) Else_list (λ ts. begins_noisy (word words.Else) ts || continues_statements ts)
  else_reads = maybe_list_reads item to from (λ ts. inl refl)
    where
      item : Item (suc k) (begins_noisy (word words.Else)) (after_dropped (expect_noisy (word words.Else)) (statements_with (statement_in (suc k)))) (after_dropped (expect_noisy (word words.Else)) (statements_with (statement_in (suc j)))) Else_words continues_statements
      item = item_of (begins_noisy (word words.Else)) (following_reads (noisy_mark_reads (suc k) (word words.Else) refl) statements_reads (λ xs ts rest s stop. refl)) (λ ts xs rest s. noisy_begins (word words.Else) refl ts s.0 s.1) (λ ts xs rest s. omega (arith, noisy_less (word words.Else) ts s.0 s.1, statements_reads.shorter s.0 xs rest s.2))

      to : (xs : List StatementTree) (ts rest : List Token) → Else_words xs ts rest → Else_list xs ts rest
      to [] ts rest (a, w, e) = inr (subst (λ (r : List Token). noisy words.Else ts r) e w)
      to (x ∷ xs) ts rest s = s

      from : (xs : List StatementTree) (ts rest : List Token) → Else_list xs ts rest → ((xs ≡ []) × (ts ≡ rest)) ⊎ Else_words xs ts rest
      from [] ts rest (inl e) = inl (refl, e)
      from [] ts rest (inr w) = inr (rest, w, refl)
      from (x ∷ xs) ts rest s = inr s

  else_stops : (ys : List StatementTree) (ts rest : List Token) → Else_list ys ts rest → (begins_noisy (word words.Else) rest || continues_statements rest) ≡ false → continues_statements ts ≡ false
  else_stops [] ts rest (inl e) stop = ap continues_statements e ∙ (or_false (begins_noisy (word words.Else) rest) (continues_statements rest) stop).1
  else_stops [] ts rest (inr w) stop = noisy_stops continues_statements (word words.Else) (λ span line ts. refl) (λ span span' line line' ts. refl) ts rest w
  else_stops (y ∷ ys) ts rest (a, w, s) stop = noisy_stops continues_statements (word words.Else) (λ span line ts. refl) (λ span span' line line' ts. refl) ts a w

  abbrev Branch_lists : List StatementTree × List StatementTree → Shape
  Branch_lists p = (each_in_turn Noisy_statement p.0 ▷ Else_list p.1) ▷ noisy words.Always

  else_to : (ys : List StatementTree) (ts rest : List Token) → Else_list ys ts rest → Else_part (statement_row ys) k ts rest
  else_to [] ts rest s = s
  else_to (y ∷ ys) ts rest (a, w, (b, one, more)) = (a, w, (b, one, statements_to k ys b rest more))

  else_from : (row : StatementRow) (ts rest : List Token) → Else_part row k ts rest → (ys : List StatementTree) × (statement_row ys ≡ row) × Else_list ys ts rest
  else_from no_statement ts rest s = ([], refl, s)
  else_from (and_statement y row) ts rest (a, w, (b, one, more)) =
      let found = statements_from k row b rest more in
      (y ∷ found.0, ap (and_statement y) found.1, (a, w, (b, one, found.2)))

  abbrev Branches_are : StatementRow × StatementRow → Shape
  Branches_are p = Branches p.0 p.1 k

  branches_to : (p : List StatementTree × List StatementTree) (ts rest : List Token) → Branch_lists p ts rest → Branches_are (statement_row p.0, statement_row p.1) ts rest
  branches_to (xs, ys) ts rest (b, (a, s, t), w) = (b, (a, statements_to k xs ts a s, else_to ys a b t), w)

  branches_from : (q : StatementRow × StatementRow) (ts rest : List Token) → Branches_are q ts rest → (p : List StatementTree × List StatementTree) × ((statement_row p.0, statement_row p.1) ≡ q) × Branch_lists p ts rest
  branches_from (then, otherwise) ts rest (b, (a, s, t), w) =
      let xs = statements_from k then ts a s in
      let ys = else_from otherwise a b t in
      ((xs.0, ys.0), (λ i. (xs.1 i, ys.1 i)), (b, (a, xs.2, ys.2), w))

  branches_reads : Reads (suc k) (branches_with (statement_in (suc k))) (branches_with (statement_in (suc j))) Branches_are continues_never
  unfolding branches_with
  branches_reads =
      apply_reads (closed_reads (seq_reads statements_reads else_reads else_stops) (noisy_mark_reads (suc k) (word words.Always) refl) (λ ts rest s stop. noisy_stops (λ (r : List Token). begins_noisy (word words.Else) r || continues_statements r) (word words.Always) (λ span line ts. refl) (λ span span' line line' ts. refl) ts rest s))
      (λ p. (statement_row p.0, statement_row p.1)) Branches_are branches_to branches_from

  -- what is false of commas, words of statements, ELSE and ALWAYS is false of what follows a condition
  false_at_branches : (c : List Token → Bool) → ((span : Span) (line : Line) (ts : List Token) → c (token (kind_of_mark comma) span line ∷ ts) ≡ false) → ((w : Word) (span : Span) (line : Line) (ts : List Token) → form_word w ≡ true → c (token (kinds.Word w) span line ∷ ts) ≡ false) → ((span : Span) (line : Line) (ts : List Token) → c (token (kinds.Word words.Else) span line ∷ ts) ≡ false) → ((span : Span) (line : Line) (ts : List Token) → c (token (kinds.Word words.Always) span line ∷ ts) ≡ false) → (p : StatementRow × StatementRow) (ts rest : List Token) → Branches_are p ts rest → c ts ≡ false
  false_at_branches c on_comma on_word on_else on_always (and_statement x row, e) ts rest (b, (a, (m, one, more), t), w) = false_past_comma c (λ span span' line line' v r begins. on_comma span line _) on_word k x ts m one
  false_at_branches c on_comma on_word on_else on_always (no_statement, and_statement y row) ts rest (b, (a, e, (m, w, more)), v) = ap c e ∙ noisy_stops c (word words.Else) on_else (λ span span' line line' ts. on_comma span line _) a m w
  false_at_branches c on_comma on_word on_else on_always (no_statement, no_statement) ts rest (b, (a, e, inr w), v) = ap c e ∙ noisy_stops c (word words.Else) on_else (λ span span' line line' ts. on_comma span line _) a b w
  false_at_branches c on_comma on_word on_else on_always (no_statement, no_statement) ts rest (b, (a, e, inl f), v) = ap c (e ∙ f) ∙ noisy_stops c (word words.Always) on_always (λ span span' line line' ts. on_comma span line _) b rest v

  branches_no_condition : (p : StatementRow × StatementRow) (ts rest : List Token) → Branches_are p ts rest → continues_condition ts ≡ false
  branches_no_condition p ts rest s = false_at_branches continues_condition (λ span line ts. refl) word_no_condition (λ span line ts. refl) (λ span line ts. refl) p ts rest s

  -- ---- IF

  abbrev If_parts : ConditionTree × (StatementRow × StatementRow) → Shape
  If_parts p = In_condition (suc k) p.0 ▷ Branches_are p.1

  if_from : (line : Line) (x : StatementTree) (ts rest : List Token) → Form_is (suc k) line words.If x ts rest → Made (λ p. if_statement line p.0 p.1.0 p.1.1) If_parts x ts rest
  if_from line (if_statement l c t e) ts rest (at, w, s) = ((c, (t, e)), ap (λ (l : Line). if_statement l c t e) (sym at), s)
  if_from line (loop_statement l head body) ts rest (at, w, s) = absurd (head_no_if head w)
  if_from line _ ts rest (at, w, s) = absurd cc

  if_reads : (line : Line) → Reads (suc k) (if_with line (suc k) (statement_in (suc k))) (if_with line (suc j) (statement_in (suc j))) (Form_is (suc k) line words.If) continues_never
  unfolding if_with
  if_reads line = apply_reads (seq_reads (condition_in_reads (suc k) (suc j) (omega arith)) branches_reads (λ p ts rest s stop. branches_no_condition p ts rest s)) (λ p. if_statement line p.0 p.1.0 p.1.1) (Form_is (suc k) line words.If) (λ p ts rest s. (refl, refl, s)) (if_from line)

  -- ---- what a loop repeats

  abbrev Do_list : List StatementTree → Shape
  Do_list xs = noisy words.Do ▷ each_in_turn Noisy_statement xs ▷ noisy words.Loop

  do_item : Item (suc k) (begins_noisy (word words.Do)) (do_with (statement_in (suc k))) (do_with (statement_in (suc j))) Do_list continues_never
  unfolding do_with
  do_item =
      item_of (begins_noisy (word words.Do)) (following_reads (noisy_mark_reads (suc k) (word words.Do) refl) between (λ xs ts rest s stop. refl)) (λ ts xs rest s. noisy_begins (word words.Do) refl ts s.0 s.1)
      (λ ts xs rest s. omega (arith, noisy_less (word words.Do) ts s.0 s.1, between.shorter s.0 xs rest s.2))
    where
      between : Reads (suc k) (closed (statements_with (statement_in (suc k))) (expect_noisy (word words.Loop))) (closed (statements_with (statement_in (suc j))) (expect_noisy (word words.Loop))) (λ xs. each_in_turn Noisy_statement xs ▷ noisy words.Loop) continues_never
      between = closed_reads statements_reads (noisy_mark_reads (suc k) (word words.Loop) refl) (λ ts rest s stop. noisy_stops continues_statements (word words.Loop) (λ span line ts. refl) (λ span span' line line' ts. refl) ts rest s)

  abbrev Governed_one : StatementTree → Shape
  Governed_one x = provided (May_be_governed x) (Statement_from x k)

  governed_guard : (x : StatementTree) (ts rest : List Token) → Statement_from x k ts rest → begins_guard ts ≡ is_some (guard_of (opening_word x))
  governed_guard x ts rest (begins_at, (m, (span, line, e), s)) = ap begins_guard e

  one_reads : Reads (suc k) (choose_reader begins_guard fail (statement_in (suc k))) (choose_reader begins_guard fail (statement_in (suc j))) Governed_one continues_statement
  one_reads = record {
    sound = λ ts x rest e.
        elim (chosen (begins_guard ts) _ _ _ e) [
          | inl p ↦ let no = p.1 in absurd cc
          | inr p ↦ let s = inner.sound ts x rest p.1 in (may_govern k x s.1.0 rest (sym (governed_guard x ts rest s) ∙ p.0) s.1.2, s)
        ];
    complete = λ ts x rest s stop.
        let none : begins_guard ts ≡ false = governed_guard x ts rest s.1 ∙ governed_first k x s.1.1.0 rest s.0 s.1.1.2 in
        rw none (inner.complete ts x rest s.1 stop);
    shorter = λ ts x rest s. inner.shorter ts x rest s.1;
    under = λ ts. upto_if (begins_guard ts) _ _ _ _ (upto_same _) (inner.under ts);
    opening = λ ts. bounded_if (suc k) (openers ts) (begins_guard ts) _ _ tt (inner.opening ts);
  }

  abbrev Governed_list : List StatementTree → Shape
  Governed_list = Made (λ x. x ∷ []) (λ x. noise ▷ Governed_one x)

  governed_reads : Reads (suc k) (governed_with (statement_in (suc k))) (governed_with (statement_in (suc j))) Governed_list continues_statement
  unfolding governed_with
  governed_reads = made_reads (optional_reads one_reads comma (λ x ts rest s. form_no_comma ts (form_begins k x ts rest s.1))) (λ x. x ∷ [])

  abbrev Body_list : List StatementTree → Shape
  Body_list xs = either_shape (Do_list xs) (Governed_list xs)

  false_at_governed : (c : List Token → Bool) → ((span span' : Span) (line line' : Line) (w : Word) (ts : List Token) → form_word w ≡ true → is_some (guard_of w) ≡ false → c (token (kind_of_mark comma) span line ∷ token (kinds.Word w) span' line' ∷ ts) ≡ false) → ((w : Word) (span : Span) (line : Line) (ts : List Token) → form_word w ≡ true → is_some (guard_of w) ≡ false → c (token (kinds.Word w) span line ∷ ts) ≡ false) → (x : StatementTree) (ts rest : List Token) → (noise ▷ Governed_one x) ts rest → c ts ≡ false
  false_at_governed c on_comma on_word x ts rest (a, inr (span, line, e), (may, (begins_at, (m, (span', line', f), s)))) = ap c e ∙ ap (λ (r : List Token). c (token (kind_of_mark comma) span line ∷ r)) f ∙ on_comma span span' line line' (opening_word x) m (form_first x) (governed_first k x m rest may s)
  false_at_governed c on_comma on_word x ts rest (a, inl e, (may, (begins_at, (m, (span, line, f), s)))) = ap c (e ∙ f) ∙ on_word (opening_word x) span line m (form_first x) (governed_first k x m rest may s)

  governed_no_do : (xs : List StatementTree) (ts rest : List Token) → Governed_list xs ts rest → begins_noisy (word words.Do) ts ≡ false
  governed_no_do xs ts rest (x, is, s) = false_at_governed (begins_noisy (word words.Do)) (λ span span' line line' w r e u. (word_no_other w e).5) (λ w span line r e u. (word_no_other w e).5) x ts rest s

  abbrev Body_is : StatementRow → Shape
  Body_is row = either_shape (noisy words.Do ▷ Statements_are row k ▷ noisy words.Loop) (Governed row k)

  body_to : (xs : List StatementTree) (ts rest : List Token) → Body_list xs ts rest → Body_is (statement_row xs) ts rest
  body_to xs ts rest (inl (a, w, (b, s, v))) = inl (a, w, (b, statements_to k xs a b s, v))
  body_to xs ts rest (inr (x, is, (a, n, (may, s)))) = inr (subst (λ xs. Governed (statement_row xs) k ts rest) is (may, (a, n, s)))

  governed_from : (row : StatementRow) (ts rest : List Token) → Governed row k ts rest → (xs : List StatementTree) × (statement_row xs ≡ row) × Governed_list xs ts rest
  governed_from (and_statement x no_statement) ts rest (may, (a, n, s)) = (x ∷ [], refl, (x, refl, (a, n, (may, s))))
  governed_from _ ts rest s = absurd s

  body_from : (row : StatementRow) (ts rest : List Token) → Body_is row ts rest → (xs : List StatementTree) × (statement_row xs ≡ row) × Body_list xs ts rest
  body_from row ts rest (inl (a, w, (b, s, v))) = let found = statements_from k row a b s in (found.0, found.1, inl (a, w, (b, found.2, v)))
  body_from row ts rest (inr s) = let found = governed_from row ts rest s in (found.0, found.1, inr found.2)

  body_reads : Reads (suc k) (body_with (statement_in (suc k))) (body_with (statement_in (suc j))) Body_is continues_statement
  unfolding body_with
  body_reads = apply_reads (either_reads do_item governed_reads continues_statement (λ ts stop. (refl, stop)) (λ xs ts rest s stop. governed_no_do xs ts rest s)) statement_row Body_is body_to body_from

  loop_reads : (line : Line) (h : LoopHeadTree) → Reads (suc k) (loop_with line (suc k) (statement_in (suc k)) h) (loop_with line (suc j) (statement_in (suc j)) h) (Made (loop_statement line h) Body_is) continues_statement
  loop_reads line h = made_reads body_reads (loop_statement line h)

  -- what is false of DO, commas and words of statements is false of what a loop repeats
  false_at_body : (c : List Token → Bool) → ((span : Span) (line : Line) (ts : List Token) → c (token (kinds.Word words.Do) span line ∷ ts) ≡ false) → ((span span' : Span) (line line' : Line) (ts : List Token) → c (token (kind_of_mark comma) span line ∷ token (kinds.Word words.Do) span' line' ∷ ts) ≡ false) → ((span span' : Span) (line line' : Line) (w : Word) (ts : List Token) → form_word w ≡ true → is_some (guard_of w) ≡ false → c (token (kind_of_mark comma) span line ∷ token (kinds.Word w) span' line' ∷ ts) ≡ false) → ((w : Word) (span : Span) (line : Line) (ts : List Token) → form_word w ≡ true → is_some (guard_of w) ≡ false → c (token (kinds.Word w) span line ∷ ts) ≡ false) → (row : StatementRow) (ts rest : List Token) → Body_is row ts rest → c ts ≡ false
  false_at_body c on_do on_comma_do on_comma on_word row ts rest (inl (a, w, s)) = noisy_stops c (word words.Do) on_do on_comma_do ts a w
  false_at_body c on_do on_comma_do on_comma on_word (and_statement x no_statement) ts rest (inr (may, (a, n, s))) = false_at_governed c on_comma on_word x ts rest (a, n, (may, s))
  false_at_body c on_do on_comma_do on_comma on_word _ ts rest (inr s) = absurd s

  -- ---- FIND

  find_words_reads : Reads (suc k) find_words find_words (λ u. Find_words) continues_never
  unfolding find_words
  find_words_reads = following_reads (noisy_mark_reads (suc k) (word words.Find) refl) (optional_reads (marked_reads (word words.First) (expect_reads (suc k) (word words.Case))) (word words.The) (λ u ts rest s. ap (begins (word words.The)) s.1.2)) (λ u ts rest s stop. refl)

  abbrev Find_if_parts : FindOutcome × (StatementRow × StatementRow) → Shape
  Find_if_parts p = noisy words.If ▷ Word_for outcome_of p.0 ▷ Branches_are p.1

  find_if_starts : (ts a : List Token) (outcome : FindOutcome) (m : List Token) → noisy words.If ts a → Word_for outcome_of outcome a m → begins_find_if ts ≡ true
  find_if_starts ts a outcome m (b, c, (span, line, e)) (w, means, (span', line', f)) =
      let some : is_some (outcome_of w) ≡ true = rw means refl in
      rw (skipped c, e, f) some
    where
      skipped : noise ts b → skip_comma ts ≡ b
      skipped (inl g) = ap skip_comma (g ∙ e) ∙ sym e
      skipped (inr v) = mark_skips comma ts b v

  find_if_reads : (line : Line) (h : HeadTree) → Reads (suc k) (find_if_with line (suc k) (statement_in (suc k)) h) (find_if_with line (suc j) (statement_in (suc j)) h) (Made (λ p. find_if_statement line h p.0 p.1.0 p.1.1) Find_if_parts) continues_never
  unfolding find_if_with
  find_if_reads line h = made_reads (following_reads (noisy_mark_reads (suc k) (word words.If) refl) (seq_reads (word_in_reads (suc k) outcome_of) branches_reads (λ p ts rest s stop. refl)) (λ p ts rest s stop. refl)) (λ p. find_if_statement line h p.0 p.1.0 p.1.1)

  find_if_item : (line : Line) (h : HeadTree) → Item (suc k) begins_find_if (find_if_with line (suc k) (statement_in (suc k)) h) (find_if_with line (suc j) (statement_in (suc j)) h) (Made (λ p. find_if_statement line h p.0 p.1.0 p.1.1) Find_if_parts) continues_never
  find_if_item line h =
      item_of begins_find_if (find_if_reads line h) (λ ts x rest s. find_if_starts ts s.2.0 s.0.0 s.2.2.0 s.2.1 s.2.2.1)
      (λ ts x rest s. omega (arith, noisy_less (word words.If) ts s.2.0 s.2.1, (seq_reads (word_in_reads (suc k) outcome_of) branches_reads (λ p ts rest s stop. refl)).shorter s.2.0 s.0 rest s.2.2))

  abbrev Found_parts : Line → HeadTree → StatementTree → Shape
  Found_parts line h x = either_shape (Made (λ p. find_if_statement line h p.0 p.1.0 p.1.1) Find_if_parts x) (provided (find_statement line h ≡ x) nothing)

  found_reads : (line : Line) (h : HeadTree) → Reads (suc k) (found_with line (suc k) (statement_in (suc k)) h) (found_with line (suc j) (statement_in (suc j)) h) (Found_parts line h) continues_statement
  found_reads line h = either_reads (find_if_item line h) (done_reads (suc k) (find_statement line h)) continues_statement (λ ts stop. (refl, refl)) (λ x ts rest s stop. ap begins_find_if s.1 ∙ (or_false (begins_find_if rest) (continues_simple rest) stop).0)

  find_item : (line : Line) (h : HeadTree) → Item (suc k) (begins_noisy (word words.Find)) (find_with line (suc k) (statement_in (suc k)) h) (find_with line (suc j) (statement_in (suc j)) h) (λ x. Find_words ▷ Found_parts line h x) continues_statement
  unfolding find_with
  find_item line h =
      item_of (begins_noisy (word words.Find)) (following_reads find_words_reads (found_reads line h) (λ x ts rest s stop. refl)) (λ ts x rest s. noisy_begins (word words.Find) refl ts s.1.0 s.1.1)
      (λ ts x rest s. omega (arith, words_less ts s.0 s.1, (found_reads line h).shorter s.0 x rest s.2))
    where
      words_less : (ts a : List Token) → Find_words ts a → length a < length ts
      words_less ts a (m, w, s) = omega (arith, noisy_less (word words.Find) ts m w, (optional_reads (marked_reads (word words.First) (expect_reads (suc k) (word words.Case))) (word words.The) (λ u ts rest s. ap (begins (word words.The)) s.1.2)).shorter m tt a s)

  -- ---- loops that begin with FOR

  abbrev For_tail : Line → HeadTree → StatementTree → Shape
  For_tail line h x = either_shape ((Find_words ▷ Found_parts line h x)) (Made (loop_statement line (for_head h)) Body_is x)

  loop_no_find : (line : Line) (h : LoopHeadTree) (x : StatementTree) (ts rest : List Token) → Made (loop_statement line h) Body_is x ts rest → begins_noisy (word words.Find) ts ≡ false
  loop_no_find line h x ts rest (row, is, s) = false_at_body (begins_noisy (word words.Find)) (λ span line ts. refl) (λ span span' line line' ts. refl) (λ span span' line line' w r e u. (word_no_other w e).6) (λ w span line r e u. (word_no_other w e).6) row ts rest s

  tail_reads : (line : Line) (h : HeadTree) → Reads (suc k) (choose_reader (begins_noisy (word words.Find)) (find_with line (suc k) (statement_in (suc k)) h) (loop_with line (suc k) (statement_in (suc k)) (for_head h))) (choose_reader (begins_noisy (word words.Find)) (find_with line (suc j) (statement_in (suc j)) h) (loop_with line (suc j) (statement_in (suc j)) (for_head h))) (For_tail line h) continues_statement
  tail_reads line h = either_reads (find_item line h) (loop_reads line (for_head h)) continues_statement (λ ts stop. (stop, stop)) (λ x ts rest s stop. loop_no_find line (for_head h) x ts rest s)

  word_no_head : (w : Word) (span : Span) (line : Line) (ts : List Token) → form_word w ≡ true → continues_head (token (kinds.Word w) span line ∷ ts) ≡ false
  word_no_head w span line ts e = both_false _ _ (word_no_other w e).4 (word_no_condition w span line ts e)

  tail_no_for : (line : Line) (h : HeadTree) (x : StatementTree) (ts rest : List Token) → For_tail line h x ts rest → continues_statement rest ≡ false → continues_for ts ≡ false
  tail_no_for line h x ts rest (inl (a, (b, w, s), t)) stop = noisy_stops continues_for (word words.Find) (λ span line ts. refl) (λ span span' line line' ts. refl) ts b w
  tail_no_for line h x ts rest (inr (row, is, s)) stop =
      false_at_body continues_for (λ span line ts. refl) (λ span span' line line' ts. refl)
      (λ span span' line line' w r e u. let p = no_phrase w e u in rw p refl)
      (λ w span line' r e u. both_false _ _ (no_phrase w e u) (word_no_head w span line' r e))
      row ts rest s

  for_law : (line : Line) → Reads (suc k) (for_with line (suc k) (statement_in (suc k))) (for_with line (suc j) (statement_in (suc j))) (λ x ts rest. (h : HeadTree) × (Head_rest k h ▷ For_tail line h x) ts rest) continues_statement
  unfolding for_with
  for_law line = bind_reads (for_reads k j le) (tail_reads line) (tail_no_for line)

  for_to : (line : Line) (x : StatementTree) (ts rest : List Token) → ((h : HeadTree) × (Head_rest k h ▷ For_tail line h x) ts rest) → Form_is (suc k) line words.For x ts rest
  for_to line x ts rest (h, (a, s, inl (c, f, inl (p, is, t)))) = subst (λ x. Form_is (suc k) line words.For x ts rest) is (refl, refl, (a, s, (c, f, t)))
  for_to line x ts rest (h, (a, s, inl (c, f, inr (is, e)))) = subst (λ x. Form_is (suc k) line words.For x ts rest) is (refl, refl, (a, s, subst (λ (r : List Token). Find_words a r) e f))
  for_to line x ts rest (h, (a, s, inr (row, is, t))) = subst (λ x. Form_is (suc k) line words.For x ts rest) is (refl, refl, (a, s, t))

  for_from : (line : Line) (x : StatementTree) (ts rest : List Token) → Form_is (suc k) line words.For x ts rest → (h : HeadTree) × (Head_rest k h ▷ For_tail line h x) ts rest
  for_from line (loop_statement l (for_head head) body) ts rest (at, w, (a, s, t)) = (head, (a, s, inr (body, ap (λ (l : Line). loop_statement l (for_head head) body) (sym at), t)))
  for_from line (loop_statement l (guarded gs) body) ts rest (at, w, (a, s, t)) = absurd (head_guards (guarded gs) (ap (λ w. is_some (guard_of w)) w) k ts a s)
  for_from line (find_statement l head) ts rest (at, w, (a, s, f)) = (head, (a, s, inl (rest, f, inr (ap (λ (l : Line). find_statement l head) (sym at), refl))))
  for_from line (find_if_statement l head outcome t e) ts rest (at, w, (a, s, (c, f, q))) = (head, (a, s, inl (c, f, inl ((outcome, (t, e)), ap (λ (l : Line). find_if_statement l head outcome t e) (sym at), q))))
  for_from line _ ts rest (at, w, s) = absurd cc

  -- ---- loops that begin with WHILE or UNTIL

  abbrev Guarded_loop : GuardKind → Line → StatementTree → Shape
  Guarded_loop kind line x ts rest = (h : LoopHeadTree) × (Guarded_parts k j le kind h ▷ Made (loop_statement line h) Body_is x) ts rest

  body_no_guarded : (line : Line) (h : LoopHeadTree) (x : StatementTree) (ts rest : List Token) → Made (loop_statement line h) Body_is x ts rest → continues_statement rest ≡ false → continues_guarded k j le ts ≡ false
  body_no_guarded line h x ts rest (row, is, s) stop =
      false_at_body (continues_guarded k j le) (λ span line ts. refl) (λ span span' line line' ts. refl)
      (λ span span' line line' w r e u. rw u refl)
      (λ w span line' r e u. both_false _ _ u (word_no_head w span line' r e))
      row ts rest s

  guarded_to : (kind : GuardKind) (line : Line) (x : StatementTree) (ts rest : List Token) → Guarded_loop kind line x ts rest → Form_is (suc k) line (guard_word kind) x ts rest
  guarded_to kind line x ts rest (h, (a, (c, (b, s, (all, made, (gs, makes, t)))), (row, made', body))) =
      let head : guarded (guard_tree (kind, c) ∷ gs) ≡ h = ap guarded makes ∙ made in
      subst (λ x. Form_is (suc k) line (guard_word kind) x ts rest) made' (subst (λ (h : LoopHeadTree). Form_is (suc k) line (guard_word kind) (loop_statement line h row) ts rest) head (refl, refl, (a, (b, s, t), body)))

  guarded_from : (kind : GuardKind) (line : Line) (x : StatementTree) (ts rest : List Token) → Form_is (suc k) line (guard_word kind) x ts rest → Guarded_loop kind line x ts rest
  guarded_from kind line (loop_statement l (guarded (g ∷ gs)) body) ts rest (at, u, (a, (b, s, t), q)) =
      let same : kind ≡ g.kind = guard_same kind g.kind (sym u) in
      (guarded (g ∷ gs), (a, (g.condition, (b, s, (g ∷ gs, refl, (gs, (λ i. record { kind = same i; condition = g.condition } ∷ gs), t)))), (body, ap (λ (l : Line). loop_statement l (guarded (g ∷ gs)) body) (sym at), q)))
  guarded_from kind line (loop_statement l (guarded []) body) ts rest (at, u, (a, s, q)) = absurd s
  guarded_from guards.While line _ ts rest (at, u, s) = absurd cc
  guarded_from guards.Until line _ ts rest (at, u, s) = absurd cc

  guarded_law : (kind : GuardKind) (line : Line) → Reads (suc k) (guarded_with line (suc k) (statement_in (suc k)) kind) (guarded_with line (suc j) (statement_in (suc j)) kind) (Form_is (suc k) line (guard_word kind)) continues_statement
  unfolding guarded_with
  guarded_law kind line = reshaped_reads (bind_reads (guarded_reads k j le kind) (loop_reads line) (body_no_guarded line)) (Form_is (suc k) line (guard_word kind)) (guarded_to kind line) (guarded_from kind line)

  -- ---- by the first word

  pub nested_law : (line : Line) (w : Word) → nested_word w ≡ true → Reads (suc k) (nested_at line (suc k) (statement_in (suc k)) w) (nested_at line (suc j) (statement_in (suc j)) w) (Form_is (suc k) line w) continues_statement
  nested_law line words.If e = fewer_reads (if_reads line) continues_statement (λ ts stop. refl)
  nested_law line words.For e = reshaped_reads (for_law line) (Form_is (suc k) line words.For) (for_to line) (for_from line)
  nested_law line words.While e = guarded_law guards.While line
  nested_law line words.Until e = guarded_law guards.Until line
  nested_law line _ e = absurd cc
