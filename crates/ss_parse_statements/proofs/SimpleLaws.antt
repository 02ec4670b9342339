-- Simple statements: what is read is spelled, and what is spelled is read.
use Rattle.std.proofs.Common.{◌≡◌, ℕ, suc, ◌<◌, ◌≤◌, pos, true, false, ◌||◌, List, [], ◌∷◌, length, Option, Some, refl, sym, ap, subst, ◌∙◌, arith, inl, inr}
use Rattle.ss_parse_statements.proofs.Common.{bind_reads, closed_reads, continues_never, done_reads, either_reads, expect_reads, fewer_reads, following_reads, GuardKind, has_word, Item, item_of, Line, line_of_first_word, Made, made_reads, marked_reads, One_of, opening_word, optional_reads, or_false, perhaps_listed, Reads, Reference_is, reshaped_reads, seq_reads, Statement_rest, Sum_is, Target_is, the, Token, TokenKind, Word}
use Rattle.ss_lex.specs.declared.word.Word.TheVariants as words
use Rattle.ss_lex.specs.declared.token.Symbol.TheVariants.{Equals}
use Rattle.ss_lex.specs.declared.token.TokenKind.TheVariants as kinds
use Rattle.ss_base.specs.declared.words.GuardKind.TheVariants as guards
use Rattle.ss_base.specs.declared.words.End.{End}
use Rattle.ss_tree.specs.Tree.{ExpressionTree, NamedTree, PositionTree, WhenTree, LoopHeadTree, for_head, guarded, StatementTree, let_statement, add_statement, subtract_statement, call_statement, return_statement, stop_statement, read_statement, start_simulation, loop_statement, create_statement, create_every, destroy_statement, file_statement, remove_end, remove_statement, schedule_new, schedule_statement, cancel_statement, reset_statement, print_statement, skip_statement}
use Rattle.ss_parse_expressions.specs.declared.classes.WordClass.TheVariants as classes
use Rattle.ss_parse_expressions.specs.Shapes.{Shape, ◌▷◌, nothing, never, either_shape, optional, provided, Token_is, Word_is, Symbol_is, Name_is, Word_for, separated_list}
use Rattle.ss_parse_expressions.specs.SpelledConditions.{guard_word, loop_head_word}
use Rattle.ss_parse_expressions.specs.Reading.{word, is, is_some, begins, begins_by, expect, in_table, taken, name_in_token, seq, after_dropped, apply}
use Rattle.ss_parse_expressions.specs.ReadWords.{fail, begins_class}
use Rattle.ss_parse_expressions.specs.ReadExpressions.{begins_value, begins_sum, sum_in}
use Rattle.ss_parse_expressions.specs.ReadPlaces.{target_in}
use Rattle.ss_parse_expressions.proofs.Marks.{token_less, starts_otherwise, begins_table}
use Rattle.ss_parse_expressions.proofs.WordLaws.{word_in_reads, expect_class_reads, optional_class_reads, fail_reads, name_reads, names_reads, item_made}
use Rattle.ss_parse_expressions.proofs.Beginnings.{in_begins, continues_sum}
use Rattle.ss_parse_expressions.proofs.PlaceLaws.{targets_in_reads, continues_place, continues_sums}
use Rattle.ss_parse_expressions.proofs.ConditionLaws.{stops_place}
use Rattle.ss_parse_statements.specs.SpelledParts.{CalledName, end_of, Position_is}
use Rattle.ss_parse_statements.specs.ReadSimple.{equals, after_the, set_reader, called, let_at, add_at, subtract_at, call_at, read_at, start_at, new_at, create_at, destroy_at, cancel_at, file_at, remove_end_at, remove_this_at, remove_at, schedule_the_at, schedule_a_at, schedule_at, reset_at, print_at, skip_at, simple_at}
use Rattle.ss_parse_statements.specs.ReadStatements.{form_word, nested_word}
use Rattle.ss_parse_statements.proofs.StatementParts.{continues_simple, ended, over_place, over_targets, over_given, over_yielding, over_called, over_called_place, sum_reads, target_reads, set_reads, given_reads, yielding_reads, called_sum_reads, called_target_reads, continues_position, position_reads, position_stops, Due_is, due_reads, due_stops, Print_head_is, print_head_reads, Pictures_are, pictures_reads}

-- ---- the first words of statements

guard_nested : (k : GuardKind) → (nested_word (guard_word k) ≡ true) × (form_word (guard_word k) ≡ true)
guard_nested guards.While = (refl, refl)
guard_nested guards.Until = (refl, refl)

pub head_nested : (h : LoopHeadTree) → (nested_word (loop_head_word h) ≡ true) × (form_word (loop_head_word h) ≡ true)
head_nested (for_head head) = (refl, refl)
head_nested (guarded []) = (refl, refl)
head_nested (guarded (g ∷ gs)) = guard_nested g.kind

pub form_first : (x : StatementTree) → form_word (opening_word x) ≡ true
form_first (loop_statement line head body) = (head_nested head).1
form_first _ = refl

-- ---- a statement after its first word

abbrev pub Form_is : ℕ → Line → Word → StatementTree → Shape
Form_is n line w x ts rest = (line_of_first_word x ≡ line) × (opening_word x ≡ w) × Statement_rest x n ts rest

-- ---- what words no expression begins with

value_no_end : (k : TokenKind) → begins_value k ≡ true → is_some (in_table end_of k) ≡ false
value_no_end (kinds.Word words.First) e = absurd cc
value_no_end (kinds.Word words.Last) e = absurd cc
value_no_end _ e = refl

sum_no_end : (ts : List Token) → begins_sum ts ≡ true → begins_by (in_table end_of) ts ≡ false
sum_no_end [] e = refl
sum_no_end (t ∷ ts) e = value_no_end t.kind e

end_no_the : (w : Word) (end : End) → end_of w ≡ Some end → is (word words.The) (kinds.Word w) ≡ false
end_no_the words.The end e = absurd cc
end_no_the _ end e = refl

a_no_other : (w : Word) → has_word classes.Indefinite w ≡ true → (is (word words.The) (kinds.Word w) ≡ false) × (is (word words.Every) (kinds.Word w) ≡ false)
a_no_other words.A e = (refl, refl)
a_no_other words.An e = (refl, refl)
a_no_other _ e = absurd cc

module _ (n m : ℕ) (le : n ≤ m) where
  sum_begins_in : (ts : List Token) (e : ExpressionTree) (rest : List Token) → Sum_is n e ts rest → begins_sum ts ≡ true
  sum_begins_in ts e rest s = in_begins (suc n) ts e rest s

  no_the_sum : (ts : List Token) (e : ExpressionTree) (rest : List Token) → Sum_is n e ts rest → begins (word words.The) ts ≡ false
  no_the_sum ts e rest s = starts_otherwise (word words.The) begins_sum (λ span line ts. refl) ts (sum_begins_in ts e rest s)

  -- ---- parts of statements

  given_stops : (ys : List NamedTree) (ts rest : List Token) → perhaps_listed (Word_is words.Yielding) (Target_is n) ys ts rest → continues_simple rest ≡ false → (begins_class classes.Given ts || continues_sums ts) ≡ false
  given_stops [] ts rest e stop = ap (λ (r : List Token). begins_class classes.Given r || continues_sums r) e ∙ over_given rest (ended rest stop)
  given_stops (y ∷ ys) ts rest (a, (span, line, f), s) stop = ap (λ (r : List Token). begins_class classes.Given r || continues_sums r) f

  abbrev New_parts : List ℕ × Option NamedTree → Shape
  New_parts p = optional (One_of classes.Indefinite) ▷ Name_is p.0 ▷ CalledName (Target_is n) p.1

  new_reads : (line : Line) → Reads (suc n) (new_at line (suc n)) (new_at line (suc m)) (Made (λ p. create_statement line p.0 p.1) New_parts) (λ ts. begins (word words.Called) ts || continues_place ts)
  unfolding new_at
  new_reads line = made_reads (optional_class_reads (seq_reads (name_reads (suc n)) (called_target_reads n m le) (λ x ts rest s stop. refl)) classes.Indefinite (λ x ts rest s. ap (begins_class classes.Indefinite) s.1.2)) (λ p. create_statement line p.0 p.1)

  new_late : (line : Line) (x : StatementTree) (ts rest : List Token) → Made (λ p. create_statement line p.0 p.1) New_parts x ts rest → continues_simple rest ≡ false → begins (word words.Every) ts ≡ false
  new_late line x ts rest (p, is, (a, inl e, (b, (span, l, f), s))) stop = ap (begins (word words.Every)) (e ∙ f)
  new_late line x ts rest (p, is, (a, inr (w, held, (span, l, f)), s)) stop = ap (begins (word words.Every)) f ∙ (a_no_other w held).1

  abbrev Taken_parts : List ℕ × Option ExpressionTree → Shape
  Taken_parts p = the ▷ Name_is p.0 ▷ CalledName (Sum_is n) p.1

  taken_reads' : Reads (suc n) (after_the (seq (taken name_in_token) (called (sum_in (suc n))))) (after_the (seq (taken name_in_token) (called (sum_in (suc m))))) Taken_parts (λ ts. begins (word words.Called) ts || continues_sum ts)
  taken_reads' = optional_reads (seq_reads (name_reads (suc n)) (called_sum_reads n m le) (λ x ts rest s stop. refl)) (word words.The) (λ x ts rest s. ap (begins (word words.The)) s.1.2)

  abbrev File_parts : ExpressionTree × (PositionTree × NamedTree) → Shape
  File_parts p = the ▷ Sum_is n p.0 ▷ Position_is n p.1.0 ▷ Word_is words.In ▷ the ▷ Reference_is n p.1.1

  set_after : (w : Word) → Reads (suc n) (after_dropped (expect (word w)) (set_reader (suc n))) (after_dropped (expect (word w)) (set_reader (suc m))) (λ set. Word_is w ▷ the ▷ Reference_is n set) continues_place
  set_after w = marked_reads (word w) (set_reads n m le)

  abbrev End_parts : End × (NamedTree × NamedTree) → Shape
  End_parts p = Word_for end_of p.0 ▷ Target_is n p.1.0 ▷ Word_is words.From ▷ the ▷ Reference_is n p.1.1

  end_item : (line : Line) → Item (suc n) (begins_by (in_table end_of)) (remove_end_at line (suc n)) (remove_end_at line (suc m)) (Made (λ p. remove_end line p.0 p.1.0 p.1.1) End_parts) continues_place
  unfolding remove_end_at
  end_item line = item_of (begins_by (in_table end_of)) (made_reads {S = End_parts} (seq_reads (word_in_reads (suc n) end_of) law (λ p ts rest s stop. refl)) (λ p. remove_end line p.0 p.1.0 p.1.1))
      (λ ts x rest s. begins_table (in_table end_of) ts s.2.0 s.0.0 (kinds.Word s.2.1.0, s.2.1.1, s.2.1.2))
      (λ ts x rest s. omega (arith, token_less (kinds.Word s.2.1.0) ts s.2.0 s.2.1.2, law.shorter s.2.0 s.0.1 rest s.2.2))
    where
      law : Reads (suc n) (seq (target_in (suc n)) (after_dropped (expect (word words.From)) (set_reader (suc n)))) (seq (target_in (suc m)) (after_dropped (expect (word words.From)) (set_reader (suc m)))) (λ (p : NamedTree × NamedTree). Target_is n p.0 ▷ Word_is words.From ▷ the ▷ Reference_is n p.1) continues_place
      law = seq_reads (target_reads n m le) (set_after words.From) (λ p ts rest s stop. ap continues_place s.1.2)

  abbrev This_parts : ExpressionTree × NamedTree → Shape
  This_parts p = Sum_is n p.0 ▷ Word_is words.From ▷ the ▷ Reference_is n p.1

  this_reads : (line : Line) → Reads (suc n) (remove_this_at line (suc n)) (remove_this_at line (suc m)) (Made (λ p. remove_statement line p.0 p.1) This_parts) continues_place
  unfolding remove_this_at
  this_reads line = made_reads {S = This_parts} (seq_reads (sum_reads n m le) (set_after words.From) (λ p ts rest s stop. ap continues_sum s.1.2)) (λ p. remove_statement line p.0 p.1)

  abbrev Removed : Line → StatementTree → Shape
  Removed line x = either_shape (Made (λ p. remove_end line p.0 p.1.0 p.1.1) End_parts x) (Made (λ p. remove_statement line p.0 p.1) This_parts x)

  removed_no_the : (line : Line) (x : StatementTree) (ts rest : List Token) → Removed line x ts rest → begins (word words.The) ts ≡ false
  removed_no_the line x ts rest (inl (p, is, (a, (w, means, (span, l, e)), s))) = ap (begins (word words.The)) e ∙ end_no_the w p.0 means
  removed_no_the line x ts rest (inr (p, is, (a, s, t))) = no_the_sum ts p.0 a s

  abbrev The_parts : List ℕ × (Option ExpressionTree × (List ExpressionTree × WhenTree)) → Shape
  The_parts p = Word_is words.The ▷ Name_is p.0 ▷ CalledName (Sum_is n) p.1.0 ▷ Due_is n m le p.1.1

  the_item : (line : Line) → Item (suc n) (begins (word words.The)) (schedule_the_at line (suc n)) (schedule_the_at line (suc m)) (Made (λ p. schedule_statement line p.0 p.1.0 p.1.1.0 p.1.1.1) The_parts) continues_sum
  unfolding schedule_the_at
  the_item line = item_made (word words.The) (seq_reads (name_reads (suc n)) (seq_reads (called_sum_reads n m le) (due_reads n m le) (λ p ts rest s stop. due_stops n m le p ts rest s)) (λ p ts rest s stop. refl)) (λ p. schedule_statement line p.0 p.1.0 p.1.1.0 p.1.1.1)

  abbrev A_parts : List ℕ × (Option NamedTree × (List ExpressionTree × WhenTree)) → Shape
  A_parts p = One_of classes.Indefinite ▷ Name_is p.0 ▷ CalledName (Target_is n) p.1.0 ▷ Due_is n m le p.1.1

  place_stops : (p : List ExpressionTree × WhenTree) (ts rest : List Token) → Due_is n m le p ts rest → continues_sum rest ≡ false → (begins (word words.Called) ts || continues_place ts) ≡ false
  place_stops p ts rest s stop =
      let both = or_false (begins (word words.Called) ts) (continues_sum ts) (due_stops n m le p ts rest s) in
      rw (both.0, stops_place ts both.1) refl

  a_reads : (line : Line) → Reads (suc n) (schedule_a_at line (suc n)) (schedule_a_at line (suc m)) (Made (λ p. schedule_new line p.0 p.1.0 p.1.1.0 p.1.1.1) A_parts) continues_sum
  unfolding schedule_a_at
  a_reads line = made_reads {S = A_parts} (following_reads (expect_class_reads (suc n) classes.Indefinite) (seq_reads (name_reads (suc n)) (seq_reads (called_target_reads n m le) (due_reads n m le) place_stops) (λ p ts rest s stop. refl)) (λ p ts rest s stop. refl)) (λ p. schedule_new line p.0 p.1.0 p.1.1.0 p.1.1.1)

  a_late : (line : Line) (x : StatementTree) (ts rest : List Token) → Made (λ p. schedule_new line p.0 p.1.0 p.1.1.0 p.1.1.1) A_parts x ts rest → continues_sum rest ≡ false → begins (word words.The) ts ≡ false
  a_late line x ts rest (p, is, (a, (w, held, (span, l, e)), s)) stop = ap (begins (word words.The)) e ∙ (a_no_other w held).0

  abbrev Reset_parts : List NamedTree → Shape
  Reset_parts xs = the ▷ Word_is words.Totals ▷ Word_is words.Of ▷ separated_list (Target_is n) xs

  abbrev Printed : Line → StatementTree → Shape
  Printed line x ts rest = (h : ℕ × List ExpressionTree) × (Print_head_is (suc n) h ▷ Made (λ ps. print_statement line h.1 ps) (Pictures_are h.0) x) ts rest

  abbrev Skip_parts : ExpressionTree → Shape
  Skip_parts e = Sum_is n e ▷ optional (Word_is words.Output) ▷ Word_is words.Line

  line_stops : (ts rest : List Token) → (optional (Word_is words.Output) ▷ Word_is words.Line) ts rest → continues_never rest ≡ false → continues_sum ts ≡ false
  line_stops ts rest (a, inl e, (span, line, f)) stop = ap continues_sum (e ∙ f)
  line_stops ts rest (a, inr (span, line, f), s) stop = ap continues_sum f

  -- ---- statements by their first words

  -- what is read of a statement after this first word
  abbrev Parts : Line → Word → StatementTree → Shape
  Parts line words.Let x = Made (λ (p : NamedTree × ExpressionTree). let_statement line p.0 p.1) (λ p. Target_is n p.0 ▷ Symbol_is Equals ▷ Sum_is n p.1) x
  Parts line words.Add x = Made (λ (p : ExpressionTree × NamedTree). add_statement line p.0 p.1) (λ p. Sum_is n p.0 ▷ Word_is words.To ▷ Target_is n p.1) x
  Parts line words.Subtract x = Made (λ (p : ExpressionTree × NamedTree). subtract_statement line p.0 p.1) (λ p. Sum_is n p.0 ▷ Word_is words.From ▷ Target_is n p.1) x
  Parts line words.Call x = Made (λ (p : List ℕ × (List ExpressionTree × List NamedTree)). call_statement line p.0 p.1.0 p.1.1) (λ p. Name_is p.0 ▷ perhaps_listed (One_of classes.Given) (Sum_is n) p.1.0 ▷ perhaps_listed (Word_is words.Yielding) (Target_is n) p.1.1) x
  Parts line words.Return x = provided (return_statement line ≡ x) nothing
  Parts line words.Stop x = provided (stop_statement line ≡ x) nothing
  Parts line words.Read x = Made (read_statement line) (separated_list (Target_is n)) x
  Parts line words.Start x = Made (λ (u : Unit {0}). start_simulation line) (λ u. Word_is words.Simulation) x
  Parts line words.Create x = either_shape (Made (create_every line) (λ xs. Word_is words.Every ▷ separated_list Name_is xs) x) (Made (λ p. create_statement line p.0 p.1) New_parts x)
  Parts line words.Destroy x = Made (λ p. destroy_statement line p.0 p.1) Taken_parts x
  Parts line words.Cancel x = Made (λ p. cancel_statement line p.0 p.1) Taken_parts x
  Parts line words.File x = Made (λ p. file_statement line p.0 p.1.0 p.1.1) File_parts x
  Parts line words.Remove x = the ▷ Removed line x
  Parts line words.Schedule x = either_shape (Made (λ p. schedule_statement line p.0 p.1.0 p.1.1.0 p.1.1.1) The_parts x) (Made (λ p. schedule_new line p.0 p.1.0 p.1.1.0 p.1.1.1) A_parts x)
  Parts line words.Reset x = Made (reset_statement line) Reset_parts x
  Parts line words.Print x = Printed line x
  Parts line words.Skip x = Made (skip_statement line) Skip_parts x
  Parts line _ x = never

  parts_to : (line : Line) (w : Word) (x : StatementTree) (ts rest : List Token) → Parts line w x ts rest → Form_is n line w x ts rest
  parts_to line words.Let x ts rest (p, is, s) = subst (λ x. Form_is n line words.Let x ts rest) is (refl, refl, s)
  parts_to line words.Add x ts rest (p, is, s) = subst (λ x. Form_is n line words.Add x ts rest) is (refl, refl, s)
  parts_to line words.Subtract x ts rest (p, is, s) = subst (λ x. Form_is n line words.Subtract x ts rest) is (refl, refl, s)
  parts_to line words.Call x ts rest (p, is, s) = subst (λ x. Form_is n line words.Call x ts rest) is (refl, refl, s)
  parts_to line words.Return x ts rest (is, s) = subst (λ x. Form_is n line words.Return x ts rest) is (refl, refl, s)
  parts_to line words.Stop x ts rest (is, s) = subst (λ x. Form_is n line words.Stop x ts rest) is (refl, refl, s)
  parts_to line words.Read x ts rest (p, is, s) = subst (λ x. Form_is n line words.Read x ts rest) is (refl, refl, s)
  parts_to line words.Start x ts rest (u, is, s) = subst (λ x. Form_is n line words.Start x ts rest) is (refl, refl, s)
  parts_to line words.Create x ts rest (inl (p, is, s)) = subst (λ x. Form_is n line words.Create x ts rest) is (refl, refl, s)
  parts_to line words.Create x ts rest (inr (p, is, s)) = subst (λ x. Form_is n line words.Create x ts rest) is (refl, refl, s)
  parts_to line words.Destroy x ts rest (p, is, s) = subst (λ x. Form_is n line words.Destroy x ts rest) is (refl, refl, s)
  parts_to line words.Cancel x ts rest (p, is, s) = subst (λ x. Form_is n line words.Cancel x ts rest) is (refl, refl, s)
  parts_to line words.File x ts rest (p, is, s) = subst (λ x. Form_is n line words.File x ts rest) is (refl, refl, s)
  parts_to line words.Remove x ts rest (a, t, inl (p, is, s)) = subst (λ x. Form_is n line words.Remove x ts rest) is (refl, refl, (a, t, s))
  parts_to line words.Remove x ts rest (a, t, inr (p, is, s)) = subst (λ x. Form_is n line words.Remove x ts rest) is (refl, refl, (a, t, s))
  parts_to line words.Schedule x ts rest (inl (p, is, s)) = subst (λ x. Form_is n line words.Schedule x ts rest) is (refl, refl, s)
  parts_to line words.Schedule x ts rest (inr (p, is, s)) = subst (λ x. Form_is n line words.Schedule x ts rest) is (refl, refl, s)
  parts_to line words.Reset x ts rest (p, is, s) = subst (λ x. Form_is n line words.Reset x ts rest) is (refl, refl, s)
  parts_to line words.Print x ts rest ((k, items), (a, (b, (some, number), (c, lines, (d, with, thus))), (ps, is, (counts, pictures)))) =
      subst (λ x. Form_is n line words.Print x ts rest) is (refl, refl, (subst (λ n. 0 < n) (sym counts) some, (b, subst (λ n. Token_is (kinds.Number (pos n)) ts b) (sym counts) number, (c, lines, (d, with, (a, thus, pictures))))))
  parts_to line words.Skip x ts rest (p, is, s) = subst (λ x. Form_is n line words.Skip x ts rest) is (refl, refl, s)
  parts_to line _ x ts rest s = absurd s

  parts_of : (x : StatementTree) → nested_word (opening_word x) ≡ false → (ts rest : List Token) → Statement_rest x n ts rest → Parts (line_of_first_word x) (opening_word x) x ts rest
  parts_of (let_statement l target value) u ts rest s = ((target, value), refl, s)
  parts_of (add_statement l amount target) u ts rest s = ((amount, target), refl, s)
  parts_of (subtract_statement l amount target) u ts rest s = ((amount, target), refl, s)
  parts_of (call_statement l routine given yielding) u ts rest s = ((routine, (given, yielding)), refl, s)
  parts_of (return_statement l) u ts rest s = (refl, s)
  parts_of (stop_statement l) u ts rest s = (refl, s)
  parts_of (read_statement l targets) u ts rest s = (targets, refl, s)
  parts_of (start_simulation l) u ts rest s = (tt, refl, s)
  parts_of (create_every l classes) u ts rest s = inl (classes, refl, s)
  parts_of (create_statement l class called) u ts rest s = inr ((class, called), refl, s)
  parts_of (destroy_statement l class called) u ts rest s = ((class, called), refl, s)
  parts_of (cancel_statement l class called) u ts rest s = ((class, called), refl, s)
  parts_of (file_statement l e position set) u ts rest s = ((e, (position, set)), refl, s)
  parts_of (remove_end l end target set) u ts rest (a, t, s) = (a, t, inl ((end, (target, set)), refl, s))
  parts_of (remove_statement l e set) u ts rest (a, t, s) = (a, t, inr ((e, set), refl, s))
  parts_of (schedule_statement l class called given when) u ts rest s = inl ((class, (called, (given, when))), refl, s)
  parts_of (schedule_new l class called given when) u ts rest s = inr ((class, (called, (given, when))), refl, s)
  parts_of (reset_statement l targets) u ts rest s = (targets, refl, s)
  parts_of (print_statement l items ps) u ts rest (some, (b, number, (c, lines, (d, with, (a, thus, pictures))))) = ((length ps, items), (a, (b, (some, number), (c, lines, (d, with, thus))), (ps, refl, (refl, pictures))))
  parts_of (skip_statement l count) u ts rest s = (count, refl, s)
  parts_of (loop_statement l head body) u ts rest s = absurd (let nested = (head_nested head).0 in cc)
  parts_of _ u ts rest s = absurd cc

  parts_from : (line : Line) (w : Word) → nested_word w ≡ false → (x : StatementTree) (ts rest : List Token) → Form_is n line w x ts rest → Parts line w x ts rest
  parts_from line w simple x ts rest s =
      let parts : Parts (line_of_first_word x) (opening_word x) x ts rest = parts_of x (ap nested_word s.1 ∙ simple) ts rest s.2 in
      subst (λ (l : Line). Parts l w x ts rest) s.0 (subst (λ (v : Word). Parts (line_of_first_word x) v x ts rest) s.1 parts)

  -- an amount, this word and a target
  amount_reads : (w : Word) (make : ExpressionTree → NamedTree → StatementTree) → Reads (suc n) (apply (λ p. make p.0 p.1) (seq (sum_in (suc n)) (after_dropped (expect (word w)) (target_in (suc n))))) (apply (λ p. make p.0 p.1) (seq (sum_in (suc m)) (after_dropped (expect (word w)) (target_in (suc m))))) (Made (λ (p : ExpressionTree × NamedTree). make p.0 p.1) (λ p. Sum_is n p.0 ▷ Word_is w ▷ Target_is n p.1)) continues_simple
  amount_reads w make =
      fewer_reads (made_reads (seq_reads (sum_reads n m le) (marked_reads (word w) (target_reads n m le)) (λ e ts rest s stop. ap continues_sum s.1.2)) (λ p. make p.0 p.1))
      continues_simple (λ ts stop. over_place ts (ended ts stop))

  none_reads : Reads (suc n) fail fail (λ (x : StatementTree). never) continues_simple
  none_reads = fewer_reads (fail_reads (suc n)) continues_simple (λ ts stop. refl)

  simple_reads : (line : Line) (w : Word) → Reads (suc n) (simple_at line (suc n) w) (simple_at line (suc m) w) (Parts line w) continues_simple
  unfolding simple_at add_at subtract_at read_at start_at create_at destroy_at cancel_at remove_at schedule_at print_at let_at call_at file_at reset_at skip_at
  simple_reads line words.Let =
      fewer_reads (made_reads (seq_reads (target_reads n m le) (marked_reads equals (sum_reads n m le)) (λ e ts rest s stop. ap continues_place s.1.2)) (λ p. let_statement line p.0 p.1))
      continues_simple (λ ts stop. (ended ts stop).no_sum)
  simple_reads line words.Add = amount_reads words.To (add_statement line)
  simple_reads line words.Subtract = amount_reads words.From (subtract_statement line)
  simple_reads line words.Call = made_reads (seq_reads (name_reads (suc n)) (seq_reads (given_reads n m le) (fewer_reads (yielding_reads n m le) continues_simple (λ ts stop. over_yielding ts (ended ts stop))) given_stops) (λ p ts rest s stop. refl)) (λ p. call_statement line p.0 p.1.0 p.1.1)
  simple_reads line words.Return = fewer_reads (done_reads (suc n) (return_statement line)) continues_simple (λ ts stop. refl)
  simple_reads line words.Stop = fewer_reads (done_reads (suc n) (stop_statement line)) continues_simple (λ ts stop. refl)
  simple_reads line words.Read = fewer_reads (made_reads (targets_in_reads (suc n) (suc m) (omega arith)) (read_statement line)) continues_simple (λ ts stop. over_targets ts (ended ts stop))
  simple_reads line words.Start = fewer_reads (made_reads (expect_reads (suc n) (word words.Simulation)) (λ u. start_simulation line)) continues_simple (λ ts stop. refl)
  simple_reads line words.Create =
      either_reads (item_made (word words.Every) (names_reads (suc n)) (create_every line)) (new_reads line) continues_simple
      (λ ts stop. let a = (ended ts stop).no_names in (rw a refl, over_called_place ts (ended ts stop))) (new_late line)
  simple_reads line words.Destroy = fewer_reads (made_reads taken_reads' (λ p. destroy_statement line p.0 p.1)) continues_simple (λ ts stop. over_called ts (ended ts stop))
  simple_reads line words.Cancel = fewer_reads (made_reads taken_reads' (λ p. cancel_statement line p.0 p.1)) continues_simple (λ ts stop. over_called ts (ended ts stop))
  simple_reads line words.File =
      fewer_reads (made_reads {S = File_parts} (optional_reads (seq_reads (sum_reads n m le) (seq_reads (position_reads n m le) (set_after words.In) (λ set ts rest s stop. ap (continues_position n m le) s.1.2)) (λ p ts rest s stop. position_stops n m le p.0 ts s.0 s.1 (ap continues_sum s.2.1.2))) (word words.The) (λ x ts rest s. no_the_sum ts x.0 s.0 s.1)) (λ p. file_statement line p.0 p.1.0 p.1.1))
      continues_simple (λ ts stop. over_place ts (ended ts stop))
  simple_reads line words.Remove =
      fewer_reads (optional_reads (either_reads (end_item line) (this_reads line) continues_place (λ ts stop. (stop, stop)) (λ x ts rest s stop. sum_no_end ts (sum_begins_in ts s.0.0 s.2.0 s.2.1))) (word words.The) (removed_no_the line))
      continues_simple (λ ts stop. over_place ts (ended ts stop))
  simple_reads line words.Schedule = fewer_reads (either_reads (the_item line) (a_reads line) continues_sum (λ ts stop. (stop, stop)) (a_late line)) continues_simple (λ ts stop. (ended ts stop).no_sum)
  simple_reads line words.Reset =
      fewer_reads (made_reads {S = Reset_parts} (optional_reads (marked_reads (word words.Totals) (marked_reads (word words.Of) (targets_in_reads (suc n) (suc m) (omega arith)))) (word words.The) (λ x ts rest s. ap (begins (word words.The)) s.1.2)) (reset_statement line))
      continues_simple (λ ts stop. over_targets ts (ended ts stop))
  simple_reads line words.Print = fewer_reads (bind_reads (print_head_reads (suc n) (suc m) (omega arith)) (λ h. made_reads (pictures_reads (suc n) h.0) (λ ps. print_statement line h.1 ps)) (λ h x ts rest s stop. refl)) continues_simple (λ ts stop. refl)
  simple_reads line words.Skip =
      fewer_reads (made_reads {S = Skip_parts} (closed_reads (sum_reads n m le) (optional_reads (expect_reads (suc n) (word words.Line)) (word words.Output) (λ u ts rest s. ap (begins (word words.Output)) s.2)) line_stops) (skip_statement line))
      continues_simple (λ ts stop. refl)
  simple_reads line _ = none_reads

  pub simple_law : (line : Line) (w : Word) → nested_word w ≡ false → Reads (suc n) (simple_at line (suc n) w) (simple_at line (suc m) w) (Form_is n line w) continues_simple
  simple_law line w simple = reshaped_reads (simple_reads line w) (Form_is n line w) (parts_to line w) (parts_from line w simple)
