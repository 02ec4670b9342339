-- Statements at each level of nesting: what is read is spelled, and what is spelled is read.
use Rattle.std.proofs.Common.{◌≡◌, ℕ, zero, suc, ◌<◌, ◌≤◌, Bool, true, false, ◌||◌, List, length, refl, ap, ◌∙◌, arith}
use Rattle.ss_parse_statements.proofs.Common.{choose_reader, find_if_statement, find_statement, if_statement, Line, line_of_first_word, loop_statement, opening_word, opens, skip_comma, Statement_from, Statement_rest, StatementTree, Token, Word}
use Rattle.ss_lex.specs.declared.word.Word.TheVariants as words
use Rattle.ss_lex.specs.declared.token.TokenKind.TheVariants as kinds
use Rattle.ss_parse_expressions.specs.Shapes.{Shape, ◌▷◌, noise, each_in_turn, nested_shape}
use Rattle.ss_parse_expressions.proofs.ReaderLaws.{Reads, Item, reshaped_reads, fewer_reads, noisy_item, too_deep_reads}
use Rattle.ss_parse_expressions.proofs.Rows.{rows_reads, Loop, loop_of}
use Rattle.ss_parse_statements.specs.ReadSimple.{simple_at}
use Rattle.ss_parse_statements.specs.ReadStatements.{by_word, begins_form, begins_statement, nested_word, nested_in, form_in, statement_in, statements_in}
use Rattle.ss_parse_statements.proofs.FirstWords.{Form, plain_form, opening_form, by_word_reads, first_less}
use Rattle.ss_parse_statements.proofs.SimpleLaws.{Form_is, simple_law}
use Rattle.ss_parse_statements.proofs.Beginnings.{form_begins, form_no_comma, no_simple, continues_statement, statement_stops}
use Rattle.ss_parse_statements.proofs.NestedStatements.{nested_law}

-- where no level may be opened, no statement with others in it is spelled
nested_never : (x : StatementTree) (ts rest : List Token) → nested_word (opening_word x) ≡ true → Statement_rest x 0 ts rest → ⊥
nested_never (if_statement line c t e) ts rest n s = s
nested_never (loop_statement line head body) ts rest n s = s
nested_never (find_statement line head) ts rest n s = s
nested_never (find_if_statement line head outcome t e) ts rest n s = s
nested_never _ ts rest n s = absurd cc

nested_opens : (w : Word) → nested_word w ≡ true → opens (kinds.Word w) ≡ 1
nested_opens words.If e = refl
nested_opens words.For e = refl
nested_opens words.While e = refl
nested_opens words.Until e = refl
nested_opens _ e = absurd cc

-- ---- statements at each level

abbrev pub In_statement : ℕ → StatementTree → Shape
In_statement room x = nested_shape (λ l. Statement_from x l) room

module _ (n m : ℕ) (le : n ≤ m) (nested : (line : Line) (w : Word) → nested_word w ≡ true → Reads n (nested_in n (statement_in n) line w) (nested_in m (statement_in m) line w) (Form_is n line w) continues_statement) where
  form_by : (b : Bool) (line : Line) (w : Word) → nested_word w ≡ b → Form (suc n) w (choose_reader (λ ts. b) (nested_in n (statement_in n) line w) (simple_at line (suc n) w)) (choose_reader (λ ts. b) (nested_in m (statement_in m) line w) (simple_at line (suc m) w)) (Form_is n line w) continues_statement
  form_by true line w there = opening_form w (nested_opens w there) (nested line w there)
  form_by false line w none = plain_form w (fewer_reads (simple_law n m le line w none) continues_statement no_simple)

  form_law : (line : Line) (w : Word) → Form (suc n) w (form_in n (statement_in n) line w) (form_in m (statement_in m) line w) (Form_is n line w) continues_statement
  form_law line w = form_by (nested_word w) line w refl

  from_reads : Reads (suc n) (by_word (form_in n (statement_in n))) (by_word (form_in m (statement_in m))) (λ x. Statement_from x n) continues_statement
  from_reads = by_word_reads line_of_first_word opening_word (λ x. Statement_rest x n) form_law

  from_less : (ts : List Token) (x : StatementTree) (rest : List Token) → Statement_from x n ts rest → length rest < length ts
  from_less ts x rest s = first_less line_of_first_word opening_word (λ x. Statement_rest x n) form_law ts x rest s

-- the law of a statement after its first word, given the law of the statements in it
nested_from : (n m : ℕ) → n ≤ m → Reads n (statement_in n) (statement_in m) (In_statement n) continues_statement → ((ts : List Token) (x : StatementTree) (rest : List Token) → In_statement n x ts rest → length rest < length ts) → (line : Line) (w : Word) → nested_word w ≡ true → Reads n (nested_in n (statement_in n) line w) (nested_in m (statement_in m) line w) (Form_is n line w) continues_statement
nested_from zero m le inner less line w e = reshaped_reads too_deep_reads (Form_is 0 line w) (λ x ts rest s. absurd s) (λ x ts rest s. nested_never x ts rest (ap nested_word s.1 ∙ e) s.2)
nested_from (suc k) zero le inner less line w e = absurd (omega arith)
nested_from (suc k) (suc j) le inner less line w e = nested_law k j (omega arith) inner less line w e

mutual
  unfolding statement_in

  pub statement_in_reads : (n m : ℕ) → n ≤ m → Reads n (statement_in n) (statement_in m) (In_statement n) continues_statement
  statement_in_reads zero m le = too_deep_reads
  statement_in_reads (suc n) zero le = absurd (omega arith)
  statement_in_reads (suc n) (suc m) le = from_reads n m (omega arith) (nested_from n m (omega arith) (statement_in_reads n m (omega arith)) (in_statement_less n))

  in_statement_less : (n : ℕ) (ts : List Token) (x : StatementTree) (rest : List Token) → In_statement n x ts rest → length rest < length ts
  in_statement_less zero ts x rest s = absurd s
  in_statement_less (suc n) ts x rest s = from_less n n (omega arith) (nested_from n n (omega arith) (statement_in_reads n n (omega arith)) (in_statement_less n)) ts x rest s

in_statement_begins : (n : ℕ) (ts : List Token) (x : StatementTree) (rest : List Token) → In_statement n x ts rest → begins_form ts ≡ true
in_statement_begins zero ts x rest s = absurd s
in_statement_begins (suc n) ts x rest s = form_begins n x ts rest s

in_statement_stops : (n : ℕ) (ts : List Token) (x : StatementTree) (rest : List Token) → (noise ▷ In_statement n x) ts rest → continues_statement ts ≡ false
in_statement_stops zero ts x rest (a, comma_there, s) = absurd s
in_statement_stops (suc n) ts x rest s = statement_stops n x ts rest s

statement_item : (n m : ℕ) → n ≤ m → Item n begins_statement (λ r. statement_in n (skip_comma r)) (λ r. statement_in m (skip_comma r)) (λ x. noise ▷ In_statement n x) continues_statement
statement_item n m le = noisy_item (statement_in_reads n m le) begins_form (in_statement_begins n) form_no_comma (in_statement_less n)

-- statements, each with a comma before it or not
pub all_statements_reads : (n m : ℕ) → n ≤ m → Reads n (statements_in n) (statements_in m) (each_in_turn (λ x. noise ▷ In_statement n x)) (λ ts. begins_statement ts || continues_statement ts)
all_statements_reads n m le = rows_reads (statement_item n m le) (in_statement_stops n)

pub statements_loop : (n : ℕ) → Loop begins_statement (λ r. statement_in n (skip_comma r))
statements_loop n = loop_of (statement_item n n (omega arith)) refl
