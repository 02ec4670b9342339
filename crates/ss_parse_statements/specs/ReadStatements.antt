-- Reading statements from left to right.
use Rattle.std.specs.Prelude.{ℕ, zero, suc, Bool, true, false, ◌&&◌, List, [], ◌∷◌, Err}
use Rattle.ss_base.specs.declared.line.Line.{Line}
use Rattle.ss_lex.specs.declared.word.Word.{Word}
use Rattle.ss_lex.specs.declared.word.Word.TheVariants as words
use Rattle.ss_lex.specs.declared.token.TokenKind.{TokenKind}
use Rattle.ss_lex.specs.declared.token.TokenKind.TheVariants as kinds
use Rattle.ss_lex.specs.declared.token.Token.{Token}
use Rattle.ss_base.specs.declared.words.GuardKind.{GuardKind}
use Rattle.ss_base.specs.declared.words.GuardKind.TheVariants as guards
use Rattle.ss_tree.specs.Tree.{HeadTree, LoopHeadTree, for_head, StatementTree, if_statement, loop_statement, find_statement, find_if_statement, StatementRow, statement_row}
use Rattle.ss_parse_expressions.specs.declared.failure.ParseFault.TheVariants.{Syntax}
use Rattle.ss_parse_expressions.specs.Reading.{Reader, ◌>>=◌, word, begins, begins_by, skip, expect, in_table, taken, seq, after_dropped, closed, apply, maybe_list, choose_reader, too_deep, rows, skip_comma}
use Rattle.ss_parse_expressions.specs.ReadWords.{done, fail, begins_noisy, expect_noisy}
use Rattle.ss_parse_expressions.specs.ReadConditions.{condition_in}
use Rattle.ss_parse_expressions.specs.ReadHeads.{begins_guard, for_in, guarded_in}
use Rattle.ss_parse_expressions.specs.WordTables.{outcome_of}
use Rattle.ss_parse_statements.specs.ReadSimple.{after_the, simple_at}

-- ---- by the first word

-- a reader that depends on the first word and its line, and reads what follows it
abbrev pub at_word : {A : Type 0} → (Line → Word → Reader A) → Line → TokenKind → Reader A
at_word form line (kinds.Word w) = form line w
at_word form line _ = fail

abbrev pub by_word : {A : Type 0} → (Line → Word → Reader A) → Reader A
by_word form [] = Err Syntax
by_word form (t ∷ ts) = at_word form t.line t.kind ts

-- ---- what statements begin with

abbrev pub form_word : Word → Bool
form_word words.Let = true
form_word words.Add = true
form_word words.Subtract = true
form_word words.Call = true
form_word words.Return = true
form_word words.Stop = true
form_word words.Read = true
form_word words.Start = true
form_word words.If = true
form_word words.For = true
form_word words.While = true
form_word words.Until = true
form_word words.Create = true
form_word words.Destroy = true
form_word words.File = true
form_word words.Remove = true
form_word words.Schedule = true
form_word words.Cancel = true
form_word words.Reset = true
form_word words.Print = true
form_word words.Skip = true
form_word _ = false

abbrev pub begins_form_kind : TokenKind → Bool
begins_form_kind (kinds.Word w) = form_word w
begins_form_kind _ = false

abbrev pub begins_form : List Token → Bool
begins_form [] = false
begins_form (t ∷ ts) = begins_form_kind t.kind

-- a statement, with a comma before it or not
abbrev pub begins_statement : List Token → Bool
begins_statement ts = begins_form (skip_comma ts)

-- ---- statements in statements

abbrev pub begins_outcome : List Token → Bool
begins_outcome = begins_by (in_table outcome_of)

-- the IF of a FIND, with a comma before it or not
abbrev pub begins_find_if_form : List Token → Bool
begins_find_if_form ts = begins (word words.If) ts && begins_outcome (skip (word words.If) ts)

abbrev pub begins_find_if : List Token → Bool
begins_find_if ts = begins_find_if_form (skip_comma ts)

module _ (statement : Reader StatementTree) where
  -- statements, each with a comma before it or not
  abbrev pub statements_with : Reader (List StatementTree)
  statements_with = rows begins_statement (λ r. statement (skip_comma r))

  abbrev pub else_with : Reader (List StatementTree)
  else_with = maybe_list (begins_noisy (word words.Else)) (after_dropped (expect_noisy (word words.Else)) statements_with)

  -- what follows a condition: the statements where it holds, and those where it doesn't
  unfoldable pub branches_with : Reader (StatementRow × StatementRow)
  branches_with = apply (λ p. (statement_row p.0, statement_row p.1)) (closed (seq statements_with else_with) (expect_noisy (word words.Always)))

  unfoldable pub do_with : Reader (List StatementTree)
  do_with = after_dropped (expect_noisy (word words.Do)) (closed statements_with (expect_noisy (word words.Loop)))

  -- one statement, that begins with neither WHILE nor UNTIL
  unfoldable pub governed_with : Reader (List StatementTree)
  governed_with = apply (λ s. s ∷ []) (λ ts. choose_reader begins_guard fail statement (skip_comma ts))

  unfoldable pub body_with : Reader StatementRow
  body_with = apply statement_row (choose_reader (begins_noisy (word words.Do)) do_with governed_with)

unfoldable pub find_words : Reader (Unit {0})
find_words = after_dropped (expect_noisy (word words.Find)) (after_the (after_dropped (expect (word words.First)) (expect (word words.Case))))

module _ (line : Line) (room : ℕ) (statement : Reader StatementTree) where
  -- an IF, after IF
  unfoldable pub if_with : Reader StatementTree
  if_with = apply (λ p. if_statement line p.0 p.1.0 p.1.1) (seq (condition_in room) (branches_with statement))

  abbrev pub loop_with : LoopHeadTree → Reader StatementTree
  loop_with head = apply (loop_statement line head) (body_with statement)

  -- the IF of a FIND
  unfoldable pub find_if_with : HeadTree → Reader StatementTree
  find_if_with head = apply (λ p. find_if_statement line head p.0 p.1.0 p.1.1) (after_dropped (expect_noisy (word words.If)) (seq (taken (in_table outcome_of)) (branches_with statement)))

  abbrev pub found_with : HeadTree → Reader StatementTree
  found_with head = choose_reader begins_find_if (find_if_with head) (done (find_statement line head))

  -- a FIND, after the head of its loop
  unfoldable pub find_with : HeadTree → Reader StatementTree
  find_with head = after_dropped find_words (found_with head)

  -- a loop or a FIND, after FOR
  unfoldable pub for_with : Reader StatementTree
  for_with ts = for_in room ts >>= λ h. choose_reader (begins_noisy (word words.Find)) (find_with h.0) (loop_with (for_head h.0)) h.1

  -- a loop, after WHILE or UNTIL
  unfoldable pub guarded_with : GuardKind → Reader StatementTree
  guarded_with kind ts = guarded_in room kind ts >>= λ h. loop_with h.0 h.1

-- ---- statements

-- a statement that has others in it, after this first word, where a level may still be opened
abbrev pub nested_at : Line → ℕ → Reader StatementTree → Word → Reader StatementTree
nested_at line room statement words.If = if_with line room statement
nested_at line room statement words.For = for_with line room statement
nested_at line room statement words.While = guarded_with line room statement guards.While
nested_at line room statement words.Until = guarded_with line room statement guards.Until
nested_at line room statement _ = fail

abbrev pub nested_word : Word → Bool
nested_word words.If = true
nested_word words.For = true
nested_word words.While = true
nested_word words.Until = true
nested_word _ = false

-- a statement that opens a level; it is too deep where no level may be opened
abbrev pub nested_in : ℕ → Reader StatementTree → Line → Word → Reader StatementTree
nested_in zero statement line w = too_deep
nested_in (suc room) statement line w = nested_at line (suc room) statement w

abbrev pub form_in : ℕ → Reader StatementTree → Line → Word → Reader StatementTree
form_in room statement line w = choose_reader (λ ts. nested_word w) (nested_in room statement line w) (simple_at line (suc room) w)

-- a statement, where so many levels may be opened, itself among them
unfoldable pub statement_in : ℕ → Reader StatementTree
statement_in zero = too_deep
statement_in (suc room) = by_word (form_in room (statement_in room))

abbrev pub statements_in : ℕ → Reader (List StatementTree)
statements_in room = statements_with (statement_in room)
