-- Reading statements that hold no others, from left to right.
use Rattle.std.specs.Prelude.{ℕ, zero, suc, ℤ, pos, negsuc, List, [], ◌∷◌, Option, Some, None, Ok}
use Rattle.ss_base.specs.declared.line.Line.{Line}
use Rattle.ss_lex.specs.declared.word.Word.{Word}
use Rattle.ss_lex.specs.declared.word.Word.TheVariants as words
use Rattle.ss_lex.specs.declared.token.Symbol.TheVariants.{Equals}
use Rattle.ss_lex.specs.declared.token.TokenKind.{TokenKind}
use Rattle.ss_lex.specs.declared.token.TokenKind.TheVariants as kinds
use Rattle.ss_tree.specs.Tree.{ExpressionTree, NamedTree, PositionTree, by_discipline, at_first, at_last, before, after, WhenTree, at_time, in_units, now, StatementTree, let_statement, add_statement, subtract_statement, call_statement, return_statement, stop_statement, read_statement, start_simulation, create_statement, create_every, destroy_statement, file_statement, remove_end, remove_statement, schedule_new, schedule_statement, cancel_statement, reset_statement, print_statement, skip_statement}
use Rattle.ss_parse_expressions.specs.declared.classes.WordClass.TheVariants as classes
use Rattle.ss_parse_expressions.specs.Reading.{Reader, ◌>>=◌, Mark, word, symbol, begins, begins_by, skip, expect, in_table, taken, name_in_token, seq, after_dropped, closed, apply, maybe, maybe_list, choose_reader}
use Rattle.ss_parse_expressions.specs.ReadWords.{done, fail, begins_class, skip_class, expect_class, names}
use Rattle.ss_parse_expressions.specs.ReadExpressions.{sum_in}
use Rattle.ss_parse_expressions.specs.ReadPlaces.{target_in, reference_in, targets_in, sums_in}
use Rattle.ss_parse_statements.specs.SpelledParts.{end_of}

-- ---- parts of statements

abbrev pub equals : Mark
equals = symbol Equals

-- what follows THE, which may be left out
abbrev pub after_the : {A : Type 0} → Reader A → Reader A
after_the r ts = r (skip (word words.The) ts)

abbrev pub set_reader : ℕ → Reader NamedTree
set_reader room = after_the (reference_in room)

-- what follows CALLED, if CALLED is there
abbrev pub called : {A : Type 0} → Reader A → Reader (Option A)
called r = maybe (begins (word words.Called)) (after_dropped (expect (word words.Called)) r)

-- a number of pictures, 1 at least
abbrev pub positive : ℤ → Option ℕ
positive (pos zero) = None
positive (pos (suc n)) = Some (suc n)
positive (negsuc n) = None

abbrev pub positive_of : TokenKind → Option ℕ
positive_of (kinds.Number n) = positive n
positive_of _ = None

-- the items of a PRINT
abbrev pub items_in : ℕ → Reader (List ExpressionTree)
items_in room = maybe_list (begins (word words.With)) (after_dropped (expect (word words.With)) (sums_in room))

-- the words of a PRINT before its pictures
unfoldable pub trigger : Reader (Unit {0})
trigger =
    choose_reader (begins (word words.Thus)) (expect (word words.Thus))
    (choose_reader (begins (word words.As)) (after_dropped (expect (word words.As)) (expect (word words.Follows)))
    (after_dropped (expect (word words.Like)) (expect (word words.This))))

abbrev pub picture_token : TokenKind → Option (List ℕ)
picture_token (kinds.Picture bytes) = Some bytes
picture_token _ = None

-- so many pictures
unfoldable pub pictures_at : ℕ → Reader (List (List ℕ))
pictures_at zero ts = Ok ([], ts)
pictures_at (suc n) ts = taken picture_token ts >>= λ p. pictures_at n p.1 >>= λ ps. Ok (p.0 ∷ ps.0, ps.1)

-- the expressions that are given
abbrev pub given_in : ℕ → Reader (List ExpressionTree)
given_in room = maybe_list (begins_class classes.Given) (after_dropped (expect_class classes.Given) (sums_in room))

abbrev pub yielding_in : ℕ → Reader (List NamedTree)
yielding_in room = maybe_list (begins (word words.Yielding)) (after_dropped (expect (word words.Yielding)) (targets_in room))

-- where a member is filed
unfoldable pub position_in : ℕ → Reader PositionTree
position_in room =
    choose_reader (begins (word words.First)) (apply (λ u. at_first) (expect (word words.First)))
    (choose_reader (begins (word words.Last)) (apply (λ u. at_last) (expect (word words.Last)))
    (choose_reader (begins (word words.Before)) (apply before (after_dropped (expect (word words.Before)) (sum_in room)))
    (choose_reader (begins (word words.After)) (apply after (after_dropped (expect (word words.After)) (sum_in room)))
    (done by_discipline))))

-- when a notice is due
unfoldable pub when_in : ℕ → Reader WhenTree
when_in room =
    choose_reader (begins (word words.At)) (apply at_time (after_dropped (expect (word words.At)) (sum_in room)))
    (choose_reader (begins (word words.In)) (apply in_units (after_dropped (expect (word words.In)) (closed (sum_in room) (expect (word words.Unit)))))
    (apply (λ u. now) (expect (word words.Now))))

abbrev pub due_in : ℕ → Reader (List ExpressionTree × WhenTree)
due_in room = seq (given_in room) (when_in room)

-- ---- simple statements, after their first word

unfoldable pub let_at : Line → ℕ → Reader StatementTree
let_at line room = apply (λ p. let_statement line p.0 p.1) (seq (target_in room) (after_dropped (expect equals) (sum_in room)))

unfoldable pub add_at : Line → ℕ → Reader StatementTree
add_at line room = apply (λ p. add_statement line p.0 p.1) (seq (sum_in room) (after_dropped (expect (word words.To)) (target_in room)))

unfoldable pub subtract_at : Line → ℕ → Reader StatementTree
subtract_at line room = apply (λ p. subtract_statement line p.0 p.1) (seq (sum_in room) (after_dropped (expect (word words.From)) (target_in room)))

unfoldable pub call_at : Line → ℕ → Reader StatementTree
call_at line room = apply (λ p. call_statement line p.0 p.1.0 p.1.1) (seq (taken name_in_token) (seq (given_in room) (yielding_in room)))

unfoldable pub read_at : Line → ℕ → Reader StatementTree
read_at line room = apply (read_statement line) (targets_in room)

unfoldable pub start_at : Line → Reader StatementTree
start_at line = apply (λ u. start_simulation line) (expect (word words.Simulation))

unfoldable pub new_at : Line → ℕ → Reader StatementTree
new_at line room = apply (λ p. create_statement line p.0 p.1) (λ ts. seq (taken name_in_token) (called (target_in room)) (skip_class classes.Indefinite ts))

unfoldable pub create_at : Line → ℕ → Reader StatementTree
create_at line room = choose_reader (begins (word words.Every)) (apply (create_every line) (after_dropped (expect (word words.Every)) names)) (new_at line room)

unfoldable pub destroy_at : Line → ℕ → Reader StatementTree
destroy_at line room = apply (λ p. destroy_statement line p.0 p.1) (after_the (seq (taken name_in_token) (called (sum_in room))))

unfoldable pub cancel_at : Line → ℕ → Reader StatementTree
cancel_at line room = apply (λ p. cancel_statement line p.0 p.1) (after_the (seq (taken name_in_token) (called (sum_in room))))

unfoldable pub file_at : Line → ℕ → Reader StatementTree
file_at line room = apply (λ p. file_statement line p.0 p.1.0 p.1.1) (after_the (seq (sum_in room) (seq (position_in room) (after_dropped (expect (word words.In)) (set_reader room)))))

-- the rest of a REMOVE, after THE
unfoldable pub remove_end_at : Line → ℕ → Reader StatementTree
remove_end_at line room = apply (λ p. remove_end line p.0 p.1.0 p.1.1) (seq (taken (in_table end_of)) (seq (target_in room) (after_dropped (expect (word words.From)) (set_reader room))))

unfoldable pub remove_this_at : Line → ℕ → Reader StatementTree
remove_this_at line room = apply (λ p. remove_statement line p.0 p.1) (seq (sum_in room) (after_dropped (expect (word words.From)) (set_reader room)))

unfoldable pub remove_at : Line → ℕ → Reader StatementTree
remove_at line room = after_the (choose_reader (begins_by (in_table end_of)) (remove_end_at line room) (remove_this_at line room))

unfoldable pub schedule_the_at : Line → ℕ → Reader StatementTree
schedule_the_at line room = apply (λ p. schedule_statement line p.0 p.1.0 p.1.1.0 p.1.1.1) (after_dropped (expect (word words.The)) (seq (taken name_in_token) (seq (called (sum_in room)) (due_in room))))

unfoldable pub schedule_a_at : Line → ℕ → Reader StatementTree
schedule_a_at line room = apply (λ p. schedule_new line p.0 p.1.0 p.1.1.0 p.1.1.1) (after_dropped (expect_class classes.Indefinite) (seq (taken name_in_token) (seq (called (target_in room)) (due_in room))))

unfoldable pub schedule_at : Line → ℕ → Reader StatementTree
schedule_at line room = choose_reader (begins (word words.The)) (schedule_the_at line room) (schedule_a_at line room)

unfoldable pub reset_at : Line → ℕ → Reader StatementTree
reset_at line room = apply (reset_statement line) (after_the (after_dropped (expect (word words.Totals)) (after_dropped (expect (word words.Of)) (targets_in room))))

-- the number of pictures and the items
unfoldable pub print_head : ℕ → Reader (ℕ × List ExpressionTree)
print_head room = seq (taken positive_of) (after_dropped (expect (word words.Line)) (closed (items_in room) trigger))

unfoldable pub print_at : Line → ℕ → Reader StatementTree
print_at line room ts = print_head room ts >>= λ h. apply (λ ps. print_statement line h.0.1 ps) (pictures_at h.0.0) h.1

unfoldable pub skip_at : Line → ℕ → Reader StatementTree
skip_at line room = apply (skip_statement line) (closed (sum_in room) (λ ts. expect (word words.Line) (skip (word words.Output) ts)))

-- a statement that has no others in it, after this first word
unfoldable pub simple_at : Line → ℕ → Word → Reader StatementTree
simple_at line room words.Let = let_at line room
simple_at line room words.Add = add_at line room
simple_at line room words.Subtract = subtract_at line room
simple_at line room words.Call = call_at line room
simple_at line room words.Return = done (return_statement line)
simple_at line room words.Stop = done (stop_statement line)
simple_at line room words.Read = read_at line room
simple_at line room words.Start = start_at line
simple_at line room words.Create = create_at line room
simple_at line room words.Destroy = destroy_at line room
simple_at line room words.File = file_at line room
simple_at line room words.Remove = remove_at line room
simple_at line room words.Schedule = schedule_at line room
simple_at line room words.Cancel = cancel_at line room
simple_at line room words.Reset = reset_at line room
simple_at line room words.Print = print_at line room
simple_at line room words.Skip = skip_at line room
simple_at line room _ = fail
