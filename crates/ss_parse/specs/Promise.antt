-- What reading a program promises.
use Rattle.std.specs.Prelude.{◌≡◌, ℕ, ◌<◌, ◌⊎◌, List, [], ◌∷◌}
use Rattle.ss_base.specs.declared.line.Line.{Line}
use Rattle.ss_lex.specs.declared.token.Token.{Token}
use Rattle.ss_parse.specs.declared.error.ParseError.{ParseError}
use Rattle.ss_parse.specs.declared.error.ParseError.TheVariants as errors
use Rattle.ss_tree.specs.Tree.{ProgramTree}
use Rattle.ss_parse_expressions.specs.Openers.{nesting_limit, openers}
use Rattle.ss_parse.specs.SpelledPrograms.{Is_spelling}

-- The tokens have no tree of so many levels.
abbrev pub Has_no_tree : List Token → ℕ → Type 0
Has_no_tree ts levels = (p : ProgramTree) → Is_spelling ts levels p → ⊥

-- When tokens are refused: they have no tree within the limit on nesting. For syntax they have none of any depth; where it is
-- too deep, more of them than the limit open a level.
abbrev pub Is_refused : List Token → ParseError → Type 0
Is_refused ts (errors.Syntax line) = (levels : ℕ) → Has_no_tree ts levels
Is_refused ts (errors.TooDeep line) = Has_no_tree ts nesting_limit × (nesting_limit < openers ts)
Is_refused ts errors.Memory = Unit {0}

-- the line of one of the tokens
abbrev pub Is_line_of_one : List Token → Line → Type 0
Is_line_of_one [] line = ⊥
Is_line_of_one (t ∷ ts) line = (t.line ≡ line) ⊎ Is_line_of_one ts line

-- a refusal's line is that of a token
abbrev pub Has_line : List Token → ParseError → Type 0
Has_line ts (errors.Syntax line) = Is_line_of_one ts line
Has_line ts (errors.TooDeep line) = Is_line_of_one ts line
Has_line ts errors.Memory = Unit {0}

-- no tokens spell two trees, of whatever depth
abbrev pub One_tree : Type 0
One_tree = (ts : List Token) (n m : ℕ) (p q : ProgramTree) → Is_spelling ts n p → Is_spelling ts m q → p ≡ q
