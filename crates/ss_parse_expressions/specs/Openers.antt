-- How many tokens open a level of nesting, and how many levels may be open.
use Rattle.std.specs.Prelude.{ℕ, ◌+◌, List, [], ◌∷◌}
use Rattle.ss_lex.specs.declared.word.Word.TheVariants as words
use Rattle.ss_lex.specs.declared.token.Symbol.TheVariants.{OpenParenthesis}
use Rattle.ss_lex.specs.declared.token.TokenKind.{TokenKind}
use Rattle.ss_lex.specs.declared.token.TokenKind.TheVariants as kinds
use Rattle.ss_lex.specs.declared.token.Token.{Token}

-- how deep parentheses, IFs and loops may lie in one another
abbrev pub nesting_limit : ℕ
nesting_limit = 64

abbrev pub opens : TokenKind → ℕ
opens (kinds.Symbol OpenParenthesis) = 1
opens (kinds.Word words.If) = 1
opens (kinds.Word words.For) = 1
opens (kinds.Word words.While) = 1
opens (kinds.Word words.Until) = 1
opens _ = 0

abbrev pub openers : List Token → ℕ
openers [] = 0
openers (t ∷ ts) = opens t.kind + openers ts
