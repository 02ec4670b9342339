-- What a text was read as.
use Rattle.std.specs.Prelude.{ℕ, List}
use Rattle.ss_lex.specs.declared.token.Token.{Token}

-- the tokens of a text, and how many lines it has
pub record Listing : Type 0 where
  pub list : List Token
  pub lines : ℕ
