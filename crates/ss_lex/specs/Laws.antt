-- What holds of every text.
use Rattle.std.specs.Prelude.{◌≡◌, ◌⊎◌, ℕ, List}
use Rattle.ss_lex.specs.declared.token.Token.{Token}
use Rattle.ss_lex.specs.declared.error.LexError.{LexError}
use Rattle.ss_lex.specs.Tokens.{AreTokens}
use Rattle.ss_lex.specs.Refusals.{IsRefused}

-- a text has one list of tokens at most
abbrev pub OneList : Type 0
OneList = (text : List ℕ) (a b : List Token) → AreTokens text a → AreTokens text b → a ≡ b

-- a text has a list of tokens or a refusal, never both, and one refusal at most
pub record OneAnswer : Type 0 where
  pub some : (text : List ℕ) → ((tokens : List Token) × AreTokens text tokens) ⊎ ((refusal : LexError) × IsRefused text refusal)
  pub never_both : (text : List ℕ) (tokens : List Token) (refusal : LexError) → AreTokens text tokens → IsRefused text refusal → ⊥
  pub one_refusal : (text : List ℕ) (a b : LexError) → IsRefused text a → IsRefused text b → a ≡ b
