-- A summary of the tokens so far, which gives the number of pictures that the next trigger word calls for.
use Rattle.std.specs.Prelude.{◌≡◌, ℕ, Bool, false, if◌then◌else◌, List, [], ◌∷◌}
use Rattle.ss_lex.specs.declared.token.TokenKind.{TokenKind}
use Rattle.ss_lex.specs.declared.token.Token.{Token}
use Rattle.ss_lex.specs.Tokens.{is_print, is_print_or_trigger, number_in_token, number_due}

-- the last token is PRINT
abbrev pub ends_in_print : List Token → Bool
ends_in_print [] = false
ends_in_print (t ∷ []) = is_print t.kind
ends_in_print (t ∷ u ∷ ts) = ends_in_print (u ∷ ts)

-- the summary is that of the tokens
pub record IsSummary (tokens : List Token) (print_last : Bool) (number : ℕ) : Type 0 where
  pub ends : print_last ≡ ends_in_print tokens
  pub due : number ≡ number_due tokens

-- the number of pictures that a trigger word calls for after these tokens and one of this kind
abbrev pub number_after : List Token → TokenKind → ℕ
number_after ts kind =
    if is_print_or_trigger kind then 0 else (if ends_in_print ts then number_in_token kind else number_due ts)
