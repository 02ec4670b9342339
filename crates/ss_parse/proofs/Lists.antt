-- Lines of tokens.
use Rattle.std.proofs.Common.{◌<◌, suc, zero, get_or, arith, inl, inr, ℕ, List, [], ◌∷◌, length, refl}
use Rattle.ss_lex.specs.declared.token.Token.{Token}
use Rattle.ss_parse.specs.Promise.{Is_line_of_one}

-- a token's line is that of one of them
pub line_of_one : (ts : List Token) (i : ℕ) (d : Token) → i < length ts → Is_line_of_one ts (get_or ts i d).line
line_of_one [] i d lt = absurd (omega arith)
line_of_one (t ∷ ts) zero d lt = inl refl
line_of_one (t ∷ ts) (suc i) d lt = inr (line_of_one ts i d (omega arith))
