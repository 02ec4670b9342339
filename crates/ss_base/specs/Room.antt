-- How a text lies in its bytes: the text, and zeros after it.
use Rattle.std.specs.Prelude.{◌≡◌, ℕ, ◌-◌, suc, zero, List, [], ◌∷◌, ◌++◌, length, replicate}
use Rattle.ss_base.specs.Values.{text_limit, IsText}

-- the bytes before the first zero
abbrev pub before_zero : List ℕ → List ℕ
before_zero [] = []
before_zero (zero ∷ _) = []
before_zero (suc b ∷ bs) = suc b ∷ before_zero bs

-- a text with zeros after it, as many as fill its room
abbrev pub padded_text : List ℕ → List ℕ
padded_text text = text ++ replicate (text_limit - length text) 0

-- what is true of the bytes of every text
pub record IsTextRoom (room : List ℕ) : Type 0 where
  pub text : IsText (before_zero room)
  pub zeros : padded_text (before_zero room) ≡ room
