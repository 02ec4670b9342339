-- What a text is: a few printable characters, with no blank at the end.
use Rattle.std.specs.Prelude.{◌≡◌, ℕ, ◌≤◌, ◌==◌, Bool, ◌&&◌, nat_le, if◌then◌else◌, List, [], ◌∷◌, length, IsTrue, Option, Some, None}
use Rattle.std.specs.List.{list_all}

-- the most characters of a text
abbrev pub text_limit : ℕ
text_limit = 16

-- a byte that a text may hold: a printable character of ASCII or a blank
abbrev pub is_text_byte : ℕ → Bool
is_text_byte b = nat_le 32 b && nat_le b 126

-- a byte in front of bytes that are without blanks at their end
abbrev pub in_front : ℕ → List ℕ → List ℕ
in_front b [] = if b == 32 then [] else b ∷ []
in_front b (c ∷ cs) = b ∷ c ∷ cs

-- the bytes without the blanks at their end
abbrev pub without_end_blanks : List ℕ → List ℕ
without_end_blanks [] = []
without_end_blanks (b ∷ bs) = in_front b (without_end_blanks bs)

-- a text: few enough bytes, each of them printable or a blank, the last no blank
pub record IsText (bytes : List ℕ) : Type 0 where
  pub printable : IsTrue (list_all is_text_byte bytes)
  pub short : length bytes ≤ text_limit
  pub trimmed : without_end_blanks bytes ≡ bytes

-- the text that bytes spell, if they spell one
abbrev pub text_of : List ℕ → Option (List ℕ)
text_of bytes =
    if list_all is_text_byte bytes && nat_le (length (without_end_blanks bytes)) text_limit
    then Some (without_end_blanks bytes)
    else None
