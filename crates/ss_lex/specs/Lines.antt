-- The bytes of a text, and its lines.
use Rattle.std.specs.Prelude.{ℕ, ◌+◌, Bool, ◌||◌, ◌==◌, List, [], ◌∷◌, Option, Some, None, if◌then◌else◌}
use Rattle.ss_base.specs.Values.{is_text_byte}

-- the most bytes of a text
abbrev pub source_limit : ℕ
source_limit = 1048576

-- a byte that a text may hold: a printable character or a blank, a tab, a line feed, a carriage return
abbrev pub is_character : ℕ → Bool
is_character b = is_text_byte b || (b == 9 || (b == 10 || b == 13))

-- the line of the first byte that a text may not hold; the bytes begin in this line
abbrev pub first_foreign : ℕ → List ℕ → Option ℕ
first_foreign line [] = None
first_foreign line (b ∷ bs) =
    if is_character b then first_foreign (if b == 10 then line + 1 else line) bs else Some line

-- the lines, with a byte more at the front of the first
abbrev pub with_byte_first : ℕ → List (List ℕ) → List (List ℕ)
with_byte_first b [] = (b ∷ []) ∷ []
with_byte_first b (l ∷ ls) = (b ∷ l) ∷ ls

-- the lines without their line feeds; what follows the last line feed is a line where it isn't empty
abbrev pub lines_of : List ℕ → List (List ℕ)
lines_of [] = []
lines_of (b ∷ bs) = if b == 10 then [] ∷ lines_of bs else with_byte_first b (lines_of bs)

-- a line without the carriage return at its end
abbrev pub picture_of : List ℕ → List ℕ
picture_of [] = []
picture_of (b ∷ []) = if b == 13 then [] else b ∷ []
picture_of (b ∷ c ∷ bs) = b ∷ picture_of (c ∷ bs)
