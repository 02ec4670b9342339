-- What a listing is: a line for each instruction, which begins with its number and a blank. Its other words are not fixed.
use Rattle.std.specs.Prelude.{◌≡◌, ℕ, zero, suc, ◌==◌, List, [], ◌∷◌, ◌++◌, decimal, if◌then◌else◌}

-- a text but for its line feeds
abbrev pub without_feeds : List ℕ → List ℕ
without_feeds [] = []
without_feeds (b ∷ bs) = if b == 10 then without_feeds bs else b ∷ without_feeds bs

-- after a text comes one more line: its number, a blank, words without a line feed, and a line feed
abbrev pub IsLine : (before : List ℕ) → (number : ℕ) → (text : List ℕ) → Type 0
IsLine before number text = (words : List ℕ) × (text ≡ before ++ (decimal number ++ (32 ∷ (without_feeds words ++ (10 ∷ [])))))

-- so many lines, whose numbers go from 0 on
abbrev pub AreLines : (count : ℕ) → (text : List ℕ) → Type 0
AreLines zero text = text ≡ []
AreLines (suc n) text = (before : List ℕ) × AreLines n before × IsLine before n text
