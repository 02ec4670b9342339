-- How a spelling lies in its bytes.
use Rattle.std.specs.Prelude.{◌≡◌, ℕ, Bool, nat_le, ◌-◌, List, ◌++◌, length, take, replicate, nat_lt, Option, Some, None, if◌then◌else◌}
use Rattle.std.specs.List.{list_all}

-- the most characters of a spelling: a letter, a period and a name
abbrev pub spelling_limit : ℕ
spelling_limit = 34

-- a spelling with zeros after it, as many as fill its room
abbrev pub padded_spelling : List ℕ → List ℕ
padded_spelling bytes = bytes ++ replicate (spelling_limit - length bytes) 0

-- what is true of the bytes and the length of every spelling
pub record IsSpellingRoom (room : List ℕ) (len : ℕ) : Type 0 where
  pub counted : length (take len room) ≡ len
  pub zeros : padded_spelling (take len room) ≡ room

-- the spelling of these bytes, if they are few enough
abbrev pub spelling_of : List ℕ → Option (List ℕ)
spelling_of bytes = if nat_lt spelling_limit (length bytes) then None else Some bytes

-- whether names are short enough to be spellings
abbrev pub are_short : List (List ℕ) → Bool
are_short names = list_all (λ name. nat_le (length name) spelling_limit) names
