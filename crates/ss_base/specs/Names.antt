-- What a name is.
use Rattle.std.specs.Prelude.{◌≡◌, ℕ, ◌<◌, ◌≤◌, List, [], ◌∷◌, length, map, nat_le, Option, Some, None, if◌then◌else◌}
use Rattle.std.specs.Char.{to_ascii_uppercase}

-- the most characters of a name
abbrev pub name_limit : ℕ
name_limit = 32

-- the bytes with their letters as capitals
abbrev pub in_capitals : List ℕ → List ℕ
in_capitals bytes = map to_ascii_uppercase bytes

-- a name: some bytes, few enough of them, in capitals
pub record IsName (bytes : List ℕ) : Type 0 where
  pub some : 0 < length bytes
  pub short : length bytes ≤ name_limit
  pub capitals : in_capitals bytes ≡ bytes

-- the name that bytes are, if they are some and few enough
abbrev pub name_of : List ℕ → Option (List ℕ)
name_of [] = None
name_of (b ∷ bs) = if nat_le (length (b ∷ bs)) name_limit then Some (in_capitals (b ∷ bs)) else None
