-- Where the fields of a picture begin.
use Rattle.std.specs.Prelude.{ℕ, ◌+◌, List, [], ◌∷◌, length}
use Rattle.ss_picture.specs.Pictures.{Piece, Literal, Slot, pieces_of}

-- where the fields among these pieces begin, the first piece at this place
abbrev pub starts_among : ℕ → List Piece → List ℕ
starts_among place [] = []
starts_among place (Literal bytes ∷ rest) = starts_among (place + length bytes) rest
starts_among place (Slot field ∷ rest) = place ∷ starts_among (place + field.width) rest

-- where the fields of a picture begin, from the left
unfoldable pub starts : List ℕ → List ℕ
starts picture = starts_among 0 (pieces_of picture)
