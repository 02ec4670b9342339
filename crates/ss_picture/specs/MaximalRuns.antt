-- That a picture is cut into its fields, each as long as it can be from the left, and the bytes between them, and that there
-- is no other such cut.
use Rattle.std.specs.Prelude.{◌≡◌, ◌≢◌, ℕ, zero, suc, ◌<◌, List, [], ◌∷◌, ⊤}
use Rattle.std.specs.List.{AllByRecursion}
use Rattle.ss_picture.specs.Numerals.{period}
use Rattle.ss_picture.specs.Pictures.{asterisk, Piece, Literal, Slot, pieces_of, joined}

-- none of these bytes is an asterisk
abbrev pub HasNoAsterisk : List ℕ → Type 0
HasNoAsterisk bytes = AllByRecursion (λ byte. byte ≢ asterisk) bytes

-- a width has room for an asterisk, and, where there are decimals, for a period and so many asterisks after it
abbrev pub IsWideEnough : ℕ → ℕ → Type 0
IsWideEnough width zero = 0 < width
IsWideEnough width (suc more) = suc (suc more) < width

-- a piece that is a run: it isn't empty, bytes that are no field have no asterisk, and a field has one before its period
abbrev pub IsRun : Piece → Type 0
IsRun (Literal []) = ⊥
IsRun (Literal (byte ∷ bytes)) = HasNoAsterisk (byte ∷ bytes)
IsRun (Slot field) = IsWideEnough field.width field.decimals

-- these bytes are a period alone, and a field follows it directly
abbrev pub IsPoint : List ℕ → List Piece → Type 0
IsPoint bytes [] = ⊥
IsPoint bytes (Literal _ ∷ _) = ⊥
IsPoint bytes (Slot _ ∷ _) = bytes ≡ period ∷ []

-- a run is maximal before these pieces: they don't begin with one of its kind, and where it is a field without decimals,
-- none can be had from them
abbrev pub IsMaximalBefore : Piece → List Piece → Type 0
IsMaximalBefore _ [] = ⊤
IsMaximalBefore (Literal _) (Literal _ ∷ _) = ⊥
IsMaximalBefore (Literal _) (Slot _ ∷ _) = ⊤
IsMaximalBefore (Slot field) (Literal bytes ∷ rest) = field.decimals ≡ 0 → IsPoint bytes rest → ⊥
IsMaximalBefore (Slot _) (Slot _ ∷ _) = ⊥

-- pieces that are maximal runs
abbrev pub AreMaximalRuns : List Piece → Type 0
AreMaximalRuns [] = ⊤
AreMaximalRuns (piece ∷ rest) = IsRun piece × IsMaximalBefore piece rest × AreMaximalRuns rest

-- these pieces, none of them filled, are the picture, and they are maximal runs
pub record IsPictureCut (picture : List ℕ) (pieces : List Piece) : Type 0 where
  pub whole : joined pieces [] ≡ picture
  pub maximal : AreMaximalRuns pieces

-- the pieces of a picture cut it into maximal runs
abbrev pub PiecesCut : Type 0
PiecesCut = (picture : List ℕ) → IsPictureCut picture (pieces_of picture)

-- and no others do
abbrev pub OnlyPiecesCut : Type 0
OnlyPiecesCut = (picture : List ℕ) (pieces : List Piece) → IsPictureCut picture pieces → pieces ≡ pieces_of picture
