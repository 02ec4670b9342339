-- The pieces of a picture are its only cut into fields and the bytes between them.
use Rattle.std.proofs.Common.{◌≡◌, ◌≢◌, ℕ, zero, suc, ◌+◌, ◌-◌, ◌<◌, eqb, cond, List, [], ◌∷◌, ◌++◌, length, drop, replicate, refl, sym, ap, ◌∙◌, subst, arith, length-append}
use Rattle.std.specs.Bool.{⊤}
use Rattle.std.proofs.lemmas.Bool.{cond_both, ne_eqb}
use Rattle.std.proofs.lemmas.List.{append_assoc, drop_at, length-replicate}
use Rattle.ss_picture.specs.declared.field.Field.{Field}
use Rattle.ss_picture.specs.Pictures.{Piece, Literal, Slot, stars, decimals_at, field_of, leading_field, characters_of, characters, byte_before, pieces_of, joined}
use Rattle.ss_picture.specs.MaximalRuns.{HasNoAsterisk, IsWideEnough, IsMaximalBefore, AreMaximalRuns, PiecesCut, OnlyPiecesCut}
use Rattle.ss_picture.proofs.Stars.{stars_more, stars_none, stars-replicate, after_field, after_plain_field}
use Rattle.ss_picture.proofs.Pieces.{by_pieces, pieces_of_other, pieces_of_field, joined-pieces_of}

-- ---- the pieces are maximal runs

-- a field found has room for what belongs to it
room_of : (whole decimals : ℕ) → 0 < whole → IsWideEnough (field_of whole decimals).width (field_of whole decimals).decimals
room_of whole zero some = some
room_of whole (suc more) some = omega arith

-- bytes whose pieces begin with a field begin with an asterisk
not_byte : (byte : ℕ) (pieces rest : List Piece) (field : Field) → byte_before byte pieces ≡ Slot field ∷ rest → ⊥
not_byte byte [] rest field is = cc
not_byte byte (Literal bytes ∷ more) rest field is = cc
not_byte byte (Slot other ∷ more) rest field is = cc

starred : (bytes : List ℕ) (field : Field) (rest : List Piece) → pieces_of bytes ≡ Slot field ∷ rest → 0 < stars bytes
starred bytes =
    by_pieces (λ bytes pieces. (field : Field) (rest : List Piece) → pieces ≡ Slot field ∷ rest → 0 < stars bytes)
    (λ field rest is. absurd cc)
    (λ bytes some h field rest is. some)
    (λ byte bytes other h field rest is. absurd (not_byte byte (pieces_of bytes) rest field is))
    0 bytes

-- another byte before maximal runs
maximal-byte_before : (byte : ℕ) (pieces : List Piece) → byte ≢ 42 → AreMaximalRuns pieces → AreMaximalRuns (byte_before byte pieces)
maximal-byte_before byte [] other runs = ((other, tt), tt, tt)
maximal-byte_before byte (Literal [] ∷ rest) other runs = absurd runs.0
maximal-byte_before byte (Literal (first ∷ bytes) ∷ []) other runs = ((other, runs.0), tt, tt)
maximal-byte_before byte (Literal (first ∷ bytes) ∷ Literal more ∷ rest) other runs = absurd runs.1
maximal-byte_before byte (Literal (first ∷ bytes) ∷ Slot field ∷ rest) other runs = ((other, runs.0), tt, runs.2)
maximal-byte_before byte (Slot field ∷ rest) other runs = ((other, tt), tt, runs)

-- no piece in front is without bytes
abbrev pub IsFull : List Piece → Type 0
IsFull [] = ⊤
IsFull (Literal [] ∷ rest) = ⊥
IsFull (Literal (byte ∷ bytes) ∷ rest) = ⊤
IsFull (Slot field ∷ rest) = ⊤

full-byte_before : (byte : ℕ) (pieces : List Piece) → IsFull (byte_before byte pieces)
full-byte_before byte [] = tt
full-byte_before byte (Literal bytes ∷ rest) = tt
full-byte_before byte (Slot field ∷ rest) = tt

full : (bytes : List ℕ) → IsFull (pieces_of bytes)
full bytes = by_pieces (λ bytes pieces. IsFull pieces) tt (λ bytes some h. tt) (λ byte bytes other h. full-byte_before byte (pieces_of bytes)) 0 bytes

-- where a byte comes before pieces, a field ends before it, unless it is a period directly before a field
two_bytes : (byte first : ℕ) (bytes : List ℕ) → byte ∷ first ∷ bytes ≡ 46 ∷ [] → ⊥
two_bytes byte first bytes is = cc

one_byte : (byte : ℕ) → byte ∷ [] ≡ 46 ∷ [] → byte ≡ 46
one_byte byte is = cc

ends_before_byte : (field : Field) (byte : ℕ) (pieces : List Piece) → IsFull pieces
    → (field.decimals ≡ 0 → (next : Field) (rest : List Piece) → pieces ≡ Slot next ∷ rest → byte ≡ 46 → ⊥)
    → IsMaximalBefore (Slot field) (byte_before byte pieces)
ends_before_byte field byte [] is_full unless = λ plain point. point
ends_before_byte field byte (Literal [] ∷ rest) is_full unless = absurd is_full
ends_before_byte field byte (Literal (first ∷ bytes) ∷ []) is_full unless = λ plain point. point
ends_before_byte field byte (Literal (first ∷ bytes) ∷ Literal more ∷ rest) is_full unless = λ plain point. point
ends_before_byte field byte (Literal (first ∷ bytes) ∷ Slot next ∷ rest) is_full unless = λ plain point. two_bytes byte first bytes point
ends_before_byte field byte (Slot next ∷ rest) is_full unless = λ plain point. unless plain next rest refl (one_byte byte point)

no_decimals_possible : (bytes : List ℕ) (next : Field) (rest : List Piece) (byte : ℕ) → decimals_at (byte ∷ bytes) ≡ 0 → pieces_of bytes ≡ Slot next ∷ rest → byte ≡ 46 → ⊥
no_decimals_possible bytes next rest byte none pieces is =
    let some = starred bytes next rest pieces in
    let at_period : stars bytes ≡ 0 = ap (λ first. decimals_at (first ∷ bytes)) (sym is) ∙ none in
    omega arith

no_asterisk : (byte : ℕ) (bytes : List ℕ) → stars (byte ∷ bytes) ≡ 0 → byte ≢ 42
no_asterisk byte bytes none is = let more = stars_more byte bytes is in omega arith

ends_before : (field : Field) (after : List ℕ) → stars after ≡ 0 → (field.decimals ≡ 0 → decimals_at after ≡ 0) → IsMaximalBefore (Slot field) (pieces_of after)
ends_before field [] none plain_none = tt
ends_before field (byte ∷ bytes) none plain_none =
    subst (λ (pieces : List Piece). IsMaximalBefore (Slot field) pieces) (sym (pieces_of_other byte bytes (no_asterisk byte bytes none)))
    (ends_before_byte field byte (pieces_of bytes) (full bytes) (λ plain next rest pieces is. no_decimals_possible bytes next rest byte (plain_none plain) pieces is))

maximal-pieces_of : (bytes : List ℕ) → AreMaximalRuns (pieces_of bytes)
maximal-pieces_of bytes =
    by_pieces (λ bytes pieces. AreMaximalRuns pieces) tt
    (λ bytes some runs.
    (room_of (stars bytes) (decimals_at (drop (stars bytes) bytes)) some, ends_before (leading_field bytes) (drop (leading_field bytes).width bytes) (after_field bytes) (after_plain_field bytes), runs))
    (λ byte bytes other runs. maximal-byte_before byte (pieces_of bytes) other runs)
    0 bytes

-- ---- maximal runs are found again

-- other bytes before a field are found again
pieces_of-bytes : (byte : ℕ) (bytes : List ℕ) (rest : List Piece) (after : List ℕ) → HasNoAsterisk (byte ∷ bytes) → pieces_of after ≡ rest
    → IsMaximalBefore (Literal (byte ∷ bytes)) rest → pieces_of ((byte ∷ bytes) ++ after) ≡ Literal (byte ∷ bytes) ∷ rest
pieces_of-bytes byte [] [] after plain is ends = pieces_of_other byte after plain.0 ∙ ap (byte_before byte) is
pieces_of-bytes byte [] (Literal more ∷ rest) after plain is ends = absurd ends
pieces_of-bytes byte [] (Slot field ∷ rest) after plain is ends = pieces_of_other byte after plain.0 ∙ ap (byte_before byte) is
pieces_of-bytes byte (next ∷ bytes) rest after plain is ends =
    pieces_of_other byte ((next ∷ bytes) ++ after) plain.0
    ∙ ap (byte_before byte) (pieces_of-bytes next bytes rest after plain.1 is (ends_too rest ends))
  where
    ends_too : (others : List Piece) → IsMaximalBefore (Literal (byte ∷ next ∷ bytes)) others → IsMaximalBefore (Literal (next ∷ bytes)) others
    ends_too [] h = h
    ends_too (Literal more ∷ others) h = h
    ends_too (Slot field ∷ others) h = h

-- a field of a width and so many decimals
abbrev pub shape : ℕ → ℕ → Field
shape width decimals = record { width = width; decimals = decimals }

-- the bytes of a field, with those after it, begin with asterisks
record Again (width decimals : ℕ) (bytes : List ℕ) : Type 0 where
  some : 0 < stars bytes
  found : leading_field bytes ≡ shape width decimals

found_again : (width decimals : ℕ) (after : List ℕ) → IsWideEnough width decimals → stars after ≡ 0 → (decimals ≡ 0 → decimals_at after ≡ 0)
    → Again width decimals (characters_of width decimals ++ after)
found_again width zero after room none plain =
    let bytes : List ℕ = replicate width 42 ++ after in
    let run : stars bytes ≡ width = stars-replicate width after none in
    record {
      some = omega arith;
      found =
          ap (λ (n : ℕ). field_of n (decimals_at (drop n bytes))) run
          ∙ ap (λ (rest : List ℕ). field_of width (decimals_at rest)) (drop_at (replicate width 42) after width (length-replicate width 42))
          ∙ ap (field_of width) (plain refl);
    }
found_again width (suc more) after room none plain =
    let whole : ℕ = width - suc (suc more) in
    let front : List ℕ = replicate whole 42 in
    let decimals : List ℕ = replicate (suc more) 42 in
    let skipped : List ℕ = 46 ∷ (decimals ++ after) in
    let regrouped : (front ++ 46 ∷ decimals) ++ after ≡ front ++ skipped = append_assoc front (46 ∷ decimals) after in
    let run : stars (front ++ skipped) ≡ whole = stars-replicate whole skipped refl in
    let run_before : stars ((front ++ 46 ∷ decimals) ++ after) ≡ whole = ap stars regrouped ∙ run in
    let as_wide : whole + suc (suc more) ≡ width = omega arith in
    record {
      some = omega arith;
      found =
          ap leading_field regrouped
          ∙ ap (λ (n : ℕ). field_of n (decimals_at (drop n (front ++ skipped)))) run
          ∙ ap (λ (rest : List ℕ). field_of whole (decimals_at rest)) (drop_at front skipped whole (length-replicate whole 42))
          ∙ ap (field_of whole) (stars-replicate (suc more) after none)
          ∙ ap (λ (n : ℕ). shape n (suc more)) as_wide;
    }

length-characters : (width decimals : ℕ) → IsWideEnough width decimals → length (characters_of width decimals) ≡ width
length-characters width zero room = length-replicate width 42
length-characters width (suc more) room =
    omega (arith, length-append {A = ℕ} (replicate (width - suc (suc more)) 42) (46 ∷ replicate (suc more) 42), length-replicate {A = ℕ} (width - suc (suc more)) 42, length-replicate {A = ℕ} (suc more) 42)

-- a field is found again
pieces_of-slot : (field : Field) (after : List ℕ) → IsWideEnough field.width field.decimals → stars after ≡ 0 → (field.decimals ≡ 0 → decimals_at after ≡ 0)
    → pieces_of (characters field ++ after) ≡ Slot field ∷ pieces_of after
pieces_of-slot field after room none plain =
    let bytes : List ℕ = characters field ++ after in
    let again = found_again field.width field.decimals after room none plain in
    let is : leading_field bytes ≡ field = again.found in
    pieces_of_field bytes again.some
    ∙ ap (λ (f : Field). Slot f ∷ pieces_of (drop f.width bytes)) is
    ∙ ap (λ (rest : List ℕ). Slot field ∷ pieces_of rest) (drop_at (characters field) after field.width (length-characters field.width field.decimals room))

-- after a field no asterisk follows, and after one without decimals no period and asterisk
no_star_after : (field : Field) (rest : List Piece) → IsMaximalBefore (Slot field) rest → AreMaximalRuns rest → stars (joined rest []) ≡ 0
no_star_after field [] ends runs = refl
no_star_after field (Literal [] ∷ more) ends runs = absurd runs.0
no_star_after field (Literal (byte ∷ bytes) ∷ more) ends runs = stars_none byte (bytes ++ joined more []) runs.0.0
no_star_after field (Slot next ∷ more) ends runs = absurd ends

no_decimals_after : (field : Field) (rest : List Piece) → IsMaximalBefore (Slot field) rest → AreMaximalRuns rest → field.decimals ≡ 0 → decimals_at (joined rest []) ≡ 0
no_decimals_after field [] ends runs plain = refl
no_decimals_after field (Literal [] ∷ more) ends runs plain = absurd runs.0
no_decimals_after field (Literal (byte ∷ []) ∷ []) ends runs plain =
    cond_both (eqb byte 46) 0 0 (λ n. n ≡ 0) (λ _. refl) (λ _. refl)
no_decimals_after field (Literal (byte ∷ []) ∷ Literal bytes ∷ more) ends runs plain = absurd runs.1
no_decimals_after field (Literal (byte ∷ []) ∷ Slot next ∷ more) ends runs plain =
    ap (λ test. cond test (stars (joined (Slot next ∷ more) [])) 0) (ne_eqb byte 46 (λ is. ends plain (ap (λ first. first ∷ []) is)))
no_decimals_after field (Literal (byte ∷ next ∷ bytes) ∷ more) ends runs plain =
    cond_both (eqb byte 46) (stars (next ∷ (bytes ++ joined more []))) 0 (λ n. n ≡ 0) (λ _. stars_none next (bytes ++ joined more []) runs.0.1.0) (λ _. refl)
no_decimals_after field (Slot next ∷ more) ends runs plain = absurd ends

-- maximal runs are found again
pieces_of-joined : (pieces : List Piece) → AreMaximalRuns pieces → pieces_of (joined pieces []) ≡ pieces
pieces_of-joined [] runs = refl
pieces_of-joined (Literal [] ∷ rest) runs = absurd runs.0
pieces_of-joined (Literal (byte ∷ bytes) ∷ rest) runs =
    pieces_of-bytes byte bytes rest (joined rest []) runs.0 (pieces_of-joined rest runs.2) runs.1
pieces_of-joined (Slot field ∷ rest) runs =
    pieces_of-slot field (joined rest []) runs.0 (no_star_after field rest runs.1 runs.2) (no_decimals_after field rest runs.1 runs.2)
    ∙ ap (λ (more : List Piece). Slot field ∷ more) (pieces_of-joined rest runs.2)

pub pieces_cut : PiecesCut
pieces_cut picture = record { whole = joined-pieces_of picture; maximal = maximal-pieces_of picture }

pub only_pieces_cut : OnlyPiecesCut
only_pieces_cut picture pieces cuts = sym (ap pieces_of (sym cuts.whole) ∙ pieces_of-joined pieces cuts.maximal)
