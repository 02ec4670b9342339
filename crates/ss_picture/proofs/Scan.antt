-- A pass over a picture from the left that finds its fields.
use Rattle.std.proofs.Common.{◌≡◌, ℕ, ◌+◌, ◌-◌, ◌<◌, ◌≤◌, List, [], ◌∷◌, ◌++◌, length, get_or, take, drop, sym, ap, ◌∙◌, subst, refl, arith}
use Rattle.std.proofs.lemmas.List.{append_assoc, drop-drop, length-drop, take_rest}
use Rattle.ss_picture.specs.declared.field.Field.{Field}
use Rattle.ss_picture.specs.Pictures.{Piece, stars, leading_field, pieces_of, fields_among, picture_fields}
use Rattle.ss_picture.specs.Fields.{starts_among, starts}
use Rattle.ss_picture.proofs.Stars.{stars_more_at, field_within}
use Rattle.ss_picture.proofs.Pieces.{pieces_of_field}

-- these are the starts and fields of a picture before a place, and those bytes are ahead of it
pub record Scan (found_starts : List ℕ) (found : List Field) (place : ℕ) (ahead picture : List ℕ) : Type 0 where
  pub starts_are : found_starts ++ starts_among place (pieces_of ahead) ≡ starts picture
  pub fields_are : found ++ fields_among (pieces_of ahead) ≡ picture_fields picture

-- before the first byte
pub scan_start : (picture : List ℕ) → Scan [] [] 0 picture picture
unfolding starts picture_fields
scan_start picture = record { starts_are = refl; fields_are = refl }

-- past a field
scan_field : (found_starts : List ℕ) (found : List Field) (place : ℕ) (ahead picture : List ℕ) → 0 < stars ahead
    → Scan found_starts found place ahead picture
    → Scan (found_starts ++ place ∷ []) (found ++ leading_field ahead ∷ []) (place + (leading_field ahead).width) (drop (leading_field ahead).width ahead) picture
scan_field found_starts found place ahead picture some scan =
    let field : Field = leading_field ahead in
    let rest : List Piece = pieces_of (drop field.width ahead) in
    record {
      starts_are =
          append_assoc found_starts (place ∷ []) (starts_among (place + field.width) rest)
          ∙ ap (λ (pieces : List Piece). found_starts ++ starts_among place pieces) (sym (pieces_of_field ahead some))
          ∙ scan.starts_are;
      fields_are =
          append_assoc found (field ∷ []) (fields_among rest)
          ∙ ap (λ (pieces : List Piece). found ++ fields_among pieces) (sym (pieces_of_field ahead some))
          ∙ scan.fields_are;
    }

-- there is an asterisk
pub field_begins : (place : ℕ) (picture : List ℕ) → place < length picture → get_or picture place 0 ≡ 42 → 0 < stars (drop place picture)
field_begins place picture inside is = let more = stars_more_at picture place inside is in omega arith

-- .. and this is the field that begins with it
pub field_there : (place : ℕ) (picture : List ℕ) (field : Field) → field ≡ leading_field (take (length picture - place) (drop place picture)) → field ≡ leading_field (drop place picture)
field_there place picture field is = is ∙ ap leading_field (take_rest picture place)

pub field_ends : (place : ℕ) (picture : List ℕ) (field : Field) → place < length picture → field ≡ leading_field (take (length picture - place) (drop place picture)) → place + field.width ≤ length picture
field_ends place picture field inside is =
    let same = ap (λ f. f.width) (field_there place picture field is) in
    let within = field_within (drop place picture) in
    omega (arith, length-drop place picture)

pub step_past_field : (found_starts : List ℕ) (found : List Field) (place : ℕ) (picture : List ℕ) (field : Field)
    → place < length picture → get_or picture place 0 ≡ 42 → field ≡ leading_field (take (length picture - place) (drop place picture))
    → Scan found_starts found place (drop place picture) picture
    → Scan (found_starts ++ place ∷ []) (found ++ field ∷ []) (place + field.width) (drop (place + field.width) picture) picture
step_past_field found_starts found place picture field inside star is scan =
    let there = field_there place picture field is in
    let past = scan_field found_starts found place (drop place picture) picture (field_begins place picture inside star) scan in
    let at : Scan (found_starts ++ place ∷ []) (found ++ field ∷ []) (place + field.width) (drop field.width (drop place picture)) picture =
    subst (λ (f : Field). Scan (found_starts ++ place ∷ []) (found ++ f ∷ []) (place + f.width) (drop f.width (drop place picture)) picture) (sym there) past
    in
    subst (λ (ahead : List ℕ). Scan (found_starts ++ place ∷ []) (found ++ field ∷ []) (place + field.width) ahead picture) (drop-drop field.width place picture) at
