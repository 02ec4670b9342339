-- Laws of the pieces of a picture.
use Rattle.std.proofs.Common.{◌≡◌, ◌≢◌, ℕ, zero, suc, ◌+◌, ◌-◌, ◌<◌, ◌≤◌, eqb, cond, List, [], ◌∷◌, ◌++◌, length, get_or, take, drop, refl, sym, ap, ◌∙◌, subst, arith, length-append, leb}
use Rattle.std.proofs.lemmas.List.{append_assoc, take_at, drop_at, length-replicate, get_or_default}
use Rattle.std.proofs.Math.Nat.{add_assoc}
use Rattle.std.specs.Bool.{⊤}
use Rattle.std.proofs.lemmas.Bool.{cond_both, eqb-false, leb-true, ne_eqb}
use borrow.Rule.Slice.PartMut.{put_mid}
use Rattle.ss_base.specs.declared.value.Value.TheVariants.{Whole, Text}
use Rattle.ss_picture.specs.declared.field.Field.{Field}
use Rattle.ss_picture.specs.declared.items.Item.{Item}
use Rattle.ss_picture.specs.declared.items.Item.TheVariants.{Is, Mean}
use Rattle.ss_picture.specs.Numerals.{whole_text, mean_text}
use Rattle.ss_picture.specs.Pictures.{Piece, Literal, Slot, stars, leading_field, decimals_at, characters, byte_before, pieces_after, pieces_of, fields_among, picture_fields, at_right, at_left, shown_characters, joined, filled}
use Rattle.ss_picture.specs.Suited.{IsSuitedItem, AreSuitedItems}
use Rattle.ss_picture.specs.Fields.{starts_among, starts}
use Rattle.ss_picture.proofs.Stars.{chosen_some, field_some, length-characters_of, characters_at}

-- ---- the first piece

-- the pieces after a field are those of what follows it
pub pieces_after-drop : (skipped : ℕ) (bytes : List ℕ) → pieces_after skipped bytes ≡ pieces_of (drop skipped bytes)
pieces_after-drop zero [] = refl
pieces_after-drop zero (byte ∷ bytes) = refl
pieces_after-drop (suc skipped) [] = refl
pieces_after-drop (suc skipped) (byte ∷ bytes) = pieces_after-drop skipped bytes

drop_none : (n : ℕ) → drop {A = ℕ} n [] ≡ []
drop_none zero = refl
drop_none (suc n) = refl

-- one byte less to drop
pub drop_less : {X : Type 0} → (n : ℕ) (x : X) (xs : List X) → 0 < n → drop (n - 1) xs ≡ drop n (x ∷ xs)
drop_less zero x xs some = absurd (omega arith)
drop_less (suc n) x xs some = let less : suc n - 1 ≡ n = omega arith in ap (λ (k : ℕ). drop k xs) less

-- a byte that is no asterisk is put before the pieces of what follows it
pub pieces_of_other : (byte : ℕ) (bytes : List ℕ) → byte ≢ 42 → pieces_of (byte ∷ bytes) ≡ byte_before byte (pieces_of bytes)
pieces_of_other byte bytes other =
    ap (λ test. cond test (Slot (leading_field (byte ∷ bytes)) ∷ pieces_after ((leading_field (byte ∷ bytes)).width - 1) bytes) (byte_before byte (pieces_after 0 bytes))) (ne_eqb byte 42 other)

-- an asterisk begins a field
pub pieces_of_field : (bytes : List ℕ) → 0 < stars bytes → pieces_of bytes ≡ Slot (leading_field bytes) ∷ pieces_of (drop (leading_field bytes).width bytes)
pieces_of_field [] some = absurd (omega arith)
pieces_of_field (byte ∷ bytes) some =
    let field : Field = leading_field (byte ∷ bytes) in
    let same = chosen_some (eqb byte 42) (suc (stars bytes)) some in
    ap (λ test. cond test (Slot field ∷ pieces_after (field.width - 1) bytes) (byte_before byte (pieces_after 0 bytes))) same
    ∙ ap (λ (rest : List Piece). Slot field ∷ rest) (pieces_after-drop (field.width - 1) bytes)
    ∙ ap (λ (rest : List ℕ). Slot field ∷ pieces_of rest) (drop_less field.width byte bytes (field_some (byte ∷ bytes) some))

-- what holds of no pieces, and of a field or another byte before pieces of which it holds, holds of the pieces of any bytes
pub by_pieces : (P : List ℕ → List Piece → Type 0) → P [] []
    → ((bytes : List ℕ) → 0 < stars bytes → P (drop (leading_field bytes).width bytes) (pieces_of (drop (leading_field bytes).width bytes)) → P bytes (Slot (leading_field bytes) ∷ pieces_of (drop (leading_field bytes).width bytes)))
    → ((byte : ℕ) (bytes : List ℕ) → byte ≢ 42 → P bytes (pieces_of bytes) → P (byte ∷ bytes) (byte_before byte (pieces_of bytes)))
    → (skipped : ℕ) (bytes : List ℕ) → P (drop skipped bytes) (pieces_after skipped bytes)
by_pieces P none field other skipped [] = subst (λ bytes. P bytes []) (sym (drop_none skipped)) none
by_pieces P none field other zero (byte ∷ bytes) =
    let found : Field = leading_field (byte ∷ bytes) in
    cond_both (eqb byte 42) (Slot found ∷ pieces_after (found.width - 1) bytes) (byte_before byte (pieces_after 0 bytes)) (P (byte ∷ bytes))
    (λ same.
    let some : 0 < stars (byte ∷ bytes) = subst (λ test. 0 < cond test (suc (stars bytes)) 0) (sym same) (omega arith) in
    let left : drop (found.width - 1) bytes ≡ drop found.width (byte ∷ bytes) = drop_less found.width byte bytes (field_some (byte ∷ bytes) some) in
    let after : pieces_after (found.width - 1) bytes ≡ pieces_of (drop found.width (byte ∷ bytes)) = pieces_after-drop (found.width - 1) bytes ∙ ap pieces_of left in
    let further = subst (λ (l : List ℕ). P l (pieces_after (found.width - 1) bytes)) left (by_pieces P none field other (found.width - 1) bytes) in
    subst (λ (rest : List Piece). P (byte ∷ bytes) (Slot found ∷ rest)) (sym after)
    (field (byte ∷ bytes) some (subst (λ (rest : List Piece). P (drop found.width (byte ∷ bytes)) rest) after further)))
    (λ test. other byte bytes (eqb-false byte 42 test) (by_pieces P none field other 0 bytes))
by_pieces P none field other (suc skipped) (byte ∷ bytes) = by_pieces P none field other skipped bytes

-- each field has one start
pub length-starts_among : (place : ℕ) (pieces : List Piece) → length (starts_among place pieces) ≡ length (fields_among pieces)
length-starts_among place [] = refl
length-starts_among place (Literal bytes ∷ rest) = length-starts_among (place + length bytes) rest
length-starts_among place (Slot field ∷ rest) = ap suc (length-starts_among (place + field.width) rest)

-- ---- the pieces are the picture

joined-byte_before : (byte : ℕ) (pieces : List Piece) → joined (byte_before byte pieces) [] ≡ byte ∷ joined pieces []
joined-byte_before byte [] = refl
joined-byte_before byte (Literal bytes ∷ rest) = refl
joined-byte_before byte (Slot field ∷ rest) = refl

-- the pieces of a picture without items are the picture
pub joined-pieces_of : (picture : List ℕ) → joined (pieces_of picture) [] ≡ picture
joined-pieces_of picture =
    by_pieces (λ bytes pieces. joined pieces [] ≡ bytes) refl
    (λ bytes some is. ap (λ rest. characters (leading_field bytes) ++ rest) is ∙ characters_at bytes)
    (λ byte bytes other is. joined-byte_before byte (pieces_of bytes) ∙ ap (λ rest. byte ∷ rest) is)
    0 picture

-- ---- what a field shows is as wide as the field

-- each field among these pieces is as wide as its characters are long
abbrev pub AreWide : List Piece → Type 0
AreWide [] = ⊤
AreWide (Literal bytes ∷ rest) = AreWide rest
AreWide (Slot field ∷ rest) = (length (characters field) ≡ field.width) × AreWide rest

wide-byte_before : (byte : ℕ) (pieces : List Piece) → AreWide pieces → AreWide (byte_before byte pieces)
wide-byte_before byte [] wide = tt
wide-byte_before byte (Literal bytes ∷ rest) wide = wide
wide-byte_before byte (Slot field ∷ rest) wide = wide

wide-pieces_of : (bytes : List ℕ) → AreWide (pieces_of bytes)
wide-pieces_of bytes =
    by_pieces (λ bytes pieces. AreWide pieces) tt
    (λ bytes some wide. (length-characters_of (stars bytes) (decimals_at (drop (stars bytes) bytes)), wide))
    (λ byte bytes other wide. wide-byte_before byte (pieces_of bytes) wide)
    0 bytes

length-at_right : (own text : List ℕ) → length (at_right own text) ≡ length own
length-at_right own text =
    cond_both (leb (length text) (length own)) _ _ (λ bytes. length bytes ≡ length own)
    (λ fits. let within : length text ≤ length own = leb-true _ _ fits in simp (length-append, length-replicate) (omega arith))
    (λ _. refl)

length-at_left : (own text : List ℕ) → length (at_left own text) ≡ length own
length-at_left own text =
    cond_both (leb (length text) (length own)) _ _ (λ bytes. length bytes ≡ length own)
    (λ fits. let within : length text ≤ length own = leb-true _ _ fits in simp (length-append, length-replicate) (omega arith))
    (λ _. refl)

pub length-shown_characters : (own : List ℕ) (decimals : ℕ) (item : Item) → length (shown_characters own decimals item) ≡ length own
length-shown_characters own decimals (Is (Whole number)) = length-at_right own (whole_text number)
length-shown_characters own decimals (Is (Text bytes)) = length-at_left own bytes
length-shown_characters own decimals (Mean sum number) = length-at_right own (mean_text decimals sum number)

-- ---- the place of a field

-- each field lies within the line
pub fields_within : (place : ℕ) (pieces : List Piece) (k : ℕ) (d : Field) → AreWide pieces → k < length (fields_among pieces)
    → get_or (starts_among place pieces) k 0 + (get_or (fields_among pieces) k d).width ≤ place + length (joined pieces [])
fields_within place [] k d wide inside = absurd (omega arith)
fields_within place (Literal bytes ∷ rest) k d wide inside =
    let within = fields_within (place + length bytes) rest k d wide inside in
    omega (arith, length-append bytes (joined rest []))
fields_within place (Slot field ∷ rest) zero d wide inside =
    omega (arith, wide.0, length-append (characters field) (joined rest []))
fields_within place (Slot field ∷ rest) (suc k) d wide inside =
    let within = fields_within (place + field.width) rest k d wide.1 (omega arith) in
    omega (arith, wide.0, length-append (characters field) (joined rest []))

-- a part of a list, between what comes before it and after it
part_between : (before part after : List ℕ) (place width : ℕ) → length before ≡ place → length part ≡ width
    → take width (drop place (before ++ (part ++ after))) ≡ part
part_between before part after place width at wide =
    ap (take width) (drop_at before (part ++ after) place at) ∙ take_at part after width wide

-- .. is written over
put_between : (before part after new : List ℕ) (place width : ℕ) → length before ≡ place → length part ≡ width
    → put_mid place width (before ++ (part ++ after)) new ≡ before ++ (new ++ after)
put_between before part after new place width at wide =
    let front : take place (before ++ (part ++ after)) ≡ before = take_at before (part ++ after) place at in
    let rest : drop place (before ++ (part ++ after)) ≡ part ++ after = drop_at before (part ++ after) place at in
    let back : drop width (part ++ after) ≡ after = drop_at part after width wide in
    rw (front, rest, back)

-- what the next field shows of an item
abbrev pub shown_in : Field → Item → List ℕ
shown_in field item = shown_characters (characters field) field.decimals item

-- a field with what comes before it and after it, where the items before it are given: with its own characters, and with its item
record Around (place : ℕ) (pieces : List Piece) (items : List Item) (k : ℕ) (d : Field) (item : Item) : Type 0 where
  front : List ℕ
  back : List ℕ
  at : place + length front ≡ get_or (starts_among place pieces) k 0
  wide : length (characters (get_or (fields_among pieces) k d)) ≡ (get_or (fields_among pieces) k d).width
  own : joined pieces (take k items) ≡ front ++ (characters (get_or (fields_among pieces) k d) ++ back)
  shown : joined pieces (take (suc k) items) ≡ front ++ (shown_in (get_or (fields_among pieces) k d) item ++ back)

around : (place : ℕ) (pieces : List Piece) (items : List Item) (k : ℕ) (d : Field) (item : Item)
    → AreWide pieces → k < length (fields_among pieces) → k < length items → item ≡ get_or items k item → Around place pieces items k d item
around place [] items k d item wide inside given is = absurd (omega arith)
around place (Literal bytes ∷ rest) items k d item wide inside given is =
    let h = around (place + length bytes) rest items k d item wide inside given is in
    record {
      front = bytes ++ h.front;
      back = h.back;
      at = ap (λ n. place + n) (length-append bytes h.front) ∙ sym (add_assoc place (length bytes) (length h.front)) ∙ h.at;
      wide = h.wide;
      own = ap (λ l. bytes ++ l) h.own ∙ sym (append_assoc bytes h.front (characters (get_or (fields_among rest) k d) ++ h.back));
      shown = ap (λ l. bytes ++ l) h.shown ∙ sym (append_assoc bytes h.front (shown_in (get_or (fields_among rest) k d) item ++ h.back));
    }
around place (Slot field ∷ rest) [] k d item wide inside given is = absurd (omega arith)
around place (Slot field ∷ rest) (first ∷ items) zero d item wide inside given is = record {
  front = [];
  back = joined rest [];
  at = omega arith;
  wide = wide.0;
  own = refl;
  shown = ap (λ i. shown_in field i ++ joined rest []) (sym is);
}
around place (Slot field ∷ rest) (first ∷ items) (suc k) d item wide inside given is =
    let h = around (place + field.width) rest items k d item wide.1 (omega arith) (omega arith) is in
    let new : List ℕ = shown_in field first in
    let long : length new ≡ field.width = length-shown_characters (characters field) field.decimals first ∙ wide.0 in
    record {
      front = new ++ h.front;
      back = h.back;
      at = ap (λ n. place + n) (length-append new h.front ∙ ap (λ n. n + length h.front) long) ∙ sym (add_assoc place field.width (length h.front)) ∙ h.at;
      wide = h.wide;
      own = ap (λ l. new ++ l) h.own ∙ sym (append_assoc new h.front (characters (get_or (fields_among rest) k d) ++ h.back));
      shown = ap (λ l. new ++ l) h.shown ∙ sym (append_assoc new h.front (shown_in (get_or (fields_among rest) k d) item ++ h.back));
    }

-- ---- these laws for a whole picture

pub filled-no_items : (picture : List ℕ) → filled picture [] ≡ picture
unfolding filled
filled-no_items picture = joined-pieces_of picture

pub length-starts : (picture : List ℕ) → length (starts picture) ≡ length (picture_fields picture)
unfolding starts picture_fields
length-starts picture = length-starts_among 0 (pieces_of picture)

pub field_within : (picture : List ℕ) (k : ℕ) (d : Field) → k < length (picture_fields picture)
    → get_or (starts picture) k 0 + (get_or (picture_fields picture) k d).width ≤ length picture
unfolding starts picture_fields
field_within picture k d inside =
    let same = ap length (joined-pieces_of picture) in
    let within = fields_within 0 (pieces_of picture) k d (wide-pieces_of picture) inside in
    omega arith

-- what is read at the place of a field
pub read_known : {X : Type 0} → (items known : List X) (k : ℕ) (read d : X) → items ≡ known → k < length known → read ≡ get_or items k read → read ≡ get_or known k d
read_known items known k read d is inside reads =
    reads ∙ ap (λ list. get_or list k read) is ∙ get_or_default known k read d inside

-- the next item written over its field
pub fill_next : (picture line new : List ℕ) (items : List Item) (k start : ℕ) (field : Field) (item : Item)
    → k < length (picture_fields picture) → k < length items → line ≡ filled picture (take k items)
    → item ≡ get_or items k item → start ≡ get_or (starts picture) k 0 → field ≡ get_or (picture_fields picture) k field
    → new ≡ shown_characters (take (start + field.width - start) (drop start line)) field.decimals item
    → put_mid start (start + field.width - start) line new ≡ filled picture (take (k + 1) items)
unfolding filled starts picture_fields
fill_next picture line new items k start field item inside given before is start_is field_is new_is =
    let h = around 0 (pieces_of picture) items k field item (wide-pieces_of picture) inside given is in
    let at : length h.front ≡ start = omega (arith, h.at, start_is) in
    let wide : length (characters field) ≡ field.width = subst (λ (f : Field). length (characters f) ≡ f.width) (sym field_is) h.wide in
    let own : line ≡ h.front ++ (characters field ++ h.back) = before ∙ h.own ∙ ap (λ (f : Field). h.front ++ (characters f ++ h.back)) (sym field_is) in
    let span_is : start + field.width - start ≡ field.width = omega arith in
    let taken : take field.width (drop start line) ≡ characters field =
    ap (λ l. take field.width (drop start l)) own ∙ part_between h.front (characters field) h.back start field.width at wide
    in
    let next : suc k ≡ k + 1 = omega arith in
    rw (new_is, span_is, taken)
    (ap (λ l. put_mid start field.width l (shown_in field item)) own
    ∙ put_between h.front (characters field) h.back (shown_in field item) start field.width at wide
    ∙ ap (λ (f : Field). h.front ++ (shown_in f item ++ h.back)) field_is ∙ sym h.shown
    ∙ ap (λ (n : ℕ). joined (pieces_of picture) (take n items)) next)

-- ---- what a field takes

-- each field that has an item takes it
pub suits_at : (fields : List Field) (items : List Item) (k : ℕ) (field : Field) (item : Item) → AreSuitedItems fields items → k < length fields → k < length items
    → IsSuitedItem (get_or fields k field).decimals (get_or items k item)
suits_at fields [] k field item each inside given = absurd (omega arith)
suits_at [] (first ∷ items) k field item each inside given = absurd (omega arith)
suits_at (shape ∷ fields) (first ∷ items) zero field item each inside given = each.0
suits_at (shape ∷ fields) (first ∷ items) (suc k) field item each inside given =
    suits_at fields items k field item each.1 (omega arith) (omega arith)

pub suits_next : (picture : List ℕ) (items : List Item) (k : ℕ) (field : Field) (item : Item) → AreSuitedItems (picture_fields picture) items
    → k < length (picture_fields picture) → k < length items → field ≡ get_or (picture_fields picture) k field → item ≡ get_or items k item
    → IsSuitedItem field.decimals item
suits_next picture items k field item each inside given field_is item_is =
    subst (λ (f : Field). IsSuitedItem f.decimals item) (sym field_is)
    (subst (λ (i : Item). IsSuitedItem (get_or (picture_fields picture) k field).decimals i) (sym item_is)
    (suits_at (picture_fields picture) items k field item each inside given))
