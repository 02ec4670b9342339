-- What a picture is, and the line that it makes with items in its fields.
use Rattle.std.specs.Prelude.{ℕ, zero, suc, ◌+◌, ◌-◌, ◌==◌, nat_le, if◌then◌else◌, List, [], ◌∷◌, ◌++◌, length, drop, replicate}
use Rattle.ss_base.specs.declared.value.Value.TheVariants.{Whole, Text}
use Rattle.ss_picture.specs.declared.field.Field.{Field}
use Rattle.ss_picture.specs.declared.items.Item.{Item}
use Rattle.ss_picture.specs.declared.items.Item.TheVariants.{Is, Mean}
use Rattle.ss_picture.specs.Numerals.{period, whole_text, mean_text}

-- the byte that fields are made of
abbrev pub asterisk : ℕ
asterisk = 42

-- the byte that fills a field round its item
abbrev pub blank : ℕ
blank = 32

-- ---- fields

-- how many asterisks these bytes begin with
abbrev pub stars : List ℕ → ℕ
stars [] = 0
stars (byte ∷ bytes) = if byte == asterisk then suc (stars bytes) else 0

-- how many asterisks follow a period that these bytes begin with
abbrev pub decimals_at : List ℕ → ℕ
decimals_at [] = 0
decimals_at (byte ∷ bytes) = if byte == period then stars bytes else 0

-- the field of so many asterisks, and of so many after a period: its width counts the period, where it has one
abbrev pub field_of : ℕ → ℕ → Field
field_of whole zero = record { width = whole; decimals = 0 }
field_of whole (suc more) = record { width = whole + suc (suc more); decimals = suc more }

-- the field that these bytes begin with: a maximal run of asterisks, and where a period and then an asterisk follow it
-- directly, the period and the run after it too
abbrev pub leading_field : List ℕ → Field
leading_field bytes = field_of (stars bytes) (decimals_at (drop (stars bytes) bytes))

-- the characters of a field of a width and so many decimals
abbrev pub characters_of : ℕ → ℕ → List ℕ
characters_of width zero = replicate width asterisk
characters_of width (suc more) = replicate (width - suc (suc more)) asterisk ++ period ∷ replicate (suc more) asterisk

-- the characters that a field is made of: asterisks, and a period before its decimals
abbrev pub characters : Field → List ℕ
characters field = characters_of field.width field.decimals

-- ---- pieces

-- a piece of a picture: bytes that are printed as they are, or a field
pub data Piece : Type 0 where
  Literal : List ℕ → Piece
  Slot : Field → Piece

-- a byte of no field before these pieces: it joins the bytes that they begin with, or is a piece by itself
abbrev pub byte_before : ℕ → List Piece → List Piece
byte_before byte (Literal bytes ∷ rest) = Literal (byte ∷ bytes) ∷ rest
byte_before byte pieces = Literal (byte ∷ []) ∷ pieces

-- the pieces of bytes of which so many still belong to the field before them: an asterisk after these begins a field
abbrev pub pieces_after : ℕ → List ℕ → List Piece
pieces_after _ [] = []
pieces_after zero (byte ∷ bytes) =
    if byte == asterisk
    then Slot (leading_field (byte ∷ bytes)) ∷ pieces_after ((leading_field (byte ∷ bytes)).width - 1) bytes
    else byte_before byte (pieces_after 0 bytes)
pieces_after (suc more) (byte ∷ bytes) = pieces_after more bytes

-- a picture cut, from the left, into its fields and the bytes between them
abbrev pub pieces_of : List ℕ → List Piece
pieces_of picture = pieces_after 0 picture

-- the fields among these pieces, from the left
abbrev pub fields_among : List Piece → List Field
fields_among [] = []
fields_among (Literal bytes ∷ rest) = fields_among rest
fields_among (Slot field ∷ rest) = field ∷ fields_among rest

-- a picture's fields, from the left
unfoldable pub picture_fields : List ℕ → List Field
picture_fields picture = fields_among (pieces_of picture)

-- how many fields a picture has
abbrev pub field_count : List ℕ → ℕ
field_count picture = length (picture_fields picture)

-- ---- lines

-- as many blanks as a text lacks to a width
abbrev pub blanks_beside : ℕ → List ℕ → List ℕ
blanks_beside width text = replicate (width - length text) blank

-- what is placed for a text in a field of these characters; where the text is longer than the field, the characters stay
abbrev pub if_it_fits : List ℕ → List ℕ → List ℕ → List ℕ
if_it_fits own text placed = if nat_le (length text) (length own) then placed else own

-- a text at the right end of a field of these characters
abbrev pub at_right : List ℕ → List ℕ → List ℕ
at_right own text = if_it_fits own text (blanks_beside (length own) text ++ text)

-- a text at the left end of a field of these characters
abbrev pub at_left : List ℕ → List ℕ → List ℕ
at_left own text = if_it_fits own text (text ++ blanks_beside (length own) text)

-- what a field of these characters and so many decimals shows of an item: a whole number and a mean to the right, a mean
-- with its decimals, a text to the left
abbrev pub shown_characters : List ℕ → ℕ → Item → List ℕ
shown_characters own decimals (Is (Whole number)) = at_right own (whole_text number)
shown_characters own decimals (Is (Text bytes)) = at_left own bytes
shown_characters own decimals (Mean sum number) = at_right own (mean_text decimals sum number)

-- these pieces one after another, an item in each field; a field without an item stays as it is
abbrev pub joined : List Piece → List Item → List ℕ
joined [] items = []
joined (Literal bytes ∷ rest) items = bytes ++ joined rest items
joined (Slot field ∷ rest) [] = characters field ++ joined rest []
joined (Slot field ∷ rest) (item ∷ items) = shown_characters (characters field) field.decimals item ++ joined rest items

-- the line of a picture with these items in its fields, without a line end
unfoldable pub filled : List ℕ → List Item → List ℕ
filled picture items = joined (pieces_of picture) items
