-- Pictures with their fields, and lines with items in them, worked out.
use Rattle.std.specs.Prelude.{◌≡◌, ℕ, ℤ, pos, negsuc, [], ◌∷◌, codes, refl}
use Rattle.ss_base.specs.declared.value.Value.TheVariants.{Whole, Text}
use Rattle.ss_picture.specs.declared.field.Field.{Field}
use Rattle.ss_picture.specs.declared.items.Item.{Item}
use Rattle.ss_picture.specs.declared.items.Item.TheVariants.{Is, Mean}
use Rattle.ss_picture.specs.Numerals.{numeral, whole_text, mean_text}
use Rattle.ss_picture.specs.Pictures.{Literal, Slot, pieces_of, picture_fields, filled}

-- ---- numbers

-- how numbers are written
pub zero_has_a_digit : numeral 0 ≡ codes "0"
unfolding numeral
zero_has_a_digit = refl

pub greatest_number : whole_text (pos 9223372036854775807) ≡ codes "9223372036854775807"
unfolding numeral
greatest_number = refl

pub least_number : whole_text (negsuc 9223372036854775807) ≡ codes "-9223372036854775808"
unfolding numeral
least_number = refl

-- how means are: a half goes away from zero
pub two_and_a_half : mean_text 0 (pos 5) (pos 2) ≡ codes "3"
unfolding numeral
two_and_a_half = refl

pub minus_two_and_a_half : mean_text 0 (negsuc 4) (pos 2) ≡ codes "-3"
unfolding numeral
minus_two_and_a_half = refl

pub three_and_a_half : mean_text 0 (pos 7) (pos 2) ≡ codes "4"
unfolding numeral
three_and_a_half = refl

pub a_twentieth : mean_text 1 (pos 1) (pos 20) ≡ codes "0.1"
unfolding numeral
a_twentieth = refl

pub an_eighth : mean_text 2 (pos 1) (pos 8) ≡ codes "0.13"
unfolding numeral
an_eighth = refl

pub minus_an_eighth : mean_text 2 (negsuc 0) (pos 8) ≡ codes "-0.13"
unfolding numeral
minus_an_eighth = refl

-- a half of the last of nine decimals
pub half_a_billionth : mean_text 9 (pos 1) (pos 2000000000) ≡ codes "0.000000001"
unfolding numeral
half_a_billionth = refl

-- less than a half goes to zero, and has no minus then
pub two_thirds : mean_text 9 (pos 2) (pos 3) ≡ codes "0.666666667"
unfolding numeral
two_thirds = refl

pub minus_a_third : mean_text 1 (negsuc 0) (pos 3) ≡ codes "-0.3"
unfolding numeral
minus_a_third = refl

pub no_minus : mean_text 0 (negsuc 0) (pos 3) ≡ codes "0"
unfolding numeral
no_minus = refl

-- what is rounded up to the next whole number
pub nearly_ten : mean_text 2 (pos 9999) (pos 1000) ≡ codes "10.00"
unfolding numeral
nearly_ten = refl

-- the mean of nothing
pub mean_of_nothing : mean_text 2 (pos 0) (pos 0) ≡ codes "0.00"
unfolding numeral
mean_of_nothing = refl

-- the ends of what means there are
pub greatest_mean : mean_text 2 (pos 18446744073709551614) (pos 2) ≡ codes "9223372036854775807.00"
unfolding numeral
greatest_mean = refl

pub least_mean : mean_text 9 (negsuc 27670116110564327423) (pos 3) ≡ codes "-9223372036854775808.000000000"
unfolding numeral
least_mean = refl

-- ---- fields

-- a field of a width without decimals, and one of a width with so many
abbrev pub plain : ℕ → Field
plain width = record { width = width; decimals = 0 }

abbrev pub decimal : ℕ → ℕ → Field
decimal width decimals = record { width = width; decimals = decimals }

-- the pieces of a picture, and its fields
pub pieces_of_three_fields : pieces_of (codes "*** = **,*") ≡ Slot (plain 3) ∷ Literal (codes " = ") ∷ Slot (plain 2) ∷ Literal (codes ",") ∷ Slot (plain 1) ∷ []
pieces_of_three_fields = refl

pub one_field : picture_fields (codes "A**") ≡ plain 2 ∷ []
unfolding picture_fields
one_field = refl

pub no_field : picture_fields (codes "BEFORE") ≡ []
unfolding picture_fields
no_field = refl

-- a period and an asterisk after a field belong to it
pub two_decimals : pieces_of (codes "[***.**]") ≡ Literal (codes "[") ∷ Slot (decimal 6 2) ∷ Literal (codes "]") ∷ []
two_decimals = refl

-- but only once, from the left
pub found_from_the_left : pieces_of (codes "*.*.**") ≡ Slot (decimal 3 1) ∷ Literal (codes ".") ∷ Slot (plain 2) ∷ []
found_from_the_left = refl

-- not with nothing before the period or after it, and not with two periods
pub no_asterisk_before : pieces_of (codes ".*") ≡ Literal (codes ".") ∷ Slot (plain 1) ∷ []
no_asterisk_before = refl

pub no_asterisk_after : pieces_of (codes "*.") ≡ Slot (plain 1) ∷ Literal (codes ".") ∷ []
no_asterisk_after = refl

pub two_periods : pieces_of (codes "**..**") ≡ Slot (plain 2) ∷ Literal (codes "..") ∷ Slot (plain 2) ∷ []
two_periods = refl

-- ---- lines

-- a number as an item
abbrev pub number : ℤ → Item
number z = Is (Whole z)

-- a number is put at the right
pub seven : filled (codes "A**") (number (pos 7) ∷ []) ≡ codes "A 7"
unfolding filled numeral
seven = refl

pub answer : filled (codes "ANSWER ***") (number (pos 42) ∷ []) ≡ codes "ANSWER  42"
unfolding filled numeral
answer = refl

-- it fits, or the asterisks stay
pub minus_nine : filled (codes "**") (number (negsuc 8) ∷ []) ≡ codes "-9"
unfolding filled numeral
minus_nine = refl

pub hundred : filled (codes "**") (number (pos 100) ∷ []) ≡ codes "**"
unfolding filled numeral
hundred = refl

-- a text is put at the left
pub box : filled (codes "[*****]") (Is (Text (codes "BOX")) ∷ []) ≡ codes "[BOX  ]"
unfolding filled
box = refl

pub wide_box : filled (codes "[**]") (Is (Text (codes "BOX")) ∷ []) ≡ codes "[**]"
unfolding filled
wide_box = refl

-- a text of 16 characters fills a field of 16
pub sixteen : filled (codes "[****************]") (Is (Text (codes "ABCDEFGHIJKLMNOP")) ∷ []) ≡ codes "[ABCDEFGHIJKLMNOP]"
unfolding filled
sixteen = refl

-- the items go to the fields from the left
pub in_turn : filled (codes "** ** ** **") (number (pos 3) ∷ number (pos 9) ∷ number (pos 7) ∷ number (negsuc 1) ∷ []) ≡ codes " 3  9  7 -2"
unfolding filled numeral
in_turn = refl

-- a mean is put at the right with the decimals of its field, and without any in a plain one
pub nothing : filled (codes "[***.**]") (Mean (pos 0) (pos 0) ∷ []) ≡ codes "[  0.00]"
unfolding filled numeral
nothing = refl

pub nine_of_three : filled (codes "[***.**]") (Mean (pos 9) (pos 3) ∷ []) ≡ codes "[  3.00]"
unfolding filled numeral
nine_of_three = refl

pub mean_and_sum : filled (codes "[**] *") (Mean (pos 9) (pos 3) ∷ number (pos 9) ∷ []) ≡ codes "[ 3] 9"
unfolding filled numeral
mean_and_sum = refl

pub halves : filled (codes "** **.*") (Mean (negsuc 4) (pos 2) ∷ Mean (negsuc 4) (pos 2) ∷ []) ≡ codes "-3 -2.5"
unfolding filled numeral
halves = refl

-- where it doesn't fit, the characters of the field stay, the period among them
pub thirds : filled (codes "* **.* *.**") (Mean (negsuc 0) (pos 3) ∷ Mean (negsuc 0) (pos 3) ∷ Mean (negsuc 0) (pos 3) ∷ []) ≡ codes "0 -0.3 *.**"
unfolding filled numeral
thirds = refl

pub greatest : filled (codes "*******************.**") (Mean (pos 18446744073709551614) (pos 2) ∷ []) ≡ codes "9223372036854775807.00"
unfolding filled numeral
greatest = refl

-- a field without an item stays as it is
pub one_of_two : filled (codes "<*.*><*.*>") (Mean (pos 1) (pos 2) ∷ []) ≡ codes "<0.5><*.*>"
unfolding filled numeral
one_of_two = refl
