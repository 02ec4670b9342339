-- The words of the input.
use Rattle.std.specs.Prelude.{ℕ, ◌+◌, ◌*◌, ◌-◌, Bool, true, false, ◌&&◌, ◌||◌, not, ◌==◌, nat_le, nat_lt, List, [], ◌∷◌, length, take_while, drop, Option, Some, None, Result, Ok, Err, ℤ, pos, neg_ℤ, if◌then◌else◌}
use Rattle.std.specs.List.{list_all}
use Rattle.ss_base.specs.declared.fault.FaultKind.{FaultKind}
use Rattle.ss_base.specs.declared.fault.FaultKind.TheVariants.{EndOfData, BadData}
use Rattle.ss_base.specs.declared.layout.Mode.{Mode}
use Rattle.ss_base.specs.declared.layout.Mode.TheVariants.{Integer, Alpha}
use Rattle.ss_base.specs.declared.value.Value.{Value}
use Rattle.ss_base.specs.declared.value.Value.TheVariants.{Whole, Text}
use Rattle.ss_base.specs.Arithmetic.{fits_64_bits}
use Rattle.ss_base.specs.Values.{text_of}

-- a blank, a tab, or an end of a line
abbrev pub is_separator : ℕ → Bool
is_separator b = (b == 32) || (b == 9) || (b == 13) || (b == 10)

abbrev pub is_word_byte : ℕ → Bool
is_word_byte b = not (is_separator b)

-- the most separators in a row, and the longest word
abbrev pub separator_limit : ℕ
separator_limit = 1048576

abbrev pub word_limit : ℕ
word_limit = 64

-- the separators before the next word
abbrev pub gap : List ℕ → List ℕ
gap input = take_while is_separator input

-- the input from its next word on; too many separators in a row are the fault BAD DATA
abbrev pub from_word : List ℕ → Result (List ℕ) FaultKind
from_word input = if nat_lt separator_limit (length (gap input)) then Err BadData else Ok (drop (length (gap input)) input)

-- whether no word is left
abbrev pub no_word : Result (List ℕ) FaultKind → Result Bool FaultKind
no_word (Ok []) = Ok true
no_word (Ok (b ∷ bs)) = Ok false
no_word (Err k) = Err k

abbrev pub is_ended : List ℕ → Result Bool FaultKind
is_ended input = no_word (from_word input)

-- what was read, and the input after it
pub record Given (A : Type 0) : Type 0 where
  pub value : A
  pub rest : List ℕ

-- the word that an input begins with; one that is too long is the fault BAD DATA
abbrev pub first_word : List ℕ → List ℕ
first_word input = take_while is_word_byte input

abbrev pub word_given : List ℕ → Result (Given (List ℕ)) FaultKind
word_given input = if nat_lt word_limit (length (first_word input)) then Err BadData else Ok (record { value = first_word input; rest = drop (length (first_word input)) input })

abbrev pub leading_word : Result (List ℕ) FaultKind → Result (Given (List ℕ)) FaultKind
leading_word (Ok []) = Err EndOfData
leading_word (Ok (b ∷ bs)) = word_given (b ∷ bs)
leading_word (Err k) = Err k

-- the next word of an input
abbrev pub next_word : List ℕ → Result (Given (List ℕ)) FaultKind
next_word input = leading_word (from_word input)

abbrev pub is_digit : ℕ → Bool
is_digit b = nat_le 48 b && nat_le b 57

-- the number that digits make, after a number that comes before them
abbrev pub digits_from : ℕ → List ℕ → ℕ
digits_from n [] = n
digits_from n (b ∷ bs) = digits_from (n * 10 + (b - 48)) bs

-- one digit or more
abbrev pub digits_of : List ℕ → Option ℕ
digits_of [] = None
digits_of (b ∷ bs) = if list_all is_digit (b ∷ bs) then Some (digits_from 0 (b ∷ bs)) else None

abbrev pub within_64_bits : (ℕ → ℤ) → Option ℕ → Option ℤ
within_64_bits sign None = None
within_64_bits sign (Some n) = if fits_64_bits (sign n) then Some (sign n) else None

-- the number that a word is: digits after a sign or none, within 64 bits
abbrev pub number_read : List ℕ → Option ℤ
number_read [] = None
number_read (b ∷ bs) =
    if b == 43 then within_64_bits pos (digits_of bs) else
    if b == 45 then within_64_bits (λ n. neg_ℤ (pos n)) (digits_of bs) else
    within_64_bits pos (digits_of (b ∷ bs))

abbrev pub as_whole : Option ℤ → Option Value
as_whole None = None
as_whole (Some z) = Some (Whole z)

abbrev pub optional_text : Option (List ℕ) → Option Value
optional_text None = None
optional_text (Some t) = Some (Text t)

-- what a word is in a mode
abbrev pub word_value : Mode → List ℕ → Option Value
word_value Integer word = as_whole (number_read word)
word_value Alpha word = optional_text (text_of word)

abbrev pub if_read : Option Value → List ℕ → Result (Given Value) FaultKind
if_read None rest = Err BadData
if_read (Some v) rest = Ok (record { value = v; rest = rest })

abbrev pub read_word : Mode → Result (Given (List ℕ)) FaultKind → Result (Given Value) FaultKind
read_word mode (Err k) = Err k
read_word mode (Ok word) = if_read (word_value mode word.value) word.rest

-- the value of a mode that the next word is, and the input after it
abbrev pub value_given : Mode → List ℕ → Result (Given Value) FaultKind
value_given mode input = read_word mode (next_word input)
