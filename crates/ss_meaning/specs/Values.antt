-- Values, and what is made of them: another value, a fault, or nothing where they do not fit.
use Rattle.std.specs.Prelude.{ℕ, ◌+◌, ◌==◌, Bool, true, false, List, [], ◌∷◌, ◌++◌, ℤ, pos, negsuc, int_lt, nat_le, nat_lt, ◌&&◌, replicate, take, drop, Option, Some, None, Result, Ok, Err, length, if◌then◌else◌}
use Rattle.std.specs.Int.{int_max, int_min}
use Rattle.std.specs.List.{flat_map}
use Rattle.std.specs.declared.cmp.Ordering.{Ordering}
use Rattle.std.specs.declared.cmp.Ordering.TheVariants.{Less as IsLess, Equal as IsEqual, Greater as IsGreater}
use Rattle.ss_base.specs.declared.fault.FaultKind.{FaultKind}
use Rattle.ss_base.specs.declared.fault.FaultKind.TheVariants.{BadCount}
use Rattle.ss_base.specs.declared.value.Value.{Value}
use Rattle.ss_base.specs.declared.value.Value.TheVariants.{Whole, Text}
use Rattle.ss_base.specs.declared.layout.Mode.{Mode}
use Rattle.ss_base.specs.declared.layout.Mode.TheVariants.{Integer, Alpha}
use Rattle.ss_base.specs.Arithmetic.{plus_of, minus_of, times_of, quotient_of, remainder_of}
use Rattle.ss_base.specs.Order.{value_cmp}
use Rattle.ss_picture.specs.declared.field.Field.{Field}
use Rattle.ss_picture.specs.declared.items.Item.{Item}
use Rattle.ss_picture.specs.declared.items.Item.TheVariants.{Is, Mean}
use Rattle.ss_picture.specs.Pictures.{filled, field_count, picture_fields}
use Rattle.ss_base.specs.declared.words.Sign.{Sign}
use Rattle.ss_base.specs.declared.words.Sign.TheVariants.{Plus, Minus}
use Rattle.ss_base.specs.declared.words.Operator.{Operator}
use Rattle.ss_base.specs.declared.words.UnaryOperator.{UnaryOperator}
use Rattle.ss_base.specs.declared.words.Operator.TheVariants.{Add, Subtract, Multiply, Quotient, Remainder, Least, Greatest}
use Rattle.ss_base.specs.declared.words.UnaryOperator.TheVariants.{Absolute}
use Rattle.ss_base.specs.declared.words.Relation.{Relation}
use Rattle.ss_base.specs.declared.words.Relation.TheVariants.{Equal, NotEqual, Less, Greater, LessOrEqual, GreaterOrEqual}

-- ## Answers

-- why an operation gives nothing: a fault of the run; or numbers, kinds or counts do not fit, which happens in no well-typed program
pub data Failure : Type 0 where
  Fails : (kind : FaultKind) → Failure
  TypeError : Failure

-- what an operation gives
abbrev pub Answer : Type 0 → Type 0
Answer A = Result A Failure

-- a value, and then what is made of it; a failure stays
abbrev pub if_ok : {A B : Type 0} → Result A Failure → (A → Result B Failure) → Result B Failure
if_ok (Ok a) go = go a
if_ok (Err t) go = Err t

abbrev pub turned : {A B : Type 0} → (A → B) → Result A Failure → Result B Failure
turned f (Ok a) = Ok (f a)
turned f (Err t) = Err t

-- what gives a value or a fault
abbrev pub due : {A : Type 0} → Result A FaultKind → Result A Failure
due (Ok a) = Ok a
due (Err kind) = Err (Fails kind)

-- what has to be there
abbrev pub sure : {A : Type 0} → Option A → Result A Failure
sure None = Err TypeError
sure (Some a) = Ok a

-- an answer where something fits
abbrev pub where_fit : {A : Type 0} → Bool → Result A Failure → Result A Failure
where_fit true answer = answer
where_fit false answer = Err TypeError

-- an answer unless there is a fault
abbrev pub unless_fault : {A : Type 0} → Bool → FaultKind → Result A Failure → Result A Failure
unless_fault true kind answer = Err (Fails kind)
unless_fault false kind answer = answer

-- ## Modes

abbrev pub same_mode : Mode → Mode → Bool
same_mode Integer Integer = true
same_mode Alpha Alpha = true
same_mode _ _ = false

-- the number that a value is
abbrev pub number_of : Value → Result ℤ Failure
number_of (Whole z) = Ok z
number_of (Text t) = Err TypeError

-- ## Numbers

-- what an operator makes of two numbers
abbrev pub computed : Operator → ℤ → ℤ → Result ℤ FaultKind
computed Add x y = plus_of x y
computed Subtract x y = minus_of x y
computed Multiply x y = times_of x y
computed Quotient x y = quotient_of x y
computed Remainder x y = remainder_of x y
computed Least x y = Ok (int_min x y)
computed Greatest x y = Ok (int_max x y)

-- an operator applied to two values
abbrev pub calculated : Operator → Value → Value → Result Value Failure
calculated op (Whole x) (Whole y) = turned Whole (due (computed op x y))
calculated op _ _ = Err TypeError

abbrev pub operator_of : Sign → Operator
operator_of Plus = Add
operator_of Minus = Subtract

-- a sign is 0 plus or 0 minus its term
abbrev pub signed : Sign → Value → Result Value Failure
signed sign v = calculated (operator_of sign) (Whole (pos 0)) v

-- the distance of a number from 0
abbrev pub distance : ℤ → Result ℤ FaultKind
distance z = if int_lt z (pos 0) then minus_of (pos 0) z else Ok z

-- what an operator makes of one number
abbrev pub computed_alone : UnaryOperator → ℤ → Result ℤ FaultKind
computed_alone Absolute z = distance z

-- an operator applied to one value
abbrev pub applied : UnaryOperator → Value → Result Value Failure
applied op (Whole z) = turned Whole (due (computed_alone op z))
applied op (Text t) = Err TypeError

-- ## Relations

-- whether an order is one of those that a relation allows
abbrev pub allows : Relation → Ordering → Bool
allows Equal IsEqual = true
allows NotEqual IsLess = true
allows NotEqual IsGreater = true
allows Less IsLess = true
allows Greater IsGreater = true
allows LessOrEqual IsLess = true
allows LessOrEqual IsEqual = true
allows GreaterOrEqual IsEqual = true
allows GreaterOrEqual IsGreater = true
allows _ _ = false

-- whether a relation holds of two values of one mode: numbers by their size, texts by their bytes
abbrev pub related : Relation → Value → Value → Option Bool
related relation (Whole x) (Whole y) = Some (allows relation (value_cmp (Whole x) (Whole y)))
related relation (Text s) (Text t) = Some (allows relation (value_cmp (Text s) (Text t)))
related relation _ _ = None

-- ## Lines

-- the byte at the end of a line
abbrev pub line_end : ℕ
line_end = 10

-- a field takes an item: a value where it has no decimals, a mean where it has at most 9
abbrev pub takes : Field → Item → Bool
takes field (Is v) = field.decimals == 0
takes field (Mean sum number) = nat_le field.decimals 9

-- as many fields as items, each of which takes its own
abbrev pub take_all : List Field → List Item → Bool
take_all [] [] = true
take_all (field ∷ fields) (item ∷ items) = takes field item && take_all fields items
take_all _ _ = false

-- the lines of pictures with items in their fields from the left, each with its line end
abbrev pub lines_with : List (List ℕ) → List Item → List ℕ
lines_with [] items = []
lines_with (picture ∷ pictures) items =
    filled picture (take (field_count picture) items) ++ line_end ∷ lines_with pictures (drop (field_count picture) items)

-- the lines of pictures with their items, where the fields take the items
abbrev pub printed : List (List ℕ) → List Item → Option (List ℕ)
printed pictures items = if take_all (flat_map picture_fields pictures) items then Some (lines_with pictures items) else None

-- so many empty lines; below 0 or above 1,000 is the fault BAD COUNT
abbrev pub empty_lines : Value → Result (List ℕ) Failure
empty_lines (Whole (pos n)) = unless_fault (nat_lt 1000 n) BadCount (Ok (replicate n line_end))
empty_lines (Whole (negsuc n)) = Err (Fails BadCount)
empty_lines (Text t) = Err TypeError
