-- Small programs with their meaning: numbers, ticks, routines, input and lines. Each expected value is worked out from the rules of the language.
use Rattle.std.specs.Prelude.{◌≡◌, [], ◌∷◌, pos, negsuc, codes, Some, None, true, refl}
use Rattle.ss_base.specs.declared.fault.FaultKind.TheVariants.{Overflow, ZeroDivisor, LoopStep, EndOfData, BadData, BadCount}
use Rattle.ss_base.specs.declared.value.Value.TheVariants.{Text}
use Rattle.ss_base.specs.declared.layout.Mode.TheVariants.{Integer, Alpha}
use Rattle.ss_base.specs.Arithmetic.{in_64_bits, plus_of, minus_of, times_of, quotient_of, remainder_of}
use Rattle.ss_picture.specs.Numerals.{numeral}
use Rattle.ss_picture.specs.Pictures.{picture_fields, filled}
use Rattle.ss_program.specs.declared.expression.Variable.TheVariants.{Local}
use Rattle.ss_base.specs.declared.words.Sign.TheVariants.{Plus, Minus}
use Rattle.ss_base.specs.declared.words.Operator.TheVariants.{Add, Subtract, Multiply, Quotient, Remainder}
use Rattle.ss_base.specs.declared.words.UnaryOperator.TheVariants.{Absolute}
use Rattle.ss_base.specs.declared.words.Relation.TheVariants.{Equal, Less}
use Rattle.ss_base.specs.declared.words.GuardKind.TheVariants.{While}
use Rattle.ss_program.specs.Program.{Expression, Signed, Unary, Calculate, Constant, Numbers, Compare, DataEnded, Statement, Let, Change, Call, Return, Stop, Read, If, For, Loop, Print, Skip, AValue, Routine, Program, Done}
use Rattle.ss_meaning.specs.Building.{line, num, local, to_local, block, only, print_line, integers, program_of_main, ends, pauses, faults}
use Rattle.ss_meaning.specs.Meaning.{meaning, WentWrong}

-- PRINT 1 LINE WITH 6*7 THUS takes no tick
pub an_answer : meaning (program_of_main 0 (print_line 2 (Calculate Multiply (num (pos 6)) (num (pos 7)) ∷ []) (codes "ANSWER ***") ∷ [])) [] 1000 ≡
    ends (codes "ANSWER  42" ∷ []) 1000
unfolding filled picture_fields numeral times_of in_64_bits
an_answer = refl

-- FOR I = 1 TO 3, PRINT 1 LINE WITH I THUS: a tick for each item
abbrev counting : Program
counting = program_of_main 1 (For (line 3) (Numbers (Local 0) (num (pos 1)) (num (pos 3)) None) [] (block (print_line 4 (local 0 ∷ []) (codes "*") ∷ [])) ∷ [])

pub pauses_at_once : meaning counting [] 0 ≡ pauses []
pauses_at_once = refl

pub pauses_after_one : meaning counting [] 1 ≡ pauses (codes "1" ∷ [])
unfolding filled picture_fields numeral
pauses_after_one = refl

pub pauses_after_two : meaning counting [] 2 ≡ pauses (codes "1" ∷ codes "2" ∷ [])
unfolding filled picture_fields numeral
pauses_after_two = refl

-- the test that ends the loop costs no tick
pub ends_after_three : meaning counting [] 3 ≡ ends (codes "1" ∷ codes "2" ∷ codes "3" ∷ []) 0
unfolding filled picture_fields numeral
ends_after_three = refl

-- X = 9223372036854775807, which is printed; ADD 1 TO X in line 6 is then the fault OVERFLOW of that line
pub a_fault_at_its_line : meaning (program_of_main 1 (Let (line 3) (to_local 0) (num (pos 9223372036854775807)) ∷
    print_line 4 (local 0 ∷ []) (codes "*******************") ∷ Change (line 6) Plus (to_local 0) (num (pos 1)) ∷ [])) [] 9 ≡
    faults (codes "9223372036854775807" ∷ []) Overflow 6 9
unfolding filled picture_fields numeral plus_of in_64_bits
a_fault_at_its_line = refl

-- programs of one line, the second
abbrev alone : Statement → Program
alone s = program_of_main 1 (s ∷ [])

abbrev assigning : Expression → Program
assigning e = alone (Let (line 2) (to_local 0) e)

pub a_zero_divisor : meaning (assigning (Calculate Quotient (num (pos 7)) (num (pos 0)))) [] 9 ≡ faults [] ZeroDivisor 2 9
unfolding quotient_of
a_zero_divisor = refl

-- FOR I = 1 TO 3 BY 0
pub a_step_of_0 : meaning (alone (For (line 2) (Numbers (Local 0) (num (pos 1)) (num (pos 3)) (Some (num (pos 0)))) [] (block (Stop ∷ [])))) [] 9 ≡ faults [] LoopStep 2 9
a_step_of_0 = refl

-- SKIP -1 and SKIP 2
pub a_bad_count : meaning (alone (Skip (line 2) (Signed Minus (num (pos 1))))) [] 9 ≡ faults [] BadCount 2 9
unfolding minus_of in_64_bits
a_bad_count = refl

pub empty_lines : meaning (alone (Skip (line 2) (num (pos 2)))) [] 9 ≡ ends ([] ∷ [] ∷ []) 9
empty_lines = refl

-- ABS.F (-9223372036854775807 - 1): its argument is a number, its result none
pub a_distance_too_large : meaning (assigning (Unary Absolute (Calculate Subtract (Signed Minus (num (pos 9223372036854775807))) (num (pos 1))))) [] 9 ≡ faults [] Overflow 2 9
unfolding minus_of in_64_bits
a_distance_too_large = refl

-- DIV.F cuts towards zero, and MOD.F has the sign of its first argument
pub division : meaning (alone (print_line 2 (Calculate Quotient (num (negsuc 6)) (num (pos 2)) ∷ Calculate Remainder (num (negsuc 6)) (num (pos 2)) ∷ []) (codes "** **"))) [] 9 ≡ ends (codes "-3 -1" ∷ []) 9
unfolding filled picture_fields numeral quotient_of remainder_of in_64_bits
division = refl

-- MOD.F of the least number and -1 is 0
pub the_least_number_divided : meaning (alone (print_line 2 (Calculate Remainder (num (negsuc 9223372036854775807)) (num (negsuc 0)) ∷ []) (codes "*"))) [] 9 ≡ ends (codes "0" ∷ []) 9
unfolding filled picture_fields numeral remainder_of in_64_bits
the_least_number_divided = refl

-- WHILE 1 = 1 LET X = X + 1, with 5 ticks
pub a_loop_without_end : meaning (alone (Loop (line 2) (record { kind = While; condition = only (Compare Equal (num (pos 1)) (num (pos 1))) } ∷ [])
    (block (Let (line 2) (to_local 0) (Calculate Add (local 0) (num (pos 1))) ∷ [])))) [] 5 ≡ pauses []
unfolding plus_of in_64_bits
a_loop_without_end = refl

-- FOR I = 9223372036854775806 TO 9223372036854775807 BY 3 has one item, and no overflow; the items don't change with I
pub an_item_near_the_end : meaning (program_of_main 1 (For (line 2) (Numbers (Local 0) (num (pos 9223372036854775806)) (num (pos 9223372036854775807)) (Some (num (pos 3)))) []
    (block (Let (line 2) (to_local 0) (num (pos 1)) ∷ [])) ∷ print_line 3 (local 0 ∷ []) (codes "*") ∷ [])) [] 5 ≡ ends (codes "1" ∷ []) 4
unfolding filled picture_fields numeral
an_item_near_the_end = refl

-- ## Input: READ X in line 3, and READ Y in line 4
abbrev reading : Program
reading = program_of_main 2 (Read (line 3) (record { place = to_local 0; mode = Integer } ∷ []) ∷ Read (line 4) (record { place = to_local 1; mode = Integer } ∷ []) ∷ [])

pub no_word_left : meaning reading (codes "5") 9 ≡ faults [] EndOfData 4 9
no_word_left = refl

pub no_number : meaning reading (codes "5 12x") 9 ≡ faults [] BadData 4 9
no_number = refl

-- line 4 as IF DATA IS NOT ENDED READ Y ALWAYS
pub data_are_ended : meaning (program_of_main 2 (Read (line 3) (record { place = to_local 0; mode = Integer } ∷ []) ∷
    If (line 4) (only (DataEnded true)) (block (Read (line 4) (record { place = to_local 1; mode = Integer } ∷ []) ∷ [])) Done ∷ [])) (codes "5 ") 9 ≡ ends [] 9
data_are_ended = refl

-- READ W, a text, and two lines with it: it is put at the left of its field, and what doesn't fit gives asterisks
abbrev texts : Program
texts = record (program_of_main 0 (Read (line 3) (record { place = to_local 0; mode = Alpha } ∷ []) ∷
    Print (line 4) (AValue (local 0) ∷ AValue (local 0) ∷ []) (codes "[*****]" ∷ codes "[**]" ∷ []) ∷ [])) { locals = Alpha ∷ [] }

pub a_text_in_its_field : meaning texts (codes "BOX") 9 ≡ ends (codes "[BOX  ]" ∷ codes "[**]" ∷ []) 9
unfolding filled picture_fields
a_text_in_its_field = refl

-- 16 characters are a text, 17 are none
pub a_text_of_sixteen : meaning texts (codes "ABCDEFGHIJKLMNOP") 9 ≡ ends (codes "[*****]" ∷ codes "[**]" ∷ []) 9
unfolding filled picture_fields
a_text_of_sixteen = refl

-- texts that agree in their first eight characters are compared by the rest
pub texts_that_begin_alike : meaning (alone (If (line 2) (only (Compare Less (Constant (Text (codes "NORTHSTAR-A"))) (Constant (Text (codes "NORTHSTAR-B")))))
    (block (print_line 3 [] (codes "LESS") ∷ [])) Done)) [] 9 ≡ ends (codes "LESS" ∷ []) 9
unfolding filled picture_fields
texts_that_begin_alike = refl

pub a_text_too_long : meaning texts (codes "ABCDEFGHIJKLMNOPQ") 9 ≡ faults [] BadData 3 9
a_text_too_long = refl

-- ## Routines: HALF takes A, and yields H and R; it stops the run where A is 0
abbrev half : Routine
half = record {
  given = integers 1;
  yielding = integers 2;
  others = [];
  body = block (Let (line 3) (to_local 1) (Calculate Quotient (local 0) (num (pos 2))) ∷
      If (line 4) (only (Compare Equal (local 0) (num (pos 0)))) (block (Stop ∷ [])) Done ∷
      Let (line 5) (to_local 2) (Calculate Remainder (local 0) (num (pos 2))) ∷ Return ∷ []);
}

-- CALL HALF GIVING 7 YIELDING X, Y; both are printed; CALL HALF GIVING 0 YIELDING X, Y
abbrev halving : Program
halving = record (program_of_main 2 (Call (line 8) 0 (num (pos 7) ∷ []) (to_local 0 ∷ to_local 1 ∷ []) ∷ print_line 9 (local 0 ∷ local 1 ∷ []) (codes "* *") ∷
    Call (line 11) 0 (num (pos 0) ∷ []) (to_local 0 ∷ to_local 1 ∷ []) ∷ print_line 12 (local 0 ∷ []) (codes "*") ∷ [])) { routines = half ∷ [] }

-- each call takes a tick; STOP in a routine ends the run
pub calls_and_a_stop : meaning halving [] 2 ≡ ends (codes "3 1" ∷ []) 0
unfolding filled picture_fields numeral quotient_of remainder_of in_64_bits
calls_and_a_stop = refl

pub pauses_before_a_call : meaning halving [] 1 ≡ pauses (codes "3 1" ∷ [])
unfolding filled picture_fields numeral quotient_of remainder_of in_64_bits
pauses_before_a_call = refl

-- ## What is not well typed has no meaning: a text where a number is needed, a variable that isn't there
pub a_text_plus_1 : meaning (assigning (Calculate Add (Constant (Text (codes "A"))) (num (pos 1)))) [] 9 ≡ record { report = []; ending = WentWrong; ticks = 9 }
a_text_plus_1 = refl

pub no_such_variable : meaning (assigning (local 5)) [] 9 ≡ record { report = []; ending = WentWrong; ticks = 9 }
no_such_variable = refl
