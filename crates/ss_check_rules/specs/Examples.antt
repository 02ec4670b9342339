-- Worked examples: small programs with the first rule that they break and its line, read off by hand.
use Rattle.std.specs.Prelude.{◌≡◌, ℕ, pos, false, List, [], ◌∷◌, ◌++◌, Option, Some, None, codes, refl}
use Rattle.ss_base.specs.declared.line.Line.{Line}
use Rattle.ss_tree.specs.declared.expression.Designator.TheVariants as designators
use Rattle.ss_tree.specs.declared.expression.Function.TheVariants.{One}
use Rattle.ss_base.specs.declared.words.UnaryOperator.TheVariants.{Absolute}
use Rattle.ss_base.specs.declared.words.Sign.TheVariants.{Plus}
use Rattle.ss_base.specs.declared.layout.ClassKind.TheVariants.{Permanent, Temporary, Notice}
use Rattle.ss_tree.specs.declared.preamble.ModeWord.TheVariants as said
use Rattle.ss_tree.specs.declared.preamble.StatisticKind.TheVariants.{Sum, Mean}
use Rattle.ss_base.specs.declared.words.Weighting.TheVariants.{Tally}
use Rattle.ss_tree.specs.Tree.{ExpressionTree, number, text, named, call, parenthesised, sum, no_expression, and_expression, no_term, and_term, NamedTree, by_discipline, now, StatementTree, let_statement, call_statement, start_simulation, create_statement, file_statement, schedule_new, reset_statement, print_statement, event_notices, every, normally, system_owns, define_variables, statistics, has, owns, belongs_to, PreambleTree, SectionKindTree, main, routine, event, SectionTree, ProgramTree}
use Rattle.ss_picture.specs.Pictures.{picture_fields}
use Rattle.ss_tree.specs.Names.{NameBytes}
use Rattle.ss_check_rules.specs.Refusal.{refusal_of_uses}
use Rattle.ss_check_rules.specs.declared.error.CheckError.{CheckError}
use Rattle.ss_check_rules.specs.declared.error.CheckError.TheVariants as rules

abbrev line : ℕ → Line
line n = record { 0 = n }

abbrev broken : (Line → CheckError) → ℕ → Option CheckError
broken rule n = Some (rule (line n))

abbrev a_section : ℕ → SectionKindTree → List StatementTree → SectionTree
a_section n kind body = record { line = line n; kind = kind; definitions = []; body = body }

-- A preamble with the permanent class MACHINE, which owns QUEUE; the temporary class JOB, which has RANK, an INTEGER, and
-- may belong to QUEUE and to POOL of THE SYSTEM; notices BELL, which have TONE; an ALPHA variable W, a variable X, of which S1 is
-- the sum and M1 the mean; M2, the mean of RANK
abbrev preamble : List PreambleTree
preamble =
    normally (line 1) said.Integer
    ∷ every (line 2) Permanent (codes "MACHINE") (owns (codes "QUEUE" ∷ []) ∷ [])
    ∷ every (line 3) Temporary (codes "JOB") (has (codes "RANK" ∷ []) ∷ belongs_to (codes "QUEUE" ∷ codes "POOL" ∷ []) ∷ [])
    ∷ every (line 4) Notice (codes "BELL") (has (codes "TONE" ∷ []) ∷ [])
    ∷ system_owns (line 5) (codes "POOL" ∷ [])
    ∷ define_variables (line 6) (codes "W" ∷ []) said.Alpha
    ∷ define_variables (line 7) (codes "X" ∷ []) said.Integer
    ∷ statistics (line 8) Tally (record { name = codes "S1"; kind = Sum } ∷ record { name = codes "M1"; kind = Mean } ∷ []) (codes "X")
    ∷ statistics (line 9) Tally (record { name = codes "M2"; kind = Mean } ∷ []) (codes "RANK")
    ∷ []

-- EVENT BELL; a routine T that is given a text; and these sections
abbrev with_sections : List SectionTree → ProgramTree
with_sections sections =
    record {
      preamble = preamble;
      sections =
          sections
          ++ a_section 41 (event (codes "BELL") [] false) []
          ∷ record { line = line 43; kind = routine (codes "T") (codes "U" ∷ []) []; definitions = record { line = line 44; names = codes "U" ∷ []; mode = said.Alpha } ∷ []; body = [] }
          ∷ [];
    }

-- MAIN (in line 15) with these statements, and a routine R that is given nothing
abbrev in_main : List StatementTree → Option CheckError
in_main body = refusal_of_uses (with_sections (a_section 15 main body ∷ a_section 31 (routine (codes "R") [] []) [] ∷ []))

abbrev name : NameBytes → ExpressionTree
name n = named (designators.Name n) no_expression

-- a name with one subscript
abbrev name_at : NameBytes → ExpressionTree → ExpressionTree
name_at n e = named (designators.Name n) (and_expression e no_expression)

abbrev at : NameBytes → NamedTree
at n = record { designator = designators.Name n; subscripts = no_expression }

abbrev at_of : NameBytes → ExpressionTree → NamedTree
at_of n e = record { designator = designators.Name n; subscripts = and_expression e no_expression }

abbrev one : ExpressionTree
one = number (pos 1)

-- ---- 71, 72 and 78

pub no_main : refusal_of_uses (record { preamble = []; sections = [] }) ≡ broken rules.NoMain 0
no_main = refl

-- EVERY BELL .. (in line 9) and no EVENT BELL; with one it is right
pub no_event : refusal_of_uses (record { preamble = every (line 9) Notice (codes "BELL") [] ∷ []; sections = a_section 15 main [] ∷ [] }) ≡ broken rules.NoEventRoutine 9
no_event = refl

pub an_event : refusal_of_uses (record { preamble = every (line 9) Notice (codes "BELL") [] ∷ []; sections = a_section 13 (event (codes "BELL") [] false) [] ∷ a_section 15 main [] ∷ [] }) ≡ None
an_event = refl

-- EVENT NOTICES INCLUDE BELL, ALARM: each has one or breaks the rule
pub included : refusal_of_uses (record { preamble = event_notices (line 4) (codes "BELL" ∷ codes "ALARM" ∷ []) ∷ []; sections = a_section 13 (event (codes "BELL") [] false) [] ∷ a_section 15 main [] ∷ [] }) ≡ broken rules.NoEventRoutine 4
included = refl

-- START SIMULATION in MAIN, and in ROUTINE R
pub started : in_main (start_simulation (line 16) ∷ []) ≡ None
started = refl

pub started_elsewhere : refusal_of_uses (record { preamble = []; sections = a_section 15 main [] ∷ a_section 17 (routine (codes "R") [] []) (start_simulation (line 18) ∷ []) ∷ [] }) ≡ broken rules.StartPlace 18
started_elsewhere = refl

-- ---- 79

-- CREATE A MACHINE; LET POOL = 1; LET FOO(1) = 2; LET FOO = 2, which is local
pub not_created : in_main (create_statement (line 16) (codes "MACHINE") None ∷ []) ≡ broken rules.Unknown 16
not_created = refl

pub a_set_as_target : in_main (let_statement (line 16) (at (codes "POOL")) one ∷ []) ≡ broken rules.Unknown 16
a_set_as_target = refl

pub with_subscript_only : in_main (let_statement (line 16) (at_of (codes "FOO") one) (number (pos 2)) ∷ []) ≡ broken rules.Unknown 16
with_subscript_only = refl

pub a_local : in_main (let_statement (line 16) (at (codes "FOO")) (number (pos 2)) ∷ []) ≡ None
a_local = refl

-- TALLY S2 AS THE SUM OF JOB; RESET TOTALS OF W, which has no statistic
pub tally_of_a_class : refusal_of_uses (record { preamble = every (line 2) Temporary (codes "JOB") [] ∷ statistics (line 3) Tally (record { name = codes "S2"; kind = Sum } ∷ []) (codes "JOB") ∷ []; sections = a_section 15 main [] ∷ [] }) ≡ broken rules.Unknown 3
tally_of_a_class = refl

pub reset_of_none : in_main (reset_statement (line 16) (at (codes "X") ∷ []) ∷ reset_statement (line 17) (at (codes "W") ∷ []) ∷ []) ≡ broken rules.Unknown 17
reset_of_none = refl

-- ---- 75

-- LET TIME.V(1) = "A" breaks 75, 76 and 73; FILE JOB IN POOL(1); FILE JOB IN QUEUE(1) is right
pub time_with_subscript : in_main (let_statement (line 16) (record { designator = designators.TimeV; subscripts = and_expression one no_expression }) (text (codes "A")) ∷ []) ≡ broken rules.Subscript 16
time_with_subscript = refl

pub one_of_the_system : in_main (file_statement (line 16) (name (codes "JOB")) by_discipline (at_of (codes "POOL") one) ∷ []) ≡ broken rules.Subscript 16
one_of_the_system = refl

pub one_of_a_machine : in_main (file_statement (line 16) (name (codes "JOB")) by_discipline (at_of (codes "QUEUE") one) ∷ []) ≡ None
one_of_a_machine = refl

-- ---- 76

-- LET TIME.V = 3; LET F.POOL = 1; LET N.MACHINE = 1 is right
pub time_as_target : in_main (let_statement (line 16) (record { designator = designators.TimeV; subscripts = no_expression }) (number (pos 3)) ∷ []) ≡ broken rules.NotAssignable 16
time_as_target = refl

pub a_derived_target : in_main (let_statement (line 16) (at (codes "F.POOL")) one ∷ []) ≡ broken rules.NotAssignable 16
a_derived_target = refl

pub a_count_as_target : in_main (let_statement (line 16) (at (codes "N.MACHINE")) one ∷ []) ≡ None
a_count_as_target = refl

-- ---- 74

-- CALL R GIVING 1; LET X = ABS.F(1, 1); SCHEDULE A BELL GIVEN 1, 1 NOW
pub too_many_given : in_main (call_statement (line 16) (codes "R") (one ∷ []) [] ∷ []) ≡ broken rules.Arguments 16
too_many_given = refl

pub two_arguments : in_main (let_statement (line 16) (at (codes "X")) (call (One Absolute) (and_expression one (and_expression one no_expression))) ∷ []) ≡ broken rules.Arguments 16
two_arguments = refl

pub more_than_attributes : in_main (schedule_new (line 16) (codes "BELL") None (one ∷ one ∷ []) now ∷ []) ≡ broken rules.Arguments 16
more_than_attributes = refl

pub as_many_as_attributes : in_main (schedule_new (line 16) (codes "BELL") None (one ∷ []) now ∷ []) ≡ None
as_many_as_attributes = refl

-- ---- 73

-- LET X = W; LET W = "A" is right; CALL T GIVING 1
pub a_text_to_a_number : in_main (let_statement (line 16) (at (codes "X")) (name (codes "W")) ∷ []) ≡ broken rules.Mode 16
a_text_to_a_number = refl

pub a_text_to_a_text : in_main (let_statement (line 16) (at (codes "W")) (text (codes "A")) ∷ []) ≡ None
a_text_to_a_text = refl

pub a_number_given : in_main (call_statement (line 16) (codes "T") (one ∷ []) [] ∷ []) ≡ broken rules.Mode 16
a_number_given = refl

-- LET Y = M1; LET X = M2(JOB); LET X = S1 is right
pub a_mean_as_value : in_main (let_statement (line 16) (at (codes "Y")) (name (codes "M1")) ∷ []) ≡ broken rules.Mode 16
a_mean_as_value = refl

pub a_mean_of_an_entity : in_main (let_statement (line 16) (at (codes "X")) (name_at (codes "M2") (name (codes "JOB"))) ∷ []) ≡ broken rules.Mode 16
a_mean_of_an_entity = refl

pub a_sum_as_value : in_main (let_statement (line 16) (at (codes "X")) (name (codes "S1")) ∷ []) ≡ None
a_sum_as_value = refl

-- LET X = "A" (in line 16) LET X = M1 (in line 17), and the other way round: the first place decides the line
pub a_text_before_a_mean : in_main (let_statement (line 16) (at (codes "X")) (text (codes "A")) ∷ let_statement (line 17) (at (codes "X")) (name (codes "M1")) ∷ []) ≡ broken rules.Mode 16
a_text_before_a_mean = refl

pub a_mean_before_a_text : in_main (let_statement (line 16) (at (codes "X")) (name (codes "M1")) ∷ let_statement (line 17) (at (codes "X")) (text (codes "A")) ∷ []) ≡ broken rules.Mode 16
a_mean_before_a_text = refl

-- PRINT 1 LINE WITH M1 + 1 THUS **, and WITH M2(M1)
pub a_mean_in_a_sum : in_main (print_statement (line 16) (sum (name (codes "M1")) (and_term Plus one no_term) ∷ []) (codes "**" ∷ []) ∷ []) ≡ broken rules.Mode 16
unfolding picture_fields
a_mean_in_a_sum = refl

pub a_mean_as_subscript : in_main (print_statement (line 16) (name_at (codes "M2") (name (codes "M1")) ∷ []) (codes "**" ∷ []) ∷ []) ≡ broken rules.Mode 16
unfolding picture_fields
a_mean_as_subscript = refl

-- PRINT 1 LINE WITH ((M1)), M2(JOB) THUS ** *.** is right
pub means_as_items : in_main (print_statement (line 16) (parenthesised (parenthesised (name (codes "M1"))) ∷ name_at (codes "M2") (name (codes "JOB")) ∷ []) (codes "** *.**" ∷ []) ∷ []) ≡ None
unfolding picture_fields
means_as_items = refl

-- LET M1 = 1 breaks 76, M1(1) 75, RESET TOTALS OF M1 79
pub a_mean_as_target : in_main (let_statement (line 16) (at (codes "M1")) one ∷ []) ≡ broken rules.NotAssignable 16
a_mean_as_target = refl

pub a_mean_with_subscript : in_main (print_statement (line 16) (name_at (codes "M1") one ∷ []) (codes "*" ∷ []) ∷ []) ≡ broken rules.Subscript 16
unfolding picture_fields
a_mean_with_subscript = refl

pub reset_of_a_mean : in_main (reset_statement (line 16) (at (codes "M1") ∷ []) ∷ []) ≡ broken rules.Unknown 16
reset_of_a_mean = refl

-- ROUTINE R GIVEN JOB DEFINE JOB AS AN ALPHA VARIABLE LET RANK = 1: JOB is implied, and a text
pub a_hidden_class : refusal_of_uses (with_sections (a_section 15 main [] ∷ record { line = line 17; kind = routine (codes "R") (codes "JOB" ∷ []) []; definitions = record { line = line 18; names = codes "JOB" ∷ []; mode = said.Alpha } ∷ []; body = let_statement (line 19) (at (codes "RANK")) one ∷ [] } ∷ [])) ≡ broken rules.Mode 19
a_hidden_class = refl

-- ---- 77, and several rules at once

-- PRINT 1 LINE WITH 1, 1 THUS *
pub one_field : in_main (print_statement (line 16) (one ∷ one ∷ []) (codes "*" ∷ []) ∷ []) ≡ broken rules.Fields 16
unfolding picture_fields
one_field = refl

-- PRINT 1 LINE WITH 1, 2 THUS *.*; WITH X THUS *.*; WITH (1) THUS *.*
pub one_field_with_decimals : in_main (print_statement (line 16) (one ∷ number (pos 2) ∷ []) (codes "*.*" ∷ []) ∷ []) ≡ broken rules.Fields 16
unfolding picture_fields
one_field_with_decimals = refl

pub a_variable_with_decimals : in_main (print_statement (line 16) (name (codes "X") ∷ []) (codes "*.*" ∷ []) ∷ []) ≡ broken rules.Fields 16
unfolding picture_fields
a_variable_with_decimals = refl

pub a_number_with_decimals : in_main (print_statement (line 16) (parenthesised one ∷ []) (codes "*.*" ∷ []) ∷ []) ≡ broken rules.Fields 16
unfolding picture_fields
a_number_with_decimals = refl

-- PRINT 1 LINE WITH M1 THUS *. and nine asterisks is right, and ten are too many
pub nine_decimals : in_main (print_statement (line 16) (name (codes "M1") ∷ []) (codes "*.*********" ∷ []) ∷ []) ≡ None
unfolding picture_fields
nine_decimals = refl

pub ten_decimals : in_main (print_statement (line 16) (name (codes "M1") ∷ []) (codes "*.**********" ∷ []) ∷ []) ≡ broken rules.Fields 16
unfolding picture_fields
ten_decimals = refl

-- 77 is broken in line 16, and LET POOL = 1 in line 18 breaks 79, which comes first
pub a_later_place : in_main (print_statement (line 16) (one ∷ one ∷ []) (codes "*" ∷ []) ∷ let_statement (line 18) (at (codes "POOL")) one ∷ []) ≡ broken rules.Unknown 18
unfolding picture_fields
a_later_place = refl

-- two places of one rule
pub two_places : in_main (let_statement (line 16) (at (codes "X")) one ∷ let_statement (line 17) (at (codes "X")) (text (codes "A")) ∷ let_statement (line 18) (at (codes "W")) one ∷ []) ≡ broken rules.Mode 17
two_places = refl
