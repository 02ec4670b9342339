-- Worked examples: expressions and statements in the sections of a small program, read off by hand.
use Rattle.std.specs.Prelude.{◌≡◌, ℕ, [], ◌∷◌, pos, Some, None, codes, refl}
use Rattle.ss_base.specs.declared.layout.ClassKind.TheVariants.{Permanent, Temporary, Notice}
use Rattle.ss_base.specs.declared.layout.Mode.TheVariants as modes
use Rattle.ss_base.specs.declared.line.Line.{Line}
use Rattle.ss_base.specs.declared.value.Value.TheVariants.{Whole}
use Rattle.ss_base.specs.declared.words.Sign.TheVariants as signs
use Rattle.ss_base.specs.declared.words.Weighting.TheVariants.{Tally, Accumulate}
use Rattle.ss_tree.specs.declared.expression.Designator.{Designator}
use Rattle.ss_tree.specs.declared.expression.Designator.TheVariants.{Name, TimeV, TimeA}
use Rattle.ss_tree.specs.declared.expression.Function.TheVariants.{Two}
use Rattle.ss_tree.specs.declared.preamble.ModeWord.TheVariants.{Integer}
use Rattle.ss_tree.specs.declared.preamble.StatisticKind.TheVariants as figures
use Rattle.ss_tree.specs.declared.statement.FindOutcome.TheVariants as outcomes
use Rattle.ss_tree.specs.Tree.{ExpressionTree, number, named, call, parenthesised, sum, product, no_expression, and_expression, no_term, and_term, NamedTree, over_class, by_discipline, at_time, call_statement, read_statement, stop_statement, find_if_statement, create_statement, create_every, file_statement, schedule_new, reset_statement, print_statement, no_statement, and_statement, has, owns, belongs_to, permanent_entities, temporary_entities, event_notices, every, normally, system_owns, define_variables, statistics, routine, ProgramTree}
use Rattle.ss_tree.specs.Names.{NameBytes}
use Rattle.ss_names.specs.Table.{table}
use Rattle.ss_names_scopes.specs.Locals.{Moded}
use Rattle.ss_names_scopes.specs.Scopes.{Scope}
use Rattle.ss_program.specs.declared.expression.Fold.TheVariants.{Sum}
use Rattle.ss_program.specs.declared.expression.MemberQuery.TheVariants.{Successor}
use Rattle.ss_base.specs.declared.words.Operator.TheVariants.{Add, Subtract, Multiply, Quotient}
use Rattle.ss_program.specs.declared.expression.SetQuery.TheVariants.{MemberCount}
use Rattle.ss_program.specs.declared.expression.Variable.TheVariants.{Global, Local}
use Rattle.ss_program.specs.Program.{Expression, Constant, Fetch, Attribute, OfSystemSet, OfSet, OfMember, Clock, TimeOf, Figure, Calculate, AValue, AMean, AMeanOf, TheSystem, Entity, ToVariable, ToAttribute, ToCount, ByDiscipline, At, Each, Call, Stop, Read, Find, Create, CreateEvery, File, ScheduleNew, Reset, Print, Done, Then}
use Rattle.ss_names_meaning.specs.Answers.{each}
use Rattle.ss_names_meaning.specs.Expressions.{expression, item, subscript, two, factors, terms, target}
use Rattle.ss_names_meaning.specs.Heads.{head}
use Rattle.ss_names_meaning.specs.Statements.{simple_statement, statement, statements}

-- ---- the program

--  1 PREAMBLE
--  2 NORMALLY, MODE IS INTEGER
--  3 PERMANENT ENTITIES
--  4 EVERY MACHINE OWNS A QUEUE
--  5 TEMPORARY ENTITIES
--  6 EVERY JOB HAS A RANK AND MAY BELONG TO A QUEUE, A POOL
--  7 EVENT NOTICES
--  8 EVERY BELL HAS A TONE
--  9 THE SYSTEM OWNS A POOL
-- 10 ACCUMULATE LOAD AS THE SUM, LEVEL AS THE MEAN OF N.POOL
-- 11 TALLY GRADE AS THE MEAN OF RANK
-- 12 DEFINE LENGTH AS AN INTEGER VARIABLE
-- 13 TALLY MEASURED AS THE SUM OF LENGTH
-- 14 END
-- 15 ROUTINE SHOW GIVEN JOB, LENGTH
-- 16 END

abbrev line : ℕ → Line
line n = record { 0 = n }

abbrev shop : ProgramTree
shop = record {
  preamble =
      normally (line 2) Integer
      ∷ permanent_entities (line 3)
      ∷ every (line 4) Permanent (codes "MACHINE") (owns (codes "QUEUE" ∷ []) ∷ [])
      ∷ temporary_entities (line 5)
      ∷ every (line 6) Temporary (codes "JOB") (has (codes "RANK" ∷ []) ∷ belongs_to (codes "QUEUE" ∷ codes "POOL" ∷ []) ∷ [])
      ∷ event_notices (line 7) []
      ∷ every (line 8) Notice (codes "BELL") (has (codes "TONE" ∷ []) ∷ [])
      ∷ system_owns (line 9) (codes "POOL" ∷ [])
      ∷ statistics (line 10) Accumulate (record { name = codes "LOAD"; kind = figures.Sum } ∷ record { name = codes "LEVEL"; kind = figures.Mean } ∷ []) (codes "N.POOL")
      ∷ statistics (line 11) Tally (record { name = codes "GRADE"; kind = figures.Mean } ∷ []) (codes "RANK")
      ∷ define_variables (line 12) (codes "LENGTH" ∷ []) Integer
      ∷ statistics (line 13) Tally (record { name = codes "MEASURED"; kind = figures.Sum } ∷ []) (codes "LENGTH")
      ∷ [];
  sections = record { line = line 15; kind = routine (codes "SHOW") (codes "JOB" ∷ codes "LENGTH" ∷ []) []; definitions = []; body = [] } ∷ [];
}

abbrev scope_with : Moded → Scope
scope_with locals = record { table = table shop; locals = locals; sections = locals ∷ [] }

-- MAIN, without local variables: MACHINE, N.MACHINE, JOB, BELL and LENGTH are the global variables 0 to 4
abbrev in_main : Scope
in_main = scope_with []

-- the routine, whose parameter JOB hides the variable of the class, and whose parameter LENGTH hides the global variable
abbrev in_routine : Scope
in_routine = scope_with ((codes "JOB", Some modes.Integer) ∷ (codes "LENGTH", Some modes.Integer) ∷ [])

-- a name without a subscript, and with one
abbrev plain_name : NameBytes → ExpressionTree
plain_name name = named (Name name) no_expression

abbrev with_subscript : Designator → ExpressionTree → ExpressionTree
with_subscript d e = named d (and_expression e no_expression)

abbrev named_plainly : NameBytes → NamedTree
named_plainly name = record { designator = Name name; subscripts = no_expression }

abbrev whole : ℕ → Expression
whole n = Constant (Whole (pos n))

-- ---- expressions

-- RANK is that of the JOB in the variable JOB; where a parameter has the name of the class, that of the one in the parameter
pub attribute_implied : expression in_main (plain_name (codes "RANK")) ≡ Some (Attribute 1 0 (Fetch (Global 2)))
unfolding expression subscript
attribute_implied = refl

pub attribute_hidden : expression in_routine (plain_name (codes "RANK")) ≡ Some (Attribute 1 0 (Fetch (Local 0)))
unfolding expression subscript
attribute_hidden = refl

-- RANK(5), and RANK(5, 5)
pub attribute_of : expression in_main (with_subscript (Name (codes "RANK")) (number (pos 5))) ≡ Some (Attribute 1 0 (whole 5))
unfolding expression subscript
attribute_of = refl

pub two_subscripts : expression in_main (named (Name (codes "RANK")) (and_expression (number (pos 5)) (and_expression (number (pos 5)) no_expression))) ≡ None
unfolding expression subscript
two_subscripts = refl

-- N.QUEUE is that of the MACHINE in the variable MACHINE, N.POOL that of THE SYSTEM, which takes no subscript
pub owner_implied : expression in_main (plain_name (codes "N.QUEUE")) ≡ Some (OfSet MemberCount 0 (Fetch (Global 0)))
unfolding expression subscript
owner_implied = refl

pub of_the_system : expression in_main (plain_name (codes "N.POOL")) ≡ Some (OfSystemSet MemberCount 1)
unfolding expression subscript
of_the_system = refl

pub system_subscript : expression in_main (with_subscript (Name (codes "N.POOL")) (number (pos 1))) ≡ None
unfolding expression subscript
system_subscript = refl

-- S.POOL is that of the JOB in the variable JOB
pub member_implied : expression in_main (plain_name (codes "S.POOL")) ≡ Some (OfMember Successor 1 (Fetch (Global 2)))
unfolding expression subscript
member_implied = refl

-- LOAD
pub figure : expression in_main (plain_name (codes "LOAD")) ≡ Some (Figure Sum 0)
unfolding expression subscript
figure = refl

-- LEVEL is a mean, and no value
pub mean_as_value : expression in_main (plain_name (codes "LEVEL")) ≡ None
unfolding expression subscript
mean_as_value = refl

-- TIME.A takes a subscript
pub time_alone : expression in_main (named TimeA no_expression) ≡ None
unfolding expression subscript
time_alone = refl

-- TIME.V takes none
pub time_of_day : expression in_main (with_subscript TimeV (number (pos 1))) ≡ None
unfolding expression subscript
time_of_day = refl

pub clock : expression in_main (named TimeV no_expression) ≡ Some Clock
unfolding expression subscript
clock = refl

pub time_of_bell : expression in_main (with_subscript TimeA (plain_name (codes "BELL"))) ≡ Some (TimeOf (Fetch (Global 3)))
unfolding expression subscript
time_of_bell = refl

-- a set is no value
pub set_as_value : expression in_main (plain_name (codes "POOL")) ≡ None
unfolding expression subscript
set_as_value = refl

-- 1 - 2 * 3 + N.MACHINE
pub sum_from_the_left :
    expression in_main (sum (number (pos 1)) (and_term signs.Minus (product (number (pos 2)) (and_expression (number (pos 3)) no_expression)) (and_term signs.Plus (plain_name (codes "N.MACHINE")) no_term))) ≡
    Some (Calculate Add (Calculate Subtract (whole 1) (Calculate Multiply (whole 2) (whole 3))) (Fetch (Global 1)))
unfolding expression subscript factors terms
sum_from_the_left = refl

-- DIV.F(7)
pub one_argument : expression in_main (call (Two Quotient) (and_expression (number (pos 7)) no_expression)) ≡ None
unfolding expression two
one_argument = refl

-- ---- items of PRINT

-- LEVEL, in parentheses and without, is a mean
pub mean_alone : item in_main (plain_name (codes "LEVEL")) ≡ Some (AMean 0)
unfolding expression subscript
mean_alone = refl

pub mean_in_parentheses : item in_main (parenthesised (parenthesised (plain_name (codes "LEVEL")))) ≡ Some (AMean 0)
unfolding expression subscript
mean_in_parentheses = refl

-- LEVEL takes no subscript
pub mean_subscript : item in_main (with_subscript (Name (codes "LEVEL")) (number (pos 1))) ≡ None
unfolding expression subscript
mean_subscript = refl

-- GRADE is that of the JOB in the variable JOB, GRADE(5) that of another
pub mean_implied : item in_main (plain_name (codes "GRADE")) ≡ Some (AMeanOf 1 (Fetch (Global 2)))
unfolding expression subscript
mean_implied = refl

pub mean_of : item in_main (with_subscript (Name (codes "GRADE")) (number (pos 5))) ≡ Some (AMeanOf 1 (whole 5))
unfolding expression subscript
mean_of = refl

-- LEVEL + 1 is nothing
pub mean_in_a_sum : item in_main (sum (plain_name (codes "LEVEL")) (and_term signs.Plus (number (pos 1)) no_term)) ≡ None
unfolding expression subscript terms
mean_in_a_sum = refl

-- LOAD is a value
pub value_alone : item in_main (parenthesised (plain_name (codes "LOAD"))) ≡ Some (AValue (Figure Sum 0))
unfolding expression subscript
value_alone = refl

-- ---- targets

-- N. of a class may be assigned, N. of a set not
pub count_as_target : target in_main (named_plainly (codes "N.MACHINE")) ≡ Some (ToCount (record { class = 0; variable = 1 }))
unfolding subscript
count_as_target = refl

pub members_as_target : target in_main (named_plainly (codes "N.POOL")) ≡ None
unfolding subscript
members_as_target = refl

pub mean_as_target : target in_main (named_plainly (codes "LEVEL")) ≡ None
unfolding subscript
mean_as_target = refl

-- ---- statements

-- CREATE A JOB; the class is made also where its variable is hidden
pub create_job : statement in_main (create_statement (line 20) (codes "JOB") None) ≡ Some (Create (line 20) 1 (ToVariable (Global 2)))
unfolding statement simple_statement
create_job = refl

pub create_hidden : statement in_routine (create_statement (line 20) (codes "JOB") None) ≡ Some (Create (line 20) 1 (ToVariable (Local 0)))
unfolding statement simple_statement
create_hidden = refl

-- CREATE A MACHINE, and CREATE EVERY MACHINE
pub create_permanent : statement in_main (create_statement (line 20) (codes "MACHINE") None) ≡ None
unfolding statement simple_statement
create_permanent = refl

pub create_machines : statement in_main (create_every (line 20) (codes "MACHINE" ∷ [])) ≡ Some (CreateEvery (line 20) (record { class = 0; variable = 1 } ∷ []))
unfolding statement simple_statement each
create_machines = refl

-- FILE JOB IN QUEUE, which is that of the MACHINE in the variable MACHINE
pub file_in_queue :
    statement in_main (file_statement (line 20) (plain_name (codes "JOB")) by_discipline (named_plainly (codes "QUEUE"))) ≡
    Some (File (line 20) 0 (Fetch (Global 2)) ByDiscipline (Entity (Fetch (Global 0))))
unfolding statement simple_statement expression subscript
file_in_queue = refl

-- FILE JOB IN POOL
pub file_in_pool :
    statement in_main (file_statement (line 20) (plain_name (codes "JOB")) by_discipline (named_plainly (codes "POOL"))) ≡
    Some (File (line 20) 1 (Fetch (Global 2)) ByDiscipline TheSystem)
unfolding statement simple_statement expression subscript
file_in_pool = refl

-- SCHEDULE A BELL GIVEN 8 AT 9; a BELL has one attribute, so GIVEN 8, 8 is too much
pub schedule_bell :
    statement in_main (schedule_new (line 20) (codes "BELL") None (number (pos 8) ∷ []) (at_time (number (pos 9)))) ≡
    Some (ScheduleNew (line 20) 2 (ToVariable (Global 3)) (whole 8 ∷ []) (At (whole 9)))
unfolding statement simple_statement expression each
schedule_bell = refl

pub schedule_too_much :
    statement in_main (schedule_new (line 20) (codes "BELL") None (number (pos 8) ∷ number (pos 8) ∷ []) (at_time (number (pos 9)))) ≡ None
unfolding statement simple_statement expression each
schedule_too_much = refl

-- CALL SHOW GIVING 1, 2, and CALL SHOW
pub call_show : statement in_main (call_statement (line 20) (codes "SHOW") (number (pos 1) ∷ number (pos 2) ∷ []) []) ≡ Some (Call (line 20) 0 (whole 1 ∷ whole 2 ∷ []) [])
unfolding statement simple_statement expression each
call_show = refl

pub call_without : statement in_main (call_statement (line 20) (codes "SHOW") [] []) ≡ None
unfolding statement simple_statement expression each
call_without = refl

-- READ RANK
pub read_rank :
    statement in_main (read_statement (line 20) (named_plainly (codes "RANK") ∷ [])) ≡
    Some (Read (line 20) (record { place = ToAttribute 1 0 (Fetch (Global 2)); mode = modes.Integer } ∷ []))
unfolding statement simple_statement subscript each
read_rank = refl

-- PRINT 1 LINE WITH LEVEL, RANK THUS, and a picture
pub print_mean :
    statement in_main (print_statement (line 20) (plain_name (codes "LEVEL") ∷ plain_name (codes "RANK") ∷ []) (codes "*.* *" ∷ [])) ≡
    Some (Print (line 20) (AMean 0 ∷ AValue (Attribute 1 0 (Fetch (Global 2))) ∷ []) (codes "*.* *" ∷ []))
unfolding statement simple_statement expression subscript each
print_mean = refl

-- RESET THE TOTALS OF N.POOL, and of N.QUEUE, which has no statistic
pub reset_load : statement in_main (reset_statement (line 20) (named_plainly (codes "N.POOL") ∷ [])) ≡ Some (Reset (line 20) (record { statistic = 0; of = None } ∷ []))
unfolding statement simple_statement subscript each
reset_load = refl

pub reset_nothing : statement in_main (reset_statement (line 20) (named_plainly (codes "N.QUEUE") ∷ [])) ≡ None
unfolding statement simple_statement subscript each
reset_nothing = refl

-- RESET THE TOTALS OF LENGTH, which the parameter of its name hides
pub reset_variable : statement in_main (reset_statement (line 20) (named_plainly (codes "LENGTH") ∷ [])) ≡ Some (Reset (line 20) (record { statistic = 2; of = None } ∷ []))
unfolding statement simple_statement subscript each
reset_variable = refl

pub reset_hidden : statement in_routine (reset_statement (line 20) (named_plainly (codes "LENGTH") ∷ [])) ≡ None
unfolding statement simple_statement subscript each
reset_hidden = refl

-- FOR EACH MACHINE, FIND THE FIRST CASE IF NONE STOP ALWAYS
pub find_machine :
    statement in_main (find_if_statement (line 20) (over_class (codes "MACHINE") None []) outcomes.None (and_statement (stop_statement (line 21)) no_statement) no_statement) ≡
    Some (Find (line 20) (Each (Global 0) 0) [] Done (Then Stop Done))
unfolding statement simple_statement statements head each
find_machine = refl
