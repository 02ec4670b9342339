-- A worked example: a whole program, with its resolved form read off by hand.
use Rattle.std.specs.Prelude.{◌≡◌, ℕ, Bool, true, false, List, [], ◌∷◌, pos, Some, None, codes, refl}
use Rattle.ss_base.specs.declared.layout.ClassKind.TheVariants.{Permanent, Temporary, Notice}
use Rattle.ss_base.specs.declared.layout.Discipline.TheVariants as orders
use Rattle.ss_base.specs.declared.layout.Mode.TheVariants.{Integer, Alpha}
use Rattle.ss_base.specs.declared.layout.Owner.TheVariants as owners
use Rattle.ss_base.specs.declared.layout.RankKey.{RankKey}
use Rattle.ss_base.specs.declared.line.Line.{Line}
use Rattle.ss_base.specs.declared.value.Value.TheVariants.{Whole}
use Rattle.ss_base.specs.Plain.{PlainLayout}
use Rattle.ss_tree.specs.declared.expression.Designator.TheVariants.{Name}
use Rattle.ss_tree.specs.declared.preamble.NamedKey.{NamedKey}
use Rattle.ss_tree.specs.declared.preamble.ModeWord.TheVariants as mode_words
use Rattle.ss_tree.specs.declared.preamble.StatisticKind.TheVariants as folds
use Rattle.ss_tree.specs.Tree.{ExpressionTree, number, named, no_expression, StatementTree, let_statement, has, owns, belongs_to, lifo, ranked, permanent_entities, temporary_entities, event_notices, every, normally, system_owns, define_variables, define_sets, priority_order, break_ties, statistics, main, routine, event, ProgramTree, SectionTree}
use Rattle.ss_tree.specs.Names.{NameBytes}
use Rattle.ss_names.specs.Table.{table}
use Rattle.ss_program.specs.declared.expression.Variable.TheVariants.{Local}
use Rattle.ss_program.specs.declared.sections.Subject.TheVariants.{OfAttribute, OfCount}
use Rattle.ss_base.specs.declared.words.Weighting.TheVariants.{Tally, Accumulate}
use Rattle.ss_program.specs.Program.{Constant, Fetch, ToVariable, Let, Done, Then, Routine, Event, Program}
use Rattle.ss_names_meaning.specs.Answers.{each, upto}
use Rattle.ss_names_meaning.specs.Expressions.{expression, subscript}
use Rattle.ss_names_meaning.specs.Statements.{simple_statement, statement, statements}
use Rattle.ss_names_meaning.specs.Layouts.{disciplines, layout, tie_keys}
use Rattle.ss_names_meaning.specs.Resolved.{resolved, resolved_with_locals}

abbrev line : ℕ → Line
line n = record { 0 = n }

abbrev key : Bool → NameBytes → NamedKey
key high name = record { high = high; name = name }

-- LET a = b
abbrev let_named : ℕ → NameBytes → ExpressionTree → StatementTree
let_named n name value = let_statement (line n) (record { designator = Name name; subscripts = no_expression }) value

abbrev plain : NameBytes → ExpressionTree
plain name = named (Name name) no_expression

--  1 PREAMBLE
--  2 NORMALLY, MODE IS INTEGER
--  3 DEFINE TITLE AS AN ALPHA VARIABLE
--  4 PERMANENT ENTITIES
--  5 EVERY TRACK OWNS A QUEUE
--  6 TEMPORARY ENTITIES
--  7 EVERY WAGON HAS A LOAD AND A LABEL AND MAY BELONG TO A QUEUE, A POOL
--  8 EVENT NOTICES
--  9 EVERY ARRIVAL HAS A WEIGHT, A GATE
-- 10 EVERY CHECK
-- 11 THE SYSTEM OWNS A POOL
-- 12 DEFINE LABEL AS AN ALPHA VARIABLE
-- 13 DEFINE QUEUE AS A SET RANKED BY HIGH LOAD THEN BY LOW LABEL
-- 14 DEFINE POOL AS A LIFO SET
-- 15 PRIORITY ORDER IS CHECK
-- 16 BREAK ARRIVAL TIES BY HIGH GATE THEN BY LOW WEIGHT
-- 17 TALLY HEAVY AS THE SUM OF LOAD
-- 18 ACCUMULATE LONG AS THE MAXIMUM OF N.QUEUE
-- 19 END
-- 20 MAIN
-- 21 LET COUNT = 1
-- 22 END
-- 23 EVENT ARRIVAL GIVEN W SAVING THE EVENT NOTICE
-- 24 LET V = W
-- 25 END
-- 26 EVENT CHECK
-- 27 END
-- 28 ROUTINE MARK GIVEN D YIELDING B
-- 29 DEFINE B AS AN ALPHA VARIABLE
-- 30 LET C = D
-- 31 END
abbrev yard : ProgramTree
yard = record {
  preamble =
      normally (line 2) mode_words.Integer
      ∷ define_variables (line 3) (codes "TITLE" ∷ []) mode_words.Alpha
      ∷ permanent_entities (line 4)
      ∷ every (line 5) Permanent (codes "TRACK") (owns (codes "QUEUE" ∷ []) ∷ [])
      ∷ temporary_entities (line 6)
      ∷ every (line 7) Temporary (codes "WAGON") (has (codes "LOAD" ∷ codes "LABEL" ∷ []) ∷ belongs_to (codes "QUEUE" ∷ codes "POOL" ∷ []) ∷ [])
      ∷ event_notices (line 8) []
      ∷ every (line 9) Notice (codes "ARRIVAL") (has (codes "WEIGHT" ∷ codes "GATE" ∷ []) ∷ [])
      ∷ every (line 10) Notice (codes "CHECK") []
      ∷ system_owns (line 11) (codes "POOL" ∷ [])
      ∷ define_variables (line 12) (codes "LABEL" ∷ []) mode_words.Alpha
      ∷ define_sets (line 13) (codes "QUEUE" ∷ []) (ranked (key true (codes "LOAD") ∷ key false (codes "LABEL") ∷ []))
      ∷ define_sets (line 14) (codes "POOL" ∷ []) lifo
      ∷ priority_order (line 15) (codes "CHECK" ∷ [])
      ∷ break_ties (line 16) (codes "ARRIVAL") (key true (codes "GATE") ∷ key false (codes "WEIGHT") ∷ [])
      ∷ statistics (line 17) Tally (record { name = codes "HEAVY"; kind = folds.Sum } ∷ []) (codes "LOAD")
      ∷ statistics (line 18) Accumulate (record { name = codes "LONG"; kind = folds.Maximum } ∷ []) (codes "N.QUEUE")
      ∷ [];
  sections =
      record { line = line 20; kind = main; definitions = []; body = let_named 21 (codes "COUNT") (number (pos 1)) ∷ [] }
      ∷ record { line = line 23; kind = event (codes "ARRIVAL") (codes "W" ∷ []) true; definitions = []; body = let_named 24 (codes "V") (plain (codes "W")) ∷ [] }
      ∷ record { line = line 26; kind = event (codes "CHECK") [] false; definitions = []; body = [] }
      ∷ record {
        line = line 28;
        kind = routine (codes "MARK") (codes "D" ∷ []) (codes "B" ∷ []);
        definitions = record { line = line 29; names = codes "B" ∷ []; mode = mode_words.Alpha } ∷ [];
        body = let_named 30 (codes "C") (plain (codes "D")) ∷ [];
      }
      ∷ [];
}

-- ---- the layout

abbrev yard_layout : PlainLayout
yard_layout = record {
  classes =
      record { kind = Permanent; fields = [] }
      ∷ record { kind = Temporary; fields = Integer ∷ Alpha ∷ [] }
      ∷ record { kind = Notice; fields = Integer ∷ Integer ∷ [] }
      ∷ record { kind = Notice; fields = [] }
      ∷ [];
  sets = record { owner = owners.Class 0; member = 1 } ∷ record { owner = owners.System; member = 1 } ∷ [];
}

-- each TRACK owns a QUEUE, THE SYSTEM the POOL; wagons belong to both
pub yard_laid : layout (table yard) ≡ Some yard_layout
unfolding each upto
yard_laid = refl

-- in QUEUE a high LOAD comes first, then a low LABEL
abbrev queue_keys : List RankKey
queue_keys = record { field = 0; high = true } ∷ record { field = 1; high = false } ∷ []

pub yard_disciplines : disciplines (table yard) ≡ Some (orders.Ranked queue_keys ∷ orders.Lifo ∷ [])
unfolding each upto
yard_disciplines = refl

-- of arrivals at one time that with the high GATE comes first, then that with the low WEIGHT
abbrev arrival_ties : List RankKey
arrival_ties = record { field = 1; high = true } ∷ record { field = 0; high = false } ∷ []

pub yard_ties : tie_keys (table yard) 2 (codes "ARRIVAL") ≡ Some arrival_ties
unfolding each
yard_ties = refl

-- ---- the program

-- W is the local variable 0, which takes WEIGHT, and V the local variable 1; the notice is left in ARRIVAL
abbrev arrival : Event
arrival = record {
  class = 2;
  ties = arrival_ties;
  line = line 23;
  given = Integer ∷ [];
  others = Integer ∷ [];
  saved = Some 4;
  body = Then (Let (line 24) (ToVariable (Local 1)) (Fetch (Local 0))) Done;
}

abbrev check : Event
check = record { class = 3; ties = []; line = line 26; given = []; others = []; saved = None; body = Done }

abbrev mark : Routine
mark = record {
  given = Integer ∷ [];
  yielding = Alpha ∷ [];
  others = Integer ∷ [];
  body = Then (Let (line 30) (ToVariable (Local 2)) (Fetch (Local 0))) Done;
}

-- The global variables are TITLE, TRACK, N.TRACK, WAGON, ARRIVAL and CHECK. CHECK comes before ARRIVAL at one time,
-- though it is declared after it.
abbrev yard_resolved : Program
yard_resolved = record {
  layout = yard_layout;
  disciplines = orders.Ranked queue_keys ∷ orders.Lifo ∷ [];
  globals = Alpha ∷ Integer ∷ Integer ∷ Integer ∷ Integer ∷ Integer ∷ [];
  counts = record { class = 0; variable = 2 } ∷ [];
  statistics = record { subject = OfAttribute 1 0; weighting = Tally } ∷ record { subject = OfCount 0; weighting = Accumulate } ∷ [];
  routines = mark ∷ [];
  events = check ∷ arrival ∷ [];
  locals = Integer ∷ [];
  main = Then (Let (line 21) (ToVariable (Local 0)) (Constant (Whole (pos 1)))) Done;
}

pub yard_resolves : resolved (table yard) yard.sections ≡ Some yard_resolved
unfolding resolved_with_locals each upto statement statements simple_statement expression subscript
yard_resolves = refl

-- ---- programs without a resolved form

-- without MAIN
abbrev without_main : List SectionTree
without_main = record { line = line 20; kind = event (codes "CHECK") [] false; definitions = []; body = [] } ∷ []

-- MAIN alone: there are notice classes without an EVENT section
abbrev main_alone : List SectionTree
main_alone = record { line = line 20; kind = main; definitions = []; body = [] } ∷ []

-- MAIN, and an EVENT section of a class that is no notice class
abbrev event_of_wagon : List SectionTree
event_of_wagon = record { line = line 23; kind = event (codes "WAGON") [] false; definitions = []; body = [] } ∷ main_alone

abbrev depot : List SectionTree → ProgramTree
depot sections = record { preamble = event_notices (line 2) (codes "CHECK" ∷ []) ∷ []; sections = sections }

abbrev bare : List SectionTree → ProgramTree
bare sections = record { preamble = temporary_entities (line 2) ∷ every (line 3) Temporary (codes "WAGON") [] ∷ []; sections = sections }

pub no_main : resolved (table (depot without_main)) without_main ≡ None
unfolding resolved_with_locals each upto statement statements simple_statement
no_main = refl

pub no_event_routine : resolved (table (depot main_alone)) main_alone ≡ None
unfolding resolved_with_locals each upto statement statements simple_statement
no_event_routine = refl

pub no_notice_class : resolved (table (bare event_of_wagon)) event_of_wagon ≡ None
unfolding resolved_with_locals each upto statement statements simple_statement
no_notice_class = refl
