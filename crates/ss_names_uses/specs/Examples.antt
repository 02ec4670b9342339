-- Worked examples: the uses of small statements and sections, read off by hand.
use Rattle.std.specs.Prelude.{◌≡◌, ℕ, Bool, pos, true, false, [], ◌∷◌, Some, None, codes, refl}
use Rattle.ss_base.specs.declared.line.Line.{Line}
use Rattle.ss_base.specs.declared.words.Sign.TheVariants.{Plus}
use Rattle.ss_base.specs.declared.words.Relation.TheVariants.{Equal}
use Rattle.ss_base.specs.declared.words.PhraseKind.TheVariants.{With}
use Rattle.ss_base.specs.declared.words.End.TheVariants as ends
use Rattle.ss_picture.specs.Pictures.{picture_fields}
use Rattle.ss_tree.specs.Names.{NameBytes}
use Rattle.ss_tree.specs.declared.expression.Function.TheVariants.{Two}
use Rattle.ss_base.specs.declared.words.Operator.TheVariants.{Least}
use Rattle.ss_tree.specs.declared.expression.Designator.TheVariants as designators
use Rattle.ss_tree.specs.declared.preamble.ModeWord.TheVariants as tree_modes
use Rattle.ss_tree.specs.Tree.{ExpressionTree, number, text, named, call, parenthesised, sum, no_expression, and_expression, no_term, and_term, NamedTree, compare, empty, from_end, over_range, over_members, over_class, for_head, at_time, in_units, let_statement, call_statement, start_simulation, if_statement, loop_statement, create_statement, create_every, schedule_new, cancel_statement, remove_end, reset_statement, print_statement, skip_statement, no_statement, and_statement, main, routine, event}
use Rattle.ss_names_uses.specs.declared.used.Role.{Role}
use Rattle.ss_names_uses.specs.declared.used.Role.TheVariants.{Value, Item, Target, Reset, Set, LoopVariable}
use Rattle.ss_names_uses.specs.declared.used.ClassNeed.{ClassNeed}
use Rattle.ss_names_uses.specs.declared.used.ClassNeed.TheVariants.{Single, Permanent, Notice}
use Rattle.ss_names_uses.specs.declared.used.ModeOf.{ModeOf}
use Rattle.ss_names_uses.specs.declared.used.ModeOf.TheVariants as modes
use Rattle.ss_names_uses.specs.declared.used.CountNeed.{CountNeed}
use Rattle.ss_names_uses.specs.declared.used.CountNeed.TheVariants as counts
use Rattle.ss_names_uses.specs.declared.used.Used.{Used}
use Rattle.ss_names_uses.specs.declared.used.Used.TheVariants.{Parameter, Local, Place, Class, Routine, Start, Same, Count, Mean, Unfit}
use Rattle.ss_names_uses.specs.declared.used.Use.{Use}
use Rattle.ss_names_uses.specs.Uses.{use_at_line, in_statement, uses}

abbrev line : ℕ → Line
line n = record { 0 = n }

abbrev name : NameBytes → ExpressionTree
name n = named (designators.Name n) no_expression

-- a name with one subscript
abbrev name_at : NameBytes → ExpressionTree → ExpressionTree
name_at n e = named (designators.Name n) (and_expression e no_expression)

abbrev at : NameBytes → NamedTree
at n = record { designator = designators.Name n; subscripts = no_expression }

abbrev at_of : NameBytes → ExpressionTree → NamedTree
at_of n e = record { designator = designators.Name n; subscripts = and_expression e no_expression }

abbrev one : ExpressionTree
one = number (pos 1)

-- a use in this line
abbrev used : ℕ → Used → Use
used n what = use_at_line (line n) what

-- a name in a role, with so many subscripts, and whether it has to be a number
abbrev named_in : ℕ → Role → NameBytes → ℕ → Bool → Use
named_in n role what subscripts is_number = used n (Place role (designators.Name what) subscripts is_number)

abbrev class_in : ℕ → ClassNeed → NameBytes → Bool → Use
class_in n need class is_called = used n (Class need class is_called)

abbrev same_in : ℕ → ModeOf → ModeOf → Use
same_in n found wanted = used n (Same found wanted)

abbrev count_in : ℕ → ℕ → CountNeed → Use
count_in n found wanted = used n (Count found wanted)

-- LET RANK(J) = SIZE + TIME.V: a sum is a number, and so are its terms and each subscript
pub a_let : in_statement (let_statement (line 3) (at_of (codes "RANK") (name (codes "J"))) (sum (name (codes "SIZE")) (and_term Plus (named designators.TimeV no_expression) no_term))) ≡
    same_in 3 (modes.Named (codes "RANK")) modes.Integer ∷
    named_in 3 Target (codes "RANK") 1 false ∷ named_in 3 Value (codes "J") 0 true ∷
    named_in 3 Value (codes "SIZE") 0 true ∷ used 3 (Place Value designators.TimeV 0 true) ∷ []
a_let = refl

-- LET W = RANK(J): both of one mode, J a number
pub two_of_a_mode : in_statement (let_statement (line 3) (at (codes "W")) (name_at (codes "RANK") (name (codes "J")))) ≡
    same_in 3 (modes.Named (codes "W")) (modes.Named (codes "RANK")) ∷
    named_in 3 Target (codes "W") 0 false ∷ named_in 3 Value (codes "RANK") 1 false ∷ named_in 3 Value (codes "J") 0 true ∷ []
two_of_a_mode = refl

-- LET X = "A" + 1: what is added has to be a number, and a text is none
pub a_sum : in_statement (let_statement (line 1) (at (codes "X")) (sum (text (codes "A")) (and_term Plus one no_term))) ≡
    same_in 1 (modes.Named (codes "X")) modes.Integer ∷ named_in 1 Target (codes "X") 0 false ∷ same_in 1 modes.Alpha modes.Integer ∷ []
a_sum = refl

-- LET W = (V): parentheses make no number
pub parentheses : in_statement (let_statement (line 1) (at (codes "W")) (parenthesised (name (codes "V")))) ≡
    same_in 1 (modes.Named (codes "W")) (modes.Named (codes "V")) ∷ named_in 1 Target (codes "W") 0 false ∷ named_in 1 Value (codes "V") 0 false ∷ []
parentheses = refl

-- SKIP MIN.F(1) OUTPUT LINES
pub a_function : in_statement (skip_statement (line 1) (call (Two Least) (and_expression one no_expression))) ≡
    count_in 1 1 (counts.Arguments (Two Least)) ∷ []
a_function = refl

-- IF W = "YES" (in line 4) SKIP N OUTPUT LINES (in line 5) ALWAYS
pub an_if : in_statement (if_statement (line 4) ((compare (name (codes "W")) Equal (text (codes "YES")) ∷ []) ∷ []) (and_statement (skip_statement (line 5) (name (codes "N"))) no_statement) no_statement) ≡
    same_in 4 (modes.Named (codes "W")) modes.Alpha ∷ named_in 4 Value (codes "W") 0 false ∷ named_in 5 Value (codes "N") 0 true ∷ []
an_if = refl

-- IF QUEUE IS EMPTY (in line 4) LET X = 1 (in line 5) ELSE CREATE A JOB (in line 6) ALWAYS: the condition has the
-- line of the IF, each statement its own
pub two_branches : in_statement (if_statement (line 4) ((empty (at (codes "QUEUE")) false ∷ []) ∷ []) (and_statement (let_statement (line 5) (at (codes "X")) one) no_statement) (and_statement (create_statement (line 6) (codes "JOB") None) no_statement)) ≡
    named_in 4 Set (codes "QUEUE") 0 false ∷ same_in 5 (modes.Named (codes "X")) modes.Integer ∷ named_in 5 Target (codes "X") 0 false ∷
    class_in 6 Single (codes "JOB") false ∷ []
two_branches = refl

-- CALL R GIVING 1, W YIELDING Y
pub a_call : in_statement (call_statement (line 1) (codes "R") (one ∷ name (codes "W") ∷ []) (at (codes "Y") ∷ [])) ≡
    used 1 (Routine (codes "R")) ∷ count_in 1 2 (counts.Given (codes "R")) ∷ count_in 1 1 (counts.Yielded (codes "R")) ∷
    same_in 1 modes.Integer (modes.Given (codes "R") 0) ∷
    same_in 1 (modes.Named (codes "W")) (modes.Given (codes "R") 1) ∷ named_in 1 Value (codes "W") 0 false ∷
    same_in 1 (modes.Named (codes "Y")) (modes.Yielded (codes "R") 0) ∷ named_in 1 Target (codes "Y") 0 false ∷ []
a_call = refl

-- FOR I = 1 TO N (in line 7) WITH V(I) = 1 (in line 8) RESET TOTALS OF I (in line 9): the phrase has the line of the FOR
pub a_loop : in_statement (loop_statement (line 7) (for_head (over_range (codes "I") one (name (codes "N")) None (record { kind = With; condition = (compare (name_at (codes "V") (name (codes "I"))) Equal one ∷ []) ∷ [] } ∷ []))) (and_statement (reset_statement (line 9) (at (codes "I") ∷ [])) no_statement)) ≡
    named_in 7 LoopVariable (codes "I") 0 true ∷ named_in 7 Value (codes "N") 0 true ∷
    same_in 7 (modes.Named (codes "V")) modes.Integer ∷ named_in 7 Value (codes "V") 1 false ∷ named_in 7 Value (codes "I") 0 true ∷
    named_in 9 Reset (codes "I") 0 false ∷ []
a_loop = refl

-- FOR EACH J IN QUEUE(M): the variable, the set, and the owner
pub a_loop_over_a_set : in_statement (loop_statement (line 1) (for_head (over_members (codes "J") (at_of (codes "QUEUE") (name (codes "M"))) from_end true [])) no_statement) ≡
    named_in 1 LoopVariable (codes "J") 0 true ∷ named_in 1 Set (codes "QUEUE") 1 false ∷ named_in 1 Value (codes "M") 0 true ∷ []
a_loop_over_a_set = refl

-- FOR EACH MACHINE: its variable is the loop's; FOR EACH MACHINE CALLED M has one of its own
pub a_loop_over_a_class : in_statement (loop_statement (line 1) (for_head (over_class (codes "MACHINE") None [])) no_statement) ≡ class_in 1 Permanent (codes "MACHINE") false ∷ []
a_loop_over_a_class = refl

pub a_loop_called : in_statement (loop_statement (line 1) (for_head (over_class (codes "MACHINE") (Some (codes "M")) [])) no_statement) ≡
    class_in 1 Permanent (codes "MACHINE") true ∷ named_in 1 LoopVariable (codes "M") 0 true ∷ []
a_loop_called = refl

-- CREATE EVERY MACHINE, CELL: no variable of a class is meant
pub a_creation_of_all : in_statement (create_every (line 1) (codes "MACHINE" ∷ codes "CELL" ∷ [])) ≡
    class_in 1 Permanent (codes "MACHINE") true ∷ class_in 1 Permanent (codes "CELL") true ∷ []
a_creation_of_all = refl

-- SCHEDULE A BELL CALLED B GIVEN X IN T UNITS
pub a_schedule : in_statement (schedule_new (line 1) (codes "BELL") (Some (at (codes "B"))) (name (codes "X") ∷ []) (in_units (name (codes "T")))) ≡
    class_in 1 Notice (codes "BELL") true ∷ named_in 1 Target (codes "B") 0 true ∷
    count_in 1 1 (counts.Attributes (codes "BELL")) ∷
    same_in 1 (modes.Named (codes "X")) (modes.Attribute (codes "BELL") 0) ∷ named_in 1 Value (codes "X") 0 false ∷
    named_in 1 Value (codes "T") 0 true ∷ []
a_schedule = refl

-- SCHEDULE A BELL GIVEN 1 AT T: the notice goes to the variable BELL
pub a_schedule_uncalled : in_statement (schedule_new (line 1) (codes "BELL") None (one ∷ []) (at_time (name (codes "T")))) ≡
    class_in 1 Notice (codes "BELL") false ∷ count_in 1 1 (counts.Attributes (codes "BELL")) ∷
    same_in 1 modes.Integer (modes.Attribute (codes "BELL") 0) ∷ named_in 1 Value (codes "T") 0 true ∷ []
a_schedule_uncalled = refl

-- CANCEL THE BELL: the notice is that of the variable BELL
pub a_cancel : in_statement (cancel_statement (line 1) (codes "BELL") None) ≡ class_in 1 Notice (codes "BELL") false ∷ []
a_cancel = refl

-- REMOVE THE FIRST JOB FROM QUEUE: JOB is a target that takes a number
pub a_removal : in_statement (remove_end (line 1) ends.First (at (codes "JOB")) (at (codes "QUEUE"))) ≡
    named_in 1 Target (codes "JOB") 0 true ∷ named_in 1 Set (codes "QUEUE") 0 false ∷ []
a_removal = refl

-- PRINT 1 LINE WITH 1, 1 THUS *; and ** *
pub one_field : in_statement (print_statement (line 2) (one ∷ one ∷ []) (codes "*" ∷ [])) ≡ used 2 Unfit ∷ []
unfolding picture_fields
one_field = refl

pub two_fields : in_statement (print_statement (line 2) (one ∷ one ∷ []) (codes "** *" ∷ [])) ≡ []
unfolding picture_fields
two_fields = refl

-- PRINT 1 LINE WITH TIME.A(BELL), C(1, B) THUS .., where the picture has no field
pub two_items : in_statement (print_statement (line 2) (named designators.TimeA (and_expression (name (codes "BELL")) no_expression) ∷ named (designators.Name (codes "C")) (and_expression one (and_expression (name (codes "B")) no_expression)) ∷ []) []) ≡
    used 2 Unfit ∷ used 2 (Place Item designators.TimeA 1 false) ∷ named_in 2 Value (codes "BELL") 0 true ∷
    named_in 2 Item (codes "C") 2 false ∷ named_in 2 Value (codes "B") 0 true ∷ []
two_items = refl

-- PRINT 2 LINES WITH X, ((M(J))) THUS ** and *.**: a name in parentheses is an item, which in a field with decimals has to
-- be a MEAN; its subscript is a value
pub items : in_statement (print_statement (line 2) (name (codes "X") ∷ parenthesised (parenthesised (name_at (codes "M") (name (codes "J")))) ∷ []) (codes "**" ∷ codes "*.**" ∷ [])) ≡
    named_in 2 Item (codes "X") 0 false ∷
    used 2 (Mean (designators.Name (codes "M"))) ∷ named_in 2 Item (codes "M") 1 false ∷ named_in 2 Value (codes "J") 0 true ∷ []
unfolding picture_fields
items = refl

-- PRINT 1 LINE WITH M + 1 THUS ***: what is added is no item, but a value
pub an_item_added : in_statement (print_statement (line 2) (sum (name (codes "M")) (and_term Plus one no_term) ∷ []) (codes "***" ∷ [])) ≡
    named_in 2 Value (codes "M") 0 true ∷ []
unfolding picture_fields
an_item_added = refl

-- PRINT 1 LINE WITH 1, 1 THUS *.*: one field, and what is in it is no MEAN
pub a_number_with_decimals : in_statement (print_statement (line 2) (one ∷ one ∷ []) (codes "*.*" ∷ [])) ≡ used 2 Unfit ∷ used 2 Unfit ∷ []
unfolding picture_fields
a_number_with_decimals = refl

-- PRINT 1 LINE WITH M THUS *. and ten asterisks
pub ten_decimals : in_statement (print_statement (line 2) (name (codes "M") ∷ []) (codes "*.**********" ∷ [])) ≡
    used 2 Unfit ∷ named_in 2 Item (codes "M") 0 false ∷ []
unfolding picture_fields
ten_decimals = refl

-- MAIN (in line 1) START SIMULATION (in line 2) END
pub a_start : uses (record { line = line 1; kind = main; definitions = []; body = start_simulation (line 2) ∷ [] }) ≡ used 2 Start ∷ []
a_start = refl

-- ROUTINE R GIVEN X YIELDING Y (in line 1) DEFINE Z AS AN ALPHA VARIABLE (in line 2) LET Y = X (in line 3) END
pub a_routine : uses (record { line = line 1; kind = routine (codes "R") (codes "X" ∷ []) (codes "Y" ∷ []); definitions = record { line = line 2; names = codes "Z" ∷ []; mode = tree_modes.Alpha } ∷ []; body = let_statement (line 3) (at (codes "Y")) (name (codes "X")) ∷ [] }) ≡
    used 1 (Parameter (codes "X")) ∷ used 1 (Parameter (codes "Y")) ∷ used 2 (Local (codes "Z") tree_modes.Alpha) ∷
    same_in 3 (modes.Named (codes "Y")) (modes.Named (codes "X")) ∷ named_in 3 Target (codes "Y") 0 false ∷ named_in 3 Value (codes "X") 0 false ∷ []
a_routine = refl

-- EVENT BELL GIVEN T, U (in line 1) END
pub an_event : uses (record { line = line 1; kind = event (codes "BELL") (codes "T" ∷ codes "U" ∷ []) false; definitions = []; body = [] }) ≡
    class_in 1 Notice (codes "BELL") true ∷ count_in 1 2 (counts.Attributes (codes "BELL")) ∷
    used 1 (Parameter (codes "T")) ∷ used 1 (Parameter (codes "U")) ∷
    same_in 1 (modes.Named (codes "T")) (modes.Attribute (codes "BELL") 0) ∷ same_in 1 (modes.Named (codes "U")) (modes.Attribute (codes "BELL") 1) ∷ []
an_event = refl
