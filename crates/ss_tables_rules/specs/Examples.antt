-- Worked examples: small programs, and what is refused of them, by the rules read off by hand.
use Rattle.std.specs.Prelude.{◌≡◌, ℕ, suc, zero, ◌+◌, ◌/◌, ◌%◌, pos, true, false, List, [], ◌∷◌, ◌++◌, Option, Some, None, codes, refl}
use Rattle.ss_base.specs.declared.line.Line.{Line}
use Rattle.ss_tree.specs.declared.expression.Designator.TheVariants.{Name}
use Rattle.ss_base.specs.declared.layout.ClassKind.TheVariants.{Permanent, Temporary, Notice}
use Rattle.ss_tree.specs.declared.preamble.NamedKey.{NamedKey}
use Rattle.ss_tree.specs.declared.preamble.ModeWord.{ModeWord}
use Rattle.ss_tree.specs.declared.preamble.ModeWord.TheVariants.{Integer, Alpha, Real}
use Rattle.ss_tree.specs.declared.preamble.NamedStatistic.{NamedStatistic}
use Rattle.ss_tree.specs.declared.preamble.StatisticKind.TheVariants.{Sum}
use Rattle.ss_base.specs.declared.words.Weighting.TheVariants.{Tally, Accumulate}
use Rattle.ss_tree.specs.Tree.{ClauseTree, has, owns, belongs_to, fifo, lifo, ranked, PreambleTree, temporary_entities, event_notices, every, normally, system_owns, define_variables, define_sets, priority_order, break_ties, statistics, DefinitionTree, SectionKindTree, main, routine, event, SectionTree, ProgramTree, ExpressionTree, ExpressionRow, no_expression, and_expression, number, NamedTree, over_range, over_class, for_head, StatementTree, let_statement, reset_statement, loop_statement, no_statement}
use Rattle.ss_tree.specs.Names.{NameBytes}
use Rattle.ss_tables_rules.specs.Broken.{refusal_of_declarations}
use Rattle.ss_tables_rules.specs.declared.error.TableError.{TableError}
use Rattle.ss_tables_rules.specs.declared.error.TableError.TheVariants.{Twice, RealMode, UnknownClass, UnknownSet, NoOwner, NoMember, RankKey, TallyTwice, TooMany, TieKey}

-- ---- words for small programs

abbrev line : ℕ → Line
line n = record { 0 = n }

-- a rule is broken in this line
abbrev at : (Line → TableError) → ℕ → Option TableError
at rule n = Some (rule (line n))

abbrev names1 : NameBytes → List NameBytes
names1 a = a ∷ []

abbrev names2 : NameBytes → NameBytes → List NameBytes
names2 a b = a ∷ b ∷ []

abbrev x : NameBytes
x = codes "X"

abbrev y : NameBytes
y = codes "Y"

abbrev job : NameBytes
job = codes "JOB"

abbrev tool : NameBytes
tool = codes "TOOL"

abbrev bell : NameBytes
bell = codes "BELL"

abbrev pool : NameBytes
pool = codes "POOL"

abbrev rank : NameBytes
rank = codes "RANK"

abbrev size : NameBytes
size = codes "SIZE"

-- NORMALLY, MODE IS INTEGER in line 1
abbrev integers : PreambleTree
integers = normally (line 1) Integer

abbrev variable : ℕ → NameBytes → PreambleTree
variable n name = define_variables (line n) (names1 name) Integer

abbrev class : ℕ → NameBytes → List ClauseTree → PreambleTree
class n name clauses = every (line n) Temporary name clauses

abbrev notice : ℕ → NameBytes → List ClauseTree → PreambleTree
notice n name clauses = every (line n) Notice name clauses

abbrev system_pool : ℕ → PreambleTree
system_pool n = system_owns (line n) (names1 pool)

abbrev high : NameBytes → NamedKey
high name = record { high = true; name = name }

abbrev sum_as : NameBytes → NamedStatistic
sum_as name = record { name = name; kind = Sum }

abbrev declares : List PreambleTree → ProgramTree
declares statements = record { preamble = statements; sections = [] }

abbrev with_sections : List PreambleTree → List SectionTree → ProgramTree
with_sections statements sections = record { preamble = statements; sections = sections }

abbrev section : ℕ → SectionKindTree → List DefinitionTree → List StatementTree → SectionTree
section n kind definitions body = record { line = line n; kind = kind; definitions = definitions; body = body }

abbrev local : ℕ → NameBytes → ModeWord → DefinitionTree
local n name mode = record { line = line n; names = names1 name; mode = mode }

abbrev target : NameBytes → ExpressionRow → NamedTree
target name subscripts = record { designator = Name name; subscripts = subscripts }

abbrev one : ExpressionTree
one = number (pos 1)

-- LET name = 1
abbrev let_one : ℕ → NameBytes → StatementTree
let_one n name = let_statement (line n) (target name no_expression) one

-- ---- 51: names that are declared twice

-- the later place counts
pub variable_twice : refusal_of_declarations (declares (integers ∷ variable 2 x ∷ variable 3 y ∷ variable 4 x ∷ [])) ≡ at Twice 4
variable_twice = refl

pub variable_twice_in_one_define : refusal_of_declarations (declares (define_variables (line 1) (names2 x x) Integer ∷ [])) ≡ at Twice 1
variable_twice_in_one_define = refl

pub class_after_a_variable : refusal_of_declarations (declares (integers ∷ variable 2 job ∷ class 3 job [] ∷ [])) ≡ at Twice 3
class_after_a_variable = refl

-- EVENT NOTICES INCLUDE BELL, and EVERY BELL
pub notice_included_and_declared : refusal_of_declarations (declares (event_notices (line 1) (names1 bell) ∷ notice 2 bell [] ∷ [])) ≡ at Twice 2
notice_included_and_declared = refl

pub attribute_of_two_classes : refusal_of_declarations (declares (integers ∷ class 2 job (has (names1 rank) ∷ []) ∷ class 3 tool (has (names1 rank) ∷ []) ∷ [])) ≡ at Twice 3
attribute_of_two_classes = refl

-- the owner's clause and the members' clause declare one set
pub set_with_owner_and_members : refusal_of_declarations (declares (integers ∷ class 2 job (belongs_to (names1 pool) ∷ []) ∷ system_pool 3 ∷ [])) ≡ None
set_with_owner_and_members = refl

pub set_after_a_variable : refusal_of_declarations (declares (integers ∷ variable 2 pool ∷ class 3 job (belongs_to (names1 pool) ∷ []) ∷ system_pool 4 ∷ [])) ≡ at Twice 3
set_after_a_variable = refl

-- a variable F.POOL after the first clause of the set POOL, whichever it is
pub derived_name_of_a_set : refusal_of_declarations (declares (integers ∷ class 2 job (belongs_to (names1 pool) ∷ []) ∷ variable 3 (codes "F.POOL") ∷ system_pool 4 ∷ [])) ≡ at Twice 3
derived_name_of_a_set = refl

-- no derived name begins with Q
pub no_derived_name : refusal_of_declarations (declares (integers ∷ class 2 job (belongs_to (names1 pool) ∷ []) ∷ system_pool 3 ∷ variable 4 (codes "Q.POOL") ∷ [])) ≡ None
no_derived_name = refl

-- N.JOB is the count of a permanent class
pub count_of_a_permanent_class : refusal_of_declarations (declares (integers ∷ every (line 2) Permanent job [] ∷ variable 3 (codes "N.JOB") ∷ [])) ≡ at Twice 3
count_of_a_permanent_class = refl

pub no_count_of_a_temporary_class : refusal_of_declarations (declares (integers ∷ class 2 job [] ∷ variable 3 (codes "N.JOB") ∷ [])) ≡ None
no_count_of_a_temporary_class = refl

pub statistic_named_like_a_variable : refusal_of_declarations (declares (integers ∷ variable 2 x ∷ statistics (line 3) Tally (sum_as x ∷ []) x ∷ [])) ≡ at Twice 3
statistic_named_like_a_variable = refl

pub routine_named_like_a_variable : refusal_of_declarations (with_sections (integers ∷ variable 2 x ∷ []) (section 4 (routine x [] []) [] [] ∷ [])) ≡ at Twice 4
routine_named_like_a_variable = refl

-- ---- 51: what is said twice

pub two_owners : refusal_of_declarations (declares (integers ∷ class 2 job (belongs_to (names1 pool) ∷ []) ∷ class 3 tool (owns (names1 pool) ∷ []) ∷ system_pool 4 ∷ [])) ≡ at Twice 4
two_owners = refl

pub two_classes_of_members : refusal_of_declarations (declares (integers ∷ class 2 job (belongs_to (names1 pool) ∷ []) ∷ class 3 tool (belongs_to (names1 pool) ∷ []) ∷ system_pool 4 ∷ [])) ≡ at Twice 3
two_classes_of_members = refl

pub set_defined_twice : refusal_of_declarations (declares (integers ∷ define_sets (line 2) (names1 pool) fifo ∷ class 3 job (belongs_to (names1 pool) ∷ []) ∷ system_pool 4 ∷ define_sets (line 5) (names1 pool) lifo ∷ [])) ≡ at Twice 5
set_defined_twice = refl

-- what is no set is refused as that, at the first
pub no_set_defined_twice : refusal_of_declarations (declares (integers ∷ define_sets (line 2) (names1 pool) fifo ∷ define_sets (line 3) (names1 pool) fifo ∷ [])) ≡ at UnknownSet 2
no_set_defined_twice = refl

pub no_set_twice_in_one_define : refusal_of_declarations (declares (integers ∷ define_sets (line 2) (names2 pool pool) fifo ∷ [])) ≡ at UnknownSet 2
no_set_twice_in_one_define = refl

-- a DEFINE gives an attribute its mode, also before the EVERY
pub mode_of_an_attribute : refusal_of_declarations (declares (variable 1 rank ∷ class 2 job (has (names1 rank) ∷ []) ∷ [])) ≡ None
mode_of_an_attribute = refl

pub two_modes_of_an_attribute : refusal_of_declarations (declares (variable 1 rank ∷ class 2 job (has (names1 rank) ∷ []) ∷ variable 3 rank ∷ [])) ≡ at Twice 3
two_modes_of_an_attribute = refl

pub normally_twice : refusal_of_declarations (declares (integers ∷ normally (line 2) Integer ∷ [])) ≡ at Twice 2
normally_twice = refl

pub priority_order_twice : refusal_of_declarations (declares (event_notices (line 1) (names2 bell x) ∷ priority_order (line 2) (names1 bell) ∷ priority_order (line 3) (names1 x) ∷ [])) ≡ at Twice 3
priority_order_twice = refl

pub main_twice : refusal_of_declarations (with_sections [] (section 1 main [] [] ∷ section 2 main [] [] ∷ [])) ≡ at Twice 2
main_twice = refl

pub class_twice_in_priority_order : refusal_of_declarations (declares (event_notices (line 1) (names1 bell) ∷ priority_order (line 2) (names2 bell bell) ∷ [])) ≡ at Twice 2
class_twice_in_priority_order = refl

-- a class of another kind that is named twice is refused for that first; what is no class is unknown
pub other_class_twice_in_priority_order : refusal_of_declarations (declares (class 1 job [] ∷ priority_order (line 2) (names1 job) ∷ [])) ≡ at UnknownClass 2
other_class_twice_in_priority_order = refl

pub other_class_twice : refusal_of_declarations (declares (class 1 job [] ∷ priority_order (line 2) (names2 job job) ∷ [])) ≡ at Twice 2
other_class_twice = refl

pub no_class_twice : refusal_of_declarations (declares (priority_order (line 2) (names2 job job) ∷ [])) ≡ at UnknownClass 2
no_class_twice = refl

pub two_breaks : refusal_of_declarations (declares (integers ∷ notice 2 bell (has (names1 rank) ∷ []) ∷ break_ties (line 3) bell (high rank ∷ []) ∷ break_ties (line 4) bell (high rank ∷ []) ∷ [])) ≡ at Twice 4
two_breaks = refl

pub two_event_sections : refusal_of_declarations (with_sections (event_notices (line 1) (names1 bell) ∷ []) (section 3 (event bell [] false) [] [] ∷ section 5 (event bell [] true) [] [] ∷ [])) ≡ at Twice 5
two_event_sections = refl

-- ---- 51: in sections

-- what is given may not be yielded
pub parameter_twice : refusal_of_declarations (with_sections (integers ∷ []) (section 2 (routine job (names1 x) (names1 x)) [] [] ∷ [])) ≡ at Twice 2
parameter_twice = refl

-- another routine has its own
pub parameter_of_two_routines : refusal_of_declarations (with_sections (integers ∷ []) (section 2 (routine job (names1 x) []) [] [] ∷ section 4 (routine tool (names1 x) []) [] [] ∷ [])) ≡ None
parameter_of_two_routines = refl

-- a DEFINE of a parameter gives its mode, a second one repeats it
pub mode_of_a_parameter : refusal_of_declarations (with_sections [] (section 2 (routine job (names1 x) []) (local 3 x Integer ∷ []) [] ∷ [])) ≡ None
mode_of_a_parameter = refl

pub two_modes_of_a_parameter : refusal_of_declarations (with_sections [] (section 2 (routine job (names1 x) []) (local 3 x Integer ∷ local 4 x Integer ∷ []) [] ∷ [])) ≡ at Twice 4
two_modes_of_a_parameter = refl

-- variables and the variables of classes may be hidden, and nothing else
pub hidden_variable : refusal_of_declarations (with_sections (integers ∷ variable 2 x ∷ class 3 job [] ∷ []) (section 5 main (local 6 x Integer ∷ local 7 job Integer ∷ []) [] ∷ [])) ≡ None
hidden_variable = refl

pub hidden_attribute : refusal_of_declarations (with_sections (integers ∷ class 2 job (has (names1 rank) ∷ []) ∷ []) (section 4 main (local 5 rank Integer ∷ []) [] ∷ [])) ≡ at Twice 5
hidden_attribute = refl

-- EVENT BELL GIVEN TONE, where TONE is its attribute
pub parameter_named_like_an_attribute : refusal_of_declarations (with_sections (integers ∷ notice 2 bell (has (names1 rank) ∷ []) ∷ []) (section 4 (event bell (names1 rank) false) [] [] ∷ [])) ≡ at Twice 4
parameter_named_like_an_attribute = refl

pub hidden_count : refusal_of_declarations (with_sections (integers ∷ every (line 2) Permanent job [] ∷ []) (section 4 main (local 5 (codes "N.JOB") Integer ∷ []) [] ∷ [])) ≡ at Twice 5
hidden_count = refl

-- the DEFINE breaks the rule, though the routine comes after it
pub hidden_routine : refusal_of_declarations (with_sections [] (section 1 main (local 2 x Integer ∷ []) [] ∷ section 4 (routine x [] []) [] [] ∷ [])) ≡ at Twice 2
hidden_routine = refl

-- the first declaration of a name counts: a variable may be hidden, and the routine breaks the rule
pub hidden_variable_and_routine : refusal_of_declarations (with_sections (variable 1 x ∷ []) (section 3 main (local 4 x Integer ∷ []) [] ∷ section 6 (routine x [] []) [] [] ∷ [])) ≡ at Twice 6
hidden_variable_and_routine = refl

-- ---- 52

pub real_variable : refusal_of_declarations (declares (define_variables (line 1) (names1 x) Integer ∷ define_variables (line 2) (names1 y) Real ∷ [])) ≡ at RealMode 2
real_variable = refl

pub real_local : refusal_of_declarations (with_sections (integers ∷ []) (section 3 main (local 4 x Real ∷ []) [] ∷ [])) ≡ at RealMode 4
real_local = refl

-- NORMALLY gives the mode, wherever it is; without it, or where it says REAL, a DEFINE does
pub attribute_without_mode : refusal_of_declarations (declares (temporary_entities (line 1) ∷ class 2 job (has (names1 rank) ∷ []) ∷ [])) ≡ at RealMode 2
attribute_without_mode = refl

pub attribute_with_mode_after_it : refusal_of_declarations (declares (class 2 job (has (names1 rank) ∷ []) ∷ normally (line 3) Alpha ∷ [])) ≡ None
attribute_with_mode_after_it = refl

pub attribute_of_real_mode : refusal_of_declarations (declares (normally (line 1) Real ∷ class 2 job (has (names1 rank) ∷ []) ∷ [])) ≡ at RealMode 2
attribute_of_real_mode = refl

-- REAL by itself breaks nothing
pub normally_real : refusal_of_declarations (with_sections (normally (line 1) Real ∷ variable 2 x ∷ []) (section 3 main [] (let_one 4 x ∷ []) ∷ [])) ≡ None
normally_real = refl

-- the line of the section
pub parameter_without_mode : refusal_of_declarations (with_sections [] (section 2 (routine job (names1 x) []) [] (let_one 3 x ∷ []) ∷ [])) ≡ at RealMode 2
parameter_without_mode = refl

-- a DEFINE of the global variable that a parameter hides is none of the parameter
pub parameter_hides_a_variable : refusal_of_declarations (with_sections (variable 1 x ∷ []) (section 3 (routine job (names1 x) []) [] [] ∷ [])) ≡ at RealMode 3
parameter_hides_a_variable = refl

pub target_without_mode : refusal_of_declarations (with_sections [] (section 1 main [] (let_one 2 x ∷ []) ∷ [])) ≡ at RealMode 2
target_without_mode = refl

pub target_with_mode : refusal_of_declarations (with_sections [] (section 1 main (local 2 x Integer ∷ []) (let_one 3 x ∷ []) ∷ [])) ≡ None
target_with_mode = refl

-- a mode in one section is none in another
pub mode_in_another_section : refusal_of_declarations (with_sections [] (section 1 (routine job [] []) (local 2 x Integer ∷ []) [] ∷ section 4 main [] (let_one 5 x ∷ []) ∷ [])) ≡ at RealMode 5
mode_in_another_section = refl

-- with a subscript it is no variable
pub target_with_subscript : refusal_of_declarations (with_sections [] (section 1 main [] (let_statement (line 2) (target x (and_expression one no_expression)) one ∷ []) ∷ [])) ≡ None
target_with_subscript = refl

pub reset_without_mode : refusal_of_declarations (with_sections [] (section 1 main [] (reset_statement (line 2) (target x no_expression ∷ []) ∷ []) ∷ [])) ≡ at RealMode 2
reset_without_mode = refl

-- FOR X = 1 TO 1
pub loop_variable_without_mode : refusal_of_declarations (with_sections [] (section 1 main [] (loop_statement (line 2) (for_head (over_range x one one None [])) no_statement ∷ []) ∷ [])) ≡ at RealMode 2
loop_variable_without_mode = refl

-- FOR EACH X: X is a class, and CALLED Y is a loop's name
pub class_of_a_loop : refusal_of_declarations (with_sections [] (section 1 main [] (loop_statement (line 2) (for_head (over_class x None [])) no_statement ∷ []) ∷ [])) ≡ None
class_of_a_loop = refl

pub name_of_a_loop_without_mode : refusal_of_declarations (with_sections [] (section 1 main [] (loop_statement (line 2) (for_head (over_class x (Some y) [])) no_statement ∷ []) ∷ [])) ≡ at RealMode 2
name_of_a_loop_without_mode = refl

-- ---- 53 to 56

pub unknown_class_in_break : refusal_of_declarations (declares (integers ∷ class 2 job (has (names1 rank) ∷ []) ∷ break_ties (line 3) job (high rank ∷ []) ∷ [])) ≡ at UnknownClass 3
unknown_class_in_break = refl

-- the first of two places, of which the second in the text is found first
pub break_before_priority_order : refusal_of_declarations (declares (break_ties (line 1) x [] ∷ priority_order (line 2) (names1 y) ∷ [])) ≡ at UnknownClass 1
break_before_priority_order = refl

pub notices_in_order : refusal_of_declarations (declares (priority_order (line 1) (names2 bell x) ∷ event_notices (line 2) (names2 x bell) ∷ [])) ≡ None
notices_in_order = refl

pub variable_as_a_set : refusal_of_declarations (declares (variable 1 x ∷ define_sets (line 2) (names1 x) fifo ∷ [])) ≡ at UnknownSet 2
variable_as_a_set = refl

-- a set that is only owned is one
pub set_without_members : refusal_of_declarations (declares (define_sets (line 1) (names1 pool) fifo ∷ system_pool 2 ∷ [])) ≡ at NoMember 2
set_without_members = refl

pub set_without_owner : refusal_of_declarations (declares (class 1 tool [] ∷ class 2 job (belongs_to (names1 pool) ∷ []) ∷ [])) ≡ at NoOwner 2
set_without_owner = refl

-- two rules: the lower number, though its line is the later one
pub set_without_members_before_one_without_owner : refusal_of_declarations (declares (system_pool 1 ∷ class 2 job (belongs_to (names1 x) ∷ []) ∷ [])) ≡ at NoOwner 2
set_without_members_before_one_without_owner = refl

-- ---- 57 and 60

pub ranked_by_an_attribute : refusal_of_declarations (declares (integers ∷ define_sets (line 2) (names1 pool) (ranked (high rank ∷ high size ∷ [])) ∷ class 3 job (has (names2 size rank) ∷ belongs_to (names1 pool) ∷ []) ∷ system_pool 4 ∷ [])) ≡ None
ranked_by_an_attribute = refl

pub ranked_by_another_class : refusal_of_declarations (declares (integers ∷ class 2 job (has (names1 rank) ∷ belongs_to (names1 pool) ∷ []) ∷ class 3 tool (has (names1 size) ∷ []) ∷ system_pool 4 ∷ define_sets (line 5) (names1 pool) (ranked (high rank ∷ high size ∷ [])) ∷ [])) ≡ at RankKey 5
ranked_by_another_class = refl

-- two sets of one DEFINE, of whose members' classes a key is an attribute of the first alone
pub two_sets_ranked : refusal_of_declarations (declares (integers ∷ class 2 job (has (names1 rank) ∷ belongs_to (names1 pool) ∷ []) ∷ class 3 tool (belongs_to (names1 x) ∷ []) ∷ system_owns (line 4) (names2 pool x) ∷ define_sets (line 5) (names2 pool x) (ranked (high rank ∷ [])) ∷ [])) ≡ at RankKey 5
two_sets_ranked = refl

-- a key of one DEFINE is none of another
pub two_defines_ranked : refusal_of_declarations (declares (integers ∷ class 2 job (has (names1 rank) ∷ belongs_to (names1 pool) ∷ []) ∷ class 3 tool (has (names1 size) ∷ belongs_to (names1 x) ∷ []) ∷ system_owns (line 4) (names2 pool x) ∷ define_sets (line 5) (names1 pool) (ranked (high rank ∷ [])) ∷ define_sets (line 6) (names1 x) (ranked (high size ∷ [])) ∷ [])) ≡ None
two_defines_ranked = refl

pub ties_by_an_attribute : refusal_of_declarations (declares (integers ∷ notice 2 bell (has (names1 rank) ∷ []) ∷ break_ties (line 3) bell (high rank ∷ []) ∷ [])) ≡ None
ties_by_an_attribute = refl

pub ties_by_another_class : refusal_of_declarations (declares (integers ∷ notice 2 bell (has (names1 rank) ∷ []) ∷ class 3 job (has (names1 size) ∷ []) ∷ break_ties (line 4) bell (high rank ∷ high size ∷ []) ∷ [])) ≡ at TieKey 4
ties_by_another_class = refl

-- ---- 58

pub two_statistics_of_one_tally : refusal_of_declarations (declares (variable 1 x ∷ statistics (line 2) Tally (sum_as (codes "S1") ∷ sum_as (codes "S2") ∷ []) x ∷ [])) ≡ None
two_statistics_of_one_tally = refl

-- TALLY and ACCUMULATE of one name are two
pub tally_and_accumulate : refusal_of_declarations (declares (variable 1 x ∷ statistics (line 2) Tally (sum_as (codes "S1") ∷ []) x ∷ statistics (line 3) Accumulate (sum_as (codes "S2") ∷ []) x ∷ [])) ≡ at TallyTwice 3
tally_and_accumulate = refl

-- ---- 59

-- AA, AB, AC ..: the first of these names
abbrev many_names : ℕ → List NameBytes
many_names zero = []
many_names (suc n) = many_names n ++ ((65 + n / 26) ∷ (65 + n % 26) ∷ []) ∷ []

-- classes, each in a line of its own, from line 1 on
abbrev many_classes : ℕ → List PreambleTree
many_classes zero = []
many_classes (suc n) = many_classes n ++ class (n + 1) ((65 + n / 26) ∷ (65 + n % 26) ∷ []) [] ∷ []

pub classes_enough : refusal_of_declarations (declares (many_classes 64)) ≡ None
classes_enough = refl

pub classes_too_many : refusal_of_declarations (declares (many_classes 66)) ≡ at TooMany 65
classes_too_many = refl

-- a set counts once, with its owner and its members
pub sets_enough : refusal_of_declarations (declares (system_owns (line 1) (many_names 64) ∷ class 2 job (belongs_to (many_names 64) ∷ []) ∷ [])) ≡ None
sets_enough = refl

pub sets_too_many : refusal_of_declarations (declares (class 1 job (belongs_to (many_names 65) ∷ []) ∷ system_owns (line 2) (many_names 65) ∷ [])) ≡ at TooMany 1
sets_too_many = refl

-- each class has its own attributes
pub attributes_enough : refusal_of_declarations (declares (integers ∷ class 1 job (has (many_names 64) ∷ []) ∷ class 2 tool (has (names1 rank) ∷ []) ∷ [])) ≡ None
attributes_enough = refl

pub attributes_too_many : refusal_of_declarations (declares (integers ∷ class 1 job (has (many_names 64) ∷ has (names1 rank) ∷ []) ∷ class 2 tool (has (names1 size) ∷ []) ∷ [])) ≡ at TooMany 1
attributes_too_many = refl

-- ---- two rules at once

-- 51 in line 5 before 52 in line 2, and 55 in line 4
pub lowest_number_first : refusal_of_declarations (declares (temporary_entities (line 1) ∷ class 2 job (has (names1 rank) ∷ []) ∷ variable 3 x ∷ class 4 tool (belongs_to (names1 pool) ∷ []) ∷ variable 5 x ∷ [])) ≡ at Twice 5
lowest_number_first = refl

-- one rule in two places, by two causes: the earlier line
pub earliest_line_first : refusal_of_declarations (with_sections (variable 1 x ∷ []) (section 3 main (local 4 y Integer ∷ local 5 y Integer ∷ []) [] ∷ section 7 (routine x [] []) [] [] ∷ [])) ≡ at Twice 5
earliest_line_first = refl
