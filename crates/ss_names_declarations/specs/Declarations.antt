-- What a program declares: a list, in the order of the text.
use Rattle.std.specs.Prelude.{ℕ, ◌+◌, List, [], ◌∷◌, ◌++◌, map, length, Some, None}
use Rattle.std.specs.List.{flat_map}
use Rattle.ss_base.specs.declared.line.Line.{Line}
use Rattle.ss_base.specs.declared.layout.ClassKind.TheVariants.{Notice}
use Rattle.ss_tree.specs.Names.{NameBytes}
use Rattle.ss_tree.specs.declared.preamble.NamedKey.{NamedKey}
use Rattle.ss_tree.specs.declared.preamble.ModeWord.{ModeWord}
use Rattle.ss_tree.specs.declared.preamble.NamedStatistic.{NamedStatistic as StatisticTree}
use Rattle.ss_tree.specs.Tree.{ClauseTree, has, owns, belongs_to, OrderTree, fifo, lifo, ranked, PreambleTree, event_notices, every, normally, system_owns, define_variables, define_sets, priority_order, break_ties, statistics, DefinitionTree, SectionKindTree, main, routine, event, SectionTree, ProgramTree}
use Rattle.ss_names_declarations.specs.declared.declaration.SetRule.{SetRule}
use Rattle.ss_names_declarations.specs.declared.declaration.SetRule.TheVariants.{Fifo, Lifo, Ranked}
use Rattle.ss_names_declarations.specs.declared.declaration.Declared.{Declared}
use Rattle.ss_names_declarations.specs.declared.declaration.Declared.TheVariants.{Normally, Class, Attribute, Owner, Member, Variable, Order, RankKey, PriorityOrder, Priority, Ties, TieKey, Subject, Statistic, Main, Routine, Event, Parameter, Local}
use Rattle.ss_names_declarations.specs.declared.declaration.Declaration.{Declaration}
use Rattle.ss_names_declarations.specs.declared.declarations.Listed.{Listed}
use Rattle.ss_names_declarations.specs.declared.declarations.Listed.TheVariants as lists

-- ---- single declarations

abbrev pub at_line : Line → Declared → Declaration
at_line line what = record { line = line; what = what }

-- what a name of a list is declared as
abbrev pub declared_as : Listed → NameBytes → Declared
declared_as (lists.Attribute class) name = Attribute name class
declared_as (lists.Owner class) name = Owner name class
declared_as (lists.Member class) name = Member name class
declared_as lists.Notice name = Class name Notice
declared_as (lists.Variable mode) name = Variable name mode
declared_as (lists.Order rule statement) name = Order name rule statement
declared_as lists.Priority name = Priority name
declared_as (lists.Parameter section) name = Parameter name section
declared_as (lists.Local section mode) name = Local name section mode

-- what the section of this number is given or yields
abbrev pub parameter_declaration : Line → ℕ → NameBytes → Declaration
parameter_declaration line number name = at_line line (Parameter name number)

-- a local variable of the section of this number
abbrev pub local_declaration : Line → ℕ → ModeWord → NameBytes → Declaration
local_declaration line number mode name = at_line line (Local name number mode)

-- ---- statements of the preamble

-- what a clause of an EVERY declares, of its class
abbrev pub in_clause : Line → NameBytes → ClauseTree → List Declaration
in_clause line class (has names) = map (λ name. at_line line (Attribute name class)) names
in_clause line class (owns names) = map (λ set. at_line line (Owner set (Some class))) names
in_clause line class (belongs_to names) = map (λ set. at_line line (Member set class)) names

-- how a DEFINE orders its sets
abbrev pub rule_of : OrderTree → SetRule
rule_of fifo = Fifo
rule_of lifo = Lifo
rule_of (ranked keys) = Ranked

-- the keys by which the DEFINE of this number ranks its sets
abbrev pub in_set_order : Line → ℕ → OrderTree → List Declaration
in_set_order line number (ranked keys) = map (λ (key : NamedKey). at_line line (RankKey key.name key.high number)) keys
in_set_order line number _ = []

-- what the statement of this number in the preamble declares
abbrev pub in_preamble_statement : ℕ → PreambleTree → List Declaration
in_preamble_statement number (event_notices line names) = map (λ name. at_line line (Class name Notice)) names
in_preamble_statement number (every line kind class clauses) =
    at_line line (Class class kind) ∷ flat_map (in_clause line class) clauses
in_preamble_statement number (normally line mode) = at_line line (Normally mode) ∷ []
in_preamble_statement number (system_owns line sets) = map (λ set. at_line line (Owner set None)) sets
in_preamble_statement number (define_variables line names mode) = map (λ name. at_line line (Variable name mode)) names
in_preamble_statement number (define_sets line names order) =
    map (λ set. at_line line (Order set (rule_of order) number)) names ++ in_set_order line number order
in_preamble_statement number (priority_order line classes) = at_line line PriorityOrder ∷ map (λ class. at_line line (Priority class)) classes
in_preamble_statement number (break_ties line class keys) = at_line line (Ties class) ∷ map (λ (key : NamedKey). at_line line (TieKey class key.name key.high)) keys
in_preamble_statement number (statistics line weighting found subject) =
    map (λ (s : StatisticTree). at_line line (Statistic s.name s.kind subject)) found ++ at_line line (Subject subject weighting) ∷ []
in_preamble_statement number _ = []

-- ---- sections

-- what the head of the section of this number declares
abbrev pub in_section_head : Line → ℕ → SectionKindTree → List Declaration
in_section_head line number main = at_line line Main ∷ []
in_section_head line number (routine name given yielding) =
    at_line line (Routine name number (length given) (length yielding))
    ∷ map (parameter_declaration line number) given ++ map (parameter_declaration line number) yielding
in_section_head line number (event name given saving) =
    at_line line (Event name number (length given) saving) ∷ map (parameter_declaration line number) given

-- what a DEFINE at the head of the section of this number declares
abbrev pub in_definition : ℕ → DefinitionTree → List Declaration
in_definition number d = map (local_declaration d.line number d.mode) d.names

abbrev pub in_section : ℕ → SectionTree → List Declaration
in_section number s = in_section_head s.line number s.kind ++ flat_map (in_definition number) s.definitions

-- ---- programs

-- the lists that come of the items of a list, each with its number, the first of which is this
abbrev pub flat_map_from : {A B : Type 0} → (ℕ → A → List B) → ℕ → List A → List B
flat_map_from f number [] = []
flat_map_from f number (x ∷ xs) = f number x ++ flat_map_from f (number + 1) xs

-- what a program declares
abbrev pub declarations : ProgramTree → List Declaration
declarations p = flat_map_from in_preamble_statement 0 p.preamble ++ flat_map_from in_section 0 p.sections
