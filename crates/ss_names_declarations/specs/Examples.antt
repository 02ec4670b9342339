-- Worked examples: what small programs declare, and the earliest of some breaches, read off by hand.
use Rattle.std.specs.Prelude.{◌≡◌, ℕ, Bool, true, false, [], ◌∷◌, Some, None, codes, refl}
use Rattle.ss_base.specs.declared.line.Line.{Line}
use Rattle.ss_base.specs.declared.layout.ClassKind.TheVariants as class_kinds
use Rattle.ss_base.specs.declared.words.Weighting.TheVariants as weightings
use Rattle.ss_tree.specs.declared.preamble.NamedKey.{NamedKey}
use Rattle.ss_tree.specs.declared.preamble.ModeWord.TheVariants as modes
use Rattle.ss_tree.specs.declared.preamble.StatisticKind.TheVariants as folds
use Rattle.ss_tree.specs.Names.{NameBytes}
use Rattle.ss_tree.specs.Tree.{has, owns, belongs_to, lifo, ranked, permanent_entities, event_notices, every, normally, system_owns, define_variables, define_sets, priority_order, break_ties, statistics, main, routine, event}
use Rattle.ss_names_declarations.specs.declared.declaration.SetRule.TheVariants as rules
use Rattle.ss_names_declarations.specs.declared.declaration.Declared.{Declared}
use Rattle.ss_names_declarations.specs.declared.declaration.Declared.TheVariants as d
use Rattle.ss_names_declarations.specs.declared.declaration.Declaration.{Declaration}
use Rattle.ss_names_declarations.specs.Declarations.{at_line, declarations}
use Rattle.ss_names_declarations.specs.Earliest.{earliest}

abbrev line : ℕ → Line
line n = record { 0 = n }

abbrev key : Bool → NameBytes → NamedKey
key high name = record { high = high; name = name }

-- a declaration in this line
abbrev declares : ℕ → Declared → Declaration
declares n what = at_line (line n) what

-- PERMANENT ENTITIES
-- EVERY B HAS A R AND A T, OWNS A Q AND MAY BELONG TO A P
-- THE SYSTEM OWNS A P
-- NORMALLY, MODE IS INTEGER
-- DEFINE T AND X AS ALPHA VARIABLES
pub a_class : declarations (record { preamble = permanent_entities (line 1) ∷ every (line 2) class_kinds.Permanent (codes "B") (has (codes "R" ∷ codes "T" ∷ []) ∷ owns (codes "Q" ∷ []) ∷ belongs_to (codes "P" ∷ []) ∷ []) ∷ system_owns (line 3) (codes "P" ∷ []) ∷ normally (line 4) modes.Integer ∷ define_variables (line 5) (codes "T" ∷ codes "X" ∷ []) modes.Alpha ∷ []; sections = [] }) ≡
    declares 2 (d.Class (codes "B") class_kinds.Permanent) ∷ declares 2 (d.Attribute (codes "R") (codes "B")) ∷
    declares 2 (d.Attribute (codes "T") (codes "B")) ∷ declares 2 (d.Owner (codes "Q") (Some (codes "B"))) ∷
    declares 2 (d.Member (codes "P") (codes "B")) ∷ declares 3 (d.Owner (codes "P") None) ∷
    declares 4 (d.Normally modes.Integer) ∷
    declares 5 (d.Variable (codes "T") modes.Alpha) ∷ declares 5 (d.Variable (codes "X") modes.Alpha) ∷ []
a_class = refl

-- DEFINE P AND Q AS SETS RANKED BY HIGH R THEN BY LOW T
-- DEFINE S AS A LIFO SET
-- The keys come after the sets and carry the number of their DEFINE, which is the first statement.
pub ranked_sets : declarations (record { preamble = define_sets (line 1) (codes "P" ∷ codes "Q" ∷ []) (ranked (key true (codes "R") ∷ key false (codes "T") ∷ [])) ∷ define_sets (line 2) (codes "S" ∷ []) lifo ∷ []; sections = [] }) ≡
    declares 1 (d.Order (codes "P") rules.Ranked 0) ∷ declares 1 (d.Order (codes "Q") rules.Ranked 0) ∷
    declares 1 (d.RankKey (codes "R") true 0) ∷ declares 1 (d.RankKey (codes "T") false 0) ∷
    declares 2 (d.Order (codes "S") rules.Lifo 1) ∷ []
ranked_sets = refl

-- EVENT NOTICES INCLUDE RED AND GREEN (in line 1)
-- PRIORITY ORDER IS GREEN
-- BREAK RED TIES BY HIGH P THEN BY LOW Q
pub notices : declarations (record { preamble = event_notices (line 1) (codes "RED" ∷ codes "GREEN" ∷ []) ∷ priority_order (line 2) (codes "GREEN" ∷ []) ∷ break_ties (line 3) (codes "RED") (key true (codes "P") ∷ key false (codes "Q") ∷ []) ∷ []; sections = [] }) ≡
    declares 1 (d.Class (codes "RED") class_kinds.Notice) ∷ declares 1 (d.Class (codes "GREEN") class_kinds.Notice) ∷
    declares 2 d.PriorityOrder ∷ declares 2 (d.Priority (codes "GREEN")) ∷
    declares 3 (d.Ties (codes "RED")) ∷ declares 3 (d.TieKey (codes "RED") (codes "P") true) ∷
    declares 3 (d.TieKey (codes "RED") (codes "Q") false) ∷ []
notices = refl

-- ACCUMULATE TOTAL AS THE SUM, PEAK AS THE MAXIMUM OF N.LINEUP
pub two_statistics : declarations (record { preamble = statistics (line 8) weightings.Accumulate (record { name = codes "TOTAL"; kind = folds.Sum } ∷ record { name = codes "PEAK"; kind = folds.Maximum } ∷ []) (codes "N.LINEUP") ∷ []; sections = [] }) ≡
    declares 8 (d.Statistic (codes "TOTAL") folds.Sum (codes "N.LINEUP")) ∷
    declares 8 (d.Statistic (codes "PEAK") folds.Maximum (codes "N.LINEUP")) ∷
    declares 8 (d.Subject (codes "N.LINEUP") weightings.Accumulate) ∷ []
two_statistics = refl

-- ROUTINE R GIVEN X AND Y YIELDING Z DEFINE Z, V AS ALPHA VARIABLES (in line 2) END
-- MAIN END
-- EVENT BELL GIVEN TONE SAVING THE EVENT NOTICE END
pub three_sections : declarations (record { preamble = []; sections = record { line = line 1; kind = routine (codes "R") (codes "X" ∷ codes "Y" ∷ []) (codes "Z" ∷ []); definitions = record { line = line 2; names = codes "Z" ∷ codes "V" ∷ []; mode = modes.Alpha } ∷ []; body = [] } ∷ record { line = line 4; kind = main; definitions = []; body = [] } ∷ record { line = line 5; kind = event (codes "BELL") (codes "TONE" ∷ []) true; definitions = []; body = [] } ∷ [] }) ≡
    declares 1 (d.Routine (codes "R") 0 2 1) ∷ declares 1 (d.Parameter (codes "X") 0) ∷ declares 1 (d.Parameter (codes "Y") 0) ∷
    declares 1 (d.Parameter (codes "Z") 0) ∷
    declares 2 (d.Local (codes "Z") 0 modes.Alpha) ∷ declares 2 (d.Local (codes "V") 0 modes.Alpha) ∷
    declares 4 d.Main ∷
    declares 5 (d.Event (codes "BELL") 2 1 true) ∷ declares 5 (d.Parameter (codes "TONE") 2) ∷ []
three_sections = refl

-- the empty program declares nothing
pub nothing : declarations (record { preamble = []; sections = [] }) ≡ []
nothing = refl

-- ---- the earliest breach, where a breach is its rule and its line

abbrev itself : ℕ × ℕ → ℕ × ℕ
itself place = place

abbrev breach : ℕ → ℕ → ℕ × ℕ
breach rule n = (rule, n)

-- the first rule decides, and then the line
pub the_rule_first : earliest itself (breach 52 1 ∷ breach 51 9 ∷ breach 53 2 ∷ breach 51 4 ∷ []) ≡ Some (breach 51 4)
the_rule_first = refl

pub none_broken : earliest itself [] ≡ None
none_broken = refl
