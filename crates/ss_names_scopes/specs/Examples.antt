-- What the names of a small program mean, read off by hand.
use Rattle.std.specs.Prelude.{◌≡◌, ℕ, List, [], ◌∷◌, Option, Some, None, codes, refl}
use Rattle.ss_base.specs.declared.line.Line.{Line}
use Rattle.ss_base.specs.declared.layout.Mode.TheVariants as modes
use Rattle.ss_base.specs.declared.layout.ClassKind.TheVariants as kinds
use Rattle.ss_base.specs.declared.layout.Owner.TheVariants as owners
use Rattle.ss_program.specs.declared.expression.Fold.TheVariants as folds
use Rattle.ss_program.specs.declared.expression.SetQuery.TheVariants as set_queries
use Rattle.ss_program.specs.declared.expression.MemberQuery.TheVariants as member_queries
use Rattle.ss_program.specs.declared.expression.Variable.TheVariants as variables
use Rattle.ss_tree.specs.declared.expression.Designator.TheVariants as designators
use Rattle.ss_base.specs.declared.layout.ClassKind.TheVariants.{Permanent, Temporary, Notice}
use Rattle.ss_tree.specs.declared.preamble.ModeWord.TheVariants.{Integer, Alpha}
use Rattle.ss_tree.specs.declared.preamble.StatisticKind.TheVariants.{Sum, Mean}
use Rattle.ss_base.specs.declared.words.Weighting.TheVariants.{Tally}
use Rattle.ss_tree.specs.Names.{NameBytes}
use Rattle.ss_tree.specs.Tree.{PreambleTree, every, normally, system_owns, define_variables, statistics, has, owns, belongs_to, main, routine, SectionTree, ProgramTree}
use Rattle.ss_names.specs.declared.meaning.Meaning.{Meaning}
use Rattle.ss_names.specs.declared.meaning.Meaning.TheVariants as m
use Rattle.ss_names.specs.Table.{Table, owner_of_meaning, table}
use Rattle.ss_names_scopes.specs.Scopes.{Scope, implied, meaning_of, scope_of}

abbrev line : ℕ → Line
line n = record { 0 = n }

-- permanent machines that own queues; temporary jobs with a rank, in queues and in the system's pool; notices; a text and a number
-- with a sum and a mean; the mean of ranks
abbrev preamble : List PreambleTree
preamble =
    normally (line 1) Integer
    ∷ every (line 2) Permanent (codes "MACHINE") (owns (codes "QUEUE" ∷ []) ∷ [])
    ∷ every (line 3) Temporary (codes "JOB") (has (codes "SIZE" ∷ codes "RANK" ∷ []) ∷ belongs_to (codes "QUEUE" ∷ codes "POOL" ∷ []) ∷ [])
    ∷ every (line 4) Notice (codes "BELL") []
    ∷ system_owns (line 5) (codes "POOL" ∷ [])
    ∷ define_variables (line 6) (codes "W" ∷ []) Alpha
    ∷ statistics (line 7) Tally (record { name = codes "S1"; kind = Sum } ∷ []) (codes "N.POOL")
    ∷ statistics (line 8) Tally (record { name = codes "M2"; kind = Mean } ∷ []) (codes "RANK")
    ∷ []

-- a routine that is given JOB, a text, which hides the variable of the class
abbrev hiding : SectionTree
hiding =
    record { line = line 12; kind = routine (codes "R") (codes "U" ∷ codes "JOB" ∷ []) []; definitions = record { line = line 13; names = codes "JOB" ∷ []; mode = Alpha } ∷ []; body = [] }

abbrev in_main : SectionTree
in_main = record { line = line 10; kind = main; definitions = []; body = [] }

abbrev program : ProgramTree
program = record { preamble = preamble; sections = in_main ∷ hiding ∷ [] }

abbrev names : Table
names = table program

abbrev scope_in : SectionTree → Scope
scope_in s = scope_of names program.sections s

abbrev means : SectionTree → NameBytes → Option Meaning
means s name = meaning_of (scope_in s) (designators.Name name)

-- variables are numbered in the order of the text: MACHINE, N.MACHINE, JOB, BELL, W
pub a_variable : means in_main (codes "W") ≡ Some (m.Variable (variables.Global 4) modes.Alpha)
a_variable = refl

pub a_class : means in_main (codes "JOB") ≡ Some (m.Class 1 kinds.Temporary 2)
a_class = refl

pub a_hidden_class : means hiding (codes "JOB") ≡ Some (m.Variable (variables.Local 1) modes.Alpha)
a_hidden_class = refl

pub a_parameter : means hiding (codes "U") ≡ Some (m.Variable (variables.Local 0) modes.Integer)
a_parameter = refl

pub a_count : means in_main (codes "N.MACHINE") ≡ Some (m.Count (record { class = 0; variable = 1 }))
a_count = refl

pub an_attribute : means in_main (codes "RANK") ≡ Some (m.Attribute 1 1 modes.Integer)
an_attribute = refl

pub a_set : means in_main (codes "QUEUE") ≡ Some (m.Set 0)
a_set = refl

pub a_first_member : means in_main (codes "F.POOL") ≡ Some (m.OfSet set_queries.FirstMember 1)
a_first_member = refl

pub a_successor : means in_main (codes "S.QUEUE") ≡ Some (m.OfMember member_queries.Successor 0)
a_successor = refl

pub a_sum : means in_main (codes "S1") ≡ Some (m.Statistic (Some folds.Sum) 0)
a_sum = refl

pub a_mean : means in_main (codes "M2") ≡ Some (m.Statistic None 1)
a_mean = refl

pub a_routine : means in_main (codes "R") ≡ Some (m.Routine 0)
a_routine = refl

pub a_time : meaning_of (scope_in in_main) designators.TimeV ≡ Some m.Clock
a_time = refl

pub nothing : means in_main (codes "FOO") ≡ None
nothing = refl

-- F.QUEUE is a machine's, S.QUEUE a job's, S1 nobody's, M2 a job's
pub owned_by_a_machine : owner_of_meaning names (m.OfSet set_queries.FirstMember 0) ≡ owners.Class 0
owned_by_a_machine = refl

pub had_by_a_job : owner_of_meaning names (m.OfMember member_queries.Successor 0) ≡ owners.Class 1
had_by_a_job = refl

pub of_the_system : owner_of_meaning names (m.Statistic (Some folds.Sum) 0) ≡ owners.System
of_the_system = refl

pub of_each_job : owner_of_meaning names (m.Statistic None 1) ≡ owners.Class 1
of_each_job = refl

-- RANK without subscript is of the job in JOB, which the routine hides
pub the_job_that_is_meant : implied (scope_in in_main) (m.Attribute 1 1 modes.Integer) ≡ Some (m.Class 1 kinds.Temporary 2)
the_job_that_is_meant = refl

pub the_job_that_is_hidden : implied (scope_in hiding) (m.Attribute 1 1 modes.Integer) ≡ Some (m.Variable (variables.Local 1) modes.Alpha)
the_job_that_is_hidden = refl
