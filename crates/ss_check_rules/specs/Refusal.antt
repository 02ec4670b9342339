-- The first of the rules 71 to 79 that a program breaks, and the first line of the text where it does.
use Rattle.std.specs.Prelude.{Bool, List, None, Option, Some, ℕ, [], option_to_list, if◌then◌else◌, is_some, not, ◌&&◌, ◌++◌, ◌||◌, ◌∷◌}
use Rattle.std.specs.List.{flat_map, list_any}
use Rattle.ss_base.specs.declared.line.Line.{Line}
use Rattle.ss_tree.specs.Names.{NameBytes}
use Rattle.ss_tree.specs.Tree.{PreambleTree, event_notices, every, statistics, SectionTree, ProgramTree}
use Rattle.ss_tree.specs.declared.expression.Designator.{Designator}
use Rattle.ss_base.specs.declared.layout.ClassKind.{ClassKind}
use Rattle.ss_base.specs.declared.layout.ClassKind.TheVariants.{Notice}
use Rattle.ss_names_declarations.specs.Earliest.{earliest, unless}
use Rattle.ss_names_declarations.specs.NameTable.{value_for}
use Rattle.ss_names_uses.specs.declared.used.Role.{Role}
use Rattle.ss_names_uses.specs.declared.used.ClassNeed.{ClassNeed}
use Rattle.ss_names_uses.specs.declared.used.Used.{Used}
use Rattle.ss_names_uses.specs.declared.used.Used.TheVariants.{Place, Class, Routine, Start, Same, Count, Mean, Unfit}
use Rattle.ss_names_uses.specs.declared.used.Use.{Use}
use Rattle.ss_names_uses.specs.Uses.{uses}
use Rattle.ss_names.specs.declared.meaning.Meaning.{Meaning}
use Rattle.ss_names.specs.Table.{Table, table}
use Rattle.ss_names_scopes.specs.Scopes.{Scope, is_main, is_main_section, meaning_of, meaning_of_name, scope_of}
use Rattle.ss_check_rules.specs.Counts.{suits_count}
use Rattle.ss_check_rules.specs.Kinds.{if_means, is_mean, is_routine, is_target, may_be_watched, meaning_in_role, suits, suits_class, suits_subscripts, takes_values}
use Rattle.ss_check_rules.specs.Modes.{differ, is_text, mixes_modes, mode_of_use}
use Rattle.ss_check_rules.specs.Order.{check_error_order}
use Rattle.ss_check_rules.specs.declared.error.CheckError.{CheckError}
use Rattle.ss_check_rules.specs.declared.error.CheckError.TheVariants as e

-- ---- uses

-- a place that means something: its subscripts, 75; as a target, 76; its mode, 73
abbrev pub meaning_breaks : Scope → Line → Role → ℕ → Bool → Option Meaning → Option CheckError
meaning_breaks s line role subscripts is_number None = None
meaning_breaks s line role subscripts is_number (Some meaning) =
    if not (suits_subscripts s.table meaning subscripts) then Some (e.Subscript line)
    else if is_target role && not (takes_values meaning) then Some (e.NotAssignable line)
    else unless (not (mixes_modes s role meaning subscripts is_number)) (e.Mode line)

-- its kind, 79, comes first
abbrev pub place_breaks : Scope → Line → Role → Designator → ℕ → Bool → Option CheckError
place_breaks s line role place subscripts is_number =
    if suits s role place then meaning_breaks s line role subscripts is_number (meaning_in_role s role place)
    else Some (e.Unknown line)

-- a class of another kind, 79; or its entity is in a variable of texts because none is named, 73
abbrev pub class_breaks : Scope → Line → ClassNeed → NameBytes → Bool → Option CheckError
class_breaks s line need class called =
    if suits_class (value_for s.table.meanings class) need
    then unless (called || not (is_text (meaning_of_name s class))) (e.Mode line)
    else Some (e.Unknown line)

-- the first of the rules that a use breaks, in MAIN or in another section
abbrev pub used_breaks : Scope → Bool → Line → Used → Option CheckError
used_breaks s in_main line (Place role place subscripts is_number) = place_breaks s line role place subscripts is_number
used_breaks s in_main line (Class need class called) = class_breaks s line need class called
used_breaks s in_main line (Routine routine) =
    unless (if_means is_routine (value_for s.table.meanings routine)) (e.Unknown line)
used_breaks s in_main line Start = unless in_main (e.StartPlace line)
used_breaks s in_main line (Same found wanted) = unless (not (differ (mode_of_use s found) (mode_of_use s wanted))) (e.Mode line)
used_breaks s in_main line (Count found wanted) = unless (suits_count s.table found wanted) (e.Arguments line)
used_breaks s in_main line (Mean place) = unless (if_means is_mean (meaning_of s place)) (e.Fields line)
used_breaks s in_main line Unfit = Some (e.Fields line)
used_breaks s in_main line _ = None

abbrev pub use_breaks : Scope → Bool → Use → Option CheckError
use_breaks s in_main u = used_breaks s in_main u.line u.what

-- a use that breaks a rule
abbrev pub breaks : Scope → Bool → Use → List CheckError
breaks s in_main u = option_to_list (use_breaks s in_main u)

abbrev pub breaches_in_section : Table → List SectionTree → SectionTree → List CheckError
breaches_in_section t sections s = flat_map (breaks (scope_of t sections s) (is_main s.kind)) (uses s)

-- ---- the preamble and the program

-- a class of notices without an EVENT section, 72
abbrev pub eventless : Table → Line → NameBytes → List CheckError
eventless t line class = option_to_list (unless (is_some (value_for t.events class)) (e.NoEventRoutine line))

abbrev pub eventless_of : Table → Line → ClassKind → NameBytes → List CheckError
eventless_of t line Notice class = eventless t line class
eventless_of t line _ class = []

-- a TALLY or an ACCUMULATE of what has no history, 79, or of texts, 73
abbrev pub subject_breaks : Line → Option Meaning → Option CheckError
subject_breaks line meaning =
    if if_means may_be_watched meaning then unless (not (is_text meaning)) (e.Mode line) else Some (e.Unknown line)

abbrev pub in_preamble : Table → PreambleTree → List CheckError
in_preamble t (event_notices line names) = flat_map (eventless t line) names
in_preamble t (every line kind class clauses) = eventless_of t line kind class
in_preamble t (statistics line weighting found subject) = option_to_list (subject_breaks line (value_for t.meanings subject))
in_preamble t _ = []

-- a program without MAIN, 71
abbrev pub in_program : List SectionTree → List CheckError
in_program sections = if list_any is_main_section sections then [] else e.NoMain (record { 0 = 0 }) ∷ []

abbrev pub breaches : Table → ProgramTree → List CheckError
breaches t p = flat_map (in_preamble t) p.preamble ++ (in_program p.sections ++ flat_map (breaches_in_section t p.sections) p.sections)

-- the first rule that a program breaks, at the first line where it does; none where it breaks none
abbrev pub refusal_of_uses : ProgramTree → Option CheckError
refusal_of_uses p = earliest check_error_order (breaches (table p) p)
