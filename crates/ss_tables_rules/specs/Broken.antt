-- The first rule that a program breaks by what it declares, and the first line of the text where it does.
use Rattle.std.specs.Prelude.{List, Option, [], option_to_list, if◌then◌else◌, is_some, map, ◌++◌}
use Rattle.std.specs.List.{flat_map}
use Rattle.ss_tree.specs.Tree.{SectionTree, ProgramTree}
use Rattle.ss_names_declarations.specs.Declarations.{declarations}
use Rattle.ss_names_declarations.specs.Earliest.{earliest}
use Rattle.ss_names_declarations.specs.declared.declaration.Declaration.{Declaration}
use Rattle.ss_names.specs.Table.{Table, clashes, declared}
use Rattle.ss_tables_rules.specs.Keys.{misranked}
use Rattle.ss_tables_rules.specs.Once.{repeats}
use Rattle.ss_tables_rules.specs.Rules.{broken_by, unmoded_in}
use Rattle.ss_tables_rules.specs.Order.{table_error_order}
use Rattle.ss_tables_rules.specs.declared.error.TableError.{TableError}
use Rattle.ss_tables_rules.specs.declared.error.TableError.TheVariants as e

-- ---- the breaches of a program

-- a declaration that breaks a rule by the table
abbrev pub declaration_breaches : Table → Declaration → List TableError
declaration_breaches t x = option_to_list (broken_by t x)

-- the uses of local variables without a mode
abbrev pub unmoded : Table → List SectionTree → List TableError
unmoded t sections = if is_some t.usual then [] else flat_map (unmoded_in t) sections

abbrev pub table_breaches : Table → List Declaration → ProgramTree → List TableError
table_breaches t ds p =
    map e.Twice (clashes ds)
    ++ (repeats t ds ++ (flat_map (declaration_breaches t) ds ++ (misranked t p.preamble ++ unmoded t p.sections)))

-- the first rule that a program breaks, at the first line where it does; none where it breaks none
abbrev pub refusal_of_declarations : ProgramTree → Option TableError
refusal_of_declarations p = earliest table_error_order (table_breaches (declared (declarations p)) (declarations p) p)
