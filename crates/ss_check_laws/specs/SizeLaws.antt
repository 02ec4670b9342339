-- A resolved program has no more nodes than its tree.
use Rattle.std.specs.Prelude.{◌≡◌, ◌≤◌, Some}
use Rattle.ss_tree.specs.Tree.{ProgramTree, StatementRow}
use Rattle.ss_tree.specs.Nodes.{tree_nodes, statements_nodes}
use Rattle.ss_names.specs.Table.{table}
use Rattle.ss_names_scopes.specs.Scopes.{Scope}
use Rattle.ss_program.specs.Program.{Block, Program}
use Rattle.ss_program.specs.Nodes.{block_nodes, nodes}
use Rattle.ss_names_meaning.specs.Statements.{statements}
use Rattle.ss_names_meaning.specs.Resolved.{resolved}

-- the statements of a body, whatever its names mean
abbrev pub BodiesStaySmall : Type 0
BodiesStaySmall = (s : Scope) (body : StatementRow) (done : Block) → statements s body ≡ Some done → block_nodes done ≤ statements_nodes body

-- a whole program
abbrev pub ProgramsStaySmall : Type 0
ProgramsStaySmall = (p : ProgramTree) (r : Program) → resolved (table p) p.sections ≡ Some r → nodes r ≤ tree_nodes p
