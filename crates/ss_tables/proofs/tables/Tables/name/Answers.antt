use Rattle.std.proofs.Common.{◌≡◌, Some, subst}
use Rattle.ss_names_declarations.specs.NameTable.{place_in}
use Rattle.ss_tables.proofs.Places.{there_is_found}
use Rattle.ss_tables.proofs.tables.Tables.name.Goals as goal

pub returns-clause-found : goal.returns-clause-found
returns-clause-found c =
    subst (λ t. place_in t.meanings c.name.result.now ≡ Some c.args.id.0) c.self.view_is
    (there_is_found c.self.invariant.0 c.self.inside.names c.self.invariant.1.is_of_program c.args.id.0 c.name.result.now c.name.ensures)
