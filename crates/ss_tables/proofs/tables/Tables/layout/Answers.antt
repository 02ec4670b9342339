use Rattle.ss_tables.proofs.Made.{layout_there}
use Rattle.ss_tables.proofs.tables.Tables.layout.Goals as goal

pub unreachable-requires : goal.unreachable-requires
unreachable-requires c =
    layout_there c.laws_of_tables.ensures.layouts c.self.invariant.0 c.self.inside.names c.self.invariant.1 c.in_ok-laid.field-0 c.in_ok-laid.ensures c.in-None.is
