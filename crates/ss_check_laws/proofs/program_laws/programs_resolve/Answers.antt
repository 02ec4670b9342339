use Rattle.ss_check_laws.proofs.Programs.{programs_resolve}
use Rattle.ss_check_laws.proofs.program_laws.programs_resolve.Goals as goal

pub returns : goal.returns
returns c =
    let tables = c.laws_of_tables.ensures in
    let sections = c.laws_of_sections.ensures in
    programs_resolve c.laws.ensures tables.there tables.valid tables.typed sections.sections sections.routines
