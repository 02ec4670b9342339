use Rattle.ss_names_laws.proofs.Routines.{routines_are_there, sections_are_valid}
use Rattle.ss_names_laws.proofs.table_laws.laws_of_sections.Goals as goal

pub returns : goal.returns
returns c = record { sections = sections_are_valid; routines = routines_are_there }
