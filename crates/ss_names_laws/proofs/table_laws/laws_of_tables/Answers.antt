use Rattle.ss_names_laws.proofs.Layouts.{layouts_are_there}
use Rattle.ss_names_laws.proofs.Meanings.{tables_are_valid}
use Rattle.ss_names_laws.proofs.Typed.{layouts_are_well_typed, tables_are_there}
use Rattle.ss_names_laws.proofs.table_laws.laws_of_tables.Goals as goal

pub returns : goal.returns
returns c = record { layouts = layouts_are_there; there = tables_are_there; valid = tables_are_valid; typed = layouts_are_well_typed }
