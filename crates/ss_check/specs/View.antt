-- What is resolved, and what a section becomes, as plain data.
use Rattle.std.specs.Prelude.{ℕ, List, map, Option}
use Rattle.ss_tree.specs.Tree.{SectionTree}
use Rattle.ss_tree.specs.View.{view_section}
use Rattle.ss_names.specs.Table.{Table}
use Rattle.ss_names_scopes.specs.Locals.{Moded}
use Rattle.ss_program.specs.View.{view_body}
use Rattle.ss_names_meaning.specs.Resolved.{Parts, parts_with_locals}
use Rattle.ss_check.specs.declared.sections.Parts.{Parts as PartsValue}
use Rattle.ss_check.specs.declared.sections.ProgramSections.{ProgramSections}

abbrev pub view_parts : PartsValue → Parts
view_parts p = record { line = p.line; modes = p.modes.items; body = view_body p.body.items }

abbrev pub table_of_sections : ProgramSections → Table
table_of_sections p = p.names.now

abbrev pub locals_in : ProgramSections → List Moded
locals_in p = p.locals.now

abbrev pub sections_in : ProgramSections → List SectionTree
sections_in p = map view_section p.sections.now

-- the section of a number
abbrev pub parts_in : ProgramSections → ℕ → Option Parts
parts_in p = parts_with_locals (table_of_sections p) (locals_in p) (sections_in p)
