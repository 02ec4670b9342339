-- What the preamble says, as the generator asks it.
use Rattle.std.specs.Prelude.{false, List, Option, slice_get}
use Rattle.ss_base.specs.declared.layout.Mode.{Mode}
use Rattle.ss_program.specs.declared.expression.Variable.{Variable}
use Rattle.ss_program.specs.declared.expression.Variable.TheVariants.{Global, Local}
use Rattle.ss_program.specs.declared.sections.Program.{Program as Held}
use Rattle.ss_program.specs.View.{view_program}
use Rattle.ss_program.specs.WellTyped.{TypedScope}
use Rattle.ss_code_instructions.specs.Instructions.{FilingPlace, First, Last, Ranked}
use Rattle.ss_code_pieces.specs.declared.facts.Ordering.{Ordering}
use Rattle.ss_code_pieces.specs.declared.facts.Ordering.TheVariants as orderings

-- the mode of a variable, by those of the global and the local ones
abbrev pub mode_in : (globals locals : List Mode) → Variable → Option Mode
mode_in globals locals (Global k) = slice_get globals k
mode_in globals locals (Local k) = slice_get locals k

-- the program and these local variables; modes do not go by what else a scope says
abbrev pub scope_for_modes : Held → (locals : List Mode) → TypedScope
scope_for_modes p locals = record { program = view_program p; locals = locals; is_main = false }

abbrev pub filing_of : Ordering → FilingPlace
filing_of orderings.First = First
filing_of orderings.Last = Last
filing_of orderings.Ranked = Ranked
