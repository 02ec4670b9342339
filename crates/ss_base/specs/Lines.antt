-- Lines of the text.
use Rattle.std.specs.Prelude.{Bool, true, false, List, [], ◌∷◌}
use Rattle.ss_base.specs.declared.line.Line.{Line}

-- a line, where the test holds
abbrev pub line_if : Bool → Line → List Line
line_if true line = line ∷ []
line_if false line = []
