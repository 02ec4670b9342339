-- The exit statuses of the program, where its words give an order.
use Rattle.std.specs.Prelude.{ℕ}
use Rattle.simscript_commands.specs.Statuses.{ended_status}
use Rattle.explain_commands.specs.declared.ending.Ending.{Ending}
use Rattle.explain_commands.specs.declared.ending.Ending.TheVariants.{Ended, Misnamed}

-- an order that was obeyed, or what stopped it, as for simscript; a name that can't be watched is a wrong word
abbrev pub ending_status : Ending → ℕ
ending_status (Ended ended) = ended_status ended
ending_status Misnamed = 2
