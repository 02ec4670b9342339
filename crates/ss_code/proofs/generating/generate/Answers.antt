use Rattle.std.proofs.Common.{IfOk, subst}
use Rattle.ss_program.specs.View.{view_program}
use Rattle.ss_code_instructions.specs.Running.{HasLandings}
use Rattle.ss_code_instructions.specs.Translation.{code_of}
use Rattle.ss_code.proofs.generating.generate.Goals as goal

pub returns-clause-lands : goal.returns-clause-lands
returns-clause-lands c = subst (λ h. IfOk c.made.result (λ code. HasLandings (code_of (view_program h)))) c.program.ensures.same c.made.ensures.lands
