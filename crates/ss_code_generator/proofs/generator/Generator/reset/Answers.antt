use Rattle.ss_code_generator.proofs.Common.{on_ok_weaker, view_restart}
use Rattle.ss_code_generator.proofs.Noticing.{restarted}
use Rattle.ss_code_generator.proofs.generator.Generator.reset.Goals as goal

pub returns : goal.returns
returns c = on_ok_weaker c.put.result (restarted (view_restart c.args.restart.now) c.in_ok-entity.ensures) (rw c.in_ok-statistic.ensures at c.put.ensures)
