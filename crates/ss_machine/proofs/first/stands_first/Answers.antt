use Rattle.ss_machine.proofs.Starting.{at_start}
use Rattle.ss_machine.proofs.first.stands_first.Goals as goal

pub returns : goal.returns
returns c = at_start c.args.code.now c.args.state.now c.requires
