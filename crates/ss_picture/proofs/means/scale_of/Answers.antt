use Rattle.ss_picture.proofs.Rounding.{power_some}
use Rattle.ss_picture.proofs.means.scale_of.Goals as goal

pub returns-clause-some : goal.returns-clause-some
returns-clause-some c = rw c.pow.ensures (power_some c.args.decimals)
