use Rattle.ss_picture.proofs.Rounding.{divided_parts}
use Rattle.ss_picture.proofs.means.divided.Goals as goal

pub returns : goal.returns
returns c = divided_parts c.args.size c.args.number c.args.scale c.requires.some
