use Rattle.ss_picture.proofs.Nearest.{rounds_to_nearest, only_nearest}
use Rattle.ss_picture.proofs.laws.means_are_the_nearest.Goals as goal

pub returns : goal.returns
returns c = record { rounds = rounds_to_nearest; only = only_nearest }
