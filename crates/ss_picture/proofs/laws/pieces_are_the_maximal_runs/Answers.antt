use Rattle.ss_picture.proofs.Maximal.{pieces_cut, only_pieces_cut}
use Rattle.ss_picture.proofs.laws.pieces_are_the_maximal_runs.Goals as goal

pub returns : goal.returns
returns c = record { cut = pieces_cut; only = only_pieces_cut }
