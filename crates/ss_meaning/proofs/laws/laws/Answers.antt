use Rattle.ss_meaning.proofs.Whole.{never_wrong as none_wrong, first_fits as begin_fit, keeps_modes as all_keep}
use Rattle.ss_meaning.proofs.laws.laws.Goals as goal

pub returns : goal.returns
returns c = record { never_wrong = none_wrong; begins_fit = begin_fit; keeps_modes = all_keep }
