use Rattle.ss_code_instructions.proofs.Arriving.{reached_fits as fits_so, reached_goes as goes_so}
use Rattle.ss_code_instructions.proofs.Inputs.{input_stays as input_so}
use Rattle.ss_code_instructions.proofs.Bounding.{steps_fall as fall_so}
use Rattle.ss_code_instructions.proofs.laws.laws_of_reached.Goals as goal

pub returns : goal.returns
returns c = record { reached_fits = fits_so; reached_goes = goes_so; input_stays = input_so; steps_fall = fall_so }
