use Rattle.ss_code_instructions.proofs.Landing.{jumps_land as land_so, has_size as size_so}
use Rattle.ss_code_instructions.proofs.ShapingPrograms.{has_shape as shape_so}
use Rattle.ss_code_instructions.proofs.ShapeKept.{shape_stays as stays_so, states_suit as suit_so}
use Rattle.ss_code_instructions.proofs.Holding.{holds_four as four_so}
use Rattle.ss_code_instructions.proofs.laws.laws_of_code.Goals as goal

pub returns : goal.returns
returns c = record { jumps_land = land_so; has_shape = shape_so; shape_stays = stays_so; states_suit = suit_so; has_size = size_so; holds_four = four_so }
