use Rattle.ss_code_instructions.proofs.Whole.{code_behaves as behaves_so}
use Rattle.ss_code_instructions.proofs.ShapeKept.{never_stuck as never_so}
use Rattle.ss_code_instructions.proofs.laws.laws_of_meaning.Goals as goal

pub returns : goal.returns
returns c = record { code_behaves = behaves_so; never_stuck = never_so }
