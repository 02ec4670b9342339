use Rattle.std.proofs.Common.{arith}
use Rattle.ss_parse.proofs.Lists.{line_of_one}
use Rattle.ss_parse.proofs.parser.line_of.Goals as goal

pub returns : goal.returns
returns c = line_of_one _ _ _ (omega (arith, c.min.ensures))
