use Rattle.ss_parse.proofs.Whole as law
use Rattle.ss_parse.proofs.parser.one_tree.Goals as goal

pub returns : goal.returns
returns c = law.one_tree
