use Rattle.ss_lex.proofs.Whole as whole
use Rattle.ss_lex.proofs.law.one_list.Goals as goal

pub returns : goal.returns
returns c = whole.one_list
