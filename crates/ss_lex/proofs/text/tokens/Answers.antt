use Rattle.ss_lex.proofs.Whole.{only_list, no_list}
use Rattle.ss_lex.proofs.text.tokens.Goals as goal

pub returns-clause-only : goal.returns-clause-only
returns-clause-only c = only_list _ _ c.read_text.ensures.found

pub returns-clause-none : goal.returns-clause-none
returns-clause-none c = no_list _ _ c.read_text.ensures.refused
