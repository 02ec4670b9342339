use Rattle.ss_lex.proofs.Whole.{some_answer, none_refused, one_refusal}
use Rattle.ss_lex.proofs.law.one_answer.Goals as goal

pub returns : goal.returns
returns c = record { some = some_answer; never_both = none_refused; one_refusal = one_refusal }
