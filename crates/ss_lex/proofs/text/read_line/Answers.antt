use Rattle.std.proofs.Common.{arith}
use Rattle.std.proofs.lemmas.Result.{IfErr-weaker, IfOk-weaker}
use Rattle.ss_lex.proofs.Reading.{code_read, code_refused, picture_read}
use Rattle.ss_lex.proofs.text.read_line.Goals as goal

pub returns-then-due-eq0-clause-ok : goal.returns-then-due-eq0-clause-ok
returns-then-due-eq0-clause-ok c =
    IfOk-weaker c.code_line.result _ _ (λ due r. code_read _ _ _ _ _ _ _ _ c.if-due-eq0.true r) c.code_line.ensures.ok

pub returns-then-due-eq0-clause-err : goal.returns-then-due-eq0-clause-err
returns-then-due-eq0-clause-err c =
    IfErr-weaker c.code_line.result _ _ (λ e r memory. code_refused _ _ _ _ _ _ _ c.if-due-eq0.true (r memory)) c.code_line.ensures.err

pub returns-clause-ok : goal.returns-clause-ok
returns-clause-ok c = picture_read _ _ _ _ _ _ _ (omega arith) c.requires.within c.in_ok-add_picture.ensures
