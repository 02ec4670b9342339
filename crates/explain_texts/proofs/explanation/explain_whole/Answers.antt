use Rattle.ss_engine.specs.Refusals.{lexed}
use Rattle.explain_texts.specs.Judged.{IsJudged}
use Rattle.ss_engine.proofs.Fronts.{lexer_refused}
use Rattle.explain_texts.proofs.Judging.{said_so, text_judged}
use Rattle.explain_texts.proofs.explanation.explain_whole.Goals as goal

pub returns-in-Ok : goal.returns-in-Ok
returns-in-Ok c =
    text_judged c.args.text.now c.in-Ok.all.list c.explain_tokens.result c.in-Ok.ensures.found c.explain_tokens.ensures

pub returns-in-Err : goal.returns-in-Err
returns-in-Err c =
    said_so (IsJudged c.args.text.now) c.refused.result c.from.result (lexed c.in-Err.error) c.refused.ensures c.from.ensures
    (lexer_refused c.args.text.now c.in-Err.error c.in-Err.ensures.refused)
