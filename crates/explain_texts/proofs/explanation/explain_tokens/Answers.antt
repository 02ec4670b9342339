use Rattle.ss_tree.specs.View.{view_program_tree}
use Rattle.ss_engine.specs.Refusals.{parsed}
use Rattle.explain_texts.specs.Judged.{AreJudged}
use Rattle.ss_engine.proofs.Fronts.{parser_refused}
use Rattle.explain_texts.proofs.Judging.{said_so, tokens_judged}
use Rattle.explain_texts.proofs.explanation.explain_tokens.Goals as goal

pub returns-in-Ok : goal.returns-in-Ok
returns-in-Ok c =
    tokens_judged c.args.all.now.list (view_program_tree c.in-Ok.program) c.explain_tree.result c.in-Ok.ensures.found c.explain_tree.ensures

pub returns-in-Err : goal.returns-in-Err
returns-in-Err c =
    said_so (AreJudged c.args.all.now.list) c.refused.result c.from.result (parsed c.in-Err.error) c.refused.ensures c.from.ensures
    (λ text are. parser_refused text c.args.all.now.list are c.in-Err.error c.in-Err.ensures.refused c.in-Err.ensures.line)
