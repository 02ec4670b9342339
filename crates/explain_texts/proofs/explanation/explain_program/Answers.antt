use Rattle.std.proofs.Common.{◌∙◌}
use Rattle.ss_tree.specs.View.{view_program_tree}
use Rattle.ss_engine.specs.Refusals.{table_refusal}
use Rattle.std.specs.Prelude.{IfSome}
use Rattle.ss_engine.specs.Accepting.{IsTreeRefusedWith}
use Rattle.ss_engine.proofs.Fronts.{tables_refused}
use Rattle.explain_texts.proofs.Judging.{said_so}
use Rattle.explain_texts.proofs.explanation.explain_program.Goals as goal

pub explain_names-answer-requires-clause-names : goal.explain_names-answer-requires-clause-names
explain_names-answer-requires-clause-names c = c.into_names-names.ensures ∙ c.in-Ok.ensures.made.is_of_program

pub explain_names-answer-requires-clause-declared : goal.explain_names-answer-requires-clause-declared
explain_names-answer-requires-clause-declared c = c.in-Ok.ensures.made.kept

pub returns-in-Err : goal.returns-in-Err
returns-in-Err c =
    let tree = view_program_tree c.args.program.now in
    said_so (λ found. IfSome found (IsTreeRefusedWith tree)) c.refused.result c.from.result (table_refusal c.in-Err.error) c.refused.ensures c.from.ensures
    (λ text read. tables_refused text tree read c.in-Err.error c.in-Err.ensures.refused)
