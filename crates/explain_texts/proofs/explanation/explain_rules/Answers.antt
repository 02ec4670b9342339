use Rattle.std.proofs.Common.{◌≡◌, sym, ap}
use Rattle.ss_engine.specs.Refusals.{used}
use Rattle.explain_texts.specs.Judged.{refusal_for_uses}
use Rattle.explain_texts.proofs.Judging.{said_so}
use Rattle.explain_texts.proofs.explanation.explain_rules.Goals as goal

pub returns-in-Some : goal.returns-in-Some
returns-in-Some c =
    said_so (λ found. found ≡ refusal_for_uses c.args.broken) c.refused.result c.from.result (used c.in-Some.error) c.refused.ensures c.from.ensures
    (sym (ap refusal_for_uses c.in-Some.is))
