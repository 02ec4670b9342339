use Rattle.std.proofs.Common.{◌∙◌, sym, refl}
use Rattle.ss_base.specs.Plan.{bytes_passed, after_call}
use Rattle.ss_base.proofs.plan.Progress.next_call.Goals as goal

-- the test before the call is that of the plan
pub returns-then-is_wrong-clause-answer : goal.returns-then-is_wrong-clause-answer
unfolding bytes_passed
returns-then-is_wrong-clause-answer c = rw (sym c.goes_wrong-is_wrong.ensures ∙ c.if-is_wrong.true) refl

pub returns-then-is_wrong-clause-progress : goal.returns-then-is_wrong-clause-progress
unfolding after_call
returns-then-is_wrong-clause-progress c =
    rw (sym c.goes_wrong-is_wrong.ensures ∙ c.if-is_wrong.true, c.saturating_add-self.ensures, c.saturating_add-self-then-is_wrong.ensures) refl

pub returns-clause-answer : goal.returns-clause-answer
unfolding bytes_passed
returns-clause-answer c =
    rw (sym c.goes_wrong-is_wrong.ensures ∙ c.if-is_wrong.false, c.min.ensures, c.most_bytes.ensures.value) refl

pub returns-clause-progress : goal.returns-clause-progress
unfolding after_call
returns-clause-progress c =
    rw (sym c.goes_wrong-is_wrong.ensures ∙ c.if-is_wrong.false, c.saturating_add-self.ensures) refl
