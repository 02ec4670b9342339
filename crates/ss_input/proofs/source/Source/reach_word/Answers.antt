use Rattle.std.proofs.Common.{Ok, ap, subst}
use Rattle.ss_input.proofs.Common.{IsGapPassed, source_block, source_gap}
use Rattle.ss_input.proofs.source.Source.reach_word.Goals as goal

pub invariant_of-self : goal.invariant_of-self
invariant_of-self g c = (c.in-Ok-Some.ensures.passed c.in-Ok-Some.count (ap Ok c.in-Ok-Some.field-0-is)).1

pub returns-in-Ok-Some-clause-ok : goal.returns-in-Ok-Some-clause-ok
returns-in-Ok-Some-clause-ok g c =
    let p = c.in-Ok-Some.ensures.passed c.in-Ok-Some.count (ap Ok c.in-Ok-Some.field-0-is) in
    record {
      passed = subst (λ s. IsGapPassed g.R.FaultyRead.remaining (source_block s) c.pass_gap.new.block (source_gap s) c.in-Ok-Some.count) c.self.view_is p.0;
      next = p.2;
      small = p.1;
    }
