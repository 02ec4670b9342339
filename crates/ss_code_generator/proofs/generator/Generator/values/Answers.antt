use Rattle.std.proofs.Common.{arith}
use Rattle.ss_code_generator.proofs.Common.{take_all}
use Rattle.ss_code_generator.proofs.Emitting.{makes_earlier}
use Rattle.ss_code_generator.proofs.Pushing.{next_value}
use Rattle.ss_code_generator.proofs.generator.Generator.values.Goals as goal

pub loop-i-preserved : goal.loop-i-preserved
loop-i-preserved c =
    record {
      code = next_value c.args.values.now c.loop-i.i c.loop-i-test.true c.index-values-i.is c.loop-i.invariant.code c.loop-i.invariant.room c.above.ensures.line c.above.ensures.height c.in_ok-push.ensures.code;
      room = omega (arith, c.above.ensures.small c.in_ok-push.ensures.small, c.in_ok-push.ensures.room);
    }

pub returns-clause-code : goal.returns-clause-code
returns-clause-code c = makes_earlier c.reach.ensures.grows (rw (take_all c.loop-i.i c.args.values.now c.loop-i-test.false) at c.loop-i.invariant.code)
