use Rattle.std.proofs.Common.{arith, ◌∙◌, sym}
use Rattle.ss_base.proofs.Texts.{trimmed-blank, trimmed-other}
use Rattle.ss_base.proofs.alpha.trimmed.Goals as goal
use Rattle.ss_base.proofs.alpha.trimmed.Goals.{then-b-ne32, else-b-ne32}

-- a blank leaves the end where it was, another byte moves it after this byte
pub loop-i-preserved : goal.loop-i-preserved
loop-i-preserved c =
    elim c.if-b-ne32.branch [
      | then-b-ne32 w ↦ rw w.end-is (record { within = omega arith; same = sym (trimmed-other _ _ c.loop-i-test.true w.if-b-ne32.true) })
      | else-b-ne32 w ↦ rw w.end-is (record {
        within = omega arith;
        same = c.loop-i.invariant.same ∙ sym (trimmed-blank _ _ c.loop-i-test.true w.if-b-ne32.false);
      })
    ]
