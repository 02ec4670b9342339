use Rattle.std.proofs.Common.{◌+◌, ◌*◌, ◌/◌, ◌≤◌, length, subst, arith}
use Rattle.ss_records_blocks.specs.Pages.{Listed, entry}
use Rattle.ss_records_blocks.proofs.Paging.{upto_length, quot, rem}
use Rattle.ss_records_blocks.proofs.register.Register.stretches.Goals as goal

pub returns : goal.returns
returns c =
    let n = c.self.inside.issued in
    record {
      all = subst (λ (w : Listed). length w.places ≤ (n / 256 + 1) * 256) c.self.view_is (omega (arith, upto_length (entry c.self.inside.earlier c.self.inside.current c.self.inside.start) n, quot n, rem n));
      few = subst (λ (w : Listed). (n / 256 + 1) * 256 ≤ length w.places + 256) c.self.view_is (omega (arith, upto_length (entry c.self.inside.earlier c.self.inside.current c.self.inside.start) n, quot n));
    }
