use Rattle.std.proofs.Common.{◌+◌, ◌≤◌, subst, arith}
use Rattle.ss_records_blocks.specs.Places.{living_count}
use Rattle.ss_records_blocks.specs.Pages.{Listed}
use Rattle.ss_records_blocks.proofs.Paging.{pages_few}
use Rattle.ss_records_blocks.proofs.register.Register.pages.Goals as goal

pub returns-clause-bound : goal.returns-clause-bound
returns-clause-bound c =
    let k = pages_few c.self.inside.earlier c.self.inside.current c.self.inside.start c.self.inside.issued c.self.invariant c.len.ensures.found in
    subst (λ (w : Listed). c.len.result + 1 ≤ living_count w.places + 1) c.self.view_is (omega (arith, k, c.len.ensures.value))
