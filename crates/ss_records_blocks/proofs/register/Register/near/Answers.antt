use Rattle.std.proofs.Common.{◌≡◌, Some, slice_get, subst, arith}
use Rattle.std.specs.Prelude.{IfSome}
use Rattle.ss_records_blocks.specs.Pages.{Listed}
use Rattle.ss_records_blocks.proofs.Paging.{near_within, near_beyond}
use Rattle.ss_records_blocks.proofs.register.Register.near.Goals as goal

pub returns-then-k-lt-PAGE : goal.returns-then-k-lt-PAGE
returns-then-k-lt-PAGE c =
    let d = c.self.inside in
    subst (λ (w : Listed). IfSome c.get.result (λ p. slice_get w.places c.args.i ≡ Some (Some p))) c.self.view_is (near_within d.earlier d.current d.start d.issued c.self.invariant c.args.i c.get.result (omega arith) c.ranges.i.fits c.if-k-lt-PAGE.true c.get.ensures)

pub returns-in-Some : goal.returns-in-Some
returns-in-Some c =
    let d = c.self.inside in
    subst (λ (w : Listed). IfSome c.get-in-Some.result (λ p. slice_get w.places c.args.i ≡ Some (Some p))) c.self.view_is (near_beyond d.earlier d.current d.start d.issued c.self.invariant c.args.i c.get-in-Some.result (omega arith) c.ranges.i.fits (omega (arith, c.if-k-lt-PAGE.false)) c.in-Some.page.now c.in-Some.ensures c.get-in-Some.ensures)
