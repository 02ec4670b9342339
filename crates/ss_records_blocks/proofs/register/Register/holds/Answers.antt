use Rattle.std.proofs.Common.{◌≡◌, None, slice_get, sym, subst, arith}
use Rattle.ss_records_blocks.specs.Pages.{Listed, in_page}
use Rattle.ss_records_blocks.proofs.Paging.{not_held}
use Rattle.ss_records_blocks.proofs.register.Register.holds.Goals as goal

pub returns-in-None : goal.returns-in-None
returns-in-None c = λ _ i e.
    let d = c.self.inside in
    subst (λ (w : Listed). in_page (slice_get w.places i) ≡ None) c.self.view_is (not_held d.earlier d.current d.start d.issued c.self.invariant c.args.stretch (omega (arith, c.if-stretch-self.false)) (sym c.in-None.ensures) i e)
