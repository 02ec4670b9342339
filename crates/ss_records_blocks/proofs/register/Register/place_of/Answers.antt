use Rattle.std.proofs.Common.{◌≡◌, ◌<◌, None, length, slice_get, sym, ap, subst, arith}
use Rattle.std.proofs.lemmas.Option.{slice_get_past}
use Rattle.ss_records_blocks.specs.Pages.{Listed, entry, in_page}
use Rattle.ss_records_blocks.proofs.Paging.{upto_length}
use Rattle.ss_records_blocks.proofs.register.Register.place_of.Goals as goal

pub returns-then-i-self : goal.returns-then-i-self
returns-then-i-self c =
    let d = c.self.inside in
    subst (λ (w : Listed). None ≡ in_page (slice_get w.places c.args.i)) c.self.view_is (sym (ap in_page (slice_get_past _ c.args.i (omega (arith, c.if-i-self.true, upto_length (entry d.earlier d.current d.start) d.issued)))))

pub get-requires : goal.get-requires
get-requires c =
    let d = c.self.inside in
    subst (λ (w : Listed). c.args.i < length w.places) c.self.view_is (omega (arith, c.if-i-self.false, upto_length (entry d.earlier d.current d.start) d.issued))
