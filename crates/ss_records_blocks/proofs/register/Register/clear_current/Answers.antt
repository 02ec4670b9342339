use Rattle.std.proofs.Common.{◌≤◌, slice_get, slice_set, None, sym, ap, subst, ◌∙◌}
use Rattle.ss_records_blocks.specs.Pages.{Listed}
use Rattle.ss_records_blocks.proofs.Paging.{in_cur, paged_cleared, places_cleared}
use Rattle.ss_records_blocks.proofs.register.Register.clear_current.Goals as goal

pub clear-requires : goal.clear-requires
clear-requires c =
    let v = ap (λ (w : Listed). slice_get w.places c.args.i) c.self.view_is in let a = subst (λ (w : Listed). w.start ≤ c.args.i) (sym c.self.view_is) c.requires.current in
    (c.requires.there.0, in_cur c.self.inside.earlier c.self.inside.current c.self.inside.start c.self.inside.issued c.self.invariant c.args.i c.requires.there.0 (v ∙ c.requires.there.1) a)

pub invariant_of-self : goal.invariant_of-self
invariant_of-self c =
    let v = ap (λ (w : Listed). slice_get w.places c.args.i) c.self.view_is in let a = subst (λ (w : Listed). w.start ≤ c.args.i) (sym c.self.view_is) c.requires.current in
    rw c.clear.ensures (paged_cleared c.self.inside.earlier c.self.inside.current c.self.inside.start c.self.inside.issued c.self.invariant c.args.i c.requires.there.0 (v ∙ c.requires.there.1) a)

pub returns : goal.returns
returns c =
    let v = ap (λ (w : Listed). slice_get w.places c.args.i) c.self.view_is in let a = subst (λ (w : Listed). w.start ≤ c.args.i) (sym c.self.view_is) c.requires.current in
    rw c.clear.ensures (places_cleared c.self.inside.earlier c.self.inside.current c.self.inside.start c.self.inside.issued c.self.invariant c.args.i c.requires.there.0 (v ∙ c.requires.there.1) a ∙ ap (λ (w : Listed). slice_set w.places c.args.i None) c.self.view_is)
