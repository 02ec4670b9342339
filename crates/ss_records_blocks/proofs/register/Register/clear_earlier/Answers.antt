use Rattle.std.proofs.Common.{◌<◌, slice_get, slice_set, None, sym, ap, subst, ◌∙◌}
use Rattle.ss_records_blocks.specs.Pages.{Listed}
use Rattle.ss_records_blocks.proofs.Paging.{its_page, places_fewer, paged_fewer, places_given, paged_given}
use Rattle.ss_records_blocks.proofs.register.Register.clear_earlier.Goals as goal

pub clear-requires : goal.clear-requires
clear-requires c =
    let v = ap (λ (w : Listed). slice_get w.places c.args.i) c.self.view_is in let a = subst (λ (w : Listed). c.args.i < w.start) (sym c.self.view_is) c.requires.earlier in
    let p = c.requires.there.0 in let g = v ∙ c.requires.there.1 in
    let d = its_page c.self.inside.earlier c.self.inside.current c.self.inside.start c.self.inside.issued c.self.invariant c.args.i p g a in
    record { there = (d.0, p, d.1, d.3) }

pub invariant_of-self : goal.invariant_of-self
invariant_of-self c =
    let v = ap (λ (w : Listed). slice_get w.places c.args.i) c.self.view_is in let a = subst (λ (w : Listed). c.args.i < w.start) (sym c.self.view_is) c.requires.earlier in
    let p = c.requires.there.0 in let g = v ∙ c.requires.there.1 in
    let d = its_page c.self.inside.earlier c.self.inside.current c.self.inside.start c.self.inside.issued c.self.invariant c.args.i p g a in let x = c.clear.ensures.cleared d.0 d.1 in
    paged_given c.self.inside.earlier c.self.inside.current c.self.inside.start c.self.inside.issued c.self.invariant c.args.i p g a _ x.0 x.1 (sym (c.clear.ensures.empty d.0 d.1) ∙ c.if-clear.true) c.remove.new.self c.remove.ensures.entries c.remove.ensures.updates

pub invariant_of-self-else-clear : goal.invariant_of-self-else-clear
invariant_of-self-else-clear c =
    let v = ap (λ (w : Listed). slice_get w.places c.args.i) c.self.view_is in let a = subst (λ (w : Listed). c.args.i < w.start) (sym c.self.view_is) c.requires.earlier in
    let p = c.requires.there.0 in let g = v ∙ c.requires.there.1 in
    let d = its_page c.self.inside.earlier c.self.inside.current c.self.inside.start c.self.inside.issued c.self.invariant c.args.i p g a in let x = c.clear.ensures.cleared d.0 d.1 in
    paged_fewer c.self.inside.earlier c.self.inside.current c.self.inside.start c.self.inside.issued c.self.invariant c.args.i p g a _ x.0 x.1 (sym (c.clear.ensures.empty d.0 d.1) ∙ c.if-clear.false)

pub returns-then-clear : goal.returns-then-clear
returns-then-clear c =
    let v = ap (λ (w : Listed). slice_get w.places c.args.i) c.self.view_is in let a = subst (λ (w : Listed). c.args.i < w.start) (sym c.self.view_is) c.requires.earlier in
    let p = c.requires.there.0 in let g = v ∙ c.requires.there.1 in
    let d = its_page c.self.inside.earlier c.self.inside.current c.self.inside.start c.self.inside.issued c.self.invariant c.args.i p g a in let x = c.clear.ensures.cleared d.0 d.1 in
    places_given c.self.inside.earlier c.self.inside.current c.self.inside.start c.self.inside.issued c.self.invariant c.args.i p g a _ x.0 x.1 (sym (c.clear.ensures.empty d.0 d.1) ∙ c.if-clear.true) c.remove.new.self c.remove.ensures.entries c.remove.ensures.updates ∙ ap (λ (w : Listed). slice_set w.places c.args.i None) c.self.view_is

pub returns-else-clear : goal.returns-else-clear
returns-else-clear c =
    let v = ap (λ (w : Listed). slice_get w.places c.args.i) c.self.view_is in let a = subst (λ (w : Listed). c.args.i < w.start) (sym c.self.view_is) c.requires.earlier in
    let p = c.requires.there.0 in let g = v ∙ c.requires.there.1 in
    let d = its_page c.self.inside.earlier c.self.inside.current c.self.inside.start c.self.inside.issued c.self.invariant c.args.i p g a in let x = c.clear.ensures.cleared d.0 d.1 in
    places_fewer c.self.inside.earlier c.self.inside.current c.self.inside.start c.self.inside.issued c.self.invariant c.args.i p g a _ x.0 x.1 (sym (c.clear.ensures.empty d.0 d.1) ∙ c.if-clear.false) ∙ ap (λ (w : Listed). slice_set w.places c.args.i None) c.self.view_is
