use Rattle.std.proofs.Common.{◌<◌, length, slice_get, sym, ap, subst, ◌∙◌}
use Rattle.ss_records_blocks.specs.Pages.{Listed}
use Rattle.ss_records_blocks.proofs.Paging.{room_current, read_current, read_earlier, read_none}
use Rattle.ss_records_blocks.proofs.register.Register.get.Goals as goal

pub get-requires : goal.get-requires
get-requires c = room_current c.self.inside.earlier c.self.inside.current c.self.inside.start c.self.inside.issued c.self.invariant c.args.i (subst (λ (w : Listed). c.args.i < length w.places) (sym c.self.view_is) c.requires) c.if-i-self.true

pub returns-then-i-self : goal.returns-then-i-self
returns-then-i-self c = sym (ap (λ (w : Listed). slice_get w.places c.args.i) c.self.view_is) ∙ read_current c.self.inside.earlier c.self.inside.current c.self.inside.start c.self.inside.issued c.self.invariant c.args.i (subst (λ (w : Listed). c.args.i < length w.places) (sym c.self.view_is) c.requires) c.if-i-self.true c.get.result c.get.ensures

pub returns-in-Some : goal.returns-in-Some
returns-in-Some c = sym (ap (λ (w : Listed). slice_get w.places c.args.i) c.self.view_is) ∙ read_earlier c.self.inside.earlier c.self.inside.current c.self.inside.start c.self.inside.issued c.self.invariant c.args.i (subst (λ (w : Listed). c.args.i < length w.places) (sym c.self.view_is) c.requires) c.if-i-self.false c.in-Some.page.now (sym c.in-Some.ensures) c.get-in-Some.result c.get-in-Some.ensures

pub returns-in-None : goal.returns-in-None
returns-in-None c = sym (ap (λ (w : Listed). slice_get w.places c.args.i) c.self.view_is) ∙ read_none c.self.inside.earlier c.self.inside.current c.self.inside.start c.self.inside.issued c.self.invariant c.args.i (subst (λ (w : Listed). c.args.i < length w.places) (sym c.self.view_is) c.requires) c.if-i-self.false (sym c.in-None.ensures)
