use Rattle.std.proofs.Common.{rules, ◌≡◌, ℤ, Some, ap, sym, ◌∙◌, subst, to_z, of_z, w64}
use Rattle.ss_machine_notices.proofs.Common.{HasSetField, Text}
use Rattle.ss_machine_notices.proofs.Giving.{suits_class, suits_mode, text_set}
use Rattle.ss_machine_notices.proofs.scheduling.give_text.Goals as goal

pub set_text-requires : goal.set_text-requires
set_text-requires c = record {
  class = suits_class c.args.what.class c.args.field c.args.what.notice (Text c.args.text) c.args.what.noted c.args.world.now c.requires;
  mode = suits_mode c.args.what.class c.args.field c.args.what.notice (Text c.args.text) c.args.what.noted c.args.world.now c.requires ∙ ap Some (sym c.requires.right);
}

pub returns : goal.returns
returns c = λ g.
    let class = c.args.what.class in let field = c.args.field in let n = c.args.what.notice in let e = c.args.world.now in
    let new = c.set_text.new.world in let q = c.set_text.result in
    let same : to_z w64 (of_z w64 n) ≡ n = search rules in
    let is = subst (λ (m : ℤ). HasSetField class field m (Text c.args.text) e new q) same c.set_text.ensures in
    text_set class field n (Text c.args.text) c.args.what.noted e g new q (sym g.right) is
