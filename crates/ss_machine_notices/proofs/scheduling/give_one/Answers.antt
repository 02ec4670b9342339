use Rattle.std.proofs.Common.{arith, rules, ◌≡◌, ◌+◌, ℤ, sym, ◌∙◌, subst, to_z, of_z, w64}
use Rattle.ss_machine_notices.proofs.Common.{Alpha, assigned_attribute, Integer, IsSettledIn, IsSuitable, one, Text, Value, Whole}
use Rattle.ss_machine_frames.proofs.Places.{number_is, text_is}
use Rattle.ss_machine_notices.proofs.Giving.{suiting_as, suits_class, suits_field, suits_mode}
use Rattle.ss_machine_notices.proofs.scheduling.give_one.Goals as goal

pub mode_at-requires : goal.mode_at-requires
mode_at-requires c = record {
  class = suits_class c.args.what.class c.args.field c.args.what.notice c.requires.value c.args.what.noted c.args.world.now c.requires.suits;
  field = suits_field c.args.what.class c.args.field c.args.what.notice c.requires.value c.args.what.noted c.args.world.now c.requires.suits;
}

pub number_at-requires : goal.number_at-requires
number_at-requires c = c.requires.within

pub text_at-requires : goal.text_at-requires
text_at-requires c = c.requires.within

pub give_number-requires : goal.give_number-requires
give_number-requires c =
    let class = c.args.what.class in let field = c.args.field in let notes = c.args.what.noted in let e = c.args.world.now in
    let g = c.requires in let x = c.number_at.result in
    let same : to_z w64 (of_z w64 x) ≡ x = search rules in
    let mode : g.suits.mode ≡ Integer = one (sym (suits_mode class field c.args.what.notice g.value notes e g.suits) ∙ c.mode_at.ensures) ∙ c.in-Integer.is in
    subst (λ (z : ℤ). IsSuitable class field notes (Whole z) e) (sym same) (suiting_as class field notes g.value (Whole x) e g.suits (sym mode))

pub returns-in-Integer : goal.returns-in-Integer
returns-in-Integer c = λ g.
    let class = c.args.what.class in let field = c.args.field in let notes = c.args.what.noted in let e = c.args.world.now in
    let n = c.args.what.notice in let x = c.number_at.result in let new = c.give_number.new.world in let q = c.give_number.result in
    let same : to_z w64 (of_z w64 x) ≡ x = search rules in
    let mode : g.suits.mode ≡ Integer = one (sym (suits_mode class field n g.value notes e g.suits) ∙ c.mode_at.ensures) ∙ c.in-Integer.is in
    let value : g.value ≡ Whole x = number_is c.args.rows.now (c.args.what.from + field) g.value x (g.suits.right ∙ mode) g.lies c.number_at.ensures in
    let gave : (h : IsSuitable class field notes (Whole x) e) → IsSettledIn h.store (assigned_attribute class field (Whole n) (Whole x)) e new q =
    subst (λ (z : ℤ). (h : IsSuitable class field notes (Whole z) e) → IsSettledIn h.store (assigned_attribute class field (Whole n) (Whole z)) e new q) same c.give_number.ensures in
    subst (λ (v : Value). IsSettledIn g.suits.store (assigned_attribute class field (Whole n) v) e new q) (sym value) (gave (suiting_as class field notes g.value (Whole x) e g.suits (sym mode)))

pub give_text-requires : goal.give_text-requires
give_text-requires c =
    let class = c.args.what.class in let field = c.args.field in let notes = c.args.what.noted in let e = c.args.world.now in
    let g = c.requires in let x = c.text_at.result in
    let mode : g.suits.mode ≡ Alpha = one (sym (suits_mode class field c.args.what.notice g.value notes e g.suits) ∙ c.mode_at.ensures) ∙ c.in-Alpha.is in
    suiting_as class field notes g.value (Text x) e g.suits (sym mode)

pub returns-in-Alpha : goal.returns-in-Alpha
returns-in-Alpha c = λ g.
    let class = c.args.what.class in let field = c.args.field in let notes = c.args.what.noted in let e = c.args.world.now in
    let n = c.args.what.notice in let x = c.text_at.result in let new = c.give_text.new.world in let q = c.give_text.result in
    let mode : g.suits.mode ≡ Alpha = one (sym (suits_mode class field n g.value notes e g.suits) ∙ c.mode_at.ensures) ∙ c.in-Alpha.is in
    let value : g.value ≡ Text x = text_is c.args.rows.now (c.args.what.from + field) g.value x (g.suits.right ∙ mode) g.lies c.text_at.ensures in
    subst (λ (v : Value). IsSettledIn g.suits.store (assigned_attribute class field (Whole n) v) e new q) (sym value) (c.give_text.ensures (suiting_as class field notes g.value (Text x) e g.suits (sym mode)))

pub overflow_add-at : goal.overflow_add-at
overflow_add-at c = omega (arith, c.requires.small)
