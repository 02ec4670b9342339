use Rattle.std.proofs.Common.{rules, ◌≡◌, ℕ, ℤ, Option, Some, subst, to_z, of_z, w64, ap}
use Rattle.ss_machine_instructions.proofs.Common.{HasChangedWhere, IsRight, on_after, reset, slice_get, statistic_variable, Value}
use Rattle.ss_code_instructions.specs.declared.instruction.Instruction.TheVariants.{Reset as Runs}
use Rattle.ss_machine_world.specs.Numbers.{HasValidSubject, IsReferenceToSubject, IsHeldBySubject as VariableHolds}
use Rattle.ss_machine_instructions.proofs.Figuring.{has_subject, resets_in, resets, held_within}
use Rattle.ss_machine_instructions.proofs.state.State.reset.Goals as goal

pub number-entity-requires : goal.number-entity-requires
number-entity-requires c = let z = c.requires in resets_in z.0 z.1 c.args.here c.args.self.now (Runs c.args.statistic c.args.entity.now) z.2 c.args.statistic c.args.entity.now z.2.runs.carries

pub held-held-requires : goal.held-held-requires
held-held-requires c = let z = c.requires in record { within = λ k e. held_within z.0 z.1 c.args.here c.args.self.now (Runs c.args.statistic c.args.entity.now) z.2 c.args.statistic k e }

pub reset-answer-requires : goal.reset-answer-requires
reset-answer-requires c =
    let z = c.requires in
    let has : HasValidSubject c.args.self.now.world c.args.statistic = has_subject z.0 z.1 c.args.here c.args.self.now (Runs c.args.statistic c.args.entity.now) z.2 c.args.statistic in
    record { subject = search rules }

pub returns : goal.returns
returns c = λ w core r.
    let at : (k : ℕ) → statistic_variable c.args.self.now.world.statistics c.args.statistic ≡ Some k → slice_get c.args.self.now.rows.numbers k ≡ Some c.held-held.result = c.held-held.ensures in
    let x = c.number-entity.result in
    let held = c.held-held.result in
    let same_x : to_z w64 (of_z w64 x) ≡ x = search rules in
    let same_held : to_z w64 (of_z w64 held) ≡ held = search rules in
    let changed_x = subst (λ (n : ℤ). (o : Option Value) → IsReferenceToSubject c.args.self.now.world c.args.statistic o n → HasChangedWhere (λ s. IsRight (reset c.args.statistic o s) × VariableHolds c.args.statistic (to_z w64 (of_z w64 held)) s) (reset c.args.statistic o) c.args.self.now.world c.reset-answer.new.self c.reset-answer.result) same_x c.reset-answer.ensures in
    let changed = subst (λ (h : ℤ). (o : Option Value) → IsReferenceToSubject c.args.self.now.world c.args.statistic o x → HasChangedWhere (λ s. IsRight (reset c.args.statistic o s) × VariableHolds c.args.statistic h s) (reset c.args.statistic o) c.args.self.now.world c.reset-answer.new.self c.reset-answer.result) same_held changed_x in
    resets w core c.args.here c.args.self.now (Runs c.args.statistic c.args.entity.now) r c.args.statistic c.args.entity.now c.number-entity.result c.held-held.result c.reset-answer.new.self c.reset-answer.result c.done.new.self (on_after c.args.here c.done.result) r.runs.carries c.number-entity.ensures at changed c.done.ensures.state (ap (on_after c.args.here) c.done.ensures.way)
