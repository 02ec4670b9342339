use Rattle.std.proofs.Common.{rules, ◌≡◌, Ok, Err, ap, ◌∙◌, to_z, of_z, w64}
use Rattle.ss_machine_instructions.proofs.Common.{Alpha, assigned, faulted_by, MatchResult, on_after, Seen, Text}
use Rattle.ss_code_instructions.specs.declared.instruction.Instruction.TheVariants.{SetTextAttribute as Runs}
use Rattle.ss_machine_instructions.proofs.Seeing.{mode_there, class_within}
use Rattle.ss_machine_instructions.proofs.Assigning.{sets_in, sets_text}
use Rattle.ss_machine_instructions.proofs.state.State.set_text_attribute.Goals as goal

pub number-entity-requires : goal.number-entity-requires
number-entity-requires c = let z = c.requires in (sets_in z.0 z.1 c.args.here c.args.self.now (Runs c.args.class c.args.field c.args.entity.now c.args.from.now) z.2 Alpha c.args.class c.args.field c.args.entity.now c.args.from.now z.2.runs.carries.1).left

pub text-text-requires : goal.text-text-requires
text-text-requires c = let z = c.requires in (sets_in z.0 z.1 c.args.here c.args.self.now (Runs c.args.class c.args.field c.args.entity.now c.args.from.now) z.2 Alpha c.args.class c.args.field c.args.entity.now c.args.from.now z.2.runs.carries.1).right

pub assign_text-answer-requires-clause-class : goal.assign_text-answer-requires-clause-class
assign_text-answer-requires-clause-class c =
    let z = c.requires in
    let there = mode_there z.0 z.1 c.args.here c.args.self.now (Runs c.args.class c.args.field c.args.entity.now c.args.from.now) z.2 c.args.class c.args.field Alpha z.2.runs.carries.1.0 in
    let lt = class_within c.args.self.now.world.heap.layout.classes c.args.class c.args.field Alpha there in
    search rules

pub assign_text-answer-requires-clause-mode : goal.assign_text-answer-requires-clause-mode
assign_text-answer-requires-clause-mode c =
    let z = c.requires in
    let there = mode_there z.0 z.1 c.args.here c.args.self.now (Runs c.args.class c.args.field c.args.entity.now c.args.from.now) z.2 c.args.class c.args.field Alpha z.2.runs.carries.1.0 in
    search rules

pub returns : goal.returns
returns c = λ w core r.
    let n = c.number-entity.result in let t = c.text-text.result in
    let s = c.args.self.now in
    let q = c.assign_text-answer.result in let e = c.assign_text-answer.new.world in
    let same_n : to_z w64 (of_z w64 n) ≡ n = search rules in
    let done : MatchResult q (λ _. assigned s.world.heap c.args.class c.args.field n (Text t) ≡ Ok e.heap) (λ kind. (assigned s.world.heap c.args.class c.args.field n (Text t) ≡ Err kind) × (e.heap ≡ s.world.heap)) = simp same_n at c.assign_text-answer.ensures.done in
    sets_text w core c.args.here s (Runs c.args.class c.args.field c.args.entity.now c.args.from.now) r c.args.class c.args.field c.args.entity.now c.args.from.now n t q e.heap c.done.new.self (on_after c.args.here c.done.result) r.runs.carries.0 r.runs.carries.1 c.number-entity.ensures c.text-text.ensures done
    (c.done.ensures.state ∙ ap (λ (x : Seen). faulted_by q (record s { world = x })) c.assign_text-answer.ensures.same) (ap (on_after c.args.here) c.done.ensures.way)
