use Rattle.std.proofs.Common.{rules, ◌≡◌, Err, ap, ◌∙◌, ◌<◌, length, sym, subst, to_z, of_z, w64}
use Rattle.ss_machine_instructions.proofs.Common.{assigned, attribute_noted, HasNoted, Integer, IsAssigned, Layout, MatchResult, modes_of, Seen, slice_get, Whole}
use Rattle.ss_code_instructions.specs.declared.instruction.Instruction.TheVariants.{SetAttribute as Runs}
use Rattle.ss_machine_instructions.proofs.Seeing.{mode_there, class_within}
use Rattle.ss_machine_instructions.proofs.Assigning.{sets_in, sets}
use Rattle.ss_machine_instructions.proofs.state.State.set_attribute.Goals as goal

pub number-entity-requires : goal.number-entity-requires
number-entity-requires c = let z = c.requires in (sets_in z.0 z.1 c.args.here c.args.self.now (Runs c.args.attribute.class c.args.attribute.field c.args.entity.now c.args.from.now c.args.attribute.noted) z.2 Integer c.args.attribute.class c.args.attribute.field c.args.entity.now c.args.from.now z.2.runs.carries.1).left

pub number-number-requires : goal.number-number-requires
number-number-requires c = let z = c.requires in (sets_in z.0 z.1 c.args.here c.args.self.now (Runs c.args.attribute.class c.args.attribute.field c.args.entity.now c.args.from.now c.args.attribute.noted) z.2 Integer c.args.attribute.class c.args.attribute.field c.args.entity.now c.args.from.now z.2.runs.carries.1).right

pub assign_number-answer-requires-clause-class : goal.assign_number-answer-requires-clause-class
assign_number-answer-requires-clause-class c =
    let z = c.requires in
    let there = mode_there z.0 z.1 c.args.here c.args.self.now (Runs c.args.attribute.class c.args.attribute.field c.args.entity.now c.args.from.now c.args.attribute.noted) z.2 c.args.attribute.class c.args.attribute.field Integer z.2.runs.carries.1.0 in
    let lt = class_within c.args.self.now.world.heap.layout.classes c.args.attribute.class c.args.attribute.field Integer there in
    search rules

pub assign_number-answer-requires-clause-mode : goal.assign_number-answer-requires-clause-mode
assign_number-answer-requires-clause-mode c =
    let z = c.requires in
    let there = mode_there z.0 z.1 c.args.here c.args.self.now (Runs c.args.attribute.class c.args.attribute.field c.args.entity.now c.args.from.now c.args.attribute.noted) z.2 c.args.attribute.class c.args.attribute.field Integer z.2.runs.carries.1.0 in
    search rules

pub assigned-requires-clause-class : goal.assigned-requires-clause-class
assigned-requires-clause-class c =
    let z = c.requires in
    let there = mode_there z.0 z.1 c.args.here c.args.self.now (Runs c.args.attribute.class c.args.attribute.field c.args.entity.now c.args.from.now c.args.attribute.noted) z.2 c.args.attribute.class c.args.attribute.field Integer z.2.runs.carries.1.0 in
    subst (λ (l : Layout). c.args.attribute.class < length l.classes) (sym c.assign_number-answer.ensures.layout) (class_within c.args.self.now.world.heap.layout.classes c.args.attribute.class c.args.attribute.field Integer there)

pub assigned-requires-clause-mode : goal.assigned-requires-clause-mode
assigned-requires-clause-mode c =
    let z = c.requires in
    let there = mode_there z.0 z.1 c.args.here c.args.self.now (Runs c.args.attribute.class c.args.attribute.field c.args.entity.now c.args.from.now c.args.attribute.noted) z.2 c.args.attribute.class c.args.attribute.field Integer z.2.runs.carries.1.0 in
    ap (λ (l : Layout). slice_get (modes_of l c.args.attribute.class) c.args.attribute.field) c.assign_number-answer.ensures.layout ∙ there

pub returns : goal.returns
returns c = λ w core r.
    let n = c.number-entity.result in let v = c.number-number.result in
    let s = c.args.self.now in
    let q = c.assign_number-answer.result in let e = c.assign_number-answer.new.world in
    let same_n : to_z w64 (of_z w64 n) ≡ n = search rules in
    let same_v : to_z w64 (of_z w64 v) ≡ v = search rules in
    let done : MatchResult q (λ _. IsAssigned s.world.heap c.args.attribute.class c.args.attribute.field n v e.heap) (λ kind. (assigned s.world.heap c.args.attribute.class c.args.attribute.field n (Whole v) ≡ Err kind) × (e.heap ≡ s.world.heap)) = simp (same_n, same_v) at c.assign_number-answer.ensures.done in
    let noted : HasNoted c.args.attribute.noted (attribute_noted c.args.attribute.class c.args.attribute.field n) q (record s { world = e }) c.assigned.new.self c.assigned.result = simp same_n at c.assigned.ensures in
    let after = subst (λ (x : Seen). HasNoted c.args.attribute.noted (attribute_noted c.args.attribute.class c.args.attribute.field n) q (record s { world = x }) c.assigned.new.self c.assigned.result) c.assign_number-answer.ensures.same noted in
    sets w core c.args.here s (Runs c.args.attribute.class c.args.attribute.field c.args.entity.now c.args.from.now c.args.attribute.noted) r c.args.attribute.class c.args.attribute.field c.args.entity.now c.args.from.now c.args.attribute.noted n v q e.heap c.assigned.new.self c.assigned.result r.runs.carries.0 r.runs.carries.1 c.number-entity.ensures c.number-number.ensures done c.assign_number-answer.ensures.layout after
