use Rattle.std.proofs.Common.{rules, ◌≡◌, Err, ap, ◌∙◌, ◌<◌, length, sym, subst, to_z, of_z, w64}
use Rattle.ss_machine_instructions.proofs.Common.{attribute_noted, changed_number, computed, HasNoted, Integer, IsChanged, Layout, MatchResult, modes_of, operator_of, Seen, slice_get, value_in}
use Rattle.ss_code_instructions.specs.declared.instruction.Instruction.TheVariants.{ChangeAttribute as Runs}
use Rattle.ss_machine_instructions.proofs.Seeing.{class_within}
use Rattle.ss_machine_instructions.proofs.Assigning.{changes_in, changes_mode, changes_by}
use Rattle.ss_machine_instructions.proofs.state.State.change_attribute.Goals as goal

pub number-entity-requires : goal.number-entity-requires
number-entity-requires c = let z = c.requires in (changes_in z.0 z.1 c.args.here c.args.self.now (Runs c.args.attribute.class c.args.attribute.field c.args.entity.now c.args.by.now c.args.sign c.args.attribute.noted) z.2 c.args.sign c.args.attribute.class c.args.attribute.field c.args.entity.now c.args.by.now z.2.runs.carries.1).left

pub number-number-requires : goal.number-number-requires
number-number-requires c = let z = c.requires in (changes_in z.0 z.1 c.args.here c.args.self.now (Runs c.args.attribute.class c.args.attribute.field c.args.entity.now c.args.by.now c.args.sign c.args.attribute.noted) z.2 c.args.sign c.args.attribute.class c.args.attribute.field c.args.entity.now c.args.by.now z.2.runs.carries.1).right

pub change-answer-requires-clause-class : goal.change-answer-requires-clause-class
change-answer-requires-clause-class c =
    let z = c.requires in
    let there = changes_mode z.0 z.1 c.args.here c.args.self.now (Runs c.args.attribute.class c.args.attribute.field c.args.entity.now c.args.by.now c.args.sign c.args.attribute.noted) z.2 c.args.sign c.args.attribute.class c.args.attribute.field c.args.entity.now c.args.by.now z.2.runs.carries.1 in
    let lt = class_within c.args.self.now.world.heap.layout.classes c.args.attribute.class c.args.attribute.field Integer there in
    search rules

pub change-answer-requires-clause-mode : goal.change-answer-requires-clause-mode
change-answer-requires-clause-mode c =
    let z = c.requires in
    let there = changes_mode z.0 z.1 c.args.here c.args.self.now (Runs c.args.attribute.class c.args.attribute.field c.args.entity.now c.args.by.now c.args.sign c.args.attribute.noted) z.2 c.args.sign c.args.attribute.class c.args.attribute.field c.args.entity.now c.args.by.now z.2.runs.carries.1 in
    search rules

pub assigned-requires-clause-class : goal.assigned-requires-clause-class
assigned-requires-clause-class c =
    let z = c.requires in
    let there = changes_mode z.0 z.1 c.args.here c.args.self.now (Runs c.args.attribute.class c.args.attribute.field c.args.entity.now c.args.by.now c.args.sign c.args.attribute.noted) z.2 c.args.sign c.args.attribute.class c.args.attribute.field c.args.entity.now c.args.by.now z.2.runs.carries.1 in
    subst (λ (l : Layout). c.args.attribute.class < length l.classes) (sym c.change-answer.ensures.layout) (class_within c.args.self.now.world.heap.layout.classes c.args.attribute.class c.args.attribute.field Integer there)

pub assigned-requires-clause-mode : goal.assigned-requires-clause-mode
assigned-requires-clause-mode c =
    let z = c.requires in
    let there = changes_mode z.0 z.1 c.args.here c.args.self.now (Runs c.args.attribute.class c.args.attribute.field c.args.entity.now c.args.by.now c.args.sign c.args.attribute.noted) z.2 c.args.sign c.args.attribute.class c.args.attribute.field c.args.entity.now c.args.by.now z.2.runs.carries.1 in
    ap (λ (l : Layout). slice_get (modes_of l c.args.attribute.class) c.args.attribute.field) c.change-answer.ensures.layout ∙ there

pub returns : goal.returns
returns c = λ w core r.
    let n = c.number-entity.result in let v = c.number-number.result in
    let s = c.args.self.now in
    let q = c.change-answer.result in let e = c.change-answer.new.world in
    let same_n : to_z w64 (of_z w64 n) ≡ n = search rules in
    let same_v : to_z w64 (of_z w64 v) ≡ v = search rules in
    let done : MatchResult q (λ _. IsChanged (λ z. computed (operator_of c.args.sign) z v) s.world.heap c.args.attribute.class c.args.attribute.field n e.heap) (λ kind. (changed_number (λ z. computed (operator_of c.args.sign) z v) (value_in s.world.heap c.args.attribute.class c.args.attribute.field n) ≡ Err kind) × (e.heap ≡ s.world.heap)) = simp (same_n, same_v) at c.change-answer.ensures.done in
    let noted : HasNoted c.args.attribute.noted (attribute_noted c.args.attribute.class c.args.attribute.field n) q (record s { world = e }) c.assigned.new.self c.assigned.result = simp same_n at c.assigned.ensures in
    let after = subst (λ (x : Seen). HasNoted c.args.attribute.noted (attribute_noted c.args.attribute.class c.args.attribute.field n) q (record s { world = x }) c.assigned.new.self c.assigned.result) c.change-answer.ensures.same noted in
    changes_by w core c.args.here s (Runs c.args.attribute.class c.args.attribute.field c.args.entity.now c.args.by.now c.args.sign c.args.attribute.noted) r c.args.sign c.args.attribute.class c.args.attribute.field c.args.entity.now c.args.by.now c.args.attribute.noted n v q e.heap c.assigned.new.self c.assigned.result r.runs.carries.0 r.runs.carries.1 c.number-entity.ensures c.number-number.ensures done c.change-answer.ensures.layout after
