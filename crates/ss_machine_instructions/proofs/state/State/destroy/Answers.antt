use Rattle.std.proofs.Common.{rules, ◌≡◌, ℤ, subst, to_z, of_z, w64, ap}
use Rattle.ss_code_instructions.specs.declared.instruction.Instruction.TheVariants.{Destroy as Runs}
use Rattle.ss_machine_instructions.proofs.Common.{HasChanged, on_after, Whole, without}
use Rattle.ss_machine_instructions.proofs.Creating.{destroys_in, destroys_within, destroys_single, destroys}
use Rattle.ss_machine_instructions.proofs.state.State.destroy.Goals as goal

pub number-entity-requires : goal.number-entity-requires
number-entity-requires c = let z = c.requires in destroys_in z.0 z.1 c.args.here c.args.self.now (Runs c.args.class c.args.entity.now) z.2 c.args.class c.args.entity.now z.2.runs.carries

pub destroy-answer-requires-clause-class : goal.destroy-answer-requires-clause-class
destroy-answer-requires-clause-class c =
    let z = c.requires in
    let h = destroys_within z.0 z.1 c.args.here c.args.self.now (Runs c.args.class c.args.entity.now) z.2 c.args.class c.args.entity.now z.2.runs.carries in
    search rules

pub destroy-answer-requires-clause-single : goal.destroy-answer-requires-clause-single
destroy-answer-requires-clause-single c =
    let z = c.requires in
    let h = destroys_single z.0 z.1 c.args.here c.args.self.now (Runs c.args.class c.args.entity.now) z.2 c.args.class c.args.entity.now z.2.runs.carries in
    search rules

pub returns : goal.returns
returns c = λ w core r.
    let same : to_z w64 (of_z w64 c.number-entity.result) ≡ c.number-entity.result = search rules in
    let changed = subst (λ (x : ℤ). HasChanged (without c.args.class (Whole x)) c.args.self.now.world c.destroy-answer.new.self c.destroy-answer.result) same c.destroy-answer.ensures in
    destroys w core c.args.here c.args.self.now (Runs c.args.class c.args.entity.now) r c.args.class c.args.entity.now c.number-entity.result c.destroy-answer.new.self c.destroy-answer.result c.done.new.self (on_after c.args.here c.done.result) r.runs.carries c.number-entity.ensures changed c.done.ensures.state (ap (on_after c.args.here) c.done.ensures.way)
