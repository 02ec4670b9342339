use Rattle.std.proofs.Common.{rules, ◌≡◌, ℤ, subst, to_z, of_z, w64, ap}
use Rattle.ss_code_instructions.specs.declared.instruction.Instruction.TheVariants.{FileLast as Runs}
use Rattle.ss_code_instructions.specs.Instructions.{Last}
use Rattle.ss_machine_instructions.proofs.Common.{HasFiled, Hindmost, on_after}
use Rattle.ss_machine_instructions.proofs.Setwork.{file_within, files_by, last_positions}
use Rattle.ss_machine_instructions.proofs.state.State.file_last.Goals as goal

pub number-member-requires : goal.number-member-requires
number-member-requires c = let z = c.requires in (file_within z.0 z.1 c.args.here c.args.self.now (Runs c.args.set c.args.member.now c.args.owner.now c.args.noted) z.2 Last c.args.set c.args.member.now c.args.owner.now z.2.runs.carries.1).member_place

pub number-owner-requires : goal.number-owner-requires
number-owner-requires c = let z = c.requires in (file_within z.0 z.1 c.args.here c.args.self.now (Runs c.args.set c.args.member.now c.args.owner.now c.args.noted) z.2 Last c.args.set c.args.member.now c.args.owner.now z.2.runs.carries.1).owner_place

pub put_last-answer-requires : goal.put_last-answer-requires
put_last-answer-requires c = let z = c.requires in record { set = (file_within z.0 z.1 c.args.here c.args.self.now (Runs c.args.set c.args.member.now c.args.owner.now c.args.noted) z.2 Last c.args.set c.args.member.now c.args.owner.now z.2.runs.carries.1).set_place }

pub returns : goal.returns
returns c = λ w core r.
    let s = c.args.self.now in let set = c.args.set in let notes = c.args.noted in
    let n = c.number-member.result in let m = c.number-owner.result in
    let e = c.put_last-answer.new.world in let q = c.put_last-answer.result in
    let same_n : to_z w64 (of_z w64 n) ≡ n = search rules in
    let same_m : to_z w64 (of_z w64 m) ≡ m = search rules in
    let filed = subst (λ (y : ℤ). HasFiled Hindmost set notes s.world e q y n) same_m (subst (λ (x : ℤ). HasFiled Hindmost set notes s.world e q (to_z w64 (of_z w64 m)) x) same_n c.put_last-answer.ensures) in
    files_by w core c.args.here s (Runs c.args.set c.args.member.now c.args.owner.now c.args.noted) r Last Hindmost c.args.set c.args.member.now c.args.owner.now n m notes e q c.done.new.self (on_after c.args.here c.done.result) (last_positions w core c.args.here s (Runs c.args.set c.args.member.now c.args.owner.now c.args.noted) r) tt r.runs.carries.0 r.runs.carries.1 c.number-member.ensures c.number-owner.ensures filed (c.done.ensures.state, ap (on_after c.args.here) c.done.ensures.way)
