use Rattle.std.proofs.Common.{rules, ◌≡◌, ℤ, refl, subst, to_z, of_z, w64, false, ap}
use Rattle.ss_code_instructions.specs.Instructions.{Before}
use Rattle.ss_machine_instructions.proofs.Common.{HasFiled, JustBefore, on_after, Whole}
use Rattle.ss_code_instructions.specs.declared.instruction.Instruction.TheVariants.{FileBeside as Runs}
use Rattle.ss_machine_instructions.proofs.Setwork.{file_within, beside_within, files_by, before_positions}
use Rattle.ss_machine_instructions.proofs.state.State.file_before.Goals as goal

pub number-member-requires : goal.number-member-requires
number-member-requires c = let z = c.requires in (file_within z.0 z.1 c.args.here c.args.self.now (Runs c.args.filing.noted false c.args.filing.set c.args.member.now c.args.beside.now c.args.owner.now) z.2 (Before z.2.runs.carries.1.0) c.args.filing.set c.args.member.now c.args.owner.now z.2.runs.carries.1.2).member_place

pub number-beside-requires : goal.number-beside-requires
number-beside-requires c = let z = c.requires in beside_within z.0 z.1 c.args.here c.args.self.now (Runs c.args.filing.noted false c.args.filing.set c.args.member.now c.args.beside.now c.args.owner.now) z.2 (Before z.2.runs.carries.1.0) z.2.runs.carries.1.0 c.args.filing.set c.args.beside.now c.args.member.now c.args.owner.now (λ over above g. g) z.2.runs.carries.1.1 z.2.runs.carries.1.2

pub number-owner-requires : goal.number-owner-requires
number-owner-requires c = let z = c.requires in (file_within z.0 z.1 c.args.here c.args.self.now (Runs c.args.filing.noted false c.args.filing.set c.args.member.now c.args.beside.now c.args.owner.now) z.2 (Before z.2.runs.carries.1.0) c.args.filing.set c.args.member.now c.args.owner.now z.2.runs.carries.1.2).owner_place

pub put_before-answer-requires : goal.put_before-answer-requires
put_before-answer-requires c = let z = c.requires in record { set = (file_within z.0 z.1 c.args.here c.args.self.now (Runs c.args.filing.noted false c.args.filing.set c.args.member.now c.args.beside.now c.args.owner.now) z.2 (Before z.2.runs.carries.1.0) c.args.filing.set c.args.member.now c.args.owner.now z.2.runs.carries.1.2).set_place }

pub returns : goal.returns
returns c = λ w core r.
    let s = c.args.self.now in let set = c.args.filing.set in let notes = c.args.filing.noted in
    let n = c.number-member.result in let m = c.number-owner.result in let k = c.number-beside.result in
    let e = c.put_before-answer.new.world in let q = c.put_before-answer.result in
    let same_n : to_z w64 (of_z w64 n) ≡ n = search rules in
    let same_m : to_z w64 (of_z w64 m) ≡ m = search rules in
    let same_k : to_z w64 (of_z w64 k) ≡ k = search rules in
    let raw = subst (λ (v : ℤ). HasFiled (JustBefore (Whole v)) set notes s.world e q (to_z w64 (of_z w64 m)) (to_z w64 (of_z w64 n))) same_k c.put_before-answer.ensures in
    let filed = subst (λ (y : ℤ). HasFiled (JustBefore (Whole k)) set notes s.world e q y n) same_m (subst (λ (x : ℤ). HasFiled (JustBefore (Whole k)) set notes s.world e q (to_z w64 (of_z w64 m)) x) same_n raw) in
    files_by w core c.args.here s (Runs c.args.filing.noted false c.args.filing.set c.args.member.now c.args.beside.now c.args.owner.now) r (Before r.runs.carries.1.0) (JustBefore (Whole k)) c.args.filing.set c.args.member.now c.args.owner.now n m notes e q c.done.new.self (on_after c.args.here c.done.result) (before_positions w core c.args.here s (Runs c.args.filing.noted false c.args.filing.set c.args.member.now c.args.beside.now c.args.owner.now) r r.runs.carries.1.0 c.args.beside.now k r.runs.carries.1.1 c.number-beside.ensures) refl r.runs.carries.0 r.runs.carries.1.2 c.number-member.ensures c.number-owner.ensures filed (c.done.ensures.state, ap (on_after c.args.here) c.done.ensures.way)
