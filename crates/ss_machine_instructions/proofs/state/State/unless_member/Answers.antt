use Rattle.std.proofs.Common.{rules, ◌≡◌, ap, ◌∙◌, subst, to_z, of_z, w64}
use Rattle.ss_code_instructions.specs.declared.instruction.Instruction.TheVariants.{UnlessMember as Runs}
use Rattle.ss_machine_instructions.proofs.Common.{faulted_test, IsSuited, member_test, Seen, test_of, tested_at}
use Rattle.ss_machine_instructions.proofs.Placing.{suits}
use Rattle.ss_machine_instructions.proofs.Asking.{set_within, members_in, members}
use Rattle.ss_machine_instructions.proofs.state.State.unless_member.Goals as goal

pub number-member-requires : goal.number-member-requires
number-member-requires c = let z = c.requires in (members_in z.1.0 z.1.1 c.args.here c.args.self.now (Runs c.args.set c.args.both.0.now c.args.both.1.now z.0 c.args.negated) z.1.2 c.args.set z.0 c.args.negated c.args.both.0.now c.args.both.1.now z.1.2.runs.carries).0

pub number-owner-requires : goal.number-owner-requires
number-owner-requires c = let z = c.requires in (members_in z.1.0 z.1.1 c.args.here c.args.self.now (Runs c.args.set c.args.both.0.now c.args.both.1.now z.0 c.args.negated) z.1.2 c.args.set z.0 c.args.negated c.args.both.0.now c.args.both.1.now z.1.2.runs.carries).1

pub is_member-answer-requires : goal.is_member-answer-requires
is_member-answer-requires c =
    let z = c.requires in
    let y = subst (IsSuited z.1.0.program z.1.0.code z.1.1.place z.1.2.placed.locals z.1.2.placed.cells) z.1.2.runs.carries.2.2 (suits z.1.0 z.1.1 c.args.here c.args.self.now (Runs c.args.set c.args.both.0.now c.args.both.1.now z.0 c.args.negated) z.1.2) in
    let lt = set_within z.1.0 z.1.1 c.args.here c.args.self.now (Runs c.args.set c.args.both.0.now c.args.both.1.now z.0 c.args.negated) z.1.2 c.args.set z.1.2.runs.carries.2.0 y.0 in
    record { set = search rules }

pub returns : goal.returns
returns c = λ skip w core r.
    let x = c.number-member.result in let o = c.number-owner.result in let s = c.args.self.now in
    let same_x : to_z w64 (of_z w64 x) ≡ x = search rules in
    let same_o : to_z w64 (of_z w64 o) ≡ o = search rules in
    let test : c.is_member-answer.result ≡ member_test s.world.heap c.args.set o x = simp (same_x, same_o) at c.is_member-answer.ensures.value in
    members w core c.args.here s (Runs c.args.set c.args.both.0.now c.args.both.1.now skip c.args.negated) r c.args.set skip c.args.negated c.args.both.0.now c.args.both.1.now x o c.tested.new.self (tested_at c.args.here c.tested.result skip) r.runs.carries c.number-member.ensures c.number-owner.ensures
    (c.tested.ensures.state ∙ ap (λ (e : Seen). faulted_test c.is_member-answer.result (record s { world = e })) c.is_member-answer.ensures.same ∙ ap (λ q. faulted_test q s) test)
    (ap (λ o. tested_at c.args.here o skip) (c.tested.ensures.way ∙ ap (λ q. test_of q c.args.negated) test))
