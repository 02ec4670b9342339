use Rattle.std.proofs.Common.{rules, ◌≡◌, ℤ, ap, ◌∙◌, subst, to_z, of_z, w64}
use Rattle.ss_code_instructions.specs.declared.instruction.Instruction.TheVariants.{UnlessEmpty as Runs}
use Rattle.ss_machine_instructions.proofs.Common.{count_in, faulted_test, IsSuited, none_of, Seen, test_of, tested_at}
use Rattle.ss_machine_instructions.proofs.Placing.{suits}
use Rattle.ss_machine_instructions.proofs.Asking.{set_within, empties_in, empties}
use Rattle.ss_machine_instructions.proofs.state.State.unless_empty.Goals as goal

pub number-owner-requires : goal.number-owner-requires
number-owner-requires c = let z = c.requires in empties_in z.1.0 z.1.1 c.args.here c.args.self.now (Runs c.args.set c.args.owner.now z.0 c.args.negated) z.1.2 c.args.set z.0 c.args.negated c.args.owner.now z.1.2.runs.carries

pub ask_set-count-requires : goal.ask_set-count-requires
ask_set-count-requires c =
    let z = c.requires in
    let y = subst (IsSuited z.1.0.program z.1.0.code z.1.1.place z.1.2.placed.locals z.1.2.placed.cells) z.1.2.runs.carries.2 (suits z.1.0 z.1.1 c.args.here c.args.self.now (Runs c.args.set c.args.owner.now z.0 c.args.negated) z.1.2) in
    let lt = set_within z.1.0 z.1.1 c.args.here c.args.self.now (Runs c.args.set c.args.owner.now z.0 c.args.negated) z.1.2 c.args.set z.1.2.runs.carries.0 y.0 in
    record { set = search rules }

pub returns : goal.returns
returns c = λ skip w core r.
    let n = c.number-owner.result in let s = c.args.self.now in
    let same : to_z w64 (of_z w64 n) ≡ n = search rules in
    let value = subst (λ (x : ℤ). c.ask_set-count.result ≡ count_in s.world.heap c.args.set x) same c.ask_set-count.ensures.value in
    let test = c.are_none-answer.ensures ∙ ap none_of value in
    empties w core c.args.here s (Runs c.args.set c.args.owner.now skip c.args.negated) r c.args.set skip c.args.negated c.args.owner.now n c.tested.new.self (tested_at c.args.here c.tested.result skip) r.runs.carries c.number-owner.ensures
    (c.tested.ensures.state ∙ ap (λ (e : Seen). faulted_test c.are_none-answer.result (record s { world = e })) c.ask_set-count.ensures.same ∙ ap (λ q. faulted_test q s) test)
    (ap (λ o. tested_at c.args.here o skip) (c.tested.ensures.way ∙ ap (λ q. test_of q c.args.negated) test))
