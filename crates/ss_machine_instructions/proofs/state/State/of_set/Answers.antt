use Rattle.std.proofs.Common.{rules, ◌≡◌, ℤ, ap, sym, subst, to_z, of_z, w64}
use Rattle.ss_machine_instructions.proofs.Common.{act, as_value, asking_set, is_due, IsDelivering, on_after, Seen, set_answer}
use Rattle.ss_machine_instructions.proofs.Forms.{asked_of_set}
use Rattle.ss_machine_instructions.proofs.Setwork.{asks_set_in, asks_set, takes}
use Rattle.ss_machine_instructions.proofs.state.State.of_set.Goals as goal

pub number-owner-requires : goal.number-owner-requires
number-owner-requires c = let z = c.requires in (asks_set_in z.0 z.1 c.args.here c.args.self.now (asking_set c.args.query c.args.set c.args.owner.now c.args.to.now) z.2 c.args.query c.args.set c.args.owner.now c.args.to.now (asked_of_set z.0.code z.0.run.constants z.2.placed c.args.query c.args.set c.args.owner.now c.args.to.now z.2.runs.carries)).0

pub ask_set-answer-requires : goal.ask_set-answer-requires
ask_set-answer-requires c = let z = c.requires in record { set = (asks_set_in z.0 z.1 c.args.here c.args.self.now (asking_set c.args.query c.args.set c.args.owner.now c.args.to.now) z.2 c.args.query c.args.set c.args.owner.now c.args.to.now (asked_of_set z.0.code z.0.run.constants z.2.placed c.args.query c.args.set c.args.owner.now c.args.to.now z.2.runs.carries)).1 }

pub put-requires : goal.put-requires
put-requires c =
    let z = c.requires in let s = c.args.self.now in
    let n = c.number-owner.result in let q = c.ask_set-answer.result in
    let l = z.2.placed.line in let m = act z.0.code l z.2.placed.instruction z.1 in
    let same : to_z w64 (of_z w64 n) ≡ n = search rules in
    let e : q ≡ set_answer c.args.query s.world.heap c.args.set n = subst (λ (x : ℤ). q ≡ set_answer c.args.query s.world.heap c.args.set x) same c.ask_set-answer.ensures.value in
    let d = asks_set z.0 z.1 c.args.here s (asking_set c.args.query c.args.set c.args.owner.now c.args.to.now) z.2 c.args.query c.args.set c.args.owner.now c.args.to.now n q (asked_of_set z.0.code z.0.run.constants z.2.placed c.args.query c.args.set c.args.owner.now c.args.to.now z.2.runs.carries) c.number-owner.ensures e in
    (z.0, z.1, l, m, subst (λ (v : Seen). IsDelivering z.0 z.1 l m c.args.here (record s { world = v }) c.args.to.now (as_value q)) (sym c.ask_set-answer.ensures.same) d)

pub returns : goal.returns
returns c = λ w core r.
    let s = c.args.self.now in
    let n = c.number-owner.result in let q = c.ask_set-answer.result in
    let l = r.placed.line in let m = act w.code l r.placed.instruction core in
    let same : to_z w64 (of_z w64 n) ≡ n = search rules in
    let e : q ≡ set_answer c.args.query s.world.heap c.args.set n = subst (λ (x : ℤ). q ≡ set_answer c.args.query s.world.heap c.args.set x) same c.ask_set-answer.ensures.value in
    let d = asks_set w core c.args.here s (asking_set c.args.query c.args.set c.args.owner.now c.args.to.now) r c.args.query c.args.set c.args.owner.now c.args.to.now n q (asked_of_set w.code w.run.constants r.placed c.args.query c.args.set c.args.owner.now c.args.to.now r.runs.carries) c.number-owner.ensures e in
    let d' = subst (λ (v : Seen). IsDelivering w core l m c.args.here (record s { world = v }) c.args.to.now (as_value q)) (sym c.ask_set-answer.ensures.same) d in
    takes w core c.args.here s (asking_set c.args.query c.args.set c.args.owner.now c.args.to.now) r c.ask_set-answer.new.world c.put.new.self (on_after c.args.here c.put.result) (ap is_due (asked_of_set w.code w.run.constants r.placed c.args.query c.args.set c.args.owner.now c.args.to.now r.runs.carries).2.2) (c.put.ensures w core l m d')
