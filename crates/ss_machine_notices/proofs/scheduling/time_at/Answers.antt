use Rattle.std.proofs.Common.{rules, ◌≡◌, ap, to_z, of_z, w64}
use Rattle.ss_machine_notices.proofs.Common.{calm, HasAnswer, is_due, not_past, on_after}
use Rattle.ss_machine_notices.proofs.Times.{at_in, ats}
use Rattle.ss_machine_notices.proofs.scheduling.time_at.Goals as goal

pub number-time-requires : goal.number-time-requires
number-time-requires c = at_in c.requires.2

pub put-requires : goal.put-requires
put-requires c =
    let n = c.number-time.result in
    let same : to_z w64 (of_z w64 n) ≡ n = search rules in
    let looks : HasAnswer (not_past n) c.args.state.now.world c.time_at-answer.result = simp same at c.time_at-answer.ensures in
    (c.requires.0, c.requires.1, c.requires.2.placed.line, _, ats c.requires.2 n c.time_at-answer.result c.number-time.ensures looks)

pub returns : goal.returns
returns c = λ w core r.
    let n = c.number-time.result in
    let same : to_z w64 (of_z w64 n) ≡ n = search rules in
    let looks : HasAnswer (not_past n) c.args.state.now.world c.time_at-answer.result = simp same at c.time_at-answer.ensures in
    calm w core c.args.here c.args.state.now _ r c.put.new.self (on_after c.args.here c.put.result) (ap is_due r.runs.carries.2.2) (c.put.ensures w core r.placed.line _ (ats r n c.time_at-answer.result c.number-time.ensures looks))
