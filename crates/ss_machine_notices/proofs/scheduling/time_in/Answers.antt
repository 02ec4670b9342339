use Rattle.std.proofs.Common.{rules, ◌≡◌, ap, to_z, of_z, w64}
use Rattle.ss_machine_notices.proofs.Common.{calm, HasAnswer, is_due, on_after, time_after}
use Rattle.ss_machine_notices.proofs.Times.{in_in, ins}
use Rattle.ss_machine_notices.proofs.scheduling.time_in.Goals as goal

pub number-units-requires : goal.number-units-requires
number-units-requires c = in_in c.requires.2

pub put-requires : goal.put-requires
put-requires c =
    let n = c.number-units.result in
    let same : to_z w64 (of_z w64 n) ≡ n = search rules in
    let looks : HasAnswer (time_after n) c.args.state.now.world c.time_in-answer.result = simp same at c.time_in-answer.ensures in
    (c.requires.0, c.requires.1, c.requires.2.placed.line, _, ins c.requires.2 n c.time_in-answer.result c.number-units.ensures looks)

pub returns : goal.returns
returns c = λ w core r.
    let n = c.number-units.result in
    let same : to_z w64 (of_z w64 n) ≡ n = search rules in
    let looks : HasAnswer (time_after n) c.args.state.now.world c.time_in-answer.result = simp same at c.time_in-answer.ensures in
    calm w core c.args.here c.args.state.now _ r c.put.new.self (on_after c.args.here c.put.result) (ap is_due r.runs.carries.2.2) (c.put.ensures w core r.placed.line _ (ins r n c.time_in-answer.result c.number-units.ensures looks))
