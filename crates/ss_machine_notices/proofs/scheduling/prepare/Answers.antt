use Rattle.std.proofs.Common.{rules, ◌≡◌, to_z, of_z, w64}
use Rattle.ss_machine_notices.proofs.Common.{HasRearranged, timed}
use Rattle.ss_machine_notices.proofs.Giving.{not_endowed, time_set}
use Rattle.ss_machine_notices.proofs.scheduling.prepare.Goals as goal

pub returns-in-Err : goal.returns-in-Err
returns-in-Err c = λ g. not_endowed c.args.what.class c.args.what.notice c.args.what.noted c.args.what.from c.args.given c.args.rows.now c.args.world.now g c.args.time c.in-Err.kind (c.in-Err.ensures g)

pub returns-in-Ok : goal.returns-in-Ok
returns-in-Ok c = λ g.
    let n = c.args.what.notice in let t = c.args.time in
    let mid = c.give.new.world in let new = c.set_time.new.world in let q = c.set_time.result in
    let same_n : to_z w64 (of_z w64 n) ≡ n = search rules in
    let same_t : to_z w64 (of_z w64 t) ≡ t = search rules in
    let re : HasRearranged (λ h. timed h n t) mid new q = simp (same_n, same_t) at c.set_time.ensures in
    time_set c.args.what.class c.args.what.notice c.args.what.noted c.args.what.from c.args.given c.args.rows.now c.args.world.now g t mid new q (c.in-Ok.ensures g) re
