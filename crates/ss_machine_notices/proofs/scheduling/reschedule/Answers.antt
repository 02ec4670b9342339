use Rattle.std.proofs.Common.{rules, ◌≡◌, to_z, of_z, w64, ap}
use Rattle.ss_machine_notices.proofs.Common.{frame_small, IsSettledWithMemory, on_after, rescheduled, Whole}
use Rattle.ss_machine_notices.proofs.Notices.{again_in, again_room, again_gives, reschedules}
use Rattle.ss_machine_notices.proofs.scheduling.reschedule.Goals as goal

pub number-notice-requires : goal.number-notice-requires
number-notice-requires c = again_in c.requires.2

pub cell-from-requires : goal.cell-from-requires
cell-from-requires c = frame_small _ _ _ _ _ c.requires.2

pub number_at-time-requires : goal.number_at-time-requires
number_at-time-requires c = again_room c.requires.2 c.cell-from.result c.cell-from.ensures

pub schedule_again-answer-requires : goal.schedule_again-answer-requires
schedule_again-answer-requires c = again_gives c.requires.2 c.cell-from.result c.cell-from.ensures

pub returns : goal.returns
returns c = λ w core r.
    let n = c.number-notice.result in let t = c.number_at-time.result in
    let e = c.schedule_again-answer.new.world in let q = c.schedule_again-answer.result in
    let same : to_z w64 (of_z w64 t) ≡ t = search rules in
    let same_n : to_z w64 (of_z w64 n) ≡ n = search rules in
    let g = again_gives r c.cell-from.result c.cell-from.ensures in
    let did : IsSettledWithMemory core.store (rescheduled c.args.values.class (Whole n) g.values t) c.args.state.now.world e q = simp (same, same_n) at (c.schedule_again-answer.ensures g) in
    reschedules r c.cell-from.result c.cell-from.ensures n t e q c.settled.new.state (on_after c.args.here c.settled.result) c.number-notice.ensures c.number_at-time.ensures did c.settled.ensures.state (ap (on_after c.args.here) c.settled.ensures.way)
