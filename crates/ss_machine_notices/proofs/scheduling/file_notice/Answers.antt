use Rattle.std.proofs.Common.{rules, ◌≡◌, to_z, of_z, w64, ap}
use Rattle.ss_machine_notices.proofs.Common.{filed_notice, HasChangedWithMemory, on_after, Whole}
use Rattle.ss_machine_notices.proofs.Times.{file_notice_in, file_notices}
use Rattle.ss_machine_notices.proofs.scheduling.file_notice.Goals as goal

pub number-notice-requires : goal.number-notice-requires
number-notice-requires c = (file_notice_in c.requires.2).0.left

pub number-time-requires : goal.number-time-requires
number-time-requires c = (file_notice_in c.requires.2).0.right

pub schedule-answer-requires : goal.schedule-answer-requires
schedule-answer-requires c = record { notices = (file_notice_in c.requires.2).1 }

pub returns : goal.returns
returns c = λ w core r.
    let n = c.number-notice.result in let t = c.number-time.result in
    let e = c.schedule-answer.new.world in let q = c.schedule-answer.result in
    let same_n : to_z w64 (of_z w64 n) ≡ n = search rules in
    let same_t : to_z w64 (of_z w64 t) ≡ t = search rules in
    let filed : HasChangedWithMemory (filed_notice c.args.class (Whole n) t) c.args.state.now.world e q = simp (same_n, same_t) at c.schedule-answer.ensures in
    file_notices r n t e q c.settled.new.state (on_after c.args.here c.settled.result) c.number-notice.ensures c.number-time.ensures filed c.settled.ensures.state (ap (on_after c.args.here) c.settled.ensures.way)
