use Rattle.std.proofs.Common.{rules, ◌≡◌, to_z, of_z, w64, ap}
use Rattle.ss_machine_notices.proofs.Common.{HasChanged, on_after, unscheduled, Whole}
use Rattle.ss_machine_notices.proofs.Times.{cancels_in, cancels}
use Rattle.ss_machine_notices.proofs.scheduling.cancel.Goals as goal

pub number-notice-requires : goal.number-notice-requires
number-notice-requires c = (cancels_in c.requires.2).0

pub cancel-answer-requires : goal.cancel-answer-requires
cancel-answer-requires c = record { class = (cancels_in c.requires.2).1 }

pub returns : goal.returns
returns c = λ w core r.
    let n = c.number-notice.result in let e = c.cancel-answer.new.self in let q = c.cancel-answer.result in
    let same : to_z w64 (of_z w64 n) ≡ n = search rules in
    let gone : HasChanged (unscheduled c.args.class (Whole n)) c.args.state.now.world e q = simp same at c.cancel-answer.ensures in
    cancels r n e q c.done.new.self (on_after c.args.here c.done.result) c.number-notice.ensures gone c.done.ensures.state (ap (on_after c.args.here) c.done.ensures.way)
