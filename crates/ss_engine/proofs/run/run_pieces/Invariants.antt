use Rattle.std.proofs.Common.{◌≡◌, ◌+◌, ◌≤◌, [], take}
use Rattle.ss_engine.proofs.Common.{CanGoOn, Failed, Generated, handed_out, HasBeenRun, HasRun, IsNewSession, last_stop, Paused, session_machine, sum}
use Rattle.ss_engine.proofs.run.run_pieces.Given as goal

abbrev pub invariant-loop-ticks : goal.invariant-loop-ticks
invariant-loop-ticks g l =
    let old = l.fn.session in
    let now = l.session in
    record {
      goes_on : l.stop ≡ Paused → CanGoOn now;
      stopped : l.stop ≡ last_stop (session_machine now).stopped;
      right : l.stop ≡ Failed → ⊥;
      was_run : (code : Generated) (reader : g.row.R.Denot) (writer : g.row.W.Denot) → IsNewSession code reader writer old → HasRun g.R.FaultyRead.remaining g.R.Faulty.faults g.W.FaultyWrite.contents g.W.Faulty.faults code reader writer [] old → HasBeenRun g.R.FaultyRead.remaining g.R.Faulty.faults g.W.FaultyWrite.contents g.W.Faulty.faults code reader writer (take (l.ticks-index + 1) l.pieces) now;
      used : (session_machine now).used ≤ sum (take (l.ticks-index + 1) l.pieces);
      paused : l.stop ≡ Paused → (session_machine now).used ≡ handed_out (take (l.ticks-index + 1) l.pieces);
    }
