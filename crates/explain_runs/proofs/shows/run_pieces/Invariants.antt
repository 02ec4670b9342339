use Rattle.std.proofs.Common.{◌≡◌, ℕ, ◌≤◌, List, []}
use Rattle.ss_code.specs.Running.{Generated}
use Rattle.ss_engine.specs.Accepting.{IsCompiledTo}
use Rattle.ss_engine.specs.Cuts.{HasBeenCut}
use Rattle.ss_engine.specs.Headline.{IsSimulated}
use Rattle.ss_engine.specs.Sessions.{CanGoOn, HasRun, session_machine, session_reader, session_writer}
use Rattle.ss_machine.specs.declared.stop.Stop.TheVariants.{Paused}
use Rattle.explain_runs.proofs.shows.run_pieces.Given as goal

-- the session has run some pieces, of which the last stopped so
abbrev pub invariant-loop : goal.invariant-loop
invariant-loop g l =
    let old = l.fn.session in
    let now = l.session in
    record {
      goes_on : CanGoOn old → l.stop ≡ Paused → CanGoOn now;
      ran : (code : Generated) (reader : g.row.R.Denot) (writer : g.row.W.Denot) → HasRun g.R.FaultyRead.remaining g.R.Faulty.faults g.W.FaultyWrite.contents g.W.Faulty.faults code reader writer [] old → (pieces : List ℕ) × HasRun g.R.FaultyRead.remaining g.R.Faulty.faults g.W.FaultyWrite.contents g.W.Faulty.faults code reader writer pieces now;
      meant : CanGoOn old → (text : List ℕ) (code : Generated) (reader : g.row.R.Denot) (writer : g.row.W.Denot) → IsCompiledTo text code → HasRun g.R.FaultyRead.remaining g.R.Faulty.faults g.W.FaultyWrite.contents g.W.Faulty.faults code reader writer [] old → IsSimulated g.R.FaultyRead.remaining g.W.FaultyWrite.contents text l.stop (session_machine now).used reader (session_reader now) writer (session_writer now);
      cut : CanGoOn old → (text : List ℕ) (code : Generated) (reader : g.row.R.Denot) (writer : g.row.W.Denot) → IsCompiledTo text code → HasRun g.R.FaultyRead.remaining g.R.Faulty.faults g.W.FaultyWrite.contents g.W.Faulty.faults code reader writer [] old → HasBeenCut g.R.FaultyRead.remaining g.W.FaultyWrite.contents text l.stop (session_machine now).used reader (session_reader now) writer (session_writer now);
      used : (session_machine old).used ≡ 0 → (session_machine now).used ≤ l.fn.shown.count;
      least : CanGoOn old → l.stop ≡ Paused → l.counter ≤ (session_machine now).used;
    }
