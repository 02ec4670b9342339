use Rattle.std.proofs.Common.{ap, ◌∙◌, ℕ, List, [], ◌∷◌, ◌++◌}
use Rattle.ss_engine.proofs.Common.{Generated, HasRun, kept_after, Session, session_machine}
use Rattle.ss_engine.proofs.Sessions.{session_same}
use Rattle.ss_engine.proofs.Running.{either_stop, last_some, runs_again, runs_on}
use Rattle.ss_engine.proofs.session.Session.run.Goals as goal

-- the machine ran
pub returns : goal.returns
returns g c =
    let old = c.args.self.now in
    let new : Session g.row.R.Denot g.row.W.Denot = record { machine = c.run.new.self; source = c.run.new.source; sink = c.run.new.sink } in
    let r = c.run.ensures in
    let remaining = g.R.FaultyRead.remaining in
    let read_faults = g.R.Faulty.faults in
    let contents = g.W.FaultyWrite.contents in
    let write_faults = g.W.Faulty.faults in
    let runs : (code : Generated) (reader : g.row.R.Denot) (writer : g.row.W.Denot) (pieces : List ℕ) → HasRun remaining read_faults contents write_faults code reader writer pieces old → HasRun remaining read_faults contents write_faults code reader writer (pieces ++ c.args.ticks ∷ []) new = λ code reader writer pieces h.
    either_stop (session_machine old).stopped
    (λ stop e.
    let s = r.again stop e in
    runs_again remaining read_faults contents write_faults code reader writer pieces c.args.ticks old new h stop e (session_same new old s.1 s.2 s.3))
    (λ e.
    let on = h.goes_on e in
    runs_on remaining read_faults contents write_faults code reader writer pieces c.args.ticks old new h c.laws_of_pieces.ensures.steps_go_on c.run.result e (r.ran e) (r.never_failed e) (r.stopped e) r.code r.used.0 r.used.1 (r.within e) r.steps (r.paused e)
    (λ q. record { unstopped = r.stopped e ∙ ap kept_after q; unmissed = r.unmissed e q })
    r.end (r.output e) (r.input e) r.never_falls r.read_never_falls) in
    record {
      again = λ before s.
          let e = r.again before s in
          (e.0, session_same new old e.1 e.2 e.3);
      ran = λ on. r.ran on.unstopped;
      has_run = runs;
      meant = λ text code reader writer pieces compiled h. c.sessions_are_meant.ensures new text code reader writer (pieces ++ c.args.ticks ∷ []) compiled (last_some pieces c.args.ticks) (runs code reader writer pieces h);
      goes_on = λ on q. record { unstopped = r.stopped on.unstopped ∙ ap kept_after q; unmissed = r.unmissed on.unstopped q };
      never_failed = λ on. r.never_failed on.unstopped;
      stopped = λ on. r.stopped on.unstopped;
      code = r.code;
      end = r.end;
      used = r.used;
      within = λ on. r.within on.unstopped;
      paused = λ on. r.paused on.unstopped;
      output = λ on. r.output on.unstopped;
      input = λ on. r.input on.unstopped;
      steps = r.steps;
      never_falls = r.never_falls;
      read_never_falls = r.read_never_falls;
    }
