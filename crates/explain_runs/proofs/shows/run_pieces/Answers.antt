use Rattle.std.proofs.Common.{◌≡◌, ◌+◌, ◌≤◌, [], ◌∷◌, ◌++◌, sym, ap, subst, ◌∙◌, arith}
use Rattle.ss_engine.specs.Cuts.{HasBeenCut}
use Rattle.ss_engine.specs.Headline.{IsSimulated}
use Rattle.ss_engine.specs.Sessions.{CanGoOn, HasRun, last_stop, session_machine, session_reader, session_writer}
use Rattle.ss_engine.specs.declared.session.Session.{Session}
use Rattle.explain_runs.proofs.Pieces.{kept_stop, one_used, within}
use Rattle.explain_runs.proofs.shows.run_pieces.Goals as goal

pub loop-preserved : goal.loop-preserved
loop-preserved g c =
    let i = c.loop.invariant in
    let e = c.run-stop-in-loop.ensures in
    let next = c.in-Some.ensures in
    let before = c.loop.session in
    let ran = c.run-stop-in-loop.new.self in
    let stop = c.run-stop-in-loop.result in
    let same : c.show-in-loop.new.session ≡ ran = c.show-in-loop.ensures in
    let remaining = g.R.FaultyRead.remaining in
    let read_faults = g.R.Faulty.faults in
    let contents = g.W.FaultyWrite.contents in
    let write_faults = g.W.Faulty.faults in
    record {
      goes_on = λ on p. subst (λ (s : Session g.row.R.Denot g.row.W.Denot). CanGoOn s) (sym same) (e.goes_on (i.goes_on on next.paused) p);
      ran = λ code reader writer h.
          let w = i.ran code reader writer h in
          (w.0 ++ c.in-Some.ticks ∷ [], subst (λ s. HasRun remaining read_faults contents write_faults code reader writer (w.0 ++ c.in-Some.ticks ∷ []) s) (sym same) (e.has_run code reader writer w.0 w.1));
      meant = λ on text code reader writer compiled h.
          let w = i.ran code reader writer h in
          let stopped : last_stop (session_machine ran).stopped ≡ stop = ap last_stop (e.stopped (i.goes_on on next.paused)) ∙ kept_stop stop in
          subst (λ s. IsSimulated remaining contents text stop (session_machine s).used reader (session_reader s) writer (session_writer s)) (sym same)
          (subst (λ t. IsSimulated remaining contents text t (session_machine ran).used reader (session_reader ran) writer (session_writer ran)) stopped (e.meant text code reader writer w.0 compiled w.1));
      cut = λ on text code reader writer compiled h.
          let w = i.ran code reader writer h in
          let stopped : last_stop (session_machine ran).stopped ≡ stop = ap last_stop (e.stopped (i.goes_on on next.paused)) ∙ kept_stop stop in
          let where_cut = c.sessions_are_cut.ensures ran text code reader writer (w.0 ++ c.in-Some.ticks ∷ []) compiled (e.has_run code reader writer w.0 w.1) in
          subst (λ s. HasBeenCut remaining contents text stop (session_machine s).used reader (session_reader s) writer (session_writer s)) (sym same)
          (subst (λ t. HasBeenCut remaining contents text t (session_machine ran).used reader (session_reader ran) writer (session_writer ran)) stopped where_cut);
      used = λ none.
          subst (λ (s : Session g.row.R.Denot g.row.W.Denot). (session_machine s).used ≤ c.args.shown.count) (sym same)
          (within (session_machine before).used (session_machine ran).used c.in-Some.ticks c.args.shown.count next.within e.used.1);
      least = λ on p.
          subst (λ (s : Session g.row.R.Denot g.row.W.Denot). c.loop.counter + 1 ≤ (session_machine s).used) (sym same)
          (one_used c.loop.counter (session_machine before).used (session_machine ran).used c.in-Some.ticks c.args.shown.count c.loop-test.true next.fits (i.least on next.paused) next.some (e.paused (i.goes_on on next.paused) p));
    }

pub loop-init : goal.loop-init
loop-init g c =
    let e = c.run-stop.ensures in
    let ran = c.run-stop.new.self in
    let stop = c.run-stop.result in
    let same : c.show.new.session ≡ ran = c.show.ensures in
    let remaining = g.R.FaultyRead.remaining in
    let read_faults = g.R.Faulty.faults in
    let contents = g.W.FaultyWrite.contents in
    let write_faults = g.W.Faulty.faults in
    record {
      goes_on = λ on p. subst (λ (s : Session g.row.R.Denot g.row.W.Denot). CanGoOn s) (sym same) (e.goes_on on p);
      ran = λ code reader writer h. (0 ∷ [], subst (λ s. HasRun remaining read_faults contents write_faults code reader writer (0 ∷ []) s) (sym same) (e.has_run code reader writer [] h));
      meant = λ on text code reader writer compiled h.
          let stopped : last_stop (session_machine ran).stopped ≡ stop = ap last_stop (e.stopped on) ∙ kept_stop stop in
          subst (λ s. IsSimulated remaining contents text stop (session_machine s).used reader (session_reader s) writer (session_writer s)) (sym same)
          (subst (λ t. IsSimulated remaining contents text t (session_machine ran).used reader (session_reader ran) writer (session_writer ran)) stopped (e.meant text code reader writer [] compiled h));
      cut = λ on text code reader writer compiled h.
          let stopped : last_stop (session_machine ran).stopped ≡ stop = ap last_stop (e.stopped on) ∙ kept_stop stop in
          let where_cut = c.sessions_are_cut.ensures ran text code reader writer (0 ∷ []) compiled (e.has_run code reader writer [] h) in
          subst (λ s. HasBeenCut remaining contents text stop (session_machine s).used reader (session_reader s) writer (session_writer s)) (sym same)
          (subst (λ t. HasBeenCut remaining contents text t (session_machine ran).used reader (session_reader ran) writer (session_writer ran)) stopped where_cut);
      used = λ none.
          subst (λ (s : Session g.row.R.Denot g.row.W.Denot). (session_machine s).used ≤ c.args.shown.count) (sym same) (omega (arith, none, e.used.1));
      least = λ on p. omega arith;
    }

-- no piece is left
pub returns-after-loop-clause-simulated : goal.returns-after-loop-clause-simulated
returns-after-loop-clause-simulated g c text code reader writer compiled on h = c.loop.invariant.meant on text code reader writer compiled h

pub returns-after-loop-clause-where_cut : goal.returns-after-loop-clause-where_cut
returns-after-loop-clause-where_cut g c text code reader writer compiled on h = c.loop.invariant.cut on text code reader writer compiled h

-- the run has stopped, or all its ticks are used
pub returns-in_default-clause-simulated : goal.returns-in_default-clause-simulated
returns-in_default-clause-simulated g c text code reader writer compiled on h = c.loop.invariant.meant on text code reader writer compiled h

pub returns-in_default-clause-where_cut : goal.returns-in_default-clause-where_cut
returns-in_default-clause-where_cut g c text code reader writer compiled on h = c.loop.invariant.cut on text code reader writer compiled h
