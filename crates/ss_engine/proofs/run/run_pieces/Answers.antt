use Rattle.std.proofs.Common.{rules, arith, ◌≡◌, ◌+◌, [], refl, sym, ap, ◌∙◌, take, drop, length, ◌∷◌}
use Rattle.ss_engine.proofs.Common.{last_stop, Paused, session_machine, sum}
use Rattle.ss_engine.proofs.Handing.{next_piece, next_run, no_runs, runs_so_far, some_used, more_used, all_used, no_sum, all_handed}
use Rattle.ss_engine.proofs.Running.{kept_stop, runs_last}
use Rattle.ss_engine.proofs.run.run_pieces.Goals as goal

pub loop-ticks-preserved : goal.loop-ticks-preserved
loop-ticks-preserved g c =
    let i = c.loop-ticks.invariant in
    let e = c.run-stop-in-loop-ticks.ensures in
    let mid = c.loop-ticks.session in
    let now = c.run-stop-in-loop-ticks.new.self in
    let paused : c.loop-ticks.stop ≡ Paused = search rules in
    let on = i.goes_on paused in
    let split : c.args.pieces.now ≡ c.in-Some.first.now ∷ c.in-Some.rest.now = c.in-Some.ensures.cases.0 in
    let piece = next_piece c.args.pieces.now c.in-Some.rest.now c.in-Some.first.now c.loop-ticks.ticks-index split c.loop-ticks-test.true in
    record {
      goes_on = e.goes_on on;
      stopped = kept_stop c.run-stop-in-loop-ticks.result ∙ ap last_stop (sym (e.stopped on));
      right = e.never_failed on;
      was_run = λ code reader writer b h.
          let w = i.was_run code reader writer b h in
          runs_last g.R.FaultyRead.remaining g.R.Faulty.faults g.W.FaultyWrite.contents g.W.Faulty.faults code reader writer _ _ _ mid now c.run-stop-in-loop-ticks.result
          (next_run c.args.pieces.now c.in-Some.rest.now c.in-Some.first.now c.loop-ticks.ticks-index split c.loop-ticks-test.true) (λ none. absurd (w.some none)) on w.run (e.has_run code reader writer _ w.run) (e.stopped on) e.used.0 (e.output on) (e.input on);
      used = more_used _ _ (session_machine mid).used (session_machine now).used _ piece i.used e.used.1;
      paused = λ p. all_used _ _ (session_machine mid).used (session_machine now).used _ piece (i.paused paused) (e.paused on p);
    }

pub loop-ticks-init : goal.loop-ticks-init
loop-ticks-init g c =
    let e = c.run-stop.ensures in
    let on = c.requires.goes_on in
    let now = c.run-stop.new.self in
    let split : c.args.pieces.now ≡ c.in-Some.first.now ∷ c.in-Some.rest.now = c.in-Some.ensures.cases.0 in
    let one : sum (take (0 + 1) c.args.pieces.now) ≡ c.in-Some.first.now = ap (λ l. sum (take 1 l)) split ∙ omega arith in
    record {
      goes_on = e.goes_on on;
      stopped = kept_stop c.run-stop.result ∙ ap last_stop (sym (e.stopped on));
      right = e.never_failed on;
      was_run = λ code reader writer b h.
          runs_last g.R.FaultyRead.remaining g.R.Faulty.faults g.W.FaultyWrite.contents g.W.Faulty.faults code reader writer _ [] c.in-Some.first.now c.args.session.now now c.run-stop.result
          (ap (take 1) split) (λ none. (b.fresh.reader_is, b.writer_is)) on h (e.has_run code reader writer [] h) (e.stopped on) e.used.0 (e.output on) (e.input on);
      used = omega (arith, e.used.1, one, c.requires.first);
      paused = λ p. omega (arith, e.paused on p, one, c.requires.first);
    }

-- there is no piece
pub returns-in_default : goal.returns-in_default
returns-in_default g c =
    let e = c.run.ensures in
    let on = c.requires.goes_on in
    let empty : length c.args.pieces.now ≡ 0 = search rules in
    record {
      was_run = λ code reader writer b h. (
        0 ∷ [],
        [],
        no_runs c.args.pieces.now empty,
        runs_last g.R.FaultyRead.remaining g.R.Faulty.faults g.W.FaultyWrite.contents g.W.Faulty.faults code reader writer _ [] 0 c.args.session.now c.run.new.self c.run.result
            refl (λ none. (b.fresh.reader_is, b.writer_is)) on h (e.has_run code reader writer [] h) (e.stopped on) e.used.0 (e.output on) (e.input on),
      );
      stopped = kept_stop c.run.result ∙ ap last_stop (sym (e.stopped on));
      never_failed = e.never_failed on;
      used = omega (arith, e.used.1, c.requires.first);
      paused = λ p. omega (arith, e.paused on p, c.requires.first, no_sum c.args.pieces.now empty);
    }

-- a run stopped before the last piece
pub returns-then-ne-clause-was_run : goal.returns-then-ne-clause-was_run
returns-then-ne-clause-was_run g c code reader writer b h =
    let n = c.loop-ticks.ticks-index + 1 in
    (take n c.args.pieces.now, drop n c.args.pieces.now, runs_so_far c.args.pieces.now c.in-Some.rest.now c.in-Some.first.now n c.in-Some.ensures.cases.0, c.loop-ticks.invariant.was_run code reader writer b h)

pub returns-then-ne-clause-stopped : goal.returns-then-ne-clause-stopped
returns-then-ne-clause-stopped g c = c.loop-ticks.invariant.stopped

pub returns-then-ne-clause-never_failed : goal.returns-then-ne-clause-never_failed
returns-then-ne-clause-never_failed g c = c.loop-ticks.invariant.right

pub returns-then-ne-clause-used : goal.returns-then-ne-clause-used
returns-then-ne-clause-used g c = some_used c.args.pieces.now (c.loop-ticks.ticks-index + 1) _ c.loop-ticks.invariant.used

-- no piece is left
pub returns-after-loop-ticks-clause-was_run : goal.returns-after-loop-ticks-clause-was_run
returns-after-loop-ticks-clause-was_run g c code reader writer b h =
    let n = c.loop-ticks.ticks-index + 1 in
    (take n c.args.pieces.now, drop n c.args.pieces.now, runs_so_far c.args.pieces.now c.in-Some.rest.now c.in-Some.first.now n c.in-Some.ensures.cases.0, c.loop-ticks.invariant.was_run code reader writer b h)

pub returns-after-loop-ticks-clause-stopped : goal.returns-after-loop-ticks-clause-stopped
returns-after-loop-ticks-clause-stopped g c = c.loop-ticks.invariant.stopped

pub returns-after-loop-ticks-clause-never_failed : goal.returns-after-loop-ticks-clause-never_failed
returns-after-loop-ticks-clause-never_failed g c = c.loop-ticks.invariant.right

pub returns-after-loop-ticks-clause-used : goal.returns-after-loop-ticks-clause-used
returns-after-loop-ticks-clause-used g c = some_used c.args.pieces.now (c.loop-ticks.ticks-index + 1) _ c.loop-ticks.invariant.used

pub returns-after-loop-ticks-clause-paused : goal.returns-after-loop-ticks-clause-paused
returns-after-loop-ticks-clause-paused g c = λ p. c.loop-ticks.invariant.paused p ∙ all_handed c.args.pieces.now c.in-Some.rest.now c.in-Some.first.now c.loop-ticks.ticks-index c.in-Some.ensures.cases.0 c.loop-ticks-test.false

pub bounds-rest-ticks-index : goal.bounds-rest-ticks-index
bounds-rest-ticks-index g c = c.loop-ticks-test.true

pub loop-ticks-smaller : goal.loop-ticks-smaller
loop-ticks-smaller g c = omega (arith, c.loop-ticks-test.true)
