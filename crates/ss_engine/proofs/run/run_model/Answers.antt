use Rattle.std.proofs.Common.{◌≡◌, sym, ap, ◌∙◌}
use Rattle.ss_engine.proofs.Common.{HasRisen, Input, Output, session_machine, session_reader, session_writer}
use Rattle.ss_engine.proofs.Headline.{nothing_simulated}
use Rattle.ss_engine.proofs.Cuts.{nothing_cut}
use Rattle.ss_engine.proofs.LastRun.{last_run}
use Rattle.ss_engine.proofs.Running.{stopped_by}
use Rattle.ss_engine.proofs.run.run_model.Goals as goal

pub returns-in-Err-clause-simulated : goal.returns-in-Err-clause-simulated
returns-in-Err-clause-simulated g c text compiled =
    let given = c.start.ensures.err (c.in-Err.reader, c.in-Err.writer) c.in-Err.is in
    let reader : c.in-Err.reader ≡ c.args.reader = ap (λ (x : g.row.R.Denot × g.row.W.Denot). x.0) given in
    let writer : c.in-Err.writer ≡ c.args.writer = ap (λ (x : g.row.R.Denot × g.row.W.Denot). x.1) given in
    rw (reader, writer) (nothing_simulated g.R.FaultyRead.remaining g.W.FaultyWrite.contents text compiled.program compiled.meant c.args.reader c.args.writer)

pub returns-in-Err-clause-where_cut : goal.returns-in-Err-clause-where_cut
returns-in-Err-clause-where_cut g c text compiled =
    let given = c.start.ensures.err (c.in-Err.reader, c.in-Err.writer) c.in-Err.is in
    let reader : c.in-Err.reader ≡ c.args.reader = ap (λ (x : g.row.R.Denot × g.row.W.Denot). x.0) given in
    let writer : c.in-Err.writer ≡ c.args.writer = ap (λ (x : g.row.R.Denot × g.row.W.Denot). x.1) given in
    rw (reader, writer) (nothing_cut g.R.FaultyRead.remaining g.W.FaultyWrite.contents text compiled.program compiled.meant c.args.reader c.args.writer)

pub returns-clause-simulated : goal.returns-clause-simulated
returns-clause-simulated g c text compiled =
    let was = c.run_pieces-stop.ensures.was_run c.args.model c.args.reader c.args.writer c.in-Ok.ensures.ok c.in-Ok.ensures.has_run in
    rw (c.close-reader.ensures, c.run_pieces-stop.ensures.stopped, c.used-used.ensures) (c.sessions_are_meant.ensures _ text c.args.model c.args.reader c.args.writer was.0 compiled was.3.some was.3.run)

pub returns-clause-where_cut : goal.returns-clause-where_cut
returns-clause-where_cut g c text compiled =
    let was = c.run_pieces-stop.ensures.was_run c.args.model c.args.reader c.args.writer c.in-Ok.ensures.ok c.in-Ok.ensures.has_run in
    rw (c.close-reader.ensures, c.run_pieces-stop.ensures.stopped, c.used-used.ensures) (c.sessions_are_cut.ensures _ text c.args.model c.args.reader c.args.writer was.0 compiled was.3.run)

pub returns-clause-output : goal.returns-clause-output
returns-clause-output g c q text compiled =
    let now = c.run_pieces-stop.new.session in
    let was = c.run_pieces-stop.ensures.was_run c.args.model c.args.reader c.args.writer c.in-Ok.ensures.ok c.in-Ok.ensures.has_run in
    let stopped = stopped_by (session_machine now).stopped Output (λ e. cc) (sym c.run_pieces-stop.ensures.stopped ∙ q) in
    rw (c.close-reader.ensures, c.used-used.ensures)
    (last_run g.R.FaultyRead.remaining g.R.Faulty.faults g.W.FaultyWrite.contents g.W.Faulty.faults text c.args.model c.args.reader c.args.writer (λ session pieces some h. c.sessions_are_meant.ensures session text c.args.model c.args.reader c.args.writer pieces compiled some h)
    c.args.pieces.now was.0 was.1 now was.2 was.3 (λ reader_then writer_then. HasRisen (g.W.Faulty.faults writer_then) (g.W.Faulty.faults (session_writer now))) (was.3.output stopped))

pub returns-clause-input : goal.returns-clause-input
returns-clause-input g c q text compiled =
    let now = c.run_pieces-stop.new.session in
    let was = c.run_pieces-stop.ensures.was_run c.args.model c.args.reader c.args.writer c.in-Ok.ensures.ok c.in-Ok.ensures.has_run in
    let stopped = stopped_by (session_machine now).stopped Input (λ e. cc) (sym c.run_pieces-stop.ensures.stopped ∙ q) in
    rw (c.close-reader.ensures, c.used-used.ensures)
    (last_run g.R.FaultyRead.remaining g.R.Faulty.faults g.W.FaultyWrite.contents g.W.Faulty.faults text c.args.model c.args.reader c.args.writer (λ session pieces some h. c.sessions_are_meant.ensures session text c.args.model c.args.reader c.args.writer pieces compiled some h)
    c.args.pieces.now was.0 was.1 now was.2 was.3 (λ reader_then writer_then. HasRisen (g.R.Faulty.faults reader_then) (g.R.Faulty.faults (session_reader now))) (was.3.input stopped))

pub run_pieces-stop-requires-clause-goes_on : goal.run_pieces-stop-requires-clause-goes_on
run_pieces-stop-requires-clause-goes_on g c =
    let begins = c.in-Ok.ensures.ok in
    record { unstopped = begins.first.stopped; unmissed = begins.fresh.missed }
