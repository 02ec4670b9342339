use Rattle.std.proofs.Common.{rules}
use Rattle.ss_engine.proofs.Common.{IsNewSession, Session}
use Rattle.ss_engine.proofs.Running.{not_run}
use Rattle.ss_engine.proofs.session.Session.start.Goals as goal

pub returns-in-Ok-clause-has_run : goal.returns-in-Ok-clause-has_run
returns-in-Ok-clause-has_run g c =
    let s : Session g.row.R.Denot g.row.W.Denot = record { machine = c.in-Ok.machine; source = c.new-in-Ok.result; sink = c.new-in-Ok-2.result } in
    let begins : IsNewSession c.args.model c.args.reader c.args.writer s = search rules in
    not_run g.R.FaultyRead.remaining g.R.Faulty.faults g.W.FaultyWrite.contents g.W.Faulty.faults c.args.model c.args.reader c.args.writer s begins
