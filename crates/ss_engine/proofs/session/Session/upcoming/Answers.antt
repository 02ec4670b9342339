use Rattle.std.proofs.Common.{refl}
use Rattle.ss_engine.proofs.Common.{Session}
use Rattle.ss_engine.proofs.Sessions.{session_same}
use Rattle.ss_engine.proofs.session.Session.upcoming.Goals as goal

pub returns : goal.returns
returns g c =
    let old = c.args.self.now in
    let new : Session g.row.R.Denot g.row.W.Denot = record { machine = c.upcoming.new.self; source = old.source; sink = old.sink } in
    record { next = c.upcoming.ensures.next; same = session_same new old c.upcoming.ensures.same refl refl }
