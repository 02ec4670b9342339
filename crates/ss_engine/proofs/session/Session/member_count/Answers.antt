use Rattle.std.proofs.Common.{rules, ◌≡◌, ℤ, refl, subst, to_z, of_z, w64}
use Rattle.ss_machine.specs.Held.{HasMemberCount}
use Rattle.ss_engine.proofs.Common.{Session}
use Rattle.ss_engine.proofs.Sessions.{session_same}
use Rattle.ss_engine.proofs.session.Session.member_count.Goals as goal

pub returns : goal.returns
returns g c =
    let old = c.args.self.now in
    let new : Session g.row.R.Denot g.row.W.Denot = record { machine = c.member_count.new.self; source = old.source; sink = old.sink } in
    let owner : to_z w64 (of_z w64 c.args.owner) ≡ c.args.owner = search rules in
    record {
      count = subst (λ (x : ℤ). HasMemberCount old.machine c.args.set x c.member_count.result) owner c.member_count.ensures.count;
      same = session_same new old c.member_count.ensures.same refl refl;
    }
