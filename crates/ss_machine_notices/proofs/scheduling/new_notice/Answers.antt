use Rattle.std.proofs.Common.{rules, ◌≡◌, ℤ, sym, subst, to_z, of_z, w64}
use Rattle.std.specs.Prelude.{Result as OkOr}
use Rattle.ss_machine_notices.proofs.Common.{IsNoticeMade, IsSettledIn, number_or, prepared, Refused, Whole}
use Rattle.ss_machine_notices.proofs.Giving.{create_class, create_single, gives_after, made, not_made}
use Rattle.ss_machine_notices.proofs.scheduling.new_notice.Goals as goal

pub create-requires : goal.create-requires
create-requires c = record { class = create_class c.requires; single = create_single c.requires }

pub returns-in-Err : goal.returns-in-Err
returns-in-Err c = λ g. not_made c.args.what.class c.args.what.noted c.args.what.from c.args.given c.args.rows.now c.args.world.now g c.args.time c.create.new.self c.in-Err.refused c.in-Err.ensures

pub prepare-requires : goal.prepare-requires
prepare-requires c = let g = c.requires in gives_after c.args.what.class c.args.what.noted c.args.what.from c.args.given c.args.rows.now c.args.world.now g c.args.time c.in-Ok.notice c.create.new.self (c.in-Ok.ensures g.store)

pub returns-in-Ok : goal.returns-in-Ok
returns-in-Ok c = λ g.
    let n = c.in-Ok.notice in let t = c.args.time in let e = c.args.world.now in
    let mid = c.create.new.self in let new = c.prepare.new.world in let q = c.prepare.result in let r = c.number_or.result in
    let same_n : to_z w64 (of_z w64 n) ≡ n = search rules in
    let same_t : to_z w64 (of_z w64 t) ≡ t = search rules in
    let is : r ≡ number_or n q = subst (λ (x : ℤ). r ≡ number_or x q) same_n c.number_or.ensures in
    let did : IsSettledIn g.store (prepared c.args.what.class (Whole n) g.values t) mid new q = simp (same_n, same_t) at (c.prepare.ensures (gives_after c.args.what.class c.args.what.noted c.args.what.from c.args.given c.args.rows.now c.args.world.now g t n mid (c.in-Ok.ensures g.store))) in
    subst (λ (r : OkOr ℤ Refused). IsNoticeMade g.store c.args.what.class g.values t e new r) (sym is) (made c.args.what.class c.args.what.noted c.args.what.from c.args.given c.args.rows.now c.args.world.now g t n mid new q (c.in-Ok.ensures g.store) did)
