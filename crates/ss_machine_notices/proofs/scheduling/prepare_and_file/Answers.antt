use Rattle.std.proofs.Common.{rules, ◌≡◌, ℤ, Ok, Err, subst, to_z, of_z, w64}
use Rattle.ss_machine_notices.proofs.Common.{Fails, filed_notice, HasChangedWithMemory, IsSettledIn, prepared, Whole, with_seen}
use Rattle.ss_machine_notices.proofs.Giving.{not_prepared, noticed_then, filed_then}
use Rattle.ss_machine_notices.proofs.scheduling.prepare_and_file.Goals as goal

pub returns-in-Err : goal.returns-in-Err
returns-in-Err c = λ g.
    let t = c.args.time in
    let same : to_z w64 (of_z w64 t) ≡ t = search rules in
    not_prepared c.args.what.class c.args.what.notice c.args.what.noted c.args.what.from c.args.given c.args.rows.now c.args.world.now g t c.in-Err.kind (subst (λ (y : ℤ). prepared c.args.what.class (Whole c.args.what.notice) g.values y (with_seen g.store c.args.world.now) ≡ Err (Fails c.in-Err.kind)) same (c.in-Err.ensures g))

pub schedule-requires : goal.schedule-requires
schedule-requires c =
    let g = c.requires in
    record { notices = noticed_then c.args.what.class c.args.what.notice c.args.what.noted c.args.what.from c.args.given c.args.rows.now c.args.world.now g (to_z w64 (of_z w64 c.args.time)) c.prepare.new.world (c.in-Ok.ensures g) }

pub returns-in-Ok : goal.returns-in-Ok
returns-in-Ok c = λ g.
    let class = c.args.what.class in let n = c.args.what.notice in let t = c.args.time in
    let mid = c.prepare.new.world in let new = c.schedule.new.world in let q = c.schedule.result in
    let same_n : to_z w64 (of_z w64 n) ≡ n = search rules in
    let same_t : to_z w64 (of_z w64 t) ≡ t = search rules in
    let prepared_it = subst (λ (y : ℤ). IsSettledIn g.store (prepared class (Whole n) g.values y) c.args.world.now mid (Ok tt)) same_t (c.in-Ok.ensures g) in
    let filed : HasChangedWithMemory (filed_notice class (Whole n) t) mid new q = simp (same_n, same_t) at c.schedule.ensures in
    filed_then c.args.what.class c.args.what.notice c.args.what.noted c.args.what.from c.args.given c.args.rows.now c.args.world.now g t mid new q prepared_it filed
