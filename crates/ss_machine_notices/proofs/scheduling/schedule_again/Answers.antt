use Rattle.std.proofs.Common.{rules, ◌≡◌, ℤ, Ok, Err, subst, to_z, of_z, w64}
use Rattle.ss_machine_notices.proofs.Common.{IsSettledWithMemory, refiled, unpended, Whole}
use Rattle.ss_machine_notices.proofs.Giving.{create_class, again_not, again}
use Rattle.ss_machine_notices.proofs.scheduling.schedule_again.Goals as goal

pub look_unpended-requires : goal.look_unpended-requires
look_unpended-requires c = record { class = create_class c.requires }

pub returns-in-Err : goal.returns-in-Err
returns-in-Err c = λ g.
    let n = c.args.what.notice in
    let same : to_z w64 (of_z w64 n) ≡ n = search rules in
    again_not c.args.what.class c.args.what.notice c.args.what.noted c.args.what.from c.args.given c.args.rows.now c.args.world.now g c.args.time c.in-Err.kind (subst (λ (x : ℤ). Err c.in-Err.kind ≡ unpended c.args.what.class x c.args.world.now) same c.in-Err.ensures)

pub returns-in-Ok : goal.returns-in-Ok
returns-in-Ok c = λ g.
    let class = c.args.what.class in let n = c.args.what.notice in let t = c.args.time in
    let new = c.prepare_and_file.new.world in let q = c.prepare_and_file.result in
    let same_n : to_z w64 (of_z w64 n) ≡ n = search rules in
    let same_t : to_z w64 (of_z w64 t) ≡ t = search rules in
    let filed = subst (λ (y : ℤ). IsSettledWithMemory g.store (refiled class (Whole n) g.values y) c.args.world.now new q) same_t (c.prepare_and_file.ensures g) in
    again c.args.what.class c.args.what.notice c.args.what.noted c.args.what.from c.args.given c.args.rows.now c.args.world.now g t new q (subst (λ (x : ℤ). Ok tt ≡ unpended class x c.args.world.now) same_n c.in-Ok.ensures) filed
