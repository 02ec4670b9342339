use Rattle.std.proofs.Common.{rules, ◌≡◌, ℤ, Ok, Err, ap, ◌∙◌, subst, to_z, of_z, w64, arith}
use Rattle.ss_machine_notices.proofs.Common.{frame_small, IsNoticeMade, on_after, with_number}
use Rattle.ss_machine_notices.proofs.Notices.{make_room, make_gives, make_core, make_delivers, makes, makes_not}
use Rattle.ss_machine_notices.proofs.scheduling.make_notice.Goals as goal

pub cell-from-requires : goal.cell-from-requires
cell-from-requires c = frame_small _ _ _ _ _ c.requires.2

pub number_at-time-requires : goal.number_at-time-requires
number_at-time-requires c = make_room c.requires.2 c.cell-from.result c.cell-from.ensures

pub new_notice-requires : goal.new_notice-requires
new_notice-requires c = make_gives c.requires.2 c.cell-from.result c.cell-from.ensures

pub set_number_at-requires : goal.set_number_at-requires
set_number_at-requires c = omega (arith, make_room c.requires.2 c.cell-from.result c.cell-from.ensures)

pub put-requires : goal.put-requires
put-requires c =
    let r = c.requires.2 in let from = c.cell-from.result in
    let t = c.number_at-time.result in let n = c.in-Ok.notice in let e = c.new_notice.new.world in
    let same : to_z w64 (of_z w64 t) ≡ t = search rules in
    let same_n : to_z w64 (of_z w64 n) ≡ n = search rules in
    let g = make_gives r from c.cell-from.ensures in
    let made = subst (λ (y : ℤ). IsNoticeMade c.requires.1.store c.args.values.class g.values y c.args.state.now.world e (Ok n)) same (c.in-Ok.ensures g) in
    let rows = c.set_number_at.ensures ∙ ap (with_number c.args.state.now.rows from) same in
    (c.requires.0, make_core r from c.cell-from.ensures t, r.placed.line, _, make_delivers r from c.cell-from.ensures t n (to_z w64 (of_z w64 n)) e c.set_number_at.new.self c.number_at-time.ensures made rows same_n)

pub returns-in-Ok : goal.returns-in-Ok
returns-in-Ok c = λ w core r.
    let from = c.cell-from.result in let t = c.number_at-time.result in let n = c.in-Ok.notice in let e = c.new_notice.new.world in
    let same : to_z w64 (of_z w64 t) ≡ t = search rules in
    let same_n : to_z w64 (of_z w64 n) ≡ n = search rules in
    let g = make_gives r from c.cell-from.ensures in
    let made = subst (λ (y : ℤ). IsNoticeMade core.store c.args.values.class g.values y c.args.state.now.world e (Ok n)) same (c.in-Ok.ensures g) in
    let rows = c.set_number_at.ensures ∙ ap (with_number c.args.state.now.rows from) same in
    makes r from c.cell-from.ensures e c.set_number_at.new.self c.put.new.self (on_after c.args.here c.put.result) (c.put.ensures w (make_core r from c.cell-from.ensures t) r.placed.line _ (make_delivers r from c.cell-from.ensures t n (to_z w64 (of_z w64 n)) e c.set_number_at.new.self c.number_at-time.ensures made rows same_n))

pub returns-in-Err : goal.returns-in-Err
returns-in-Err c = λ w core r.
    let from = c.cell-from.result in let t = c.number_at-time.result in
    let same : to_z w64 (of_z w64 t) ≡ t = search rules in
    let g = make_gives r from c.cell-from.ensures in
    let made = subst (λ (y : ℤ). IsNoticeMade core.store c.args.values.class g.values y c.args.state.now.world c.new_notice.new.world (Err c.in-Err.refused)) same (c.in-Err.ensures g) in
    makes_not r from c.cell-from.ensures t c.new_notice.new.world c.in-Err.refused c.refused.new.self (on_after c.args.here c.refused.result) c.number_at-time.ensures made c.refused.ensures.state (ap (on_after c.args.here) c.refused.ensures.none)
