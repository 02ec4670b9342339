use Rattle.std.proofs.Common.{rules, ◌≡◌, ◌≤ℤ◌, ℤ, ap, sym, ◌∙◌, subst, to_z, of_z, w64}
use Rattle.ss_machine_world.proofs.Common.{Class, HasRooms, Layout, Times}
use Rattle.ss_machine_world.proofs.Starting.{all_made, less_room}
use Rattle.ss_machine_world.proofs.world.World.create_counted.Goals as goal

pub start_all-requires : goal.start_all-requires
start_all-requires c =
    let class = c.args.class in let many = to_z w64 (of_z w64 c.args.count) in
    let st = c.self.inside.population in let h = c.create_all.new.self in
    let ss = c.reserve.new.self.histories.statistics in let rs = c.reserve.new.self.histories.room in
    let room : HasRooms c.layout.result.now (Class class) many ss rs = search rules in
    let made = all_made st h class many c.in-Ok.ensures.done in
    let same : to_z w64 (of_z w64 c.count-made.result) ≡ c.count-made.result = search rules in
    let most : to_z w64 (of_z w64 c.count-made.result) ≤ℤ many = subst (λ (z : ℤ). z ≤ℤ many) (sym (same ∙ c.count-made.ensures)) made.most in
    let layout : c.layout.result.now ≡ c.layout-in-Ok.result.now = c.layout.ensures ∙ sym made.layout ∙ sym c.layout-in-Ok.ensures in
    record { room = subst (λ (l : Layout). HasRooms l (Class class) (to_z w64 (of_z w64 c.count-made.result)) ss rs) layout (less_room c.layout.result.now (Class class) _ many ss rs most room) }

pub invariant_of-self : goal.invariant_of-self
invariant_of-self c = rw (ap (λ (t : Times). t.histories.statistics) c.reserve.ensures.same) c.self.invariant

pub invariant_of-self-in-Ok : goal.invariant_of-self-in-Ok
invariant_of-self-in-Ok c = rw (c.create_all.ensures.layout, c.start_all.ensures.same.2 ∙ ap (λ (t : Times). t.histories.statistics) c.reserve.ensures.same) c.self.invariant

pub invariant_of-self-in-Err : goal.invariant_of-self-in-Err
invariant_of-self-in-Err c = rw (c.create_all.ensures.layout, ap (λ (t : Times). t.histories.statistics) c.reserve.ensures.same) c.self.invariant
