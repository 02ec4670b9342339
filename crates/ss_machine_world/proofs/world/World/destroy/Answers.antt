use Rattle.std.proofs.Common.{rules, ◌≡◌, false, Err, refl, subst, to_z, of_z, w64, ℤ}
use Rattle.ss_machine_world.proofs.Common.{Fails, gone, HasChanged, is_pending, Whole, with_seen, without}
use Rattle.ss_machine_world.proofs.Leaving.{gone_without}
use Rattle.ss_machine_world.proofs.world.World.destroy.Goals as goal

pub returns-then-is_scheduled : goal.returns-then-is_scheduled
returns-then-is_scheduled c =
    let n = c.args.number in
    let same : to_z w64 (of_z w64 n) ≡ n = search rules in
    (λ s right. subst (λ (z : ℤ). without c.args.class (Whole z) (with_seen s c.args.self.now) ≡ Err (Fails c.scheduled.result)) same (c.scheduled.ensures s), refl)

pub returns : goal.returns
returns c =
    let e = c.args.self.now in let class = c.args.class in let n = c.args.number in
    let same : to_z w64 (of_z w64 n) ≡ n = search rules in
    let free : is_pending n e.pending.entries ≡ false = search rules in
    gone_without e class n c.requires.single c.remove_entity.new.self c.remove_entity.result free
    (subst (λ (z : ℤ). HasChanged (gone class (Whole z)) e c.remove_entity.new.self c.remove_entity.result) same c.remove_entity.ensures)
