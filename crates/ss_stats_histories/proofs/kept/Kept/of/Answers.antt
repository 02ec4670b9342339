use Rattle.std.proofs.Common.{rules, ◌≡◌, pos, false, int_eq, arith, to_z, of_z, w64, sym, ap, ◌∙◌}
use Rattle.ss_stats_histories.proofs.Common.{column_of, ints, Recorded}
use Rattle.ss_stats_histories.proofs.Apart.{other_there}
use Rattle.ss_stats_histories.proofs.kept.Kept.of.Goals as goal

pub returns-else-entity-eq-SYSTEM : goal.returns-else-entity-eq-SYSTEM
returns-else-entity-eq-SYSTEM c =
    let es = c.self.inside.others.entries in
    let y = c.args.entity in
    let k : to_z w64 (of_z w64 y) ≡ y = omega (arith, ints) in
    let far : int_eq (pos 0) y ≡ false = search rules in
    rw k at c.get.ensures.value ∙ sym (other_there c.self.inside.system es y far) ∙ ap (λ (r : Recorded). column_of r.rows y) c.self.view_is
