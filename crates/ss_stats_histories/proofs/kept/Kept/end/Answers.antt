use Rattle.std.proofs.Common.{rules, ◌≡◌, ℤ, pos, false, None, cond, int_eq, arith, to_z, of_z, w64, ap, ◌∙◌}
use Rattle.ss_stats_histories.proofs.Common.{column_of, ended_in, found_in, ints, Recorded}
use Rattle.ss_stats_histories.proofs.Apart.{other_placed}
use Rattle.ss_stats_histories.proofs.kept.Kept.end.Goals as goal

pub returns-else-entity-eq-SYSTEM-clause-column : goal.returns-else-entity-eq-SYSTEM-clause-column
returns-else-entity-eq-SYSTEM-clause-column c =
    let es = c.self.inside.others.entries in
    let fs = c.remove.new.self.entries in
    let y = c.args.entity in
    let k : to_z w64 (of_z w64 y) ≡ y = omega (arith, ints) in
    let far : int_eq (pos 0) y ≡ false = search rules in
    let each : (x : ℤ) → found_in fs x ≡ cond (int_eq y x) None (found_in es x) = (rw k at c.remove.ensures.updates).0 in
    other_placed c.self.inside.system es fs y None far each ∙ ap (λ (r : Recorded). ended_in y (column_of r.rows)) c.self.view_is
