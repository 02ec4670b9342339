use Rattle.std.proofs.Common.{rules, ◌≡◌, ℤ, pos, false, Some, cond, int_eq, ap, ◌∙◌}
use Rattle.ss_stats_histories.proofs.Common.{at_start, begun_in, column_of, found_in, Recorded}
use Rattle.ss_stats_histories.proofs.Apart.{other_placed}
use Rattle.ss_stats_histories.proofs.kept.Kept.begin.Goals as goal

pub returns-else-entity-eq-SYSTEM-clause-column : goal.returns-else-entity-eq-SYSTEM-clause-column
returns-else-entity-eq-SYSTEM-clause-column c =
    let es = c.self.inside.others.entries in
    let fs = c.insert.new.self.entries in
    let y = c.args.entity in
    let far : int_eq (pos 0) y ≡ false = search rules in
    let h = at_start c.args.self.now.statistic.weighting c.args.now in
    let each : (x : ℤ) → found_in fs x ≡ cond (int_eq y x) (Some h) (found_in es x) = search rules in
    other_placed c.self.inside.system es fs y (Some h) far each ∙ ap (λ (r : Recorded). begun_in (int_eq y) h (column_of r.rows)) c.self.view_is
