use Rattle.std.proofs.Common.{rules, ◌≡◌, pos, false, int_eq, arith, to_z, of_z, w64, sym, ap, ◌∙◌}
use Rattle.ss_stats_histories.proofs.Common.{column_of, ints, Recorded, renewed_column}
use Rattle.ss_stats_histories.proofs.Apart.{other_there, other_renewed}
use Rattle.ss_stats_histories.proofs.kept.Kept.renew.Goals as goal

pub renew_system-requires : goal.renew_system-requires
renew_system-requires c h e =
    let n : to_z w64 (of_z w64 c.args.now) ≡ c.args.now = omega (arith, ints) in
    rw n (c.requires (pos 0) h (ap (λ (r : Recorded). column_of r.rows (pos 0)) (sym c.self.view_is) ∙ e))

pub renew_found-requires : goal.renew_found-requires
renew_found-requires c h e =
    let n : to_z w64 (of_z w64 c.args.now) ≡ c.args.now = omega (arith, ints) in
    let x = to_z w64 (of_z w64 c.args.entity) in
    let far : int_eq (pos 0) x ≡ false = search rules in
    rw n (c.requires x h (ap (λ (r : Recorded). column_of r.rows x) (sym c.self.view_is) ∙ other_there c.self.inside.system c.self.inside.others.entries x far ∙ e))

pub returns-else-entity-eq-SYSTEM-clause-column : goal.returns-else-entity-eq-SYSTEM-clause-column
returns-else-entity-eq-SYSTEM-clause-column c =
    let n : to_z w64 (of_z w64 c.args.now) ≡ c.args.now = omega (arith, ints) in
    let k : to_z w64 (of_z w64 c.args.entity) ≡ c.args.entity = omega (arith, ints) in
    let v : to_z w64 (of_z w64 c.args.present) ≡ c.args.present = omega (arith, ints) in
    let far : int_eq (pos 0) c.args.entity ≡ false = search rules in
    other_renewed c.self.inside.system c.self.inside.others.entries _ c.args.entity c.args.now c.args.present far (rw (n, k, v) at c.renew_found.ensures) ∙
    ap (λ (r : Recorded). renewed_column c.args.entity c.args.now c.args.present (column_of r.rows)) c.self.view_is
