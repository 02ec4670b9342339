use Rattle.std.proofs.Common.{rules, ◌≡◌, pos, false, int_eq, arith, to_z, of_z, w64, sym, ap, ◌∙◌}
use Rattle.ss_stats_histories.proofs.Common.{column_of, ints, noted_column, Recorded, refused_in}
use Rattle.ss_stats_histories.proofs.Apart.{other_there, other_noted}
use Rattle.ss_stats_histories.proofs.kept.Kept.note_or_refuse.Goals as goal

pub note_system-requires : goal.note_system-requires
note_system-requires c h e =
    let n : to_z w64 (of_z w64 c.args.now) ≡ c.args.now = omega (arith, ints) in
    rw n (c.requires (pos 0) h (ap (λ (r : Recorded). column_of r.rows (pos 0)) (sym c.self.view_is) ∙ e))

pub note_found-requires : goal.note_found-requires
note_found-requires c h e =
    let n : to_z w64 (of_z w64 c.args.now) ≡ c.args.now = omega (arith, ints) in
    let x = to_z w64 (of_z w64 c.args.entity) in
    let far : int_eq (pos 0) x ≡ false = search rules in
    rw n (c.requires x h (ap (λ (r : Recorded). column_of r.rows x) (sym c.self.view_is) ∙ other_there c.self.inside.system c.self.inside.others.entries x far ∙ e))

pub returns-else-entity-eq-SYSTEM-clause-column : goal.returns-else-entity-eq-SYSTEM-clause-column
returns-else-entity-eq-SYSTEM-clause-column c =
    let n : to_z w64 (of_z w64 c.args.now) ≡ c.args.now = omega (arith, ints) in
    let k : to_z w64 (of_z w64 c.args.entity) ≡ c.args.entity = omega (arith, ints) in
    let v : to_z w64 (of_z w64 c.args.value) ≡ c.args.value = omega (arith, ints) in
    let far : int_eq (pos 0) c.args.entity ≡ false = search rules in
    other_noted c.self.inside.system c.self.inside.others.entries _ c.args.entity c.args.now c.args.value far (rw (n, k, v) at c.note_found.ensures.column) ∙
    ap (λ (r : Recorded). noted_column c.args.entity c.args.now c.args.value (column_of r.rows)) c.self.view_is

pub returns-else-entity-eq-SYSTEM-clause-refused : goal.returns-else-entity-eq-SYSTEM-clause-refused
returns-else-entity-eq-SYSTEM-clause-refused c =
    let y = c.args.entity in
    let k : to_z w64 (of_z w64 y) ≡ y = omega (arith, ints) in
    let far : int_eq (pos 0) y ≡ false = search rules in
    rw k at c.note_found.ensures.refused ∙ ap refused_in (sym (other_there c.self.inside.system c.self.inside.others.entries y far)) ∙ ap (λ (r : Recorded). refused_in (column_of r.rows y)) c.self.view_is
