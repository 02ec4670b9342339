use Rattle.std.proofs.Common.{◌≡◌, ◌||◌, cond, [], ◌∷◌, ap, ◌∙◌}
use Rattle.ss_tables_rules.proofs.Common.{earlier, earlier_of, fold, found_after, table_error_order}
use Rattle.ss_names_declarations.specs.NameTable.{value_for}
use Rattle.ss_tables_rules.specs.Keys.{class_of, is_foreign, is_foreign_to_any, misranked_key}
use Rattle.ss_tables_rules.specs.declared.error.TableError.TheVariants as e
use Rattle.ss_tables_rules.proofs.Finding.{earlier_if}
use Rattle.ss_tables_rules.proofs.Foreign.{foreign_by_first}
use Rattle.ss_tables_rules.proofs.keys.keys_break.Goals as goal

pub loop-key-preserved : goal.loop-key-preserved
loop-key-preserved c =
    let t = c.args.names.now in
    let line = c.args.line in
    let sets = c.args.sets.now in
    let key = c.key-item.result in
    let class = class_of (value_for t.attributes key.name) in
    let foreign : (c.is_foreign_to_any-several.result || is_foreign class c.first_member-first.result) ≡ is_foreign_to_any t sets class =
    foreign_by_first t sets class c.first_member-first.result c.is_foreign_to_any-several.result c.first_member-first.ensures c.is_foreign_to_any-several.ensures in
    found_after (earlier table_error_order) (misranked_key t line sets) c.args.found c.loop-key.found _ c.args.keys.now c.loop-key.key-index key
    c.loop-key-test.true c.key-item.is c.loop-key.invariant
    (c.earlier_of-found.ensures ∙ ap (earlier_of table_error_order c.loop-key.found) c.key_breaks.ensures
    ∙ earlier_if c.loop-key.found (c.is_foreign_to_any-several.result || is_foreign class c.first_member-first.result) (e.RankKey line)
    ∙ ap (λ b. fold (earlier table_error_order) c.loop-key.found (cond b (e.RankKey line ∷ []) [])) foreign)
