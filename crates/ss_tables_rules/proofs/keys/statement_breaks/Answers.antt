use Rattle.std.proofs.Common.{List, sym, ap, ◌∙◌}
use Rattle.ss_tables_rules.proofs.Common.{earlier, flat_map, fold, misranked_in, misranked_key, NameBytes, table_error_order, view_preamble}
use Rattle.ss_tree.specs.declared.preamble.NamedKey.{NamedKey}
use Rattle.ss_tree.specs.declared.preamble.PreambleStatement.{PreambleStatement}
use Rattle.ss_tables_rules.proofs.keys.statement_breaks.Goals as goal

pub returns-in-DefineSets : goal.returns-in-DefineSets
returns-in-DefineSets c =
    let t = c.args.names.now in
    let line = c.in-DefineSets.line in
    c.keys_break.ensures
    ∙ ap (λ (sets : List NameBytes). fold (earlier table_error_order) c.args.found (flat_map (misranked_key t line sets) c.keys_of_order.result.now)) c.deref.ensures.value
    ∙ ap (λ (keys : List NamedKey). fold (earlier table_error_order) c.args.found (flat_map (misranked_key t line c.in-DefineSets.sets.items) keys)) c.keys_of_order.ensures
    ∙ sym (ap (λ (s : PreambleStatement). fold (earlier table_error_order) c.args.found (misranked_in t (view_preamble s))) c.in-DefineSets.is)
