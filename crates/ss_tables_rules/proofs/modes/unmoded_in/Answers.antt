use Rattle.std.proofs.Common.{List, ap, ◌∙◌}
use Rattle.ss_tables_rules.proofs.Common.{earlier, flat_map, fold, table_error_order, unmoded_use}
use Rattle.ss_names_uses.specs.declared.used.Use.{Use}
use Rattle.ss_names_scopes.specs.Locals.{Moded, locals}
use Rattle.ss_tables_rules.proofs.modes.unmoded_in.Goals as goal

pub returns : goal.returns
returns c =
    let t = c.args.names.now in
    c.uses_break.ensures
    ∙ ap (λ (ls : Moded). fold (earlier table_error_order) c.args.found (flat_map (unmoded_use t ls) c.deref-2.result.now)) (c.in_ok-locals.ensures ∙ ap (locals t) c.deref.ensures.value)
    ∙ ap (λ (us : List Use). fold (earlier table_error_order) c.args.found (flat_map (unmoded_use t (locals t c.in_ok-uses.uses.items)) us)) c.deref-2.ensures.value
    ∙ ap (λ (us : List Use). fold (earlier table_error_order) c.args.found (flat_map (unmoded_use t (locals t us)) us)) c.in_ok-uses.ensures
