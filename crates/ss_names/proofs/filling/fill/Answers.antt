use Rattle.std.proofs.Common.{sym, ap, subst, ◌∙◌}
use Rattle.ss_names.proofs.Common.{all_entered, HasRows, Table, with_all_meanings, with_subjects}
use Rattle.ss_names.proofs.Passes.{clash_filled, filled_is_declared, rows_made, three_passed}
use Rattle.ss_names.proofs.filling.fill.Goals as goal

pub fill_entities-requires : goal.fill_entities-requires
fill_entities-requires c = subst HasRows (sym c.in_ok-add_rows.ensures) (rows_made c.fill_names.new.names)

pub returns-clause-names : goal.returns-clause-names
returns-clause-names c =
    let ds = c.args.declarations.now in
    let passed = three_passed ds c.requires c.in_ok-fill_names.ensures c.in_ok-add_rows.ensures c.in_ok-fill_entities.ensures c.in_ok-fill_variables.ensures in
    c.in_ok-fill_subjects.ensures ∙ ap with_subjects (c.in_ok-clash.ensures.names ∙ ap (with_all_meanings ds) passed) ∙ filled_is_declared ds

pub returns-clause-clash : goal.returns-clause-clash
returns-clause-clash c =
    let ds = c.args.declarations.now in
    let passed = three_passed ds c.requires c.in_ok-fill_names.ensures c.in_ok-add_rows.ensures c.in_ok-fill_entities.ensures c.in_ok-fill_variables.ensures in
    c.in_ok-clash.ensures.clash ∙ ap (λ (t : Table). (all_entered t ds).clash) passed ∙ clash_filled ds
