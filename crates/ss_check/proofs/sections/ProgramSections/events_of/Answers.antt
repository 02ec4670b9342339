use Rattle.std.proofs.Common.{get_or}
use Rattle.std.proofs.lemmas.List.{get_or_default}
use Rattle.ss_program.specs.View.{view_event}
use Rattle.ss_names_meaning.specs.Resolved.{event_from}
use Rattle.ss_names_meaning.proofs.Each.{no_items, each_at_fails, each_made_next}
use Rattle.ss_names_meaning.proofs.Steps.{failed}
use Rattle.ss_check.specs.View.{parts_in, table_of_sections}
use Rattle.ss_check.proofs.sections.ProgramSections.events_of.Goals as goal

pub loop-tree-init : goal.loop-tree-init
loop-tree-init c = no_items (event_from (table_of_sections c.args.self.now) (parts_in c.args.self.now)) view_event c.new-resolved.result.items c.new-resolved.ensures.items

pub returns-in_err-one : goal.returns-in_err-one
returns-in_err-one c =
    failed _ c.from_residual.result c.in_err-one.field-0.0 _ c.from_residual.ensures.1
    (each_at_fails (event_from (table_of_sections c.args.self.now) (parts_in c.args.self.now)) c.args.trees.now c.loop-tree.tree-index _ c.in_err-one.field-0.0 c.loop-tree-test.true c.in_err-one.ensures)

pub loop-tree-preserved : goal.loop-tree-preserved
loop-tree-preserved c =
    let class = get_or c.args.trees.now c.loop-tree.tree-index 0 in
    each_made_next (event_from (table_of_sections c.args.self.now) (parts_in c.args.self.now)) view_event c.args.trees.now c.loop-tree.tree-index class c.loop-tree.resolved.items c.push.new.self.items c.in_ok-one.one c.loop-tree-test.true (get_or_default c.args.trees.now c.loop-tree.tree-index 0 class c.loop-tree-test.true) c.in_ok-push.ensures.items c.loop-tree.invariant c.in_ok-one.ensures
