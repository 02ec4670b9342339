use Rattle.std.proofs.Common.{get_or}
use Rattle.std.proofs.lemmas.List.{get_or_default}
use Rattle.ss_names.specs.declared.entry.RoutineSection.{RoutineSection}
use Rattle.ss_program.specs.View.{view_routine}
use Rattle.ss_names_meaning.specs.Resolved.{routine_from}
use Rattle.ss_names_meaning.proofs.Each.{no_items, each_at_fails, each_made_next}
use Rattle.ss_names_meaning.proofs.Steps.{failed}
use Rattle.ss_check.specs.View.{parts_in}
use Rattle.ss_check.proofs.sections.ProgramSections.routines_of.Goals as goal

abbrev none : RoutineSection
none = record { section = 0; given = 0; yielding = 0 }

pub loop-tree-init : goal.loop-tree-init
loop-tree-init c = no_items (routine_from (parts_in c.args.self.now)) view_routine c.new-resolved.result.items c.new-resolved.ensures.items

pub returns-in_err-one : goal.returns-in_err-one
returns-in_err-one c =
    failed _ c.from_residual.result c.in_err-one.field-0.0 _ c.from_residual.ensures.1
    (each_at_fails (routine_from (parts_in c.args.self.now)) c.args.trees.now c.loop-tree.tree-index _ c.in_err-one.field-0.0 c.loop-tree-test.true c.in_err-one.ensures)

pub loop-tree-preserved : goal.loop-tree-preserved
loop-tree-preserved c =
    let known = get_or c.args.trees.now c.loop-tree.tree-index none in
    each_made_next (routine_from (parts_in c.args.self.now)) view_routine c.args.trees.now c.loop-tree.tree-index known c.loop-tree.resolved.items c.push.new.self.items c.in_ok-one.one c.loop-tree-test.true (get_or_default c.args.trees.now c.loop-tree.tree-index none known c.loop-tree-test.true) c.in_ok-push.ensures.items c.loop-tree.invariant c.in_ok-one.ensures
