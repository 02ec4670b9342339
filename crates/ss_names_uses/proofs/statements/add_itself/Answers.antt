use Rattle.ss_tree.specs.Views.{view_if_tree_made}
use Rattle.ss_names_uses.proofs.statements.add_itself.Goals as goal

pub returns-in-If : goal.returns-in-If
returns-in-If c = rw (c.in-If.is, view_if_tree_made c.in-If.line c.in-If.condition c.in-If.then c.in-If.otherwise) c.add_condition.ensures
