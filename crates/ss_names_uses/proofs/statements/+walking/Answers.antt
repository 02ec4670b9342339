use Rattle.std.proofs.Common.{append_assoc}
use Rattle.ss_names_uses.proofs.Rows.{inner_if, inner_find_if, inner_loop}
use Rattle.ss_names_uses.proofs.statements.+walking.Goals as goal

pub add_inner-returns-in_ok-add_body-in-If : goal.add_inner-returns-in_ok-add_body-in-If
add_inner-returns-in_ok-add_body-in-If t c =
    rw (c.in-If.is, inner_if c.in-If.line c.in-If.condition c.in-If.then c.in-If.otherwise, ← append_assoc, ← c.deref.ensures.value, ← c.in_ok-add_body-in-If.ensures, ← c.deref-in-If.ensures.value) c.add_body-in-If.ensures

pub add_inner-returns-in_ok-add_body-in-FindIf : goal.add_inner-returns-in_ok-add_body-in-FindIf
add_inner-returns-in_ok-add_body-in-FindIf t c =
    rw (c.in-FindIf.is, inner_find_if c.in-FindIf.line c.in-FindIf.head c.in-FindIf.outcome c.in-FindIf.then c.in-FindIf.otherwise, ← append_assoc, ← c.deref-in-FindIf.ensures.value, ← c.in_ok-add_body-in-FindIf.ensures, ← c.deref-in-FindIf-2.ensures.value) c.add_body-in-FindIf-2.ensures

pub add_inner-returns-in-Loop : goal.add_inner-returns-in-Loop
add_inner-returns-in-Loop t c = rw (c.in-Loop.is, inner_loop c.in-Loop.line c.in-Loop.head c.in-Loop.body, ← c.deref-in-Loop.ensures.value) c.add_body-in-Loop.ensures
