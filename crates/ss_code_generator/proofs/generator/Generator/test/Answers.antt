use Rattle.ss_code_generator.proofs.Common.{on_ok_weaker, view_expression, view_owner}
use Rattle.ss_code_generator.proofs.Emitting.{grows_then}
use Rattle.ss_code_generator.proofs.Modes.{mode_found}
use Rattle.ss_code_generator.proofs.Testing.{compared, emptiness_tested}
use Rattle.ss_code_generator.proofs.Filed.{membership_tested}
use Rattle.ss_code_generator.proofs.generator.Generator.test.Goals as goal

pub returns-in_ok-right-in-Compare : goal.returns-in_ok-right-in-Compare
returns-in_ok-right-in-Compare c =
    let left = c.in_ok-left-in-Compare.ensures in
    let right = c.in_ok-right-in-Compare.ensures in
    let mode = rw c.deref.ensures.value at c.expression_mode-mode.ensures in
    rw c.in-Compare.is (on_ok_weaker c.put.result (compared c.args.skip c.in-Compare.relation left c.above.ensures.line c.above.ensures.height right
    (λ f t n around located typed. mode_found (view_expression c.in-Compare.left) (grows_then left.grows right.grows) mode around located typed)) (rw c.compare.ensures at c.put.ensures))

pub returns-in_ok-set-in-Empty : goal.returns-in_ok-set-in-Empty
returns-in_ok-set-in-Empty c =
    let x = c.in-Empty in
    rw x.is (on_ok_weaker c.put-in-Empty.result (emptiness_tested c.args.skip x.negated x.set (view_owner x.owner) c.in_ok-owner-in-Empty.ensures) (rw c.in_ok-set-in-Empty.ensures at c.put-in-Empty.ensures))

pub returns-in_ok-set-in-Member : goal.returns-in_ok-set-in-Member
returns-in_ok-set-in-Member c =
    let x = c.in-Member in
    rw x.is (on_ok_weaker c.put-in-Member.result (membership_tested c.args.skip x.negated x.set (view_owner x.owner) (rw c.owner_may_fault.ensures at c.in_ok-member-in-Member.ensures) c.above-in-Member.ensures.line c.above-in-Member.ensures.height c.in_ok-owner-in-Member.ensures) (rw c.in_ok-set-in-Member.ensures at c.put-in-Member.ensures))
