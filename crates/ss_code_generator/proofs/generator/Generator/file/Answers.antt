use Rattle.ss_code_generator.proofs.Common.{on_ok_weaker, view_expression, view_owner}
use Rattle.std.proofs.Common.{refl}
use Rattle.ss_code_generator.proofs.Filed.{filed_by_discipline}
use Rattle.ss_code_generator.proofs.Testing.{emits_where}
use Rattle.ss_code_generator.proofs.generator.Generator.file.Goals as goal

pub returns-in-ByDiscipline : goal.returns-in-ByDiscipline
returns-in-ByDiscipline c =
    rw c.in-ByDiscipline.is (on_ok_weaker c.file_at.result
    (filed_by_discipline c.args.of.set (view_expression c.args.of.member.now) (view_owner c.args.of.owner.now) c.ordering_of-ordering.result c.ordering_of-ordering.ensures) c.file_at.ensures)

pub returns-in-AsFirst : goal.returns-in-AsFirst
returns-in-AsFirst c = rw c.in-AsFirst.is (on_ok_weaker c.file_at-in-AsFirst.result (emits_where (λ f t u h. (h.0, h.2)) (λ f t u around located. refl)) c.file_at-in-AsFirst.ensures)

pub returns-in-AsLast : goal.returns-in-AsLast
returns-in-AsLast c = rw c.in-AsLast.is (on_ok_weaker c.file_at-in-AsLast.result (emits_where (λ f t u h. (h.0, h.2)) (λ f t u around located. refl)) c.file_at-in-AsLast.ensures)

pub returns-in-BeforeMember : goal.returns-in-BeforeMember
returns-in-BeforeMember c = rw c.in-BeforeMember.is c.file_beside.ensures

pub returns-in-AfterMember : goal.returns-in-AfterMember
returns-in-AfterMember c = rw c.in-AfterMember.is c.file_beside-in-AfterMember.ensures
