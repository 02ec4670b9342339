use Rattle.ss_code_generator.proofs.Common.{on_ok_weaker, view_owner}
use Rattle.ss_code_generator.proofs.Filed.{member_filed}
use Rattle.ss_code_generator.proofs.generator.Generator.file_at.Goals as goal

pub returns : goal.returns
returns c =
    on_ok_weaker c.put.result (member_filed c.args.of.set (view_owner c.args.of.owner.now) c.args.ordering (rw c.owner_may_fault.ensures at c.in_ok-member.ensures) c.above-above.ensures.line c.above-above.ensures.height c.in_ok-owner.ensures c.is_count_watched-noted.ensures) (rw (c.file_by.ensures, c.in_ok-as_index.ensures) at c.put.ensures)
