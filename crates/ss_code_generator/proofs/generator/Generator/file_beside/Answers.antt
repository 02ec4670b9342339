use Rattle.ss_code_generator.proofs.Common.{on_ok_weaker, view_owner}
use Rattle.ss_code_generator.proofs.Filed.{member_beside}
use Rattle.ss_code_generator.proofs.generator.Generator.file_beside.Goals as goal

pub returns : goal.returns
returns c =
    on_ok_weaker c.put.result (member_beside c.args.of.set (view_owner c.args.of.owner.now) c.args.after c.in_ok-member.ensures c.above-above.ensures.line c.above-above.ensures.height c.in_ok-beside.ensures c.above-higher.ensures.line c.above-higher.ensures.height c.in_ok-owner.ensures c.is_count_watched.ensures) (rw c.in_ok-as_index.ensures at c.put.ensures)
