use Rattle.ss_code_generator.proofs.Common.{Integer}
use Rattle.ss_code_generator.proofs.Operands.{unlooked_reads}
use Rattle.ss_code_generator.proofs.Filed.{member_looked}
use Rattle.ss_code_generator.proofs.generator.Generator.member.Goals as goal

pub returns-then-not-is_looked : goal.returns-then-not-is_looked
returns-then-not-is_looked c = rw c.if-not-is_looked.true (unlooked_reads (λ f t u h. (Integer, h)) c.in_ok-member.ensures)

pub returns : goal.returns
returns c = rw c.if-not-is_looked.false (member_looked c.args.set c.in_ok-member.ensures (rw c.in_ok-set.ensures at c.in_ok-put.ensures))
