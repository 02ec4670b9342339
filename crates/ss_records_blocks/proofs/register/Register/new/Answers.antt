use Rattle.ss_records_blocks.proofs.Paging.{paged_first}
use Rattle.ss_records_blocks.proofs.register.Register.new.Goals as goal

pub invariant_of-result : goal.invariant_of-result
invariant_of-result c = rw (c.new-2.ensures, c.in_ok-current.ensures) paged_first
