use Rattle.std.proofs.Common.{Option, refl}
use Rattle.ss_records_blocks.specs.Pages.{Page}
use Rattle.ss_records_blocks.proofs.Rising.{rises_none}
use Rattle.ss_records_blocks.proofs.pages.PageMap.new.Goals as goal

pub invariant_of-result : goal.invariant_of-result
invariant_of-result c = rw c.new.ensures.items (rises_none (Option Page), refl)
