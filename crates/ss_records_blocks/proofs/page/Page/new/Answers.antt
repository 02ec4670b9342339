use Rattle.std.proofs.Common.{rules}
use Rattle.ss_records_blocks.proofs.page.Page.new.Goals as goal

pub returns : goal.returns
returns c = c.in_ok-places.ensures.items_if_clones_equal (λ y h. search rules)
