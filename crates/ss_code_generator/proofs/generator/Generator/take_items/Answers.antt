use Rattle.std.proofs.Common.{◌∙◌}
use Rattle.ss_code_generator.proofs.Pushing.{items_taken}
use Rattle.ss_code_generator.proofs.generator.Generator.take_items.Goals as goal

pub returns : goal.returns
returns c = items_taken c.args.cell (rw c.new-code.ensures at c.in_ok-take_item.ensures) c.in_ok-append_copy.ensures (c.in_ok-back.ensures ∙ c.len.ensures.value) c.in_ok-put.ensures
