use Rattle.std.proofs.Common.{◌∙◌}
use Rattle.std.proofs.lemmas.Result.{on_ok_weaker}
use Rattle.ss_code_generator.proofs.Rounds.{items_looped}
use Rattle.ss_code_generator.proofs.generator.Generator.item_loop.Goals as goal

pub returns : goal.returns
returns c =
    on_ok_weaker c.forget.result (items_looped c.args.class c.above-above.ensures.line c.above-above.ensures.height c.reach.ensures.grows c.reach.ensures.room c.in_ok-cell.ensures c.in_ok-spot.ensures c.in_ok-items.ensures (c.in_ok-skip.ensures ∙ c.len.ensures.value)
    (rw c.begin_items.ensures at c.in_ok-put.ensures) c.in_ok-append.ensures) c.forget.ensures
