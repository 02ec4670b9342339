use Rattle.std.proofs.Common.{map, take, take_all}
use Rattle.ss_program.specs.View.{view_item}
use Rattle.ss_code_pieces.proofs.Steps.{next_taken}
use Rattle.ss_code_generator.proofs.Itemed.{no_items, items_more, items_done}
use Rattle.ss_code_generator.proofs.generator.Generator.items.Goals as goal

pub loop-item-init : goal.loop-item-init
loop-item-init c = no_items

pub loop-item-preserved : goal.loop-item-preserved
loop-item-preserved c =
    let l = c.loop-item in
    let x = c.item-item.result in
    rw (next_taken view_item c.args.items.now l.item-index x c.loop-item-test.true c.item-item.is)
    (items_more (map view_item (take l.item-index c.args.items.now)) (view_item x) l.invariant c.in_ok-cells.ensures.code c.in_ok-cells.ensures.width c.in_ok-cells.ensures.room c.above-here.ensures.line c.above-here.ensures.height)

pub returns : goal.returns
returns c = items_done (map view_item c.args.items.now) c.reach.ensures.grows (rw (take_all c.loop-item.item-index c.args.items.now c.loop-item-test.false) at c.loop-item.invariant)
