use Rattle.std.proofs.Common.{sym, arith}
use Rattle.std.proofs.lemmas.Bool.{ltb-true}
use Rattle.ss_records_blocks.proofs.Rising.{none_past}
use Rattle.ss_records_blocks.proofs.pages.are_below.Goals as goal

pub returns-in-Some : goal.returns-in-Some
returns-in-Some c low k q o g =
    let last = c.in-Some.last.now in
    omega (arith, none_past c.args.spots.now c.requires last.0 k q o last.1 g (sym c.in-Some.ensures.value), ltb-true last.0 c.args.number low)
