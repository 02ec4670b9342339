use Rattle.std.proofs.Common.{rules, ◌≡◌, ◌+◌, Some, ap, false, true, refl}
use Rattle.ss_machine_instructions.proofs.Common.{is_due, on_after, on_at, slice_get}
use Rattle.ss_code_instructions.specs.declared.instruction.Instruction.TheVariants.{Take as Runs}
use Rattle.ss_machine_instructions.proofs.Delivering.{put_within}
use Rattle.ss_machine_instructions.proofs.Ticking.{pauses, takes_in, take_delivers, takes}
use Rattle.ss_machine_instructions.proofs.Placing.{frame_small}
use Rattle.ss_machine_instructions.proofs.state.State.take.Goals as goal

pub returns-then-not-has_taken_tick : goal.returns-then-not-has_taken_tick
returns-then-not-has_taken_tick c = λ w core r.
    let none : c.has_taken_tick.result ≡ false = search rules in
    let kept = c.has_taken_tick.ensures.none none in
    pauses w core c.args.here c.args.self.now (Runs c.args.cell c.args.to.now) r c.stop.new.self (on_after c.args.here c.stop.result) (ap is_due r.runs.carries.2.2) kept.0 (search rules) (ap (on_after c.args.here) c.stop.ensures.none)

pub cell-requires : goal.cell-requires
cell-requires c = let z = c.requires in frame_small z.0 z.1 c.args.here c.args.self.now (Runs c.args.cell c.args.to.now) z.2

pub number_at-item-requires : goal.number_at-item-requires
number_at-item-requires c =
    let z = c.requires in
    let lt = takes_in z.0 z.1 c.args.here c.args.self.now (Runs c.args.cell c.args.to.now) z.2 c.args.cell c.args.to.now z.2.runs.carries in
    search rules

pub set_number-requires : goal.set_number-requires
set_number-requires c =
    let z = c.requires in
    let at : slice_get c.args.self.now.rows.numbers (c.args.here.frame + c.args.cell) ≡ Some c.number_at-item.result = search rules in
    let d = take_delivers z.0 z.1 c.args.here c.args.self.now (Runs c.args.cell c.args.to.now) z.2 c.args.cell c.args.to.now c.number_at-item.result z.2.runs.carries at in
    let lt = put_within z.0 z.1 z.2.placed.line _ c.args.here c.args.self.now c.args.to.now _ d in
    search rules

pub returns : goal.returns
returns c = λ w core r.
    let some : c.has_taken_tick.result ≡ true = search rules in
    let took = c.has_taken_tick.ensures.taken some in
    let at : slice_get c.args.self.now.rows.numbers (c.args.here.frame + c.args.cell) ≡ Some c.number_at-item.result = search rules in
    takes w core c.args.here c.args.self.now (Runs c.args.cell c.args.to.now) r took.0 c.args.cell c.args.to.now c.number_at-item.result c.set_number.new.self (on_at c.args.here) r.runs.carries took.1 at (search rules) refl
