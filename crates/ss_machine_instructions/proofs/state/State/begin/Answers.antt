use Rattle.std.proofs.Common.{arith, rules, ◌≡◌, ◌+◌, Some, true, false, ap}
use Rattle.ss_machine_instructions.proofs.Common.{has_item, int_lt, on_if_at, pos, slice_get, tested_at}
use Rattle.ss_code_instructions.specs.declared.instruction.Instruction.TheVariants.{Begin as Runs}
use Rattle.ss_machine_instructions.proofs.Placing.{frame_small}
use Rattle.ss_machine_instructions.proofs.Looping.{begin_cells, loop_reaches, loop_at, begins_not, begins}
use Rattle.ss_machine_instructions.proofs.state.State.begin.Goals as goal

pub cell-at-requires : goal.cell-at-requires
cell-at-requires c = let z = c.requires in frame_small z.1.0 z.1.1 c.args.here c.args.self.now (Runs c.args.cell z.0) z.1.2

pub number_at-step-requires : goal.number_at-step-requires
number_at-step-requires c = let z = c.requires in omega (arith, loop_reaches z.1.0 z.1.1 c.args.here c.args.self.now (Runs c.args.cell z.0) z.1.2 c.args.cell c.cell-at.result c.cell-at.ensures (begin_cells z.1.0 z.1.1 c.args.here c.args.self.now c.args.cell z.0 z.1.2))

pub number_at-limit-requires : goal.number_at-limit-requires
number_at-limit-requires c = let z = c.requires in omega (arith, loop_reaches z.1.0 z.1.1 c.args.here c.args.self.now (Runs c.args.cell z.0) z.1.2 c.args.cell c.cell-at.result c.cell-at.ensures (begin_cells z.1.0 z.1.1 c.args.here c.args.self.now c.args.cell z.0 z.1.2))

pub number_at-item-requires : goal.number_at-item-requires
number_at-item-requires c = let z = c.requires in omega (arith, loop_reaches z.1.0 z.1.1 c.args.here c.args.self.now (Runs c.args.cell z.0) z.1.2 c.args.cell c.cell-at.result c.cell-at.ensures (begin_cells z.1.0 z.1.1 c.args.here c.args.self.now c.args.cell z.0 z.1.2))

pub returns-then-not-rises : goal.returns-then-not-rises
returns-then-not-rises c = λ skip w core r.
    let k = begin_cells w core c.args.here c.args.self.now c.args.cell skip r in
    let item : slice_get c.args.self.now.rows.numbers (c.args.here.frame + c.args.cell) ≡ Some c.number_at-item.result = search rules in
    let limit : slice_get c.args.self.now.rows.numbers (c.args.here.frame + c.args.cell + 1) ≡ Some c.number_at-limit.result = search rules in
    let step : slice_get c.args.self.now.rows.numbers (c.args.here.frame + c.args.cell + 2) ≡ Some c.number_at-step.result = search rules in
    let low : int_lt c.number_at-step.result (pos 1) ≡ true = search rules in
    let l = loop_at w core c.args.here c.args.self.now (Runs c.args.cell skip) r c.args.cell k c.number_at-item.result c.number_at-limit.result c.number_at-step.result item limit step in
    begins_not w core c.args.here c.args.self.now (Runs c.args.cell skip) r skip c.args.cell r.runs.carries.0 c.number_at-item.result c.number_at-limit.result c.number_at-step.result c.fault.new.self (tested_at c.args.here c.fault.result skip) r.runs.carries.2 l low c.fault.ensures.faulted (ap (λ o. tested_at c.args.here o skip) c.fault.ensures.none)

pub returns : goal.returns
returns c = λ skip w core r.
    let k = begin_cells w core c.args.here c.args.self.now c.args.cell skip r in
    let item : slice_get c.args.self.now.rows.numbers (c.args.here.frame + c.args.cell) ≡ Some c.number_at-item.result = search rules in
    let limit : slice_get c.args.self.now.rows.numbers (c.args.here.frame + c.args.cell + 1) ≡ Some c.number_at-limit.result = search rules in
    let step : slice_get c.args.self.now.rows.numbers (c.args.here.frame + c.args.cell + 2) ≡ Some c.number_at-step.result = search rules in
    let high : int_lt c.number_at-step.result (pos 1) ≡ false = search rules in
    let l = loop_at w core c.args.here c.args.self.now (Runs c.args.cell skip) r c.args.cell k c.number_at-item.result c.number_at-limit.result c.number_at-step.result item limit step in
    let found : c.is_item.result ≡ has_item c.number_at-item.result c.number_at-limit.result = search rules in
    begins w core c.args.here c.args.self.now (Runs c.args.cell skip) r skip c.args.cell r.runs.carries.0 c.number_at-item.result c.number_at-limit.result c.number_at-step.result (on_if_at c.args.here c.is_item.result skip) r.runs.carries.2 l high (ap (λ b. on_if_at c.args.here b skip) found)
