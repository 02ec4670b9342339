use Rattle.std.proofs.Common.{rules, ◌≡◌, ◌∙◌, length, subst, ap}
use Rattle.ss_code_instructions.specs.declared.instruction.Instruction.TheVariants.{BeginClass as Runs}
use Rattle.ss_machine_instructions.proofs.Common.{has_item, hold_length, IsSuited, on_if_at, pos, records_in, slice_get}
use Rattle.ss_machine_instructions.proofs.Placing.{suits, frame_small}
use Rattle.ss_machine_instructions.proofs.Looping.{class_within, class_count, begins_class}
use Rattle.ss_machine_instructions.proofs.state.State.begin_class.Goals as goal

pub cell-at-requires : goal.cell-at-requires
cell-at-requires c = let z = c.requires in frame_small z.1.0 z.1.1 c.args.here c.args.self.now (Runs c.args.class c.args.cell z.0) z.1.2

pub set_number_at-requires : goal.set_number_at-requires
set_number_at-requires c =
    let z = c.requires in
    let y = subst (IsSuited z.1.0.program z.1.0.code z.1.1.place z.1.2.placed.locals z.1.2.placed.cells) z.1.2.runs.carries.2 (suits z.1.0 z.1.1 c.args.here c.args.self.now (Runs c.args.class c.args.cell z.0) z.1.2) in
    let lt = class_within z.1.0 z.1.1 c.args.here c.args.self.now (Runs c.args.class c.args.cell z.0) z.1.2 c.args.class c.args.cell z.1.2.runs.carries.0 z.0 z.1.2.runs.carries.1 y in
    search rules

pub set_number_at-requires-2 : goal.set_number_at-requires-2
set_number_at-requires-2 c =
    let z = c.requires in
    let y = subst (IsSuited z.1.0.program z.1.0.code z.1.1.place z.1.2.placed.locals z.1.2.placed.cells) z.1.2.runs.carries.2 (suits z.1.0 z.1.1 c.args.here c.args.self.now (Runs c.args.class c.args.cell z.0) z.1.2) in
    let lt = class_within z.1.0 z.1.1 c.args.here c.args.self.now (Runs c.args.class c.args.cell z.0) z.1.2 c.args.class c.args.cell z.1.2.runs.carries.0 z.0 z.1.2.runs.carries.1 y in
    search rules

pub set_number_at-requires-3 : goal.set_number_at-requires-3
set_number_at-requires-3 c =
    let z = c.requires in
    let y = subst (IsSuited z.1.0.program z.1.0.code z.1.1.place z.1.2.placed.locals z.1.2.placed.cells) z.1.2.runs.carries.2 (suits z.1.0 z.1.1 c.args.here c.args.self.now (Runs c.args.class c.args.cell z.0) z.1.2) in
    let lt = class_within z.1.0 z.1.1 c.args.here c.args.self.now (Runs c.args.class c.args.cell z.0) z.1.2 c.args.class c.args.cell z.1.2.runs.carries.0 z.0 z.1.2.runs.carries.1 y in
    search rules

pub returns : goal.returns
returns c = λ skip w core r.
    let run = Runs c.args.class c.args.cell skip in
    let y = subst (IsSuited w.program w.code core.place r.placed.locals r.placed.cells) r.runs.carries.2 (suits w core c.args.here c.args.self.now run r) in
    let high : length core.cells ≡ r.runs.carries.0 = hold_length core.cells r.placed.cells r.fits.cells ∙ y.1 in
    let count = length (records_in (slice_get c.args.self.now.world.heap.permanents c.args.class)) in
    let within = class_within w core c.args.here c.args.self.now run r c.args.class c.args.cell r.runs.carries.0 skip r.runs.carries.1 y in
    let found : c.is_item.result ≡ has_item (pos 1) (pos count) = search rules in
    begins_class w core c.args.here c.args.self.now run r c.args.class c.args.cell r.runs.carries.0 count skip _ (on_if_at c.args.here c.is_item.result skip) r.runs.carries.2 r.runs.carries.1 high (class_count w core c.args.here c.args.self.now run r c.args.class) within (search rules) (ap (λ b. on_if_at c.args.here b skip) found)
