use Rattle.std.proofs.Common.{refl}
use Rattle.ss_code_generator.proofs.Common.{Integer, on_ok_weaker, view_place}
use Rattle.ss_code_instructions.specs.declared.instruction.Instruction.TheVariants as r
use Rattle.ss_code_instructions.specs.Instructions as i
use Rattle.ss_code_generator.proofs.Letting.{to_place_made}
use Rattle.ss_code_generator.proofs.generator.Generator.create.Goals as goal

pub returns : goal.returns
returns c =
    let to = c.in_ok-to in
    on_ok_weaker c.take.result (to_place_made (view_place c.args.place.now) Integer c.in_ok-spot.spot to.to (r.Create c.args.class to.to) (λ z. i.Create c.args.class z) c.in_ok-spot.ensures c.above-above.ensures.line (rw c.cells.ensures at c.above-above.ensures.height) to.ensures.grows to.ensures.at
    (λ f u z at. (z, at, refl)) (λ prints cells z. tt) (rw c.in_ok-class.ensures at c.in_ok-put.ensures)) c.take.ensures
