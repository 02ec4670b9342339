use Rattle.std.proofs.Common.{refl}
use Rattle.ss_code_generator.proofs.Common.{code_of, on_ok_weaker, place, reading, view_place}
use Rattle.ss_code_instructions.specs.Instructions as i
use Rattle.ss_code_generator.proofs.Forms as forms
use Rattle.ss_code_generator.proofs.Letting.{to_place_made}
use Rattle.ss_code_generator.proofs.generator.Generator.read.Goals as goal

pub returns : goal.returns
returns c =
    let m = c.args.target.now.mode in
    let to = c.in_ok-to in
    on_ok_weaker c.take.result (to_place_made (view_place c.args.target.now.place) m c.in_ok-spot.spot to.to (reading m to.to) (λ z. i.Read m z) c.in_ok-spot.ensures c.above-above.ensures.line (rw c.cells.ensures at c.above-above.ensures.height) to.ensures.grows to.ensures.at
    (λ f u z at. forms.reads_word (code_of f.program) f.constants (place u (i.Read m z)) m to.to (z, at, refl)) (λ prints cells z. tt) (rw c.read_of.ensures at c.in_ok-put.ensures)) c.take.ensures
