-- A READ takes the next word from the input, and no other instruction takes anything.
use Rattle.std.proofs.Common.{◌≡◌, Option, Some, None}
use Rattle.ss_code_instructions.proofs.Common.{act, Code, Core, Goes, is_due, MachineState, Placed, slice_get, step_at}
use Rattle.ss_code_instructions.specs.Reached.{HasTakenBy, HasTakenInput, InputStays, input_of}
use Rattle.ss_code_instructions.proofs.Moving.{after_step}
use Rattle.ss_code_instructions.proofs.Acting.{act_takes}

at_takes : (o : Option Placed) (code : Code) (s t : MachineState) → step_at o code s ≡ Goes t → HasTakenInput o (input_of s.core) (input_of t.core)
at_takes None code s t e = tt
at_takes (Some x) code s t e =
    let Good : Core → Type 0 = λ d. HasTakenBy x.instruction (input_of s.core) (input_of d) in
    (after_step Good (is_due x.instruction) s.report s.ticks (act code x.line x.instruction s.core) t (act_takes code x.line x.instruction s.core) e).0

pub input_stays : InputStays
input_stays code s t e = at_takes (slice_get code.places s.core.place) code s t e
