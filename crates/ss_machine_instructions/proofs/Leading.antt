-- Where a step leads that ends, or goes to a place in a frame.
use Rattle.std.proofs.Common.{◌≡◌, ℕ, ◌+◌, true, Option, Some, None, refl, ap, ◌∙◌, arith}
use Rattle.std.specs.Prelude.{is_some, if◌then◌else◌}
use Rattle.ss_machine_instructions.specs.declared.flow.Here.{Here}
use Rattle.ss_machine_instructions.specs.declared.flow.Next.{Next}
use Rattle.ss_machine_instructions.specs.Ways.{led, led_to, begun_event_at}

-- the run stopped
pub led_stopped : (n m : Next) (o : Option (Unit {0})) → m ≡ record n { goes = is_some o } → o ≡ None → led m ≡ None
led_stopped n m o e none = ap led e ∙ ap (λ (u : Option (Unit {0})). led (record n { goes = is_some u })) none

-- to a place in a frame
pub led_there : (place frame : ℕ) (m : Next) → m ≡ record { place = place; past = 0; frame = frame; goes = true } → led m ≡ Some (record { place = place; frame = frame })
led_there place frame m e =
    let same : place + 0 ≡ place = omega arith in
    ap led e ∙ ap (λ (p : ℕ). let h : Here = record { place = p; frame = frame } in Some h) same

-- to the place where an event begins, in the frame that begins at a cell
pub begun_is : (here : Here) (cell : ℕ) (place : Option ℕ) → led_to place (here.frame + cell) ≡ begun_event_at here cell place
begun_is here cell (Some place) = refl
begun_is here cell None = refl
