use Rattle.std.proofs.Common.{◌≡◌, take, slice_get}
use Rattle.std.specs.List.{flat_map}
use Rattle.ss_world.specs.State.{modes_of}
use Rattle.ss_meaning.specs.Meaning.{tie_shape}
use Rattle.ss_code.proofs.program_facts.shapes.Given as goal

abbrev pub invariant-loop-key : goal.invariant-loop-key
invariant-loop-key l = l.made.items ≡ flat_map (λ key. tie_shape key.high (slice_get (modes_of l.layout l.event.class) key.field)) (take l.key-index l.event.ties)
