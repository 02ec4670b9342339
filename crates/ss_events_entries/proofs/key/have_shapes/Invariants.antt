use Rattle.std.proofs.Common.{◌≡◌, map, take}
use Rattle.ss_world.specs.Shape.{shape_of}
use Rattle.ss_events_entries.proofs.key.have_shapes.Given as goal

-- the ties so far have their shapes
abbrev pub invariant-loop-i : goal.invariant-loop-i
invariant-loop-i l = take l.i l.shapes ≡ map shape_of (take l.i l.ties)
