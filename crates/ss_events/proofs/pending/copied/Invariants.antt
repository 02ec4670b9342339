use Rattle.std.proofs.Common.{◌≡◌, map, take}
use Rattle.ss_events.proofs.pending.copied.Given as goal

-- the classes so far are copied
abbrev pub invariant-loop-shapes : goal.invariant-loop-shapes
invariant-loop-shapes l = map (λ shapes. shapes.items) l.copies.items ≡ map (λ shapes. shapes.items) (take l.shapes-index l.classes)
