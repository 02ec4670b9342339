use Rattle.std.proofs.Common.{◌≡◌, ◌+◌, drop}
use Rattle.ss_picture.specs.Pictures.{stars}
use Rattle.ss_picture.proofs.field.stars.Given as goal

abbrev pub invariant-loop-place : goal.invariant-loop-place
invariant-loop-place l = l.place + stars (drop l.place l.bytes) ≡ stars l.bytes
