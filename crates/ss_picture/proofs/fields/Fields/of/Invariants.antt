use Rattle.std.proofs.Common.{◌-◌, ◌≤◌, length, drop}
use Rattle.ss_picture.proofs.Scan.{Scan}
use Rattle.ss_picture.proofs.fields.Fields.of.Given as goal

abbrev pub invariant-loop-place : goal.invariant-loop-place
invariant-loop-place l = record {
  within : l.place ≤ length l.picture;
  scan : Scan l.fields.starts.items l.fields.shapes.items l.place (drop l.place l.picture) l.picture;
}

abbrev pub decreases-loop-place : goal.decreases-loop-place
decreases-loop-place l = length l.picture - l.place
