use Rattle.std.proofs.Common.{◌≡◌, take}
use Rattle.ss_picture.specs.Pictures.{filled}
use Rattle.ss_picture.proofs.fields.Fields.fill.Given as goal

abbrev pub invariant-loop-field : goal.invariant-loop-field
invariant-loop-field l = l.line ≡ filled l.initial.line (take l.field l.items)
