use Rattle.std.proofs.Common.{◌≡◌, take}
use Rattle.ss_names_uses.specs.Uses.{fields_of_pictures}
use Rattle.ss_names_uses.proofs.pictures.fields_of.Given as goal

abbrev pub invariant-loop-picture : goal.invariant-loop-picture
invariant-loop-picture l = l.fields.items ≡ fields_of_pictures (take l.picture-index l.pictures)
