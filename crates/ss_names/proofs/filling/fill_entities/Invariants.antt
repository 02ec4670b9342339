use Rattle.std.proofs.Common.{◌≡◌, take}
use Rattle.ss_names.proofs.Common.{entities_pass, fold}
use Rattle.ss_names.proofs.filling.fill_entities.Given as goal

abbrev pub invariant-loop-declaration : goal.invariant-loop-declaration
invariant-loop-declaration l = l.names ≡ fold entities_pass l.initial.names (take l.declaration-index l.declarations)
