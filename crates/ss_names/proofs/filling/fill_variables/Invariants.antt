use Rattle.std.proofs.Common.{◌≡◌, take}
use Rattle.ss_names.proofs.Common.{fold, variables_pass}
use Rattle.ss_names.proofs.filling.fill_variables.Given as goal

abbrev pub invariant-loop-declaration : goal.invariant-loop-declaration
invariant-loop-declaration l = l.names ≡ fold variables_pass l.initial.names (take l.declaration-index l.declarations)
