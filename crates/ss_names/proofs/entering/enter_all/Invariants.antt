use Rattle.std.proofs.Common.{◌≡◌, take}
use Rattle.ss_names.proofs.Common.{entered, fold, meanings_pass}
use Rattle.ss_names.proofs.entering.enter_all.Given as goal

abbrev pub invariant-loop-declaration : goal.invariant-loop-declaration
invariant-loop-declaration l =
    entered l.meanings l.clash ≡ fold (meanings_pass l.names) (entered l.initial.meanings l.initial.clash) (take l.declaration-index l.declarations)
