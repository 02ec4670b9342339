use Rattle.std.proofs.Common.{◌≡◌, ◌++◌, map, take}
use Rattle.ss_tree.specs.Names.{NameBytes}
use Rattle.ss_names_declarations.specs.Declarations.{at_line, declared_as}
use Rattle.ss_names_declarations.proofs.declarations.add_names.Given as goal

abbrev pub invariant-loop-name : goal.invariant-loop-name
invariant-loop-name l = l.out.items ≡ l.initial.out.items ++ map (λ (name : NameBytes). at_line l.line (declared_as l.listed name)) (take l.name-index l.names)
