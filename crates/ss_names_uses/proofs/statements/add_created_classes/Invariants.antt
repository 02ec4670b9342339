use Rattle.std.proofs.Common.{◌≡◌, ◌++◌, map, take, true}
use Rattle.ss_tree.specs.Names.{NameBytes}
use Rattle.ss_names_uses.specs.declared.used.ClassNeed.TheVariants as needs
use Rattle.ss_names_uses.specs.Uses.{class_used}
use Rattle.ss_names_uses.proofs.statements.add_created_classes.Given as goal

abbrev pub invariant-loop-class : goal.invariant-loop-class
invariant-loop-class l = l.into.items ≡ l.initial.into.items ++ map (λ (class : NameBytes). class_used l.line needs.Permanent class true) (take l.class-index l.classes)
