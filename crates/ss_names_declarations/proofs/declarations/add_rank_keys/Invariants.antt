use Rattle.std.proofs.Common.{◌≡◌, ◌++◌, map, take}
use Rattle.ss_names_declarations.proofs.Common.{at_line, NamedKey}
use Rattle.ss_names_declarations.specs.declared.declaration.Declared.TheVariants as d
use Rattle.ss_names_declarations.proofs.declarations.add_rank_keys.Given as goal

abbrev pub invariant-loop-key : goal.invariant-loop-key
invariant-loop-key l = l.out.items ≡ l.initial.out.items ++ map (λ (key : NamedKey). at_line l.line (d.RankKey key.name key.high l.statement)) (take l.key-index l.keys)
