use Rattle.std.proofs.Common.{◌≡◌, ◌++◌, map, take}
use Rattle.ss_tree.specs.declared.preamble.NamedStatistic.{NamedStatistic}
use Rattle.ss_names_declarations.specs.Declarations.{at_line}
use Rattle.ss_names_declarations.specs.declared.declaration.Declared.TheVariants as d
use Rattle.ss_names_declarations.proofs.declarations.add_statistics.Given as goal

abbrev pub invariant-loop-statistic : goal.invariant-loop-statistic
invariant-loop-statistic l = l.out.items ≡ l.initial.out.items ++ map (λ (s : NamedStatistic). at_line l.line (d.Statistic s.name s.kind l.subject)) (take l.statistic-index l.statistics)
