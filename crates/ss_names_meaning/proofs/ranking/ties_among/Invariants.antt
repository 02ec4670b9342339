use Rattle.std.proofs.Common.{◌≡◌, take, Some}
use Rattle.std.specs.List.{filter}
use Rattle.ss_names_declarations.specs.NameTable.{same_name}
use Rattle.ss_names_meaning.specs.Answers.{each}
use Rattle.ss_names_meaning.specs.Layouts.{tied_by}
use Rattle.ss_names_meaning.proofs.ranking.ties_among.Given as goal

abbrev pub invariant-loop-tie : goal.invariant-loop-tie
invariant-loop-tie l = each (tied_by l.names l.class) (filter (λ k. same_name k.class l.name) (take l.tie-index l.keys)) ≡ Some l.resolved.items
