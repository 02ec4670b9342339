use Rattle.std.proofs.Common.{◌≡◌, ◌==◌, take, Some}
use Rattle.std.specs.List.{filter}
use Rattle.ss_names_meaning.specs.Answers.{each}
use Rattle.ss_names_meaning.specs.Layouts.{ranked_by}
use Rattle.ss_names_meaning.proofs.ranking.rank_keys_among.Given as goal

abbrev pub invariant-loop-key : goal.invariant-loop-key
invariant-loop-key l = each (ranked_by l.names l.class) (filter (λ k. k.statement == l.statement) (take l.key-index l.keys)) ≡ Some l.resolved.items
