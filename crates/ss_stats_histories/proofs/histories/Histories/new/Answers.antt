use Rattle.std.proofs.Common.{sym, ◌∙◌, arith}
use Rattle.std.proofs.lemmas.Int.{ints}
use Rattle.ss_stats_histories.proofs.Bare.{fresh_until, none_columns}
use Rattle.ss_stats_histories.proofs.histories.Histories.new.Goals as goal

pub invariant_of-result : goal.invariant_of-result
invariant_of-result c = (c.in_ok-about.ensures ∙ sym c.in_ok-kept.ensures.statistics, omega (arith, ints), fresh_until _ _ _ c.in_ok-kept.ensures.rows)

pub returns-clause-none : goal.returns-clause-none
returns-clause-none c = none_columns _ _ c.in_ok-kept.ensures.rows
