use Rattle.std.proofs.Common.{sym, subst}
use Rattle.ss_stats_histories.specs.Records.{IsUntil}
use Rattle.ss_stats_histories.proofs.Columns.{until_gone}
use Rattle.ss_stats_histories.proofs.each.end_one.Goals as goal

pub returns-then-is_home-clause-until : goal.returns-then-is_home-clause-until
returns-then-is_home-clause-until c = subst (IsUntil c.args.latest) (sym c.end.ensures.column) (until_gone c.args.latest _ _ c.requires.until)
