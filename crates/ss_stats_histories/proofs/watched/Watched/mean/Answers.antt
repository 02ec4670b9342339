use Rattle.ss_stats_histories.proofs.watched.Watched.mean.Goals as goal

pub returns-clause-is_mean : goal.returns-clause-is_mean
returns-clause-is_mean c = record { count = c.mean.ensures.count; low = λ some. c.mean.ensures.low; high = λ some. c.mean.ensures.high }
