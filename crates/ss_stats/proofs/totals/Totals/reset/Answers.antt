use Rattle.std.proofs.Common.{◌≡◌, ◌∙◌, ap, sym, to_z, of_z, w64, arith}
use Rattle.std.proofs.lemmas.Int.{ints}
use Rattle.ss_stats.specs.Summary.{summary_of}
use Rattle.ss_stats.proofs.Noting.{once_restarted, by_time_restarted}
use Rattle.ss_stats.proofs.totals.Totals.reset.Goals as goal
use Rattle.ss_stats.proofs.totals.Totals.reset.Goals.{in-Once, in-ByTime}

pub returns-clause-restarted : goal.returns-clause-restarted
returns-clause-restarted c h is_summary =
    let kind = sym (ap (λ t. t.weighing) (c.self.view_is ∙ is_summary)) in elim c.match-self.branch [
      | in-Once w ↦ c.self-2.view_is ∙ w.self-is ∙ w.tally.ensures ∙ sym (ap summary_of (once_restarted h _ c.args.now c.args.value (kind ∙ w.in-Once.is)))
      | in-ByTime w ↦ (
          let n : to_z w64 (of_z w64 c.args.now) ≡ c.args.now = omega (arith, ints) in
          let v : to_z w64 (of_z w64 c.args.value) ≡ c.args.value = omega (arith, ints) in
          let e = rw (n, v) at w.accumulate.ensures in
          c.self-2.view_is ∙ w.self-is ∙ e ∙ sym (ap summary_of (by_time_restarted h _ _ _ c.args.now c.args.value (kind ∙ w.in-ByTime.is)))
          )
    ]
