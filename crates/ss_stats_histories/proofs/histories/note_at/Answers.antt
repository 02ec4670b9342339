use Rattle.std.proofs.Common.{◌≡◌, List, map, Ok, Option, Some, None, sym, ap, ◌∙◌, refl, to_z, of_z, w64, arith}
use Rattle.ss_stats_histories.proofs.Common.{ints, Recorded, shown, StatisticHistories, statistics_of, Unnoted}
use Rattle.ss_stats_histories.proofs.Noted.{same_statistics, seconds, stops_known, noted_known, noted_statistic, noted_where, noted_is, unless}
use Rattle.ss_stats_histories.proofs.histories.note_at.Goals as goal

pub returns-in-Ok-clause-noted : goal.returns-in-Ok-clause-noted
returns-in-Ok-clause-noted c subject p =
    let ks : List Recorded = c.args.kept.now in
    let ns : List Recorded = c.note_all.new.kept in
    let n : to_z w64 (of_z w64 c.args.now) ≡ c.args.now = omega (arith, ints) in
    let x : to_z w64 (of_z w64 c.args.entity) ≡ c.args.entity = omega (arith, ints) in
    let s = rw (n, x) at c.in-Ok.ensures.noted in
    let k = noted_known subject c.args.entity c.args.now c.args.value ks ns (statistics_of ks) c.args.places.now refl p s.1 in
    noted_is subject c.args.entity c.args.now c.args.value ks ∙
    ap (λ (o : Option Unnoted). unless o (map (λ (z : StatisticHistories). z.1) (map (noted_where subject c.args.entity c.args.now c.args.value) (map shown ks)))) (stops_known subject c.args.entity c.args.value ks (statistics_of ks) c.args.places.now None refl p s.0) ∙
    ap Ok (sym (seconds ns (map (noted_where subject c.args.entity c.args.now c.args.value) (map shown ks)) k))

pub returns-in-Ok-clause-statistics : goal.returns-in-Ok-clause-statistics
returns-in-Ok-clause-statistics c subject p =
    let ks : List Recorded = c.args.kept.now in
    let ns : List Recorded = c.note_all.new.kept in
    let n : to_z w64 (of_z w64 c.args.now) ≡ c.args.now = omega (arith, ints) in
    let x : to_z w64 (of_z w64 c.args.entity) ≡ c.args.entity = omega (arith, ints) in
    let s = rw (n, x) at c.in-Ok.ensures.noted in
    let k = noted_known subject c.args.entity c.args.now c.args.value ks ns (statistics_of ks) c.args.places.now refl p s.1 in
    same_statistics (noted_where subject c.args.entity c.args.now c.args.value) (noted_statistic subject c.args.entity c.args.now c.args.value) ks ns k

pub returns-in-Err-clause-noted : goal.returns-in-Err-clause-noted
returns-in-Err-clause-noted c subject p =
    let ks : List Recorded = c.args.kept.now in
    let x : to_z w64 (of_z w64 c.args.entity) ≡ c.args.entity = omega (arith, ints) in
    let s = rw x at c.in-Err.ensures.noted in (
      noted_is subject c.args.entity c.args.now c.args.value ks ∙
          ap (λ (o : Option Unnoted). unless o (map (λ (z : StatisticHistories). z.1) (map (noted_where subject c.args.entity c.args.now c.args.value) (map shown ks))))
          (stops_known subject c.args.entity c.args.value ks (statistics_of ks) c.args.places.now (Some c.in-Err.unnoted) refl p s.0),
      s.1,
      refl,
    )

pub returns-in-Err-clause-statistics : goal.returns-in-Err-clause-statistics
returns-in-Err-clause-statistics c subject p = ap statistics_of c.in-Err.ensures.noted.1
