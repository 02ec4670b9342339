use Rattle.std.proofs.Common.{◌<◌, to_z, of_z, w64, length, map, sym, ap, ◌∙◌, get_or}
use Rattle.ss_stats_histories.proofs.Common.{column_of, option_or, Recorded, refused_at, refused_in, shown}
use Rattle.ss_stats_histories.proofs.Fullness.{refused_there, next_reason}
use Rattle.ss_stats_histories.proofs.each.first_refused.Goals as goal

pub loop-place-preserved : goal.loop-place-preserved
loop-place-preserved c =
    let x = to_z w64 (of_z w64 c.args.entity) in
    let ks = c.args.kept.now in
    let i = c.loop-place.place-index in
    let j = get_or c.args.places.now i 0 in
    let f = refused_at x (map shown ks) in
    let within : j < length ks = c.requires.within i 0 c.loop-place-test.true in
    let one = c.refused.ensures ∙ ap (λ (r : Recorded). refused_in (column_of r.rows x)) c.index-kept-place.is ∙ sym (refused_there x ks j c.index-kept-place.result within) in
    c.or-found.ensures ∙ ap (λ o. option_or o c.refused.result) c.loop-place.invariant ∙ ap (option_or _) one ∙ sym (next_reason f c.args.places.now i 0 c.loop-place-test.true)
