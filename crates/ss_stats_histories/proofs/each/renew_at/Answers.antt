use Rattle.std.proofs.Common.{◌≡◌, ◌<◌, subst, length, sym, to_z, of_z, w64, arith, get_or}
use Rattle.std.proofs.lemmas.List.Elements.{All-set}
use Rattle.ss_stats_histories.proofs.Common.{column_of, ints, IsKeptUntil, IsUntil, renewed_one, shown}
use Rattle.ss_stats_histories.proofs.Columns.{one_changed, until_renewed}
use Rattle.ss_stats_histories.proofs.Fullness.{has_within}
use Rattle.ss_stats_histories.proofs.each.renew_at.Goals as goal

pub returns-clause-shown : goal.returns-clause-shown
returns-clause-shown c =
    let ks = c.args.kept.now in
    let x = to_z w64 (of_z w64 c.args.entity) in
    let now = to_z w64 (of_z w64 c.args.now) in
    let v = to_z w64 (of_z w64 c.args.present) in
    let within : c.args.place < length ks = has_within c.args.entity ks c.args.place c.requires.there in
    let n : now ≡ c.args.now = omega (arith, ints) in
    let e : x ≡ c.args.entity = omega (arith, ints) in
    let p : v ≡ c.args.present = omega (arith, ints) in
    let one : shown c.renew.new.self ≡ renewed_one x now v (shown (get_or ks c.args.place c.index-kept-place.result)) = λ t. (c.renew.ensures.statistic t, c.renew.ensures.column t) in
    let two = rw (n, e, p) at one in
    one_changed shown (renewed_one c.args.entity c.args.now c.args.present) ks c.args.place c.renew.new.self c.index-kept-place.result within two

pub returns-clause-until : goal.returns-clause-until
returns-clause-until c =
    let ks = c.args.kept.now in
    let x = to_z w64 (of_z w64 c.args.entity) in
    let now = to_z w64 (of_z w64 c.args.now) in
    let v = to_z w64 (of_z w64 c.args.present) in
    let within : c.args.place < length ks = has_within c.args.entity ks c.args.place c.requires.there in
    let n : now ≡ c.args.now = omega (arith, ints) in
    let d = rw n at c.renew.ensures.column in
    All-set (IsKeptUntil c.args.now) ks c.args.place c.renew.new.self (subst (IsUntil c.args.now) (sym d) (until_renewed c.args.now v x (column_of (get_or ks c.args.place c.index-kept-place.result).rows) (c.requires.until c.args.place c.index-kept-place.result within))) c.requires.until
