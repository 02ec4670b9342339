use Rattle.std.proofs.Common.{◌≡◌, subst, sym, to_z, of_z, w64, arith, get_or, ◌∙◌}
use Rattle.std.proofs.lemmas.List.Elements.{All-set}
use Rattle.ss_stats_histories.proofs.Common.{column_of, ints, IsKeptUntil, IsUntil, noted_one, shown}
use Rattle.ss_stats_histories.proofs.Columns.{one_changed, until_noted}
use Rattle.ss_stats_histories.proofs.Fullness.{refused_there}
use Rattle.ss_stats_histories.proofs.each.note_here.Goals as goal

pub returns-clause-refused : goal.returns-clause-refused
returns-clause-refused c =
    let ks = c.args.kept.now in
    let e : to_z w64 (of_z w64 c.args.entity) ≡ c.args.entity = omega (arith, ints) in
    let one = rw e at c.note_or_refuse.ensures.refused in
    one ∙ sym (refused_there c.args.entity ks c.args.place c.index-kept-place.result c.requires.within)

pub returns-clause-shown : goal.returns-clause-shown
returns-clause-shown c =
    let ks = c.args.kept.now in
    let x = to_z w64 (of_z w64 c.args.entity) in
    let now = to_z w64 (of_z w64 c.args.now) in
    let v = to_z w64 (of_z w64 c.args.number) in
    let n : now ≡ c.args.now = omega (arith, ints) in
    let e : x ≡ c.args.entity = omega (arith, ints) in
    let p : v ≡ c.args.number = omega (arith, ints) in
    let one : shown c.note_or_refuse.new.self ≡ noted_one x now v (shown (get_or ks c.args.place c.index-kept-place.result)) = λ t. (c.note_or_refuse.ensures.statistic t, c.note_or_refuse.ensures.column t) in
    let two = rw (n, e, p) at one in
    one_changed shown (noted_one c.args.entity c.args.now c.args.number) ks c.args.place c.note_or_refuse.new.self c.index-kept-place.result c.requires.within two

pub returns-clause-until : goal.returns-clause-until
returns-clause-until c =
    let ks = c.args.kept.now in
    let x = to_z w64 (of_z w64 c.args.entity) in
    let now = to_z w64 (of_z w64 c.args.now) in
    let v = to_z w64 (of_z w64 c.args.number) in
    let n : now ≡ c.args.now = omega (arith, ints) in
    let d = rw n at c.note_or_refuse.ensures.column in
    All-set (IsKeptUntil c.args.now) ks c.args.place c.note_or_refuse.new.self (subst (IsUntil c.args.now) (sym d) (until_noted c.args.now v x (column_of (get_or ks c.args.place c.index-kept-place.result).rows) (c.requires.until c.args.place c.index-kept-place.result c.requires.within))) c.requires.until
