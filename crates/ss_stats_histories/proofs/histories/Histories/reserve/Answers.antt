use Rattle.std.proofs.Common.{◌≡◌, ◌++◌, length, map, take, drop, sym, ap, ◌∙◌, to_z, of_z, w64, arith}
use Rattle.ss_stats_histories.proofs.Common.{bare, ints, Records}
use Rattle.std.proofs.lemmas.Result.{on_ok_weaker}
use Rattle.ss_stats_histories.proofs.Columns.{whole, rooms_there}
use Rattle.ss_stats_histories.proofs.Bare.{until_bare}
use Rattle.ss_stats_histories.proofs.Noted.{firsts, rows_same}
use Rattle.ss_stats_histories.proofs.histories.Histories.reserve.Goals as goal

-- all that is kept then, and what is seen of it
all_kept : (c : goal.After-self-1) → take c.self.inside.kept.len (c.reserve_each.new.kept ++ drop (length c.reserve_each.new.kept) c.self.inside.kept.items) ≡ c.reserve_each.new.kept
all_kept c = let v = c.deref_mut.ensures.value in whole c.self.inside.kept.len c.reserve_each.new.kept c.self.inside.kept.items (sym c.deref_mut.ensures.len ∙ ap length v) (c.reserve_each.auto.kept ∙ ap length v)

bare_then : (c : goal.After-self-1) → map bare c.reserve_each.new.kept ≡ map bare c.self.inside.kept.items
bare_then c = let v = c.deref_mut.ensures.value in rw v at c.reserve_each.ensures.bare

pub invariant_of-self : goal.invariant_of-self
invariant_of-self c =
    let ks = c.self.inside.kept.items in let ns = c.reserve_each.new.kept in let s = bare_then c in
    rw (all_kept c) (c.self.invariant.0 ∙ sym (firsts ks ns s), c.self.invariant.1, until_bare c.self.inside.latest ks ns s c.self.invariant.2)

pub returns-clause-statistics : goal.returns-clause-statistics
returns-clause-statistics c =
    let ks = c.self.inside.kept.items in let ns = c.reserve_each.new.kept in let s = bare_then c in
    rw (all_kept c) (firsts ks ns s ∙ ap (λ (r : Records). r.statistics) c.self.view_is)

pub returns-clause-rows : goal.returns-clause-rows
returns-clause-rows c =
    let ks = c.self.inside.kept.items in let ns = c.reserve_each.new.kept in let s = bare_then c in
    rw (all_kept c) (rows_same ks ns s ∙ ap (λ (r : Records). r.rows) c.self.view_is)

pub returns-clause-room : goal.returns-clause-room
returns-clause-room c =
    let ks = c.self.inside.kept.items in let ns = c.reserve_each.new.kept in let s = bare_then c in
    let k : to_z w64 (of_z w64 c.args.count) ≡ c.args.count = omega (arith, ints) in
    let r = rw k at c.reserve_each.ensures.room in
    rw (all_kept c) (on_ok_weaker c.reserve_each.result (rooms_there c.args.layout.now c.args.whose c.args.count ns) r)
