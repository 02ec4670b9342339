use Rattle.std.proofs.Common.{◌≡◌, ◌++◌, length, map, take, drop, sym, ap, ◌∙◌, refl, to_z, of_z, w64, arith}
use Rattle.ss_stats_histories.proofs.Common.{Class, columns_of, ended_shown, ending, ints, Records, shown}
use Rattle.ss_stats_histories.proofs.Columns.{whole}
use Rattle.ss_stats_histories.proofs.Noted.{same_statistics, ended_is}
use Rattle.ss_stats_histories.proofs.histories.Histories.end.Goals as goal

-- all that is kept then, and what is seen of it
all_kept : (c : goal.After-self-1) → take c.self.inside.kept.len (c.end_each.new.kept ++ drop (length c.end_each.new.kept) c.self.inside.kept.items) ≡ c.end_each.new.kept
all_kept c = let v = c.deref_mut.ensures.value in whole c.self.inside.kept.len c.end_each.new.kept c.self.inside.kept.items (sym c.deref_mut.ensures.len ∙ ap length v) (c.end_each.auto.kept ∙ ap length v)

shown_then : (c : goal.After-self-1) → map shown c.end_each.new.kept ≡ map (ended_shown c.args.layout.now (Class c.args.class) c.args.entity) (map shown c.self.inside.kept.items)
shown_then c =
    let v = c.deref_mut.ensures.value in
    let x : to_z w64 (of_z w64 c.args.entity) ≡ c.args.entity = omega (arith, ints) in
    rw (v, x) at c.end_each.ensures.shown

pub invariant_of-self : goal.invariant_of-self
invariant_of-self c =
    let ks = c.self.inside.kept.items in let ns = c.end_each.new.kept in let s = shown_then c in
    let n : to_z w64 (of_z w64 c.self.inside.latest) ≡ c.self.inside.latest = omega (arith, ints) in
    let u = rw n at c.end_each.ensures.until in
    rw (all_kept c) (c.self.invariant.0 ∙ sym (same_statistics (ended_shown c.args.layout.now (Class c.args.class) c.args.entity) (λ z. refl) ks ns s), c.self.invariant.1, u)

pub returns-clause-ended : goal.returns-clause-ended
returns-clause-ended c =
    let ks = c.self.inside.kept.items in let ns = c.end_each.new.kept in let s = shown_then c in
    rw (all_kept c) (ended_is c.args.layout.now c.args.class c.args.entity ks ns s ∙ ap (λ (r : Records). ending c.args.layout.now c.args.class c.args.entity r.statistics (columns_of r.rows)) c.self.view_is)

pub returns-clause-statistics : goal.returns-clause-statistics
returns-clause-statistics c =
    let ks = c.self.inside.kept.items in let ns = c.end_each.new.kept in let s = shown_then c in
    rw (all_kept c) (same_statistics (ended_shown c.args.layout.now (Class c.args.class) c.args.entity) (λ z. refl) ks ns s ∙ ap (λ (r : Records). r.statistics) c.self.view_is)
