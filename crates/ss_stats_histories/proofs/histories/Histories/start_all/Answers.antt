use Rattle.std.proofs.Common.{◌≡◌, ℤ, pos, ◌≤ℤ◌, ◌++◌, subst, length, map, take, drop, sym, ap, ◌∙◌, refl, to_z, of_z, w64, arith}
use Rattle.ss_stats_histories.proofs.Common.{begun_shown, Class, columns_of, HasRooms, ints, is_up_to, Records, rooms_of, shown, starting, statistics_of}
use Rattle.ss_stats_histories.proofs.Columns.{whole, rooms_each}
use Rattle.ss_stats_histories.proofs.Noted.{same_statistics, started_is}
use Rattle.ss_stats_histories.proofs.histories.Histories.start_all.Goals as goal

pub begin_all_each-requires-clause-room : goal.begin_all_each-requires-clause-room
begin_all_each-requires-clause-room c =
    let x : to_z w64 (of_z w64 c.args.count) ≡ c.args.count = omega (arith, ints) in
    let r : HasRooms c.args.layout.now (Class c.args.class) c.args.count (statistics_of c.self.inside.kept.items) (rooms_of c.self.inside.kept.items) =
    subst (λ (r : Records). HasRooms c.args.layout.now (Class c.args.class) c.args.count r.statistics r.room) (sym c.self.view_is) c.requires.room in
    rw (c.deref_mut.ensures.value, x) (rooms_each c.args.layout.now (Class c.args.class) c.args.count c.self.inside.kept.items r)

-- all that is kept then, and what is seen of it
all_kept : (c : goal.After-self-2-1) → take c.self.inside.kept.len (c.begin_all_each.new.kept ++ drop (length c.begin_all_each.new.kept) c.self.inside.kept.items) ≡ c.begin_all_each.new.kept
all_kept c = let v = c.deref_mut.ensures.value in whole c.self.inside.kept.len c.begin_all_each.new.kept c.self.inside.kept.items (sym c.deref_mut.ensures.len ∙ ap length v) (c.begin_all_each.auto.kept ∙ ap length v)

shown_then : (c : goal.After-self-2-1) → map shown c.begin_all_each.new.kept ≡ map (begun_shown c.args.layout.now (Class c.args.class) (is_up_to c.args.count) c.args.now) (map shown c.self.inside.kept.items)
shown_then c =
    let v = c.deref_mut.ensures.value in
    let n : to_z w64 (of_z w64 c.args.now) ≡ c.args.now = omega (arith, ints) in
    let x : to_z w64 (of_z w64 c.args.count) ≡ c.args.count = omega (arith, ints) in
    rw (v, n, x) at c.begin_all_each.ensures.shown

pub invariant_of-self : goal.invariant_of-self
invariant_of-self c =
    let ks = c.self.inside.kept.items in let ns = c.begin_all_each.new.kept in let s = shown_then c in
    let n : to_z w64 (of_z w64 c.args.now) ≡ c.args.now = omega (arith, ints) in
    let o : pos 0 ≤ℤ c.args.self.now.latest = subst (λ (r : ℤ). pos 0 ≤ℤ r) (ap (λ (r : Records). r.latest) c.self.view_is) c.self.invariant.1 in
    rw (all_kept c) (
      c.self.invariant.0 ∙ sym (same_statistics (begun_shown c.args.layout.now (Class c.args.class) (is_up_to c.args.count) c.args.now) (λ z. refl) ks ns s),
      omega (arith, ints, o, c.requires.now),
      c.begin_all_each.ensures.until,
    )

pub returns-clause-started : goal.returns-clause-started
returns-clause-started c =
    let ks = c.self.inside.kept.items in let ns = c.begin_all_each.new.kept in let s = shown_then c in
    rw (all_kept c) (started_is c.args.layout.now (Class c.args.class) (is_up_to c.args.count) c.args.now ks ns s ∙
    ap (λ (r : Records). starting c.args.layout.now (Class c.args.class) (is_up_to c.args.count) c.args.now r.statistics (columns_of r.rows)) c.self.view_is)

pub returns-clause-statistics : goal.returns-clause-statistics
returns-clause-statistics c =
    let ks = c.self.inside.kept.items in let ns = c.begin_all_each.new.kept in let s = shown_then c in
    rw (all_kept c) (same_statistics (begun_shown c.args.layout.now (Class c.args.class) (is_up_to c.args.count) c.args.now) (λ z. refl) ks ns s ∙ ap (λ (r : Records). r.statistics) c.self.view_is)
