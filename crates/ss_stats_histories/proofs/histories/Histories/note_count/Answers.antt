use Rattle.std.proofs.Common.{◌≡◌, ◌++◌, length, take, drop, sym, ap, ◌∙◌, to_z, of_z, w64, arith}
use Rattle.ss_stats_histories.proofs.Common.{ints, Records, Whole}
use Rattle.ss_program.specs.declared.sections.Subject.TheVariants.{OfCount}
use Rattle.ss_stats_histories.proofs.Columns.{whole}
use Rattle.ss_stats_histories.proofs.Noted.{within_known, about_known, or_as_before}
use Rattle.ss_stats_histories.proofs.histories.Histories.note_count.Goals as goal

pub note_at-requires-clause-within : goal.note_at-requires-clause-within
note_at-requires-clause-within c =
    rw c.deref_mut.ensures.value (within_known (OfCount c.args.set) c.self.inside.kept.items c.self.inside.about c.count_places-places.result.now c.self.invariant.0 c.count_places-places.ensures)

-- all that is kept then
all_kept : (c : goal.After-self-1) → take c.self.inside.kept.len (c.note_at.new.kept ++ drop (length c.note_at.new.kept) c.self.inside.kept.items) ≡ c.note_at.new.kept
all_kept c = let v = c.deref_mut.ensures.value in whole c.self.inside.kept.len c.note_at.new.kept c.self.inside.kept.items (sym c.deref_mut.ensures.len ∙ ap length v) (c.note_at.auto.kept ∙ ap length v)

pub invariant_of-self : goal.invariant_of-self
invariant_of-self c =
    let ks = c.self.inside.kept.items in let ns = c.note_at.new.kept in let v = c.deref_mut.ensures.value in
    let s = rw v at c.note_at.ensures.statistics in
    rw (all_kept c) (
      c.self.invariant.0 ∙ sym (s (OfCount c.args.set) (about_known (OfCount c.args.set) ks c.self.inside.about c.count_places-places.result.now c.self.invariant.0 c.count_places-places.ensures)),
      c.note_at.ensures.start,
      c.note_at.ensures.until,
    )

pub returns-clause-noted : goal.returns-clause-noted
returns-clause-noted c =
    let ks = c.self.inside.kept.items in let ns = c.note_at.new.kept in let v = c.deref_mut.ensures.value in
    let n : to_z w64 (of_z w64 c.args.now) ≡ c.args.now = omega (arith, ints) in
    let x : to_z w64 (of_z w64 c.args.owner) ≡ c.args.owner = omega (arith, ints) in
    let z : to_z w64 (of_z w64 c.args.number) ≡ c.args.number = omega (arith, ints) in
    let s = rw (v, n, x, z) at c.note_at.ensures.noted in
    rw (all_kept c) (or_as_before (OfCount c.args.set) c.args.owner c.args.now (Whole c.args.number) ks ns c.self.inside.latest c.note_at.new.latest c.args.self.now c.note_at.result c.self.view_is
    (s (OfCount c.args.set) (about_known (OfCount c.args.set) ks c.self.inside.about c.count_places-places.result.now c.self.invariant.0 c.count_places-places.ensures)))

pub returns-clause-statistics : goal.returns-clause-statistics
returns-clause-statistics c =
    let ks = c.self.inside.kept.items in let ns = c.note_at.new.kept in let v = c.deref_mut.ensures.value in
    let s = rw v at c.note_at.ensures.statistics in
    rw (all_kept c) (s (OfCount c.args.set) (about_known (OfCount c.args.set) ks c.self.inside.about c.count_places-places.result.now c.self.invariant.0 c.count_places-places.ensures) ∙ ap (λ (r : Records). r.statistics) c.self.view_is)
