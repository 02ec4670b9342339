use Rattle.std.proofs.Common.{◌≡◌, true, false, get_or, length, ◌-◌, ap, sym, subst, arith, ◌∙◌, swap}
use Rattle.std.proofs.lemmas.List.Sorted.{length_permutation}
use Rattle.ss_events.proofs.Common.{comes_before, entries_rank}
use Rattle.ss_events_entries.proofs.Heaps.{rests}
use Rattle.ss_events.proofs.Sifts.{height_child, height_mono, sunk, sunk_few, sinking_steps, lowered, lowered_cost}
use Rattle.ss_events.proofs.sift.lower.Goals as goal

pub first_child-requires-clause-countable : goal.first_child-requires-clause-countable
first_child-requires-clause-countable c = omega (arith, sunk_few c.args.heap.now c.loop-child.heap c.args.at c.loop-child.at c.loop-child.invariant c.requires.small)

pub is_before-requires-clause-countable : goal.is_before-requires-clause-countable
is_before-requires-clause-countable c = omega (arith, c.in-Some.ensures.comparisons, sunk_few c.args.heap.now c.loop-child.heap c.args.at c.loop-child.at c.loop-child.invariant c.requires.small)

pub swap-requires-clause-countable : goal.swap-requires-clause-countable
swap-requires-clause-countable c = omega (
  arith,
  ap (λ h. h.moves) c.is_before.ensures.counted,
  c.in-Some.ensures.moves,
  sunk_few c.args.heap.now c.loop-child.heap c.args.at c.loop-child.at c.loop-child.invariant c.requires.small,
)

pub loop-child-preserved : goal.loop-child-preserved
loop-child-preserved c =
    let found = c.in-Some.ensures in
    let looked = c.is_before.ensures.counted in
    sinking_steps c.args.heap.now c.loop-child.heap c.swap.new.self c.args.at c.loop-child.at c.in-Some.child c.loop-child.invariant found.child
    (λ d. subst (λ es. comes_before (get_or es c.in-Some.child d) (get_or es c.loop-child.at d) ≡ true) found.entries (sym (c.if-not-is_before.ensures.value d)))
    (ap (λ h. h.entries) c.swap.ensures ∙ ap (λ h. swap h.entries c.loop-child.at c.in-Some.child) looked ∙ ap (λ es. swap es c.loop-child.at c.in-Some.child) found.entries)
    (omega (arith, ap (λ h. h.comparisons) c.swap.ensures, ap (λ h. h.comparisons) looked, found.comparisons))
    (omega (arith, ap (λ h. h.moves) c.swap.ensures, ap (λ h. h.moves) looked, found.moves))
    (ap (λ h. h.followers) c.swap.ensures ∙ ap (λ h. h.followers) looked ∙ found.followers)
    (ap (λ h. h.before) c.swap.ensures ∙ ap (λ h. h.before) looked ∙ found.before)

pub returns-in_default-clause-cost : goal.returns-in_default-clause-cost
returns-in_default-clause-cost c =
    let found = c.in_default.ensures in
    let r = c.loop-child.invariant in
    lowered_cost c.args.heap.now c.loop-child.heap c.first_child.new.heap c.args.at c.loop-child.at c.loop-child.at r (sunk c.args.heap.now c.loop-child.heap c.args.at c.loop-child.at r)
    (omega (arith, found.comparisons)) (omega arith) found.moves found.followers found.before

pub returns-then-not-is_before : goal.returns-then-not-is_before
returns-then-not-is_before c =
    let found = c.in-Some.ensures in
    let looked = c.is_before.ensures.counted in
    let was = c.loop-child.heap in let at = c.loop-child.at in let child = c.in-Some.child in let r = c.loop-child.invariant in
    let further = height_child at child found.child.child in
    record {
      lowers = lowered c.args.heap.now was c.is_before.new.self c.args.at at r
          (rests comes_before entries_rank was.entries at child found.child (λ d. subst (λ es. comes_before (get_or es child d) (get_or es at d) ≡ false) found.entries (sym (c.if-not-is_before.ensures.value d))))
          (ap (λ h. h.entries) looked ∙ found.entries);
      cost = lowered_cost c.args.heap.now was c.is_before.new.self c.args.at at child r
          (height_mono child (length c.args.heap.now.entries - 1) (omega (arith, found.child.within, length_permutation c.args.heap.now.entries was.entries r.permutation)))
          (omega (arith, ap (λ h. h.comparisons) looked, found.comparisons))
          (omega arith)
          (ap (λ h. h.moves) looked ∙ found.moves)
          (ap (λ h. h.followers) looked ∙ found.followers)
          (ap (λ h. h.before) looked ∙ found.before);
    }
