use Rattle.std.proofs.Common.{ap, sym, subst, arith}
use Rattle.ss_events.proofs.Common.{but_one}
use Rattle.ss_events.specs.Sifting.{height, HasRisen, HasRaised, HasClimbed}
use Rattle.ss_events.proofs.Sifts.{height_few, passes, passed, under_top, under_parent, outranks, climbed_top, compared_last}
use Rattle.ss_events.proofs.sift.raise_past.Goals as goal
use Rattle.ss_events.proofs.sift.raise_past.Goals.{After-swap}

pub swap-requires-clause-countable : goal.swap-requires-clause-countable
swap-requires-clause-countable c = omega (arith, c.loop-at.invariant.cost.moves, height_few c.args.at (omega arith))

-- once the two have changed places
past : (c : After-swap) → HasRisen c.args.heap.now.entries c.swap.new.self.entries c.args.at c.loop-at.parent
past c = passes c.args.heap.now c.loop-at.heap c.swap.new.self c.args.at c.loop-at.at c.loop-at.parent c.loop-at.invariant c.swap.ensures

spent : (c : After-swap) → HasClimbed 1 (height c.loop-at.parent) (height c.args.at) (but_one c.args.heap.now) c.swap.new.self
spent c = passed c.args.heap.now c.loop-at.heap c.swap.new.self c.args.at c.loop-at.at c.loop-at.parent c.loop-at.invariant c.swap.ensures c.requires.compared

pub returns-then-at-eq0-clause-raises : goal.returns-then-at-eq0-clause-raises
returns-then-at-eq0-clause-raises c = record { risen = past (goal.at.returns-then-at-eq0-clause-raises c).After-swap; under = λ h. under_top c.swap.new.self.entries c.loop-at.parent c.if-at-eq0.true }

pub returns-then-at-eq0-clause-cost : goal.returns-then-at-eq0-clause-cost
returns-then-at-eq0-clause-cost c = climbed_top (but_one c.args.heap.now) c.swap.new.self c.loop-at.parent (height c.args.at) (spent (goal.at.returns-then-at-eq0-clause-cost c).After-swap)

pub returns-then-at-eq0-clause-compared : goal.returns-then-at-eq0-clause-compared
returns-then-at-eq0-clause-compared c = omega (arith, c.loop-at.invariant.compared, ap (λ h. h.comparisons) c.swap.ensures)

pub is_before-requires-clause-countable : goal.is_before-requires-clause-countable
is_before-requires-clause-countable c =
    let cost = spent (goal.at.is_before-requires-clause-countable c).After-swap in omega (arith, c.requires.comparisons, cost.comparisons, height_few c.args.at (omega arith))

pub returns-then-not-is_before-clause-raises : goal.returns-then-not-is_before-clause-raises
returns-then-not-is_before-clause-raises c =
    subst (λ es. HasRaised c.args.heap.now.entries es c.args.at c.loop-at.parent) (sym (ap (λ h. h.entries) c.is_before.ensures.counted))
    record { risen = past (goal.at.returns-then-not-is_before-clause-raises c).After-swap; under = λ h. under_parent c.swap.new.self.entries c.loop-at.parent (λ d. sym (c.if-not-is_before.ensures.value d)) }

pub returns-then-not-is_before-clause-cost : goal.returns-then-not-is_before-clause-cost
returns-then-not-is_before-clause-cost c =
    compared_last (but_one c.args.heap.now) c.swap.new.self c.is_before.new.self c.loop-at.parent (height c.args.at)
    (omega (arith, c.if-at-eq0.false)) (spent (goal.at.returns-then-not-is_before-clause-cost c).After-swap) c.is_before.ensures.counted

pub returns-then-not-is_before-clause-compared : goal.returns-then-not-is_before-clause-compared
returns-then-not-is_before-clause-compared c = omega (arith, c.loop-at.invariant.compared, ap (λ h. h.comparisons) c.swap.ensures, ap (λ h. h.comparisons) c.is_before.ensures.counted)

pub loop-at-preserved : goal.loop-at-preserved
loop-at-preserved c =
    let a = (goal.at.loop-at-preserved c).After-swap in
    outranks c.args.heap.now c.swap.new.self c.is_before.new.self c.args.at c.loop-at.parent (past a) (omega (arith, c.if-at-eq0.false)) c.requires.compared
    (omega (arith, c.loop-at.invariant.compared, ap (λ h. h.comparisons) c.swap.ensures)) (spent a) (λ d. sym (c.if-not-is_before.ensures.value d)) c.is_before.ensures.counted
