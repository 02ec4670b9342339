use Rattle.std.proofs.Common.{rules, ◌≡◌, ◌++◌, [], ◌∷◌, sym, subst, arith}
use Rattle.ss_machine.proofs.Common.{AllByRecursion, IsPrintable}
use Rattle.ss_machine.proofs.Items.{AreSoFar, none_yet, can_then, small_then, one_more, all_shown, printable_more}
use Rattle.ss_machine.proofs.showing.show.Goals as goal

pub loop-kind-init : goal.loop-kind-init
loop-kind-init c =
    let s = c.args.state.now in
    let empty : c.clear.new.self.items ≡ [] = search rules in
    record {
      low = search rules;
      can = c.requires.can;
      shown = subst (AreSoFar s.world s.rows c.args.from c.args.from c.args.kinds.now c.args.kinds.now) (sym empty) (none_yet s.world s.rows c.args.from c.args.kinds.now);
      printable = subst (AllByRecursion IsPrintable) (sym empty) tt;
    }

pub loop-kind-preserved : goal.loop-kind-preserved
loop-kind-preserved c =
    let s = c.args.state.now in
    let l = c.loop-kind in
    let xs = l.items.items in
    let x = c.item_of-item.result in
    let pushed : c.push.new.self.items ≡ xs ++ x ∷ [] = search rules in
    record {
      low = small_then s.world s.rows c.args.from c.args.kinds.now l.at l.kind-index _ c.loop-kind-test.true _ c.cells_of-at.ensures l.invariant.can c.requires.small l.invariant.low;
      can = can_then s.world s.rows c.args.from c.args.kinds.now l.at l.kind-index _ c.loop-kind-test.true _ c.cells_of-at.ensures l.invariant.can;
      shown = one_more s.world s.rows c.args.from c.args.kinds.now l.at l.kind-index _ c.loop-kind-test.true _ c.cells_of-at.ensures xs c.push.new.self.items x l.invariant.shown c.item_of-item.ensures.shown pushed;
      printable = subst (AllByRecursion IsPrintable) (sym pushed) (printable_more xs x l.invariant.printable c.item_of-item.ensures.printable);
    }

pub returns-clause-shown : goal.returns-clause-shown
returns-clause-shown c =
    let s = c.args.state.now in
    let l = c.loop-kind in
    all_shown s.world s.rows c.args.from c.args.kinds.now l.at l.kind-index l.items.items (omega (arith, c.loop-kind-test.false)) l.invariant.shown
