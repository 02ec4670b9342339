-- Moves and calculations: the operands are read, and the answer is to go to the target.
use Rattle.std.proofs.Common.{◌≡◌, ◌+◌, ◌<◌, length, Some, Ok, sym, ap, ◌∙◌, subst}
use Rattle.std.specs.Prelude.{ℤ, slice_get, Result as OkOr}
use Rattle.ss_machine_instructions.proofs.Common.{act, Address, as_value, both_within, BothWithin, Compiled, Core, deliver, FaultKind, Here, Integer, IsDelivering, IsReadyFor, Mode, mode_of, Only, only_number, Operator, place_at, read_within, reads, reads_both, State, Value, Whole}
use Rattle.ss_code_instructions.specs.Carried.{HasOperand, HasTarget, Is, IsMovingValue, IsCalculating}
use Rattle.ss_meaning.specs.Values.{computed, due, turned, calculated, computed_alone, applied}
use Rattle.ss_base.specs.declared.words.UnaryOperator.{UnaryOperator}
use Rattle.ss_code_instructions.specs.declared.instruction.Instruction.{Instruction as Running}
use Rattle.ss_code_instructions.specs.Instructions as i
use Rattle.ss_machine_instructions.proofs.Placing.{site, located, suits_as, deep_at, deep_here, gives_mode}
use Rattle.ss_machine_instructions.proofs.Delivering.{delivers, deliver_is, number_right}

module _ (w : Compiled) (c : Core) (here : Here) (s : State) (run : Running) (r : IsReadyFor w c here s run) where
  -- ## Two numbers into one

  pub calculates_in : (op : Operator) (left right to : Address) → IsCalculating w.code w.run.constants r.placed op left right to → BothWithin (site w c here s run r) (located w c here s run r) left right
  calculates_in op left right to z =
      let y = suits_as w c here s run r z.2.2.2 in
      both_within (site w c here s run r) (located w c here s run r) z.0 z.2.0 Integer Integer r.placed.cells y.0 left right y.1 z.1 z.2.1 (deep_here w c here s run r)

  pub calculates : (op : Operator) (left right to : Address) (u v : ℤ) (answer : OkOr ℤ FaultKind) → IsCalculating w.code w.run.constants r.placed op left right to → slice_get s.rows.numbers (place_at here.frame left) ≡ Some u → slice_get s.rows.numbers (place_at here.frame right) ≡ Some v → computed op u v ≡ answer → IsDelivering w c r.placed.line (act w.code r.placed.line r.placed.instruction c) here s to (as_value answer)
  calculates op left right to u v answer z at_left at_right e =
      let t = site w c here s run r in
      let st = located w c here s run r in
      let is = z.2.2.2 in
      let y = suits_as w c here s run r is in
      let both = reads_both t st z.0 z.2.0 Integer Integer r.placed.cells y.0 left right c.cells (Whole u) (Whole v) y.1 z.1 z.2.1 r.holds.held.cells r.fits.cells (only_number s.rows (place_at here.frame left) u at_left) (only_number s.rows (place_at here.frame right) v at_right) in
      let target = z.2.2.0 in
      delivers w c here s run r (as_value answer) to target Integer y.0 y.2.0 both.below
      (ap (λ x. act w.code r.placed.line x c) is
      ∙ both.is (λ x y below. deliver r.placed.line target (calculated op x y) below c)
      ∙ ap (λ a. deliver r.placed.line target (turned Whole (due a)) both.below c) e
      ∙ deliver_is r.placed.line target answer both.below c)
      y.2.1 z.2.2.1 (deep_at w c here s run r (c.place + 1) r.placed.locals y.2.0 y.2.2) (number_right answer) both.modes both.cells

  -- ## One number into one

  pub applies_in : (op : UnaryOperator) (of to : Address) → HasOperand w.code w.run.constants r.placed of (λ y. HasTarget w.code w.run.constants r.placed to (λ t. Is w.code w.run.constants r.placed (i.Unary op y t))) → place_at here.frame of < length s.rows.numbers
  applies_in op of to z =
      let y = suits_as w c here s run r z.2.2 in
      read_within (site w c here s run r) (located w c here s run r) z.0 Integer r.placed.cells y.0 of y.1 z.1 (deep_here w c here s run r)

  pub applies : (op : UnaryOperator) (of to : Address) (u : ℤ) (answer : OkOr ℤ FaultKind) → HasOperand w.code w.run.constants r.placed of (λ y. HasTarget w.code w.run.constants r.placed to (λ t. Is w.code w.run.constants r.placed (i.Unary op y t))) → slice_get s.rows.numbers (place_at here.frame of) ≡ Some u → computed_alone op u ≡ answer → IsDelivering w c r.placed.line (act w.code r.placed.line r.placed.instruction c) here s to (as_value answer)
  applies op of to u answer z at e =
      let t = site w c here s run r in
      let st = located w c here s run r in
      let is = z.2.2 in
      let y = suits_as w c here s run r is in
      let one = reads t st z.0 Integer r.placed.cells y.0 of c.cells (Whole u) y.1 z.1 r.holds.held.cells r.fits.cells (only_number s.rows (place_at here.frame of) u at) in
      let target = z.2.0 in
      delivers w c here s run r (as_value answer) to target Integer y.0 y.2.0 one.below
      (ap (λ x. act w.code r.placed.line x c) is
      ∙ one.is (λ x below. deliver r.placed.line target (applied op x) below c)
      ∙ ap (λ a. deliver r.placed.line target (turned Whole (due a)) one.below c) e
      ∙ deliver_is r.placed.line target answer one.below c)
      y.2.1 z.2.1 (deep_at w c here s run r (c.place + 1) r.placed.locals y.2.0 y.2.2) (number_right answer) one.modes one.cells

  -- ## A value that is moved

  pub moves_in : (mode : Mode) (from to : Address) → IsMovingValue w.code w.run.constants r.placed mode from to → place_at here.frame from < length s.rows.numbers
  moves_in mode from to z =
      let y = suits_as w c here s run r z.2.1.2 in
      read_within (site w c here s run r) (located w c here s run r) z.0 y.0 r.placed.cells y.1.0 from y.1.1 z.1 (deep_here w c here s run r)

  pub moves : (mode : Mode) (from to : Address) (v : Value) → IsMovingValue w.code w.run.constants r.placed mode from to → mode_of v ≡ mode → Only s.rows (place_at here.frame from) mode v → IsDelivering w c r.placed.line (act w.code r.placed.line r.placed.instruction c) here s to (Ok v)
  moves mode from to v z right only =
      let t = site w c here s run r in
      let st = located w c here s run r in
      let is = z.2.1.2 in
      let y = suits_as w c here s run r is in
      let same : y.0 ≡ mode = gives_mode w c here s run r z.0 y.0 mode y.1.0 y.1.1 z.2.0 in
      let one = reads t st z.0 y.0 r.placed.cells y.1.0 from c.cells v y.1.1 z.1 r.holds.held.cells r.fits.cells (subst (λ n. Only s.rows (place_at here.frame from) n v) (sym same) only) in
      let target = z.2.1.0 in
      delivers w c here s run r (Ok v) to target y.0 y.1.0 y.1.2.0 one.below
      (ap (λ x. act w.code r.placed.line x c) is ∙ one.is (λ v below. deliver r.placed.line target (Ok v) below c))
      y.1.2.1 z.2.1.1 (deep_at w c here s run r (c.place + 1) r.placed.locals y.1.2.0 y.1.2.2) (right ∙ sym same) one.modes one.cells
