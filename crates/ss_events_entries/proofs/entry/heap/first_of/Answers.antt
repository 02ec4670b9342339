use Rattle.std.proofs.Common.{◌≡◌, ◌+◌, ◌-◌, ◌*◌, ◌∙◌, ℕ, Bool, true, false, if◌then◌else◌, ap, subst, arith}
use mir.Val.{bool_byte}
use Rattle.ss_events_entries.proofs.Common.{comes_before, IsFirstOf}
use Rattle.ss_events_entries.proofs.EntryOrder.{entries_rank}
use Rattle.ss_events_entries.proofs.Heaps.{first_by}
use Rattle.ss_events_entries.proofs.entry.heap.first_of.Goals as goal

one_if : (b : Bool) (n : ℕ) → n ≡ bool_byte b → n ≡ (if b then 1 else 0)
one_if true n e = e
one_if false n e = e

moved : (from left right step : ℕ) → from + left + step * (from + right - (from + left)) ≡ from + (left + step * (right - left))
moved from left right step =
    let apart : from + right - (from + left) ≡ right - left = omega arith in
    ap (λ k. from + left + step * k) apart ∙ omega arith

pub returns : goal.returns
returns c =
    let is_right = c.is_before_in-is_right.result in
    let from = c.args.from in
    subst (IsFirstOf comes_before c.args.entries.now.heads (from + c.args.left) (from + c.args.right)) (moved from c.args.left c.args.right c.from.result)
    (first_by comes_before entries_rank c.args.entries.now.heads (from + c.args.left) (from + c.args.right) c.from.result is_right (omega (arith, c.requires.apart)) (one_if is_right c.from.result c.from.ensures) c.is_before_in-is_right.ensures)
