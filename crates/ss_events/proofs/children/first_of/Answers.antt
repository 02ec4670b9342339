use Rattle.std.proofs.Common.{◌≡◌, ℕ, Bool, true, false, if◌then◌else◌}
use mir.Val.{bool_byte}
use Rattle.ss_events.proofs.Common.{comes_before, entries_rank}
use Rattle.ss_events_entries.proofs.Heaps.{first_by}
use Rattle.ss_events.proofs.children.first_of.Goals as goal

one_if : (b : Bool) (n : ℕ) → n ≡ bool_byte b → n ≡ (if b then 1 else 0)
one_if true n e = e
one_if false n e = e

pub returns-clause-first : goal.returns-clause-first
returns-clause-first c =
    let is_right = c.is_before-is_right.result in
    first_by comes_before entries_rank c.args.heap.now.entries c.args.left c.args.right c.from.result is_right c.requires.apart (one_if is_right c.from.result c.from.ensures) c.is_before-is_right.ensures.value
