-- The names of other crates, and of definitions here, that several proofs of this crate cite, passed on from one place. Declares nothing.
pub use Rattle.ss_events_entries.specs.HeapEntries.{HeadsAndFollowers, notices_of}
pub use Rattle.ss_events_entries.specs.HeapOrder.{IsFirstAmong, IsFirstOf}
pub use Rattle.ss_events_entries.specs.Slots.{AreDistinct, AreHeld, AreLed, IsBefore, IsBut, IsGuess, IsTaken, at_put, blank_slot, entry_at, entry_in, exchanged, followers, following, heads, is_tied, mark_of, next_put, no_entry, no_node, no_slot, node, not_plain, order_of, plain_entry, plain_numbers, plain_ranks, slot_at}
pub use Rattle.ss_events_entries.specs.declared.entry.Entry.{Entry}
pub use Rattle.ss_events_entries.specs.declared.entry.Mark.{Mark}
pub use Rattle.ss_events_entries.specs.declared.entry.directory.SlotDirectory.{SlotDirectory}
pub use Rattle.ss_events_entries.specs.declared.entry.slots.HeapNode.{HeapNode}
pub use Rattle.ss_events_entries.specs.declared.entry.slots.Slot.{Slot}
pub use Rattle.ss_world.specs.Order.{tie_order}
unfoldable pub use Rattle.ss_world.specs.Order.{comes_before}
pub use Rattle.ss_world.specs.declared.ties.Tie.{Tie}
pub use Rattle.std.proofs.lemmas.Bool.{cases_Bool, cases_eq, cases_lt, le-ltb, lt-ltb}
pub use Rattle.std.proofs.lemmas.Bool.Decides.{nat_tests}
pub use Rattle.std.proofs.lemmas.Int.{ints}
pub use Rattle.std.proofs.lemmas.List.{get_or-map, get_or-set_other, get_or-set_same, get_or-take, get_or_append_left, get_or_default, get_or_push, length-map, length-set, length-take-le, length_push, same_lists}
pub use Rattle.std.proofs.lemmas.List.Edits.{length-swap, swapped_from_swap}
pub use Rattle.std.specs.Cmp.{IsStrictWeakOrder, int_eq_equiv}
pub use Rattle.std.specs.Cmp.Lexicographic.{slice_cmp}
pub use Rattle.std.specs.List.{list_any, swap_remove}
pub use Rattle.std.specs.List.Sorted.{IsPermutation}
pub use Rattle.std.specs.Option.{MatchOption}
pub use Rattle.std.specs.Prelude.{int_lt, nat_lt, slice_index_or, slice_set}
pub use Rattle.std.specs.Vec.{with_items}
pub use Rattle.std.specs.declared.cmp.Ordering.{Ordering}
pub use Rattle.std.specs.declared.cmp.Ordering.TheVariants.{Equal, Greater, Less}
