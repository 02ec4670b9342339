-- The names of other crates, and of definitions here, that several proofs of this crate cite, passed on from one place. Declares nothing.
pub use Rattle.ss_events.specs.InOrder.{IsAgenda}
unfoldable pub use Rattle.ss_events.specs.InOrder.{in_order}
pub use Rattle.ss_events.specs.Sifting.{HasGoneIn, HasStayedOut, IsInsertion, IsLogarithmic, IsTried}
pub use Rattle.ss_events_entries.proofs.EntryOrder.{entries_rank}
pub use Rattle.ss_events_entries.specs.CountedList.{Work, with_work}
pub use Rattle.ss_events_entries.specs.HeapEntries.{AreAfterHeads, HeadsAndFollowers, HeapEntries, all_of, but_one, heap_lines, notices_of}
pub use Rattle.ss_events_entries.specs.HeapOrder.{IsHeap, IsHeapBut}
pub use Rattle.ss_events_entries.specs.declared.entry.Entry.{Entry}
unfoldable pub use Rattle.ss_world.specs.Order.{comes_before}
pub use Rattle.ss_world.specs.PendingList.{earlier_notice, is_pending, least, scheduling_limit, without_notice}
pub use Rattle.ss_world.specs.SortKey.{SortKey}
pub use Rattle.std.proofs.lemmas.Bool.{cases_Bool, cases_lt, or_from}
pub use Rattle.std.proofs.lemmas.Bool.Decides.{nat_tests}
pub use Rattle.std.proofs.lemmas.List.{get_or_default}
pub use Rattle.std.proofs.lemmas.List.Sorted.{IsPermutation-append_left, IsPermutation-append_right, IsPermutation-cons, IsPermutation-middle, IsPermutation-sym, IsPermutation-trans}
pub use Rattle.std.proofs.lemmas.Map.Keys.{IsDistinct-IsPermutation, IsDistinct-head, IsDistinct-tail}
pub use Rattle.std.specs.Cmp.{int_eq_equiv}
pub use Rattle.std.specs.List.{All, list_any}
pub use Rattle.std.specs.List.Sorted.{IsPermutation}
pub use Rattle.std.specs.Ordering.{int_eq}
