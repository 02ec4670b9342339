-- What it does and costs to let an entry of a heap rise or sink.
use Rattle.std.specs.Prelude.{◌≡◌, ◌≢◌, ℕ, ◌+◌, ◌*◌, ◌<◌, ◌≤◌, ◌||◌, Bool, true, false, List, ◌∷◌, ◌++◌, length}
use Rattle.std.specs.Ordering.{int_eq}
use Rattle.std.specs.List.{list_any}
use Rattle.std.specs.List.Sorted.{IsPermutation}
use Rattle.ss_events_entries.specs.declared.entry.Entry.{Entry}
use Rattle.ss_events_entries.specs.CountedList.{Work}
use Rattle.ss_events_entries.specs.HeapEntries.{HeapEntries, HeadsAndFollowers, heap_lines, all_of, notices_of}
use Rattle.ss_events_entries.specs.HeapOrder.{IsHeap, IsHeapBut, IsUnderParent, IsOverChildren}
use Rattle.ss_world.specs.Order.{comes_before}
use Rattle.ss_world.specs.PendingList.{scheduling_limit}
use Rattle.ss_events_entries.specs.Digits.{binary_digits}

-- how far a place is from the top: the parent of a place is at least two nearer
abbrev pub height : ℕ → ℕ
height at = binary_digits (3 * at + 1)

-- the entry at `from` rose to the place `to`, and if it moved it is over its children
pub record HasRisen (old new : List Entry) (from to : ℕ) : Type 0 where
  pub permutation : IsPermutation old new
  pub within : to < length new
  pub up : to ≤ from
  pub but : IsHeapBut comes_before old from → IsHeapBut comes_before new to
  pub over : IsHeapBut comes_before old from → to < from → IsOverChildren comes_before new to

-- and it is under its parent
pub record HasRaised (old new : List Entry) (from to : ℕ) : Type 0 where
  pub risen : HasRisen old new from to
  pub under : IsHeapBut comes_before old from → IsUnderParent comes_before new to

-- the entry at `from`, which was under its parent, sank until all were in order
pub record HasLowered (old new : List Entry) (from : ℕ) : Type 0 where
  pub permutation : IsPermutation old new
  pub heap : IsHeapBut comes_before old from → IsUnderParent comes_before old from → IsHeap comes_before new

-- the entry at `from` was put in order
pub record HasMended (old new : List Entry) (from : ℕ) : Type 0 where
  pub permutation : IsPermutation old new
  pub heap : IsHeapBut comes_before old from → IsHeap comes_before new

-- what it cost to come from the one height to the other: for each two at most so many comparisons, and two moves
pub record HasClimbed (each low high : ℕ) (old new : HeapEntries) : Type 0 where
  pub comparisons : 2 * new.comparisons + each * low ≤ 2 * old.comparisons + each * high
  pub moves : new.moves + low ≤ old.moves + high
  pub grows : old.moves ≤ new.moves
  pub followers : new.followers ≡ old.followers
  pub before : new.before ≡ old.before

-- the work of one change to a heap that held so many entries
pub record IsLogarithmic (held : ℕ) (new : HeapEntries) : Type 0 where
  pub comparisons : new.comparisons ≤ 3 * binary_digits held
  pub moves : new.moves ≤ 3 * binary_digits held + 4

-- one comparison was made at most, if there is any entry, and no move
pub record IsTried (h : HeapEntries) : Type 0 where
  pub one : h.comparisons ≤ 1
  pub few : h.comparisons ≤ length h.entries
  pub unmoved : h.moves ≡ 0

-- an entry went in, of a new notice and with the number of a scheduling, after the work of all calls before
pub record HasGoneIn (e : Entry) (old : HeadsAndFollowers) (work : Work) (new : HeapEntries) : Type 0 where
  pub order : IsHeap comes_before new.entries
  pub all : IsPermutation (e ∷ (old.heads ++ old.followers)) (all_of new)
  pub apart : (list_any (int_eq e.notice) (notices_of old.heads) || list_any (int_eq e.notice) (notices_of old.followers)) ≡ false
  pub room : e.number ≢ scheduling_limit
  pub cost : IsLogarithmic (length old.heads) new
  pub moved : 0 < new.moves
  pub compared : 0 < length old.heads → 0 < new.comparisons
  pub before : new.before ≡ work

-- no entry went in
pub record HasStayedOut (old : HeadsAndFollowers) (work : Work) (new : HeapEntries) : Type 0 where
  pub lines : heap_lines new ≡ old
  pub tried : IsTried new
  pub before : new.before ≡ work

-- whether an entry went in
abbrev pub IsInsertion : Entry → HeadsAndFollowers → Work → HeapEntries → Bool → Type 0
IsInsertion e old work new true = HasGoneIn e old work new
IsInsertion e old work new false = HasStayedOut old work new
