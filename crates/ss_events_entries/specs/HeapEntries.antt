-- What a contract sees of the heap.
use Rattle.std.specs.Prelude.{◌≡◌, ◌⊎◌, ℕ, ◌-◌, ◌<◌, ℤ, true, List, ◌∷◌, ◌++◌, map, length, slice_index_or, slice_set}
use Rattle.std.specs.List.{swap_remove, All}
use Rattle.std.specs.List.Sorted.{IsPermutation}
use Rattle.ss_events_entries.specs.declared.entry.Entry.{Entry}
use Rattle.ss_events_entries.specs.CallWork.{CallWork}
use Rattle.ss_events_entries.specs.CountedList.{Work}
use Rattle.ss_world.specs.Order.{comes_before}

-- the first of each line, by place, and the others, each of which follows another
pub record HeadsAndFollowers : Type 0 where
  pub heads : List Entry
  pub followers : List Entry

-- heads and followers, what the call has counted so far, and the work of all calls before it
pub record HeapEntries : Type 0 where
  pub entries : List Entry
  pub followers : List Entry
  pub comparisons : ℕ
  pub moves : ℕ
  pub before : Work

-- the heads and the others, without what was counted
abbrev pub heap_lines : HeapEntries → HeadsAndFollowers
heap_lines h = record { heads = h.entries; followers = h.followers }

-- what was counted
abbrev pub call_work_of : HeapEntries → CallWork
call_work_of h = record { comparisons = h.comparisons; moves = h.moves; before = h.before }

-- all entries
abbrev pub all_of : HeapEntries → List Entry
all_of h = h.entries ++ h.followers

-- a heap with one comparison fewer
abbrev pub but_one : HeapEntries → HeapEntries
but_one h = record h { comparisons = h.comparisons - 1 }

-- the notices of entries, in their order
abbrev pub notices_of : List Entry → List ℤ
notices_of es = map (λ e. e.notice) es

-- the time and the notice of an entry
abbrev pub event_of : Entry → ℤ × ℤ
event_of e = (e.key.time, e.notice)

-- one of the heads comes before the entry
pub record IsLed (heads : List Entry) (e : Entry) : Type 0 where
  pub place : ℕ
  pub within : place < length heads
  pub before : (d : Entry) → comes_before (slice_index_or heads place d) e ≡ true

-- each follower comes after one of the heads
abbrev pub AreAfterHeads : List Entry → List Entry → Type 0
AreAfterHeads heads followers = All (IsLed heads) followers

-- a follower is the first of its line now, in the place `at`
pub record HasAdvanced (old new : HeadsAndFollowers) (at : ℕ) : Type 0 where
  pub next : Entry
  pub heads : new.heads ≡ slice_set old.heads at next
  pub followers : IsPermutation old.followers (next ∷ new.followers)

-- the entry went out of the place `at`, into which the next of its line came, or the last head, where its line had no other; this
-- is its time and its notice
pub record HasRemovedEntry (old new : HeadsAndFollowers) (at : ℕ) (event : ℤ × ℤ) : Type 0 where
  pub entry : Entry
  pub there : entry ≡ slice_index_or old.heads at entry
  pub is : event ≡ event_of entry
  pub rest : (new ≡ record old { heads = swap_remove old.heads at entry }) ⊎ HasAdvanced old new at

-- a follower went out, and had this notice
pub record HasLostFollower (old new : HeadsAndFollowers) (notice : ℤ) : Type 0 where
  pub entry : Entry
  pub noticed : entry.notice ≡ notice
  pub heads : new.heads ≡ old.heads
  pub followers : IsPermutation old.followers (entry ∷ new.followers)

-- the entry went out, with the others in whatever places
pub record HasTakenOut (old new : HeapEntries) (at : ℕ) (event : ℤ × ℤ) : Type 0 where
  pub entry : Entry
  pub there : entry ≡ slice_index_or old.entries at entry
  pub is : event ≡ event_of entry
  pub rest : IsPermutation (all_of old) (entry ∷ all_of new)
