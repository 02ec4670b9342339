-- Entries in slots. Each is in a place of the heap, or follows another one in a line, whose first is in a place.
use Rattle.std.specs.Prelude.{◌≡◌, ◌≢◌, ◌⊎◌, ◌==◌, ℕ, ◌+◌, ◌*◌, ◌/◌, ◌%◌, ◌^◌, ◌<◌, ◌≤◌, ℤ, pos, Bool, true, false, List, [], ◌∷◌, map, length, take, slice_index_or, slice_set, nat_lt, nat_le, bit_and, if◌then◌else◌}
use Rattle.std.specs.Int.{w64, cast_unsigned}
use Rattle.std.specs.Map.{lookup}
use Rattle.std.specs.Option.{unwrap_or}
use Rattle.std.specs.Ordering.{int_eq}
use Rattle.ss_world.specs.declared.ties.Tie.{Tie}
use Rattle.ss_events_entries.specs.declared.entry.Entry.{Entry}
use Rattle.ss_events_entries.specs.declared.entry.Mark.{Mark}
use Rattle.ss_events_entries.specs.declared.entry.directory.SlotDirectory.{SlotDirectory}
use Rattle.ss_events_entries.specs.declared.entry.slots.Slot.{Slot}
use Rattle.ss_events_entries.specs.declared.entry.slots.HeapNode.{HeapNode}

-- in place of an entry, where a slot isn't there
abbrev pub no_entry : Entry
no_entry = record { key = record { time = pos 0; rank = 0; ties = [] }; number = 0; notice = pos 0 }

-- whether there are ties
abbrev pub is_tied : List Tie → Bool
is_tied [] = false
is_tied (t ∷ ts) = true

-- in a mark, in place of the order of an entry that isn't plain
abbrev pub not_plain : ℕ
not_plain = 18446744073709551615

-- an entry is plain where it has no ties, and its rank and its number of scheduling are below these: its mark describes it
abbrev pub plain_ranks : ℕ
plain_ranks = 2 ^ 16

abbrev pub plain_numbers : ℕ
plain_numbers = 2 ^ 47

-- in which order a plain entry comes among others of its time: by the rank, and then by the order of scheduling
abbrev pub order_of : Entry → ℕ
order_of e =
    if is_tied e.key.ties then not_plain
    else if nat_lt e.key.rank plain_ranks then (if nat_lt e.number plain_numbers then e.key.rank * plain_numbers + e.number else not_plain)
    else not_plain

-- the mark of an entry: its time, and its order among those of one time
abbrev pub mark_of : Entry → Mark
mark_of e = record { time = e.key.time; order = order_of e }

-- the mark of no entry
abbrev pub no_mark : Mark
no_mark = record { time = pos 0; order = 0 }

-- two entries are one but for their notices
pub record IsBut (e f : Entry) : Type 0 where
  pub key : e.key ≡ f.key
  pub number : e.number ≡ f.number

-- the plain entry that a mark describes, with this notice
abbrev pub plain_entry : Mark → ℤ → Entry
plain_entry m notice = record { key = record { time = m.time; rank = m.order / plain_numbers; ties = [] }; number = m.order % plain_numbers; notice = notice }

-- the entry in a slot: made from its mark where it is plain, and else stored whole
abbrev pub entry_in : Mark → ℤ → Entry → Entry
entry_in m notice whole = if m.order == not_plain then record { key = whole.key; number = whole.number; notice = notice } else plain_entry m notice

-- the greatest number, which no slot has
abbrev pub no_slot : ℕ
no_slot = 18446744073709551615

-- what is added to the number of a slot to say that an entry follows the one there
abbrev pub following : ℕ
following = 9223372036854775808

-- in place of a slot that isn't there
abbrev pub blank_slot : Slot
blank_slot = record { notice = pos 0; mark = no_mark; next = no_slot; at = 0 }

-- the contents of a slot
abbrev pub slot_at : List Slot → ℕ → Slot
slot_at slots s = slice_index_or slots s blank_slot

-- in place of a node that isn't there
abbrev pub no_node : HeapNode
no_node = record { mark = no_mark; slot = 0 }

-- the node of a place: the slot there, and its mark
abbrev pub node : List HeapNode → ℕ → HeapNode
node nodes k = slice_index_or nodes k no_node

-- a slot is taken where it is in one of so many places, or follows another
abbrev pub IsTaken : ℕ → Slot → Type 0
IsTaken count x = (x.at < count) ⊎ (following ≤ x.at)

-- the entry in a slot
abbrev pub entry_at : List Slot → List Entry → ℕ → Entry
entry_at slots wholes s = entry_in (slot_at slots s).mark (slot_at slots s).notice (slice_index_or wholes s no_entry)

-- the entries in the first few places
abbrev pub heads : ℕ → List Slot → List Entry → List HeapNode → List Entry
heads count slots wholes nodes = map (λ t. entry_at slots wholes t.slot) (take count nodes)

-- the entries that follow another, by slot
abbrev pub followers : List Slot → List Entry
followers [] = []
followers (x ∷ xs) = if nat_le following x.at then plain_entry x.mark x.notice ∷ followers xs else followers xs

-- the number of the cell of a notice
abbrev pub cell_of : SlotDirectory → ℤ → ℕ
cell_of d notice = bit_and (cast_unsigned w64 notice) d.mask

-- the slot that the cell of a notice names
abbrev pub first_guess : SlotDirectory → ℤ → ℕ
first_guess d notice = slice_index_or d.cells.items (cell_of d notice) no_slot

-- the slot that is named for a notice whose cell names another
abbrev pub second_guess : SlotDirectory → ℤ → ℕ
second_guess d notice = unwrap_or (lookup (int_eq notice) d.others.entries) no_slot

-- the slot is one of the two that are named for the notice
abbrev pub IsGuess : SlotDirectory → ℤ → ℕ → Type 0
IsGuess d notice slot = (first_guess d notice ≡ slot) ⊎ (second_guess d notice ≡ slot)

-- no two entries have one notice
abbrev pub AreDistinct : ℕ → List Slot → Type 0
AreDistinct count slots = (s t : ℕ) → s < length slots → t < length slots → IsTaken count (slot_at slots s) → IsTaken count (slot_at slots t) → (slot_at slots s).notice ≡ (slot_at slots t).notice → s ≡ t

-- the directory leads to the notice of each
abbrev pub AreLed : SlotDirectory → ℕ → List Slot → Type 0
AreLed d count slots = (s : ℕ) → s < length slots → IsTaken count (slot_at slots s) → IsGuess d (slot_at slots s).notice s

-- the entry in the slot p is the one before that in s: both are plain and come at one time, p before s
pub record IsBefore (count : ℕ) (slots : List Slot) (p s : ℕ) : Type 0 where
  pub within : p < length slots
  pub taken : IsTaken count (slot_at slots p)
  pub next : (slot_at slots p).next ≡ s
  pub time : (slot_at slots p).mark.time ≡ (slot_at slots s).mark.time
  pub order : (slot_at slots p).mark.order < (slot_at slots s).mark.order
  pub plain : (slot_at slots s).mark.order < plain_ranks * plain_numbers

-- `wholes` has the entries that aren't plain, by slot, as far as one was ever stored. `nodes` says which slot is in which place:
-- the first of each line in the first `count` places, and the free slots after them. Each slot is in its place, or follows
-- another slot. No two entries have one notice, and the directory leads to each
pub record AreHeld (count free : ℕ) (slots : List Slot) (wholes : List Entry) (nodes : List HeapNode) (directory : SlotDirectory) : Type 0 where
  pub many : length nodes ≡ length slots
  pub few : count + free ≤ length nodes
  pub small : length slots < following
  pub there : (k : ℕ) → k < count + free → ((node nodes k).slot < length slots) × ((slot_at slots (node nodes k).slot).at ≡ k)
  pub back : (s : ℕ) → s < length slots → (slot_at slots s).at < following → ((slot_at slots s).at < count + free) × ((node nodes (slot_at slots s).at).slot ≡ s)
  pub marked : (k : ℕ) → k < count → (node nodes k).mark ≡ (slot_at slots (node nodes k).slot).mark
  pub fits : (s : ℕ) → s < length slots → IsTaken count (slot_at slots s) → (slot_at slots s).mark ≡ mark_of (entry_at slots wholes s)
  pub next : (s : ℕ) → s < length slots → IsTaken count (slot_at slots s) → (slot_at slots s).next ≢ no_slot → ((slot_at slots s).next < length slots) × ((slot_at slots (slot_at slots s).next).at ≡ following + s)
  pub before : (s p : ℕ) → s < length slots → (slot_at slots s).at ≡ following + p → IsBefore count slots p s
  pub distinct : AreDistinct count slots
  pub led : AreLed directory count slots

-- the slot s with another place
abbrev pub at_put : List Slot → ℕ → ℕ → List Slot
at_put slots s place = slice_set slots s (record (slot_at slots s) { at = place })

-- the slot s with another one after it
abbrev pub next_put : List Slot → ℕ → ℕ → List Slot
next_put slots s next = slice_set slots s (record (slot_at slots s) { next = next })

-- the slots, once those in the places a and b have changed places
abbrev pub exchanged : List HeapNode → List Slot → ℕ → ℕ → List Slot
exchanged nodes slots a b = at_put (at_put slots (node nodes b).slot a) (node nodes a).slot b
