-- Which event list the entries of a heap make.
use Rattle.std.specs.Prelude.{ℕ, ◌<◌, ◌≤◌, nat_lt, nat_eq, List, [], ◌∷◌, map, if◌then◌else◌}
use Rattle.std.specs.Ordering.{int_eq}
use Rattle.std.specs.List.{IsDistinct, All}
use Rattle.ss_events_entries.specs.declared.entry.Entry.{Entry}
use Rattle.ss_events_entries.specs.HeapEntries.{notices_of}
use Rattle.ss_events_entries.specs.HeapOrder.{IsHeap}
use Rattle.ss_world.specs.Order.{comes_before}
use Rattle.ss_world.specs.PendingList.{scheduling_limit}

-- an entry put among entries in the order of scheduling
abbrev pub put_in_order : Entry → List Entry → List Entry
put_in_order e [] = e ∷ []
put_in_order e (f ∷ fs) = if nat_lt e.number f.number then e ∷ f ∷ fs else f ∷ put_in_order e fs

-- entries in the order of scheduling
unfoldable pub in_order : List Entry → List Entry
in_order [] = []
in_order (e ∷ es) = put_in_order e (in_order es)

-- the numbers of entries
abbrev pub numbers_of : List Entry → List ℕ
numbers_of es = map (λ e. e.number) es

-- what is true of the entries of an event list's heap, after so many schedulings, where these are the heads of lines
pub record IsAgenda (heads entries : List Entry) (schedulings : ℕ) : Type 0 where
  pub order : IsHeap comes_before heads
  pub notices : IsDistinct int_eq (notices_of entries)
  pub numbers : IsDistinct nat_eq (numbers_of entries)
  pub numbered : All (λ e. e.number < schedulings) entries
  pub few : schedulings ≤ scheduling_limit
