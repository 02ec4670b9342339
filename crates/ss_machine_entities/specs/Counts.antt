-- How many entities of each permanent class are made, and how many members a set has.
use Rattle.std.specs.Prelude.{◌≡◌, ℕ, ◌<◌, ◌≤◌, List, map, length, ℤ, pos, Option, Some, None}
use Rattle.std.specs.Result.{result_ok}
use Rattle.ss_records.specs.Sets.{count_in}
use Rattle.ss_records.specs.State.{State, Record}

-- how many entities a permanent class has, where they are made
abbrev pub entity_count : Option (List Record) → Option ℤ
entity_count None = None
entity_count (Some rs) = Some (pos (length rs))

abbrev pub counts_of : List (Option (List Record)) → List (Option ℤ)
counts_of ps = map entity_count ps

-- how many members the set of an owner has, or nothing where there is no such set or no such owner
abbrev pub IsMemberCount : State → (set : ℕ) → (owner : ℤ) → Option ℤ → Type 0
IsMemberCount h set owner found =
    (set < length h.layout.sets → found ≡ result_ok (count_in h set owner)) × (length h.layout.sets ≤ set → found ≡ None)
