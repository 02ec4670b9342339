-- Where the block of each entity lies.
use Rattle.std.specs.Prelude.{◌≡◌, ℕ, zero, suc, ◌+◌, List, [], ◌∷◌, map, length, Option, Some, None, slice_get, ◌⊎◌}
use denote.RawPtr.{Ptr, null_ptr}
use Rattle.ss_base.specs.declared.layout.Owner.{Owner}
use Rattle.ss_base.specs.declared.layout.Owner.TheVariants.{System, Class}
use Rattle.ss_records_blocks.specs.declared.store.BlockPlace.{BlockPlace}
use Rattle.ss_records_blocks.specs.Cells.{Cells, words_at}
use Rattle.ss_records_words.specs.Reading.{class_in_words}
use Rattle.ss_records_blocks.specs.Places.{Numbers}

-- the permanent entities of each class by index, none until they are made
abbrev pub Made : Type 0
Made = List (Option (List BlockPlace))

-- the places of the creation numbers, none where one is destroyed, and those of the permanent entities
pub record Directory : Type 0 where
  pub numbers : Numbers
  pub classes : Made

abbrev pub lying : Numbers → Made → Directory
lying ns ms = record { numbers = ns; classes = ms }

abbrev pub own_or : Numbers → Option (Option (List BlockPlace)) → Numbers
own_or ns None = ns
own_or ns (Some None) = ns
own_or ns (Some (Some ps)) = map Some ps

-- the places of the entities of a class by their numbers: its own once they are made, else the creation numbers
abbrev pub listing : Directory → ℕ → Numbers
listing d c = own_or d.numbers (slice_get d.classes c)

-- p is the place of the permanent entity i + 1 of some class
abbrev pub IsMade : Made → ℕ → BlockPlace → Type 0
IsMade ms i p = (c : ℕ) × (ps : List BlockPlace) × (slice_get ms c ≡ Some (Some ps)) × (slice_get ps i ≡ Some p)

-- p is the place of some entity of the number i + 1
abbrev pub IsListedAt : Directory → ℕ → BlockPlace → Type 0
IsListedAt d i p = (slice_get d.numbers i ≡ Some (Some p)) ⊎ IsMade d.classes i p

abbrev pub place_in_record : Option (Option BlockPlace) → Ptr
place_in_record None = null_ptr
place_in_record (Some None) = null_ptr
place_in_record (Some (Some p)) = p.at

-- where the block of a number lies; 0 is the system
abbrev pub numbered_at : Ptr → Numbers → ℕ → Ptr
numbered_at sys d zero = sys
numbered_at sys d (suc i) = place_in_record (slice_get d i)

-- where the block of an entity of a class lies; 0 is the end of a set, which is the system
abbrev pub entity_at : Ptr → Directory → ℕ → ℕ → Ptr
entity_at sys d c n = numbered_at sys (listing d c) n

-- where the block of an owner lies
abbrev pub owner_at : Ptr → Directory → Owner → ℕ → Ptr
owner_at sys d System n = sys
owner_at sys d (Class c) n = entity_at sys d c n

-- the class that the words of a block give
abbrev pub class_at_place : Cells → BlockPlace → ℕ
class_at_place cs p = class_in_words (words_at cs p.at)

-- how many permanent entities there are
abbrev pub permanent_count : Made → ℕ
permanent_count [] = 0
permanent_count (None ∷ ms) = permanent_count ms
permanent_count (Some ps ∷ ms) = length ps + permanent_count ms
