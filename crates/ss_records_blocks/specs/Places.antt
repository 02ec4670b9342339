-- Where blocks lie, by number and by index.
use Rattle.std.specs.Prelude.{ℕ, suc, List, [], ◌∷◌, Option, Some, None}
use Rattle.ss_records_blocks.specs.declared.store.BlockPlace.{BlockPlace}

-- the place of each number, none where it is gone
abbrev pub Numbers : Type 0
Numbers = List (Option BlockPlace)

-- how many numbers have a place
abbrev pub living_count : Numbers → ℕ
living_count [] = 0
living_count (None ∷ ps) = living_count ps
living_count (Some p ∷ ps) = suc (living_count ps)

-- the places of the entities of a class, none until they are made
abbrev pub row_in : Option (Option (List BlockPlace)) → List BlockPlace
row_in None = []
row_in (Some None) = []
row_in (Some (Some ps)) = ps
