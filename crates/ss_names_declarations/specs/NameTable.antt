-- Entries by names, of which the first of each name counts. A name is seen as the list of its bytes.
use Rattle.std.specs.Prelude.{ℕ, nat_eq, Bool, List, [], ◌∷◌, ◌++◌, Option, Some, None, if◌then◌else◌}
use Rattle.std.specs.List.{fold, list_any, position}
use Rattle.std.specs.Map.{keys_of, lookup}
use Rattle.std.specs.Cmp.Lexicographic.{pointwise}

abbrev pub same_name : List ℕ → List ℕ → Bool
same_name a b = pointwise nat_eq a b

abbrev pub is_one_of : List (List ℕ) → List ℕ → Bool
is_one_of names name = list_any (same_name name) names

-- the value for a name: that of its first entry
abbrev pub value_for : {V : Type 0} → List (List ℕ × V) → List ℕ → Option V
value_for entries name = lookup (same_name name) entries

-- the entries and one more, whose name may have one already
abbrev pub entry_beside : {V : Type 0} → List (List ℕ × V) → List ℕ × V → Option V → List (List ℕ × V)
entry_beside entries e None = entries ++ e ∷ []
entry_beside entries e (Some known) = entries

-- the entries and one more, unless its name has one
abbrev pub with_first : {V : Type 0} → List (List ℕ × V) → List ℕ × V → List (List ℕ × V)
with_first entries e = entry_beside entries e (value_for entries e.0)

-- each name once, with the first of its entries
abbrev pub first_entries : {V : Type 0} → List (List ℕ × V) → List (List ℕ × V)
first_entries all = fold with_first [] all

-- the names and one more, unless it is among them
abbrev pub with_name : List (List ℕ) → List ℕ → List (List ℕ)
with_name names name = if is_one_of names name then names else names ++ name ∷ []

abbrev pub with_name_if : List (List ℕ) → Option (List ℕ) → List (List ℕ)
with_name_if names None = names
with_name_if names (Some name) = with_name names name

-- each name once
abbrev pub each_once : List (List ℕ) → List (List ℕ)
each_once names = fold with_name [] names

-- the number of a name: its place among some, if it is there
abbrev pub place_among : List (List ℕ) → List ℕ → Option ℕ
place_among names name = position (same_name name) names

-- the number of a name: its place among some entries, if it is there
abbrev pub place_in : {V : Type 0} → List (List ℕ × V) → List ℕ → Option ℕ
place_in entries name = place_among (keys_of entries) name

-- an entry of this name, if there is a value for it
abbrev pub entry_if : {V : Type 0} → List ℕ → Option V → List (List ℕ × V)
entry_if name None = []
entry_if name (Some v) = (name, v) ∷ []
