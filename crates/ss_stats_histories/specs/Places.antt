-- The places of the statistics of a subject.
use Rattle.std.specs.Prelude.{ℕ, suc, Bool, true, false, List, [], ◌∷◌, map, Option, Some, None, slice_get, if◌then◌else◌}
use Rattle.ss_program.specs.declared.sections.Subject.{Subject}
use Rattle.ss_program.specs.declared.sections.Subject.TheVariants.{OfVariable, OfAttribute, OfCount}
use Rattle.ss_program.specs.declared.sections.Statistic.{Statistic}
use Rattle.ss_meaning.specs.Histories.{same_subject}

-- a row of a table, which is empty beyond its end
abbrev pub row_or_empty : Option (List ℕ) → List ℕ
row_or_empty None = []
row_or_empty (Some row) = row

abbrev pub row_at : List (List ℕ) → ℕ → List ℕ
row_at rows k = row_or_empty (slice_get rows k)

-- the places in a list of the items that pass a test
abbrev pub places_where : {X : Type 0} → (X → Bool) → List X → List ℕ
places_where test [] = []
places_where test (x ∷ xs) = if test x then 0 ∷ map suc (places_where test xs) else map suc (places_where test xs)

-- whether a statistic is about a subject
abbrev pub is_about : Subject → Statistic → Bool
is_about subject s = same_subject s.subject subject

-- a table among tables, which is empty beyond their end
abbrev pub table_or_empty : Option (List (List ℕ)) → List (List ℕ)
table_or_empty None = []
table_or_empty (Some table) = table

abbrev pub table_cell : List (List (List ℕ)) → ℕ → ℕ → List ℕ
table_cell tables j k = row_at (table_or_empty (slice_get tables j)) k

-- what tables of variables, of attributes and of sets have of a subject
abbrev pub place_found : Subject → (variables : List (List ℕ)) → (attributes : List (List (List ℕ))) → (sets : List (List ℕ)) → List ℕ
place_found (OfVariable k) variables attributes sets = row_at variables k
place_found (OfAttribute class field) variables attributes sets = table_cell attributes class field
place_found (OfCount set) variables attributes sets = row_at sets set

-- whether there is one
abbrev pub has_some : List ℕ → Bool
has_some [] = false
has_some (j ∷ js) = true
