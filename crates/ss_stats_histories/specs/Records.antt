-- What is kept of the histories of all statistics.
use Rattle.std.specs.Prelude.{◌≡◌, ⊤, ℕ, Bool, true, false, ◌&&◌, IsTrue, List, [], ◌∷◌, map, ℤ, pos, ◌≤ℤ◌, int_le, int_lt, Option, Some, None, Result, Ok, Err, if◌then◌else◌}
use Rattle.std.specs.Ordering.{int_eq}
use Rattle.std.specs.Map.{lookup}
use Rattle.ss_base.specs.declared.fault.FaultKind.{FaultKind}
use Rattle.ss_base.specs.declared.fault.FaultKind.TheVariants.{Overflow}
use Rattle.ss_base.specs.declared.layout.Owner.{Owner}
use Rattle.ss_base.specs.declared.layout.Layout.{Layout}
use Rattle.ss_base.specs.declared.value.Value.{Value}
use Rattle.ss_base.specs.declared.value.Value.TheVariants.{Whole}
use Rattle.ss_program.specs.declared.expression.Fold.{Fold}
use Rattle.ss_program.specs.declared.expression.Fold.TheVariants.{Number, Sum, Maximum, Minimum}
use Rattle.ss_program.specs.declared.sections.Statistic.{Statistic}
use Rattle.ss_stats.specs.History.{History, last_moment, number_noted, sum_of, mean_of, maximum_of, minimum_of, is_full, with_noted_value, restarted}
use Rattle.ss_meaning.specs.Values.{Failure, Fails, TypeError, turned, due}
use Rattle.ss_meaning.specs.Store.{Column}
use Rattle.ss_base.specs.Layout.{same_owner}
use Rattle.ss_meaning.specs.Histories.{history_of_subject, with_history, home}
use Rattle.ss_stats_histories.specs.declared.unnoted.Unnoted.{Unnoted}
use Rattle.ss_stats_histories.specs.declared.unnoted.Unnoted.TheVariants.{Full}
use Rattle.ss_stats_histories.specs.declared.unnoted.Unnoted.TheVariants as unnoted

-- what is asked of a history, as a number
abbrev pub figure_of : Fold → (now : ℤ) → History → Result ℤ FaultKind
figure_of Number now h = Ok (number_noted h now)
figure_of Sum now h = sum_of h now
figure_of Maximum now h = Ok (maximum_of h)
figure_of Minimum now h = Ok (minimum_of h)

-- entities with their histories by rising numbers, with one entity more, or with another history of one
abbrev pub placed_in : (entity : ℤ) → History → List (ℤ × History) → List (ℤ × History)
placed_in x h [] = (x, h) ∷ []
placed_in x h (row ∷ rows) =
    if int_lt x row.0 then (x, h) ∷ row ∷ rows else (if int_eq x row.0 then (x, h) ∷ rows else row ∷ placed_in x h rows)

-- entities with their histories by rising numbers; the first history of an entity counts
abbrev pub by_number : List (ℤ × History) → List (ℤ × History)
by_number [] = []
by_number (row ∷ rows) = placed_in row.0 row.1 (by_number rows)

-- the histories of a statistic: that of the system, which is 0, and those of the other entities
pub record Rows : Type 0 where
  pub system : Option History
  pub others : List (ℤ × History)

-- the history of each entity that a list has
abbrev pub found_in : List (ℤ × History) → Column
found_in others x = lookup (int_eq x) others

-- the history of each entity
abbrev pub column_of : Rows → Column
column_of rows x = if int_eq (pos 0) x then rows.system else found_in rows.others x

abbrev pub columns_of : List Rows → List Column
columns_of rows = map column_of rows

-- no history of a statistic has a moment after this one
abbrev pub IsUntil : (latest : ℤ) → Column → Type 0
IsUntil latest c = (x : ℤ) (h : History) → c x ≡ Some h → last_moment h ≤ℤ latest

-- a statistic with its histories, and how many more there is room for
pub record Recorded : Type 0 where
  pub statistic : Statistic
  pub rows : Rows
  pub room : ℕ

-- a history with one value more, unless it is full
abbrev pub noted_value : (now value : ℤ) → History → History
noted_value now z h = if is_full h then h else with_noted_value h now z

-- histories of which that of an entity has one value more, where there is one that isn't full
abbrev pub noted_to : (entity now value : ℤ) → Option History → Column → Column
noted_to x now z None c = c
noted_to x now z (Some h) c = with_history x (noted_value now z h) c

abbrev pub noted_column : (entity now value : ℤ) → Column → Column
noted_column x now z c = noted_to x now z (c x) c

-- histories of which that of an entity starts afresh, where there is one
abbrev pub renewed_to : (entity now present : ℤ) → Option History → Column → Column
renewed_to x now z None c = c
renewed_to x now z (Some h) c = with_history x (restarted h now z) c

abbrev pub renewed_column : (entity now present : ℤ) → Column → Column
renewed_column x now z c = renewed_to x now z (c x) c

-- ## All statistics

-- whether a statistic is kept of what an owner has
abbrev pub is_home : Layout → Owner → Statistic → Bool
is_home l whose s = same_owner (home l s.subject) whose

-- the statistics, their histories by entity, a moment that no history goes beyond, and how many more histories of each statistic there is room for
pub record Records : Type 0 where
  pub statistics : List Statistic
  pub rows : List Rows
  pub latest : ℤ
  pub room : List ℕ

-- there is room for so many histories in each statistic that is kept of what an owner has
abbrev pub HasRooms : Layout → Owner → (count : ℤ) → List Statistic → (room : List ℕ) → Type 0
HasRooms l whose count [] room = ⊤
HasRooms l whose count (s ∷ ss) [] = ⊥
HasRooms l whose count (s ∷ ss) (m ∷ room) = (IsTrue (is_home l whose s) → count ≤ℤ pos m) × HasRooms l whose count ss room

-- the entities 1 to a number
abbrev pub is_up_to : (count : ℤ) → (entity : ℤ) → Bool
is_up_to count x = int_le (pos 1) x && int_le x count

-- none started yet
abbrev pub none_yet : Rows
none_yet = record { system = None; others = [] }

abbrev pub none_in : Statistic → Rows
none_in s = none_yet

-- what is asked of a statistic
abbrev pub figured : Option (Result ℤ FaultKind) → Result Value Failure
figured None = Err TypeError
figured (Some answer) = turned Whole (due answer)

-- the mean of the history of a statistic of an entity, now: its exact sum and its number
abbrev pub mean_in : (statistic : ℕ) → (entity now : ℤ) → List Column → Result (ℤ × ℤ) Failure
mean_in j x now cs = turned (λ h. mean_of h now) (history_of_subject j x cs)

-- the histories once one was started afresh, where there is one to start
abbrev pub renewed_where : Bool → List Column → Result (List Column) Failure
renewed_where true cs = Ok cs
renewed_where false cs = Err TypeError

-- why a value is not noted
abbrev pub why : Unnoted → Failure
why Full = Fails Overflow
why unnoted.TypeError = TypeError

abbrev pub statistics_of : List Recorded → List Statistic
statistics_of ks = map (λ k. k.statistic) ks

abbrev pub rows_of : List Recorded → List Rows
rows_of ks = map (λ k. k.rows) ks

abbrev pub rooms_of : List Recorded → List ℕ
rooms_of ks = map (λ k. k.room) ks
