-- What an operation does with each statistic.
use Rattle.std.specs.Prelude.{ℕ, zero, suc, ◌≤ℤ◌, Bool, false, List, [], ◌∷◌, ℤ, pos, Option, Some, None, is_some, slice_get, IsTrue, if◌then◌else◌}
use Rattle.std.specs.Option.{option_or}
use Rattle.ss_base.specs.declared.value.Value.{Value}
use Rattle.ss_base.specs.declared.value.Value.TheVariants.{Whole, Text}
use Rattle.ss_base.specs.declared.layout.Owner.{Owner}
use Rattle.ss_base.specs.declared.layout.Layout.{Layout}
use Rattle.ss_program.specs.declared.sections.Statistic.{Statistic}
use Rattle.ss_stats.specs.History.{History, is_full}
use Rattle.ss_meaning.specs.Store.{Column}
use Rattle.ss_meaning.specs.Histories.{at_start, begun_in, ended_in}
use Rattle.ss_stats_histories.specs.declared.unnoted.Unnoted.{Unnoted}
use Rattle.ss_stats_histories.specs.declared.unnoted.Unnoted.TheVariants.{Full, TypeError}
use Rattle.ss_stats_histories.specs.Records.{Recorded, Rows, column_of, IsUntil, noted_column, renewed_column, is_home}

-- a statistic and its histories
abbrev pub StatisticHistories : Type 0
StatisticHistories = Statistic × Column

abbrev pub shown : Recorded → StatisticHistories
shown k = (k.statistic, column_of k.rows)

-- no history of the statistic has a moment after this one
abbrev pub IsKeptUntil : (latest : ℤ) → Recorded → Type 0
IsKeptUntil latest k = IsUntil latest (column_of k.rows)

-- there is room for so many histories in each statistic that is kept of what an owner has
abbrev pub HasRoom : Layout → Owner → (count : ℤ) → Recorded → Type 0
HasRoom l whose count k = IsTrue (is_home l whose k.statistic) → count ≤ℤ pos k.room

abbrev pub begun_shown : Layout → Owner → (here : ℤ → Bool) → (now : ℤ) → StatisticHistories → StatisticHistories
begun_shown l whose here now z = (z.0, if is_home l whose z.0 then begun_in here (at_start z.0.weighting now) z.1 else z.1)

abbrev pub ended_shown : Layout → Owner → (entity : ℤ) → StatisticHistories → StatisticHistories
ended_shown l whose x z = (z.0, if is_home l whose z.0 then ended_in x z.1 else z.1)

abbrev pub noted_one : (entity now value : ℤ) → StatisticHistories → StatisticHistories
noted_one x now v z = (z.0, noted_column x now v z.1)

-- noting any value; a text changes nothing
abbrev pub noted_by : (entity now : ℤ) → Value → StatisticHistories → StatisticHistories
noted_by x now (Whole v) z = noted_one x now v z
noted_by x now (Text t) z = z

abbrev pub renewed_one : (entity now present : ℤ) → StatisticHistories → StatisticHistories
renewed_one x now v z = (z.0, renewed_column x now v z.1)

-- a list of which the item at a place is changed
abbrev pub changed_at : {X : Type 0} → (X → X) → List X → ℕ → List X
changed_at f [] j = []
changed_at f (x ∷ xs) zero = f x ∷ xs
changed_at f (x ∷ xs) (suc j) = x ∷ changed_at f xs j

-- why the history of an entity takes no number
abbrev pub refused_in : Option History → Option Unnoted
refused_in None = Some TypeError
refused_in (Some h) = if is_full h then Some Full else None

-- why the history of an entity in the statistic at a place takes none
abbrev pub refused_of : (entity : ℤ) → Option StatisticHistories → Option Unnoted
refused_of x None = None
refused_of x (Some z) = refused_in (z.1 x)

abbrev pub refused_at : (entity : ℤ) → List StatisticHistories → ℕ → Option Unnoted
refused_at x zs j = refused_of x (slice_get zs j)

-- why the history of an entity in the statistic at a place takes no such value
abbrev pub stops_at : Value → (entity : ℤ) → List StatisticHistories → ℕ → Option Unnoted
stops_at (Whole z) x zs j = refused_at x zs j
stops_at (Text t) x zs j = Some TypeError

-- the first of them, place by place
abbrev pub first_at : (ℕ → Option Unnoted) → List ℕ → Option Unnoted
first_at f [] = None
first_at f (j ∷ js) = option_or (f j) (first_at f js)

-- whether the statistic at a place has a history of an entity
abbrev pub has_of : (entity : ℤ) → Option StatisticHistories → Bool
has_of x None = false
has_of x (Some z) = is_some (z.1 x)

abbrev pub has_at : (entity : ℤ) → List StatisticHistories → ℕ → Bool
has_at x zs j = has_of x (slice_get zs j)

-- a statistic and its histories as they are kept
abbrev pub bare : Recorded → Statistic × Rows
bare k = (k.statistic, k.rows)
