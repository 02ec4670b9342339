-- What is asked of statistics.
use Rattle.std.specs.Prelude.{ℕ, List, ℤ, Option, Some, None, Result, slice_get}
use Rattle.std.specs.Option.{option_map}
use Rattle.ss_base.specs.declared.value.Value.{Value}
use Rattle.ss_program.specs.declared.expression.Variable.TheVariants.{Global}
use Rattle.ss_program.specs.declared.sections.Subject.{Subject}
use Rattle.ss_program.specs.declared.sections.Subject.TheVariants.{OfVariable, OfAttribute, OfCount}
use Rattle.ss_program.specs.declared.sections.Statistic.{Statistic}
use Rattle.ss_stats_histories.specs.Values.{Failure as Meant, if_ok, turned, sure, number_of}
use Rattle.ss_stats_histories.specs.Store.{Store, fetched, with_histories}
use Rattle.ss_stats_histories.specs.Histories.{renewed}
use Rattle.ss_stats_histories.specs.Statistics.{present}

-- what a statistic is about
abbrev pub subject_in : List Statistic → (statistic : ℕ) → Option Subject
subject_in ss j = option_map (λ (s : Statistic). s.subject) (slice_get ss j)

-- the global variable that a subject is
abbrev pub variable_in : Option Subject → Option ℕ
variable_in None = None
variable_in (Some (OfVariable k)) = Some k
variable_in (Some (OfAttribute class field)) = None
variable_in (Some (OfCount set)) = None

abbrev pub statistic_variable : List Statistic → (statistic : ℕ) → Option ℕ
statistic_variable ss j = variable_in (subject_in ss j)

-- what a global variable holds, if there is one
abbrev pub held_in : Option ℕ → Store → Option Value
held_in None s = None
held_in (Some k) s = fetched (Global k) s

-- what the variable holds that a statistic is about
abbrev pub held_by : (statistic : ℕ) → Store → Option Value
held_by j s = held_in (statistic_variable s.world.setting.statistics j) s

-- the value that a subject has, where a variable holds this
abbrev pub present_with : (held : Option Value) → Subject → Option Value → Store → Result Value Meant
present_with held (OfVariable k) o s = sure held
present_with held (OfAttribute class field) o s = present (OfAttribute class field) o s
present_with held (OfCount set) o s = present (OfCount set) o s

-- what RESET does once the number of the entity, and that of the present value, are known
abbrev pub renewed_known : (statistic : ℕ) → (entity present : ℤ) → Store → Result Store Meant
renewed_known j x z s = turned (with_histories s) (renewed j x s.world.time z s.world.histories)

abbrev pub reset_of : (statistic : ℕ) → Subject → (entity : ℤ) → Option Value → (held : Option Value) → Store → Result Store Meant
reset_of j t x o held s = if_ok (present_with held t o s) (λ v. if_ok (number_of v) (λ z. renewed_known j x z s))
