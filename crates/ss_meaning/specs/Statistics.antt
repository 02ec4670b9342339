-- Statistics: what they say, and RESET. Of which entity one is asked is an entity, or none where the system has its subject.
use Rattle.std.specs.Prelude.{ℕ, ℤ, pos, Option, Some, None, Result, Ok, Err, slice_get}
use Rattle.ss_base.specs.declared.value.Value.{Value}
use Rattle.ss_program.specs.declared.expression.Variable.TheVariants.{Global}
use Rattle.ss_program.specs.declared.expression.Fold.{Fold}
use Rattle.ss_program.specs.declared.expression.SetQuery.TheVariants.{MemberCount}
use Rattle.ss_program.specs.declared.sections.Subject.{Subject}
use Rattle.ss_program.specs.declared.sections.Subject.TheVariants.{OfVariable, OfAttribute, OfCount}
use Rattle.ss_program.specs.declared.sections.Statistic.{Statistic}
use Rattle.ss_meaning.specs.Values.{Failure, TypeError, if_ok, turned, sure, number_of}
use Rattle.ss_meaning.specs.Store.{Store, with_histories, fetched}
use Rattle.ss_meaning.specs.Histories.{figure_kept, mean_kept, renewed}
use Rattle.ss_meaning.specs.Entities.{entity, attribute}
use Rattle.ss_meaning.specs.Sets.{known_owner, of_set}

abbrev pub subject_of_statistic : (statistic : ℕ) → Store → Result Subject Failure
subject_of_statistic j s = turned (λ (t : Statistic). t.subject) (sure (slice_get s.world.setting.statistics j))

-- the number of the entity that has a subject
abbrev pub bearer_number : Subject → Option Value → Store → Result ℤ Failure
bearer_number (OfVariable k) None s = Ok (pos 0)
bearer_number (OfAttribute class field) (Some x) s = entity class x s
bearer_number (OfCount set) o s = known_owner set o s
bearer_number _ _ s = Err TypeError

-- the value that a subject has
abbrev pub present : Subject → Option Value → Store → Result Value Failure
present (OfVariable k) o s = sure (fetched (Global k) s)
present (OfAttribute class field) None s = Err TypeError
present (OfAttribute class field) (Some x) s = attribute class field x s
present (OfCount set) o s = of_set MemberCount set o s

-- what a statistic says
abbrev pub figure : Fold → (statistic : ℕ) → Option Value → Store → Result Value Failure
figure fold j x s = if_ok (subject_of_statistic j s) (λ t. if_ok (bearer_number t x s) (λ n. figure_kept fold j n s))

-- the sum and the number of which a statistic is the mean
abbrev pub mean : (statistic : ℕ) → Option Value → Store → Result (ℤ × ℤ) Failure
mean j x s = if_ok (subject_of_statistic j s) (λ t. if_ok (bearer_number t x s) (λ n. mean_kept j n s))

-- the store once the history of a statistic starts afresh, with the present value
abbrev pub reset : (statistic : ℕ) → Option Value → Store → Result Store Failure
reset j x s =
    if_ok (subject_of_statistic j s) (λ t. if_ok (bearer_number t x s) (λ n. if_ok (present t x s) (λ v. if_ok (number_of v) (λ z.
    turned (with_histories s) (renewed j n s.world.time z s.world.histories)))))
