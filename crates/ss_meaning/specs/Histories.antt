-- The histories that statistics are taken of: how they start, what they note, and what is read of them.
use Rattle.std.specs.Prelude.{ℕ, zero, suc, ◌==◌, Bool, true, false, ◌&&◌, List, [], ◌∷◌, map, ℤ, pos, int_le, Option, Some, None, Result, Ok, Err, slice_get, if◌then◌else◌}
use Rattle.std.specs.Ordering.{int_eq}
use Rattle.ss_base.specs.declared.fault.FaultKind.TheVariants.{Overflow}
use Rattle.ss_base.specs.declared.value.Value.{Value}
use Rattle.ss_base.specs.declared.value.Value.TheVariants.{Whole}
use Rattle.ss_base.specs.Layout.{same_owner}
use Rattle.ss_base.specs.declared.layout.Owner.{Owner}
use Rattle.ss_base.specs.declared.layout.Owner.TheVariants.{System, Class}
use Rattle.ss_base.specs.declared.layout.Layout.{Layout}
use Rattle.ss_world.specs.Sets.{owner_kind}
use Rattle.ss_stats.specs.History.{History, Tally, Accumulate, is_full, with_noted_value, restarted, number_noted as count_of, sum_of, mean_of, maximum_of, minimum_of}
use Rattle.ss_program.specs.declared.expression.Fold.{Fold}
use Rattle.ss_program.specs.declared.expression.Fold.TheVariants.{Number, Sum, Maximum, Minimum}
use Rattle.ss_program.specs.declared.sections.Subject.{Subject}
use Rattle.ss_program.specs.declared.sections.Subject.TheVariants.{OfVariable, OfAttribute, OfCount}
use Rattle.ss_base.specs.declared.words.Weighting.{Weighting}
use Rattle.ss_base.specs.declared.words.Weighting.TheVariants as weightings
use Rattle.ss_program.specs.declared.sections.Statistic.{Statistic}
use Rattle.ss_meaning.specs.Values.{Failure, TypeError, if_ok, turned, due, sure, unless_fault, number_of}
use Rattle.ss_meaning.specs.Store.{Column, Store, with_histories}

abbrev pub same_subject : Subject → Subject → Bool
same_subject (OfVariable k) (OfVariable j) = k == j
same_subject (OfAttribute c f) (OfAttribute d g) = (c == d) && (f == g)
same_subject (OfCount s) (OfCount t) = s == t
same_subject _ _ = false

-- ## How a history starts

-- whose a subject is: an attribute is its entity's, N. of a set is its owner's, and a global variable is the system's
abbrev pub home : Layout → Subject → Owner
home l (OfVariable k) = System
home l (OfAttribute class field) = Class class
home l (OfCount set) = owner_kind l set

-- a history as it starts, with the value 0
abbrev pub at_start : Weighting → (now : ℤ) → History
at_start weightings.Tally now = Tally []
at_start weightings.Accumulate now = Accumulate (record { moment = now; value = pos 0 }) []

-- there is none at first
abbrev pub no_history : Column
no_history x = None

abbrev pub no_histories : List Statistic → List Column
no_histories ss = map (λ s. no_history) ss

-- the histories of a statistic once one started for each entity that is here
abbrev pub begun_in : (here : ℤ → Bool) → History → Column → Column
begun_in here h c x = if here x then Some h else c x

-- the histories of all statistics, once one started for each entity that is here in each statistic whose subject is theirs
abbrev pub starting : Layout → Owner → (here : ℤ → Bool) → (now : ℤ) → List Statistic → List Column → List Column
starting l whose here now [] cs = cs
starting l whose here now (s ∷ ss) [] = []
starting l whose here now (s ∷ ss) (c ∷ cs) =
    (if same_owner (home l s.subject) whose then begun_in here (at_start s.weighting now) c else c) ∷ starting l whose here now ss cs

abbrev pub started_here : Owner → (here : ℤ → Bool) → Store → Store
started_here whose here s =
    with_histories s (starting s.world.heap.layout whose here s.world.time s.world.setting.statistics s.world.histories)

-- the store once they started as an entity of a class came into being, or those of the system, 0
abbrev pub started : Owner → (entity : ℤ) → Store → Store
started whose x s = started_here whose (int_eq x) s

-- the store once they started for the entities 1 to n of a class
abbrev pub all_started : ℕ → (n : ℕ) → Store → Store
all_started class n s = started_here (Class class) (λ x. int_le (pos 1) x && int_le x (pos n)) s

-- ## How a history ends

abbrev pub ended_in : (entity : ℤ) → Column → Column
ended_in x c y = if int_eq x y then None else c y

-- the histories without those of an entity of a class
abbrev pub ending : Layout → (class : ℕ) → (entity : ℤ) → List Statistic → List Column → List Column
ending l class x [] cs = cs
ending l class x (s ∷ ss) [] = []
ending l class x (s ∷ ss) (c ∷ cs) = (if same_owner (home l s.subject) (Class class) then ended_in x c else c) ∷ ending l class x ss cs

-- the store once they ended, as the entity went
abbrev pub ended : (class : ℕ) → (entity : ℤ) → Store → Store
ended class x s = with_histories s (ending s.world.heap.layout class x s.world.setting.statistics s.world.histories)

-- ## What a history notes

-- the histories of a statistic with another one of an entity
abbrev pub with_history : (entity : ℤ) → History → Column → Column
with_history x h c y = if int_eq x y then Some h else c y

-- the histories of a statistic with one value more in that of an entity; where that is full there is the fault OVERFLOW
abbrev pub noting_in : (entity now : ℤ) → Value → Option History → Column → Result Column Failure
noting_in x now v None c = Err TypeError
noting_in x now v (Some h) c =
    if_ok (number_of v) (λ z. unless_fault (is_full h) Overflow (Ok (with_history x (with_noted_value h now z) c)))

abbrev pub noting : (entity now : ℤ) → Value → Column → Result Column Failure
noting x now v c = noting_in x now v (c x) c

-- the histories with one value more in those of an entity, in each statistic of a subject
abbrev pub all_noting : Subject → (entity now : ℤ) → Value → List Statistic → List Column → Result (List Column) Failure
all_noting subject x now v [] cs = Ok cs
all_noting subject x now v (s ∷ ss) [] = Err TypeError
all_noting subject x now v (s ∷ ss) (c ∷ cs) =
    if_ok (if same_subject s.subject subject then noting x now v c else Ok c) (λ d. turned (λ ds. d ∷ ds) (all_noting subject x now v ss cs))

-- the store once a value of a subject was noted in each history of it
abbrev pub noted : Subject → (entity : ℤ) → Value → Store → Result Store Failure
noted subject x v s =
    turned (with_histories s) (all_noting subject x s.world.time v s.world.setting.statistics s.world.histories)

-- ## What is read of a history, and starting it afresh

-- the history of a statistic of an entity
abbrev pub history_in : Option Column → (entity : ℤ) → Result History Failure
history_in None x = Err TypeError
history_in (Some c) x = sure (c x)

abbrev pub history_of_subject : (statistic : ℕ) → (entity : ℤ) → List Column → Result History Failure
history_of_subject j x cs = history_in (slice_get cs j) x

-- what is asked of a history, now
abbrev pub folded : Fold → (now : ℤ) → History → Result Value Failure
folded Number now h = Ok (Whole (count_of h now))
folded Sum now h = turned Whole (due (sum_of h now))
folded Maximum now h = Ok (Whole (maximum_of h))
folded Minimum now h = Ok (Whole (minimum_of h))

abbrev pub figure_kept : Fold → (statistic : ℕ) → (entity : ℤ) → Store → Result Value Failure
figure_kept fold j x s = if_ok (history_of_subject j x s.world.histories) (folded fold s.world.time)

-- the mean of a history, now: its exact sum and its number
abbrev pub mean_kept : (statistic : ℕ) → (entity : ℤ) → Store → Result (ℤ × ℤ) Failure
mean_kept j x s = turned (λ h. mean_of h s.world.time) (history_of_subject j x s.world.histories)

-- the histories of which that of a statistic of an entity starts afresh, with the present value
abbrev pub renewed : (statistic : ℕ) → (entity now present : ℤ) → List Column → Result (List Column) Failure
renewed j x now z [] = Err TypeError
renewed zero x now z (c ∷ cs) = turned (λ h. with_history x (restarted h now z) c ∷ cs) (sure (c x))
renewed (suc j) x now z (c ∷ cs) = turned (λ ds. c ∷ ds) (renewed j x now z cs)
