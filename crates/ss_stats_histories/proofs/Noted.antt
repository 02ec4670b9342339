-- What becomes of the histories, as the meaning says it.
use Rattle.std.proofs.Common.{◌≡◌, ℕ, zero, suc, ◌<◌, length, All, arith, Bool, true, false, if◌then◌else◌, ℤ, List, [], ◌∷◌, map, fold, Option, Some, None, is_some, Result, Ok, Err, MatchResult, slice_get, ◌∙◌, sym, ap, subst, refl}
use Rattle.std.specs.Option.{option_map, option_or}
use Rattle.ss_program.specs.declared.expression.Fold.{Fold}
use Rattle.ss_program.specs.declared.expression.Fold.TheVariants.{Number, Sum, Maximum, Minimum}
use Rattle.ss_stats_histories.proofs.Common.{bare, begun_shown, changed_at, Class, Column, ended_shown, first_at, has_at, is_about, Layout, noted_by, Overflow, Owner, places_where, refused_at, refused_in, renewed_one, shown, Statistic, StatisticHistories, stops_at, Subject, Unnoted}
use Rattle.ss_base.specs.declared.value.Value.{Value}
use Rattle.ss_base.specs.declared.value.Value.TheVariants.{Whole, Text}
use Rattle.ss_stats.specs.History.{History, mean_of, is_full, with_noted_value, restarted}
use Rattle.ss_meaning.specs.Values.{Failure, TypeError, if_ok, turned, due, sure, unless_fault}
use Rattle.ss_meaning.specs.Histories.{starting, ending, noting_in, all_noting, with_history, history_of_subject, folded, renewed}
use Rattle.ss_stats_histories.specs.declared.unnoted.Unnoted.TheVariants.{Full}
use Rattle.ss_stats_histories.specs.declared.unnoted.Unnoted.TheVariants as unnoted
use Rattle.ss_stats_histories.specs.Records.{Records, Recorded, Rows, column_of, columns_of, statistics_of, rows_of, rooms_of, noted_to, renewed_to, figure_of, figured, mean_in, why}
use mathlib.Core.List.{map-map}

-- what a contract sees of the statistics and a moment
abbrev pub records_of : List Recorded → (latest : ℤ) → Records
records_of ks latest = record { statistics = statistics_of ks; rows = rows_of ks; latest = latest; room = rooms_of ks }

-- ## Statistics of which each is changed

statistics_are : (ks : List Recorded) → statistics_of ks ≡ map (λ (z : StatisticHistories). z.0) (map shown ks)
statistics_are ks = sym (map-map (λ (z : StatisticHistories). z.0) shown ks)

columns_are : (ks : List Recorded) → columns_of (rows_of ks) ≡ map (λ (z : StatisticHistories). z.1) (map shown ks)
columns_are ks = map-map column_of (λ (k : Recorded). k.rows) ks ∙ sym (map-map (λ (z : StatisticHistories). z.1) shown ks)

kept_by : (f : StatisticHistories → StatisticHistories) → ((z : StatisticHistories) → (f z).0 ≡ z.0) → (zs : List StatisticHistories) → map (λ (z : StatisticHistories). z.0) (map f zs) ≡ map (λ (z : StatisticHistories). z.0) zs
kept_by f s [] = refl
kept_by f s (z ∷ zs) = λ i. s z i ∷ kept_by f s zs i

pub same_statistics : (f : StatisticHistories → StatisticHistories) → ((z : StatisticHistories) → (f z).0 ≡ z.0) → (ks ns : List Recorded) → map shown ns ≡ map f (map shown ks) → statistics_of ns ≡ statistics_of ks
same_statistics f s ks ns e = statistics_are ns ∙ ap (map (λ (z : StatisticHistories). z.0)) e ∙ kept_by f s (map shown ks) ∙ sym (statistics_are ks)

-- what a contract says of the histories that change, by what is seen of the statistics
pub seconds : (ns : List Recorded) (zs : List StatisticHistories) → map shown ns ≡ zs → columns_of (rows_of ns) ≡ map (λ (z : StatisticHistories). z.1) zs
seconds ns zs e = columns_are ns ∙ ap (map (λ (z : StatisticHistories). z.1)) e

starts : (l : Layout) (whose : Owner) (here : ℤ → Bool) (now : ℤ) (ks : List Recorded) → map (λ (z : StatisticHistories). z.1) (map (begun_shown l whose here now) (map shown ks)) ≡ starting l whose here now (statistics_of ks) (columns_of (rows_of ks))
starts l whose here now [] = refl
starts l whose here now (k ∷ ks) = ap (λ cs. (begun_shown l whose here now (shown k)).1 ∷ cs) (starts l whose here now ks)

pub started_is : (l : Layout) (whose : Owner) (here : ℤ → Bool) (now : ℤ) (ks ns : List Recorded) → map shown ns ≡ map (begun_shown l whose here now) (map shown ks) →
    columns_of (rows_of ns) ≡ starting l whose here now (statistics_of ks) (columns_of (rows_of ks))
started_is l whose here now ks ns e = seconds ns _ e ∙ starts l whose here now ks

ends : (l : Layout) (class : ℕ) (x : ℤ) (ks : List Recorded) → map (λ (z : StatisticHistories). z.1) (map (ended_shown l (Class class) x) (map shown ks)) ≡ ending l class x (statistics_of ks) (columns_of (rows_of ks))
ends l class x [] = refl
ends l class x (k ∷ ks) = ap (λ cs. (ended_shown l (Class class) x (shown k)).1 ∷ cs) (ends l class x ks)

pub ended_is : (l : Layout) (class : ℕ) (x : ℤ) (ks ns : List Recorded) → map shown ns ≡ map (ended_shown l (Class class) x) (map shown ks) →
    columns_of (rows_of ns) ≡ ending l class x (statistics_of ks) (columns_of (rows_of ks))
ended_is l class x ks ns e = seconds ns _ e ∙ ends l class x ks

-- ## Statistics of which those at some places are changed

shifted : {X : Type 0} → (f : X → X) (x : X) (xs : List X) (js : List ℕ) → fold (changed_at f) (x ∷ xs) (map suc js) ≡ x ∷ fold (changed_at f) xs js
shifted f x xs [] = refl
shifted f x xs (j ∷ js) = shifted f x (changed_at f xs j) js

one_step : {X : Type 0} → (f : X → X) (b : Bool) (x : X) (xs : List X) (ps : List ℕ) →
    fold (changed_at f) (x ∷ xs) (if b then 0 ∷ map suc ps else map suc ps) ≡ (if b then f x else x) ∷ fold (changed_at f) xs ps
one_step f true x xs ps = shifted f (f x) xs ps
one_step f false x xs ps = shifted f x xs ps

pub all_changed : {X : Type 0} → (f : X → X) (test : X → Bool) (xs : List X) → fold (changed_at f) xs (places_where test xs) ≡ map (λ x. if test x then f x else x) xs
all_changed f test [] = refl
all_changed f test (x ∷ xs) = one_step f (test x) x xs (places_where test xs) ∙ ap (λ ys. (if test x then f x else x) ∷ ys) (all_changed f test xs)

pub places_of : {X Y : Type 0} → (g : X → Y) (test : Y → Bool) (xs : List X) → places_where test (map g xs) ≡ places_where (λ x. test (g x)) xs
places_of g test [] = refl
places_of g test (x ∷ xs) = ap (λ (ps : List ℕ). if test (g x) then 0 ∷ map suc ps else map suc ps) (places_of g test xs)

-- ## Why a number is not noted

-- why a history takes no such value
abbrev pub stops_in : Value → Option History → Option Unnoted
stops_in (Whole z) o = refused_in o
stops_in (Text t) o = Some unnoted.TypeError

abbrev pub stopped_by : Bool → Value → Option History → Option Unnoted
stopped_by b v o = if b then stops_in v o else None

abbrev pub stopped : Subject → (entity : ℤ) → Value → StatisticHistories → Option Unnoted
stopped s x v z = stopped_by (is_about s z.0) v (z.1 x)

abbrev pub first_stopped : Subject → (entity : ℤ) → Value → List StatisticHistories → Option Unnoted
first_stopped s x v [] = None
first_stopped s x v (z ∷ zs) = option_or (stopped s x v z) (first_stopped s x v zs)

stops_shifted : (x : ℤ) (v : Value) (z : StatisticHistories) (zs : List StatisticHistories) (js : List ℕ) → first_at (stops_at v x (z ∷ zs)) (map suc js) ≡ first_at (stops_at v x zs) js
stops_shifted x v z zs [] = refl
stops_shifted x (Whole n) z zs (j ∷ js) = ap (option_or (refused_at x zs j)) (stops_shifted x (Whole n) z zs js)
stops_shifted x (Text t) z zs (j ∷ js) = refl

stops_first : (x : ℤ) (v : Value) (z : StatisticHistories) (zs : List StatisticHistories) → stops_at v x (z ∷ zs) 0 ≡ stops_in v (z.1 x)
stops_first x (Whole n) z zs = refl
stops_first x (Text t) z zs = refl

stops_step : (x : ℤ) (b : Bool) (v : Value) (z : StatisticHistories) (zs : List StatisticHistories) (ps : List ℕ) →
    first_at (stops_at v x (z ∷ zs)) (if b then 0 ∷ map suc ps else map suc ps) ≡ option_or (stopped_by b v (z.1 x)) (first_at (stops_at v x zs) ps)
stops_step x true v z zs ps =
    ap (λ (o : Option Unnoted). option_or o (first_at (stops_at v x (z ∷ zs)) (map suc ps))) (stops_first x v z zs) ∙ ap (option_or (stops_in v (z.1 x))) (stops_shifted x v z zs ps)
stops_step x false v z zs ps = stops_shifted x v z zs ps

pub stops_places : (s : Subject) (x : ℤ) (v : Value) (zs : List StatisticHistories) → first_at (stops_at v x zs) (places_where (λ z. is_about s z.0) zs) ≡ first_stopped s x v zs
stops_places s x v [] = refl
stops_places s x v (z ∷ zs) =
    stops_step x (is_about s z.0) v z zs (places_where (λ z. is_about s z.0) zs) ∙ ap (option_or (stopped s x v z)) (stops_places s x v zs)

-- ## What noting changes

-- what is answered where there is a reason, and where there is none
abbrev pub unless : {A : Type 0} → Option Unnoted → A → Result A Failure
unless None a = Ok a
unless (Some e) a = Err (why e)

kept_or_full : (b : Bool) (x now v : ℤ) (h : History) (c : Column) →
    unless_fault b Overflow (Ok (with_history x (with_noted_value h now v) c)) ≡ unless (if b then Some Full else None) (with_history x (if b then h else with_noted_value h now v) c)
kept_or_full true x now v h c = refl
kept_or_full false x now v h c = refl

abbrev noted_in : (entity now : ℤ) → Value → Option History → Column → Column
noted_in x now (Whole v) o c = noted_to x now v o c
noted_in x now (Text t) o c = c

taken : (b : Bool) (o : Option History) (x now : ℤ) (v : Value) (c : Column) →
    (if b then noting_in x now v o c else Ok c) ≡ unless (stopped_by b v o) (if b then noted_in x now v o c else c)
taken true None x now (Whole v) c = refl
taken true (Some h) x now (Whole v) c = kept_or_full (is_full h) x now v h c
taken true None x now (Text t) c = refl
taken true (Some h) x now (Text t) c = refl
taken false o x now v c = refl

both : {A : Type 0} → (o p : Option Unnoted) (d : A) (ds : List A) → if_ok (unless o d) (λ d. turned (λ ds. d ∷ ds) (unless p ds)) ≡ unless (option_or o p) (d ∷ ds)
both None None d ds = refl
both None (Some f) d ds = refl
both (Some e) p d ds = refl

abbrev pub noted_where : Subject → (entity now : ℤ) → Value → StatisticHistories → StatisticHistories
noted_where s x now v z = if is_about s z.0 then noted_by x now v z else z

of_both : (b : Bool) (x now : ℤ) (v : Value) (z : StatisticHistories) → (if b then noted_in x now v (z.1 x) z.1 else z.1) ≡ (if b then noted_by x now v z else z).1
of_both true x now (Whole v) z = refl
of_both true x now (Text t) z = refl
of_both false x now v z = refl

pub noted_is : (s : Subject) (x now : ℤ) (v : Value) (ks : List Recorded) →
    all_noting s x now v (statistics_of ks) (columns_of (rows_of ks)) ≡ unless (first_stopped s x v (map shown ks)) (map (λ (z : StatisticHistories). z.1) (map (noted_where s x now v) (map shown ks)))
noted_is s x now v [] = refl
noted_is s x now v (k ∷ ks) =
    let c = column_of k.rows in
    let b = is_about s k.statistic in
    let d : Column = if b then noted_in x now v (c x) c else c in
    let ds : List Column = map (λ (z : StatisticHistories). z.1) (map (noted_where s x now v) (map shown ks)) in
    let rest = all_noting s x now v (statistics_of ks) (columns_of (rows_of ks)) in
    ap (λ (r : Result Column Failure). if_ok r (λ d. turned (λ ds. d ∷ ds) rest)) (taken b (c x) x now v c) ∙
    ap (λ (r : Result (List Column) Failure). if_ok (unless (stopped_by b v (c x)) d) (λ d. turned (λ ds. d ∷ ds) r)) (noted_is s x now v ks) ∙
    both (stopped_by b v (c x)) (first_stopped s x v (map shown ks)) d ds ∙
    ap (λ (d : Column). unless (first_stopped s x v (map shown (k ∷ ks))) (d ∷ ds)) (of_both b x now v (shown k))

-- ## What starting afresh changes

fresh_first : (x now v : ℤ) (o : Option History) (c : Column) (cs : List Column) → is_some o ≡ true →
    turned (λ h. with_history x (restarted h now v) c ∷ cs) (sure o) ≡ Ok (renewed_to x now v o c ∷ cs)
fresh_first x now v None c cs e = cc
fresh_first x now v (Some h) c cs e = refl

pub renewed_there : (x now v : ℤ) (zs : List StatisticHistories) (j : ℕ) → has_at x zs j ≡ true →
    renewed j x now v (map (λ (z : StatisticHistories). z.1) zs) ≡ Ok (map (λ (z : StatisticHistories). z.1) (changed_at (renewed_one x now v) zs j))
renewed_there x now v [] j e = cc
renewed_there x now v (z ∷ zs) zero e = fresh_first x now v (z.1 x) z.1 (map (λ (z : StatisticHistories). z.1) zs) e
renewed_there x now v (z ∷ zs) (suc j) e = ap (λ (r : Result (List Column) Failure). turned (λ ds. z.1 ∷ ds) r) (renewed_there x now v zs j e)

none_first : (x now v : ℤ) (o : Option History) (c : Column) (cs : List Column) → is_some o ≡ false →
    turned (λ h. with_history x (restarted h now v) c ∷ cs) (sure o) ≡ Err TypeError
none_first x now v None c cs e = refl
none_first x now v (Some h) c cs e = cc

pub renewed_nowhere : (x now v : ℤ) (zs : List StatisticHistories) (j : ℕ) → has_at x zs j ≡ false → renewed j x now v (map (λ (z : StatisticHistories). z.1) zs) ≡ Err TypeError
renewed_nowhere x now v [] j e = refl
renewed_nowhere x now v (z ∷ zs) zero e = none_first x now v (z.1 x) z.1 (map (λ (z : StatisticHistories). z.1) zs) e
renewed_nowhere x now v (z ∷ zs) (suc j) e = ap (λ (r : Result (List Column) Failure). turned (λ ds. z.1 ∷ ds) r) (renewed_nowhere x now v zs j e)

kept_at : (x now v : ℤ) (zs : List StatisticHistories) (j : ℕ) → map (λ (z : StatisticHistories). z.0) (changed_at (renewed_one x now v) zs j) ≡ map (λ (z : StatisticHistories). z.0) zs
kept_at x now v [] j = refl
kept_at x now v (z ∷ zs) zero = refl
kept_at x now v (z ∷ zs) (suc j) = ap (λ ss. z.0 ∷ ss) (kept_at x now v zs j)

pub renewed_statistics : (x now v : ℤ) (j : ℕ) (ks ns : List Recorded) → map shown ns ≡ changed_at (renewed_one x now v) (map shown ks) j → statistics_of ns ≡ statistics_of ks
renewed_statistics x now v j ks ns e = statistics_are ns ∙ ap (map (λ (z : StatisticHistories). z.0)) e ∙ kept_at x now v (map shown ks) j ∙ sym (statistics_are ks)

-- ## Statistics that are kept as they were

pub firsts : (ks ns : List Recorded) → map bare ns ≡ map bare ks → statistics_of ns ≡ statistics_of ks
firsts ks ns e = sym (map-map (λ (z : Statistic × Rows). z.0) bare ns) ∙ ap (map (λ (z : Statistic × Rows). z.0)) e ∙ map-map (λ (z : Statistic × Rows). z.0) bare ks

pub rows_same : (ks ns : List Recorded) → map bare ns ≡ map bare ks → rows_of ns ≡ rows_of ks
rows_same ks ns e = sym (map-map (λ (z : Statistic × Rows). z.1) bare ns) ∙ ap (map (λ (z : Statistic × Rows). z.1)) e ∙ map-map (λ (z : Statistic × Rows). z.1) bare ks

-- ## The places of the statistics that are kept

suc_within : (ps : List ℕ) (n : ℕ) → All (λ j. j < n) ps → All (λ j. j < suc n) (map suc ps)
suc_within [] n a k d h = absurd (omega (arith, h))
suc_within (p ∷ ps) n a zero d h = omega (arith, a zero d (omega arith))
suc_within (p ∷ ps) n a (suc k) d h = suc_within ps n (λ m e l. a (suc m) e (omega (arith, l))) k d (omega (arith, h))

one_within : (b : Bool) (ps : List ℕ) (n : ℕ) → All (λ j. j < n) ps → All (λ j. j < suc n) (if b then 0 ∷ map suc ps else map suc ps)
one_within true ps n a zero d h = omega arith
one_within true ps n a (suc k) d h = suc_within ps n a k d (omega (arith, h))
one_within false ps n a k d h = suc_within ps n a k d h

places_within : {X : Type 0} → (test : X → Bool) (xs : List X) → All (λ j. j < length xs) (places_where test xs)
places_within test [] k d h = absurd (omega (arith, h))
places_within test (x ∷ xs) k d h = one_within (test x) (places_where test xs) (length xs) (places_within test xs) k d h

pub places_known : (s : Subject) (ks : List Recorded) (about : List Statistic) (ps : List ℕ) → about ≡ statistics_of ks → ps ≡ places_where (is_about s) about →
    ps ≡ places_where (λ (z : StatisticHistories). is_about s z.0) (map shown ks)
places_known s ks about ps a p =
    p ∙ ap (places_where (is_about s)) a ∙ places_of (λ (k : Recorded). k.statistic) (is_about s) ks ∙ sym (places_of shown (λ (z : StatisticHistories). is_about s z.0) ks)

pub within_known : (s : Subject) (ks : List Recorded) (about : List Statistic) (ps : List ℕ) → about ≡ statistics_of ks → ps ≡ places_where (is_about s) about → All (λ j. j < length ks) ps
within_known s ks about ps a p =
    subst (λ (qs : List ℕ). All (λ j. j < length ks) qs) (sym (p ∙ ap (places_where (is_about s)) a ∙ places_of (λ (k : Recorded). k.statistic) (is_about s) ks)) (places_within (λ (k : Recorded). is_about s k.statistic) ks)

pub stops_known : (s : Subject) (x : ℤ) (v : Value) (ks : List Recorded) (about : List Statistic) (ps : List ℕ) (o : Option Unnoted) → about ≡ statistics_of ks → ps ≡ places_where (is_about s) about →
    first_at (stops_at v x (map shown ks)) ps ≡ o → first_stopped s x v (map shown ks) ≡ o
stops_known s x v ks about ps o a p e =
    sym (stops_places s x v (map shown ks)) ∙ ap (first_at (stops_at v x (map shown ks))) (sym (places_known s ks about ps a p)) ∙ e

pub noted_known : (s : Subject) (x now : ℤ) (v : Value) (ks ns : List Recorded) (about : List Statistic) (ps : List ℕ) → about ≡ statistics_of ks → ps ≡ places_where (is_about s) about →
    map shown ns ≡ fold (changed_at (noted_by x now v)) (map shown ks) ps → map shown ns ≡ map (noted_where s x now v) (map shown ks)
noted_known s x now v ks ns about ps a p e =
    e ∙ ap (fold (changed_at (noted_by x now v)) (map shown ks)) (places_known s ks about ps a p) ∙ all_changed (noted_by x now v) (λ (z : StatisticHistories). is_about s z.0) (map shown ks)

pub about_known : (s : Subject) (ks : List Recorded) (about : List Statistic) (ps : List ℕ) → about ≡ statistics_of ks → ps ≡ places_where (is_about s) about → ps ≡ places_where (is_about s) (statistics_of ks)
about_known s ks about ps a p = p ∙ ap (places_where (is_about s)) a

-- what noting ensures of the statistics and a moment, as records have it
pub or_as_before : (s : Subject) (x now : ℤ) (v : Value) (ks ns : List Recorded) (latest later : ℤ) (r : Records) (result : Result Unit Unnoted) → records_of ks latest ≡ r →
    MatchResult result (λ _. all_noting s x now v (statistics_of ks) (columns_of (rows_of ks)) ≡ Ok (columns_of (rows_of ns))) (λ e. (all_noting s x now v (statistics_of ks) (columns_of (rows_of ks)) ≡ Err (why e)) × (ns ≡ ks) × (later ≡ latest)) →
    MatchResult result (λ _. all_noting s x now v r.statistics (columns_of r.rows) ≡ Ok (columns_of (rows_of ns))) (λ e. (all_noting s x now v r.statistics (columns_of r.rows) ≡ Err (why e)) × (records_of ns later ≡ r))
or_as_before s x now v ks ns latest later r (Ok u) same n = sym (ap (λ (r : Records). all_noting s x now v r.statistics (columns_of r.rows)) same) ∙ n
or_as_before s x now v ks ns latest later r (Err e) same n =
    let like : records_of ns later ≡ records_of ks latest = λ i. records_of (n.1 i) (n.2 i) in
    (sym (ap (λ (r : Records). all_noting s x now v r.statistics (columns_of r.rows)) same) ∙ n.0, like ∙ same)

where_same : (b : Bool) (x now : ℤ) (v : Value) (z : StatisticHistories) → (if b then noted_by x now v z else z).0 ≡ z.0
where_same true x now (Whole v) z = refl
where_same true x now (Text t) z = refl
where_same false x now v z = refl

pub noted_statistic : (s : Subject) (x now : ℤ) (v : Value) (z : StatisticHistories) → (noted_where s x now v z).0 ≡ z.0
noted_statistic s x now v z = where_same (is_about s z.0) x now v z

-- ## What is asked of a history

pub asked : (fold : Fold) (now : ℤ) (h : History) → folded fold now h ≡ turned Whole (due (figure_of fold now h))
asked Number now h = refl
asked Sum now h = refl
asked Maximum now h = refl
asked Minimum now h = refl

asked_in : (fold : Fold) (now : ℤ) (o : Option History) → if_ok (sure o) (folded fold now) ≡ figured (option_map (figure_of fold now) o)
asked_in fold now None = refl
asked_in fold now (Some h) = asked fold now h

-- a statistic's history of an entity, if it is there
abbrev found_at : (entity : ℤ) → Option Recorded → Result History Failure
found_at x None = Err TypeError
found_at x (Some k) = sure (column_of k.rows x)

at_place : (x : ℤ) (ks : List Recorded) (j : ℕ) → history_of_subject j x (columns_of (rows_of ks)) ≡ found_at x (slice_get ks j)
at_place x [] j = refl
at_place x (n ∷ ns) zero = refl
at_place x (n ∷ ns) (suc j) = at_place x ns j

pub figure_there : (fold : Fold) (x now : ℤ) (ks : List Recorded) (j : ℕ) (k : Recorded) → slice_get ks j ≡ Some k →
    if_ok (history_of_subject j x (columns_of (rows_of ks))) (folded fold now) ≡ figured (option_map (figure_of fold now) (column_of k.rows x))
figure_there fold x now ks j k e = ap (λ (r : Result History Failure). if_ok r (folded fold now)) (at_place x ks j ∙ ap (found_at x) e) ∙ asked_in fold now (column_of k.rows x)

pub figure_nowhere : (fold : Fold) (x now : ℤ) (ks : List Recorded) (j : ℕ) → slice_get ks j ≡ None → if_ok (history_of_subject j x (columns_of (rows_of ks))) (folded fold now) ≡ Err TypeError
figure_nowhere fold x now ks j e = ap (λ (r : Result History Failure). if_ok r (folded fold now)) (at_place x ks j ∙ ap (found_at x) e)

mean_asked : (now : ℤ) (o : Option History) → turned (λ h. mean_of h now) (sure o) ≡ sure (option_map (λ (h : History). mean_of h now) o)
mean_asked now None = refl
mean_asked now (Some h) = refl

pub mean_there : (x now : ℤ) (ks : List Recorded) (j : ℕ) (k : Recorded) → slice_get ks j ≡ Some k →
    mean_in j x now (columns_of (rows_of ks)) ≡ sure (option_map (λ (h : History). mean_of h now) (column_of k.rows x))
mean_there x now ks j k e = ap (turned (λ (h : History). mean_of h now)) (at_place x ks j ∙ ap (found_at x) e) ∙ mean_asked now (column_of k.rows x)

pub mean_nowhere : (x now : ℤ) (ks : List Recorded) (j : ℕ) → slice_get ks j ≡ None → mean_in j x now (columns_of (rows_of ks)) ≡ Err TypeError
mean_nowhere x now ks j e = ap (turned (λ (h : History). mean_of h now)) (at_place x ks j ∙ ap (found_at x) e)
