-- What a statistic says of an entity, and RESET.
use Rattle.std.proofs.Common.{◌≡◌, ℕ, ℤ, Bool, true, false, List, length, Option, Some, None, Ok, Err, refl, ap, ◌∙◌, sym}
use Rattle.std.specs.Prelude.{is_some, pos, slice_get, slice_index_or, Result as OkOr}
use Rattle.std.specs.Option.{option_map}
use Rattle.ss_machine_world.proofs.Common.{attribute, columns_of, count_in, Discipline, due, entity, Failure, FaultKind, figured, if_ok, NoEntity, number_of, OfAttribute, OfCount, OfVariable, owner, owner_by_layout, owner_in, renewed_where, SetLayout, Statistic, Subject, sure, turned, Value, where_fit, Whole}
use Rattle.ss_machine_time.specs.Figures.{renewed_known, subject_in, variable_in, held_in}
use Rattle.ss_machine_time.specs.Times.{columns, Times, IsAt}
use Rattle.ss_machine_world.specs.Numbers.{looked_in, present_in, IsReferenceTo, IsReferenceToSubject, HasValidSubject, IsHeldBySubject}
use Rattle.ss_machine_world.specs.Seen.{HasChanged, IsRight, Seen, with_seen, HasAnswer, HasChangedWhere, as_value, number_if, without_value}
use Rattle.ss_meaning.specs.Store.{Column, Notices, Store, with_histories, fetched}
use Rattle.ss_world.specs.State.{known_in, no_value, State, value_in, Record, and_then, entity_in, members_of}
use Rattle.ss_program.specs.declared.expression.Fold.{Fold}
use Rattle.ss_program.specs.declared.expression.Variable.TheVariants.{Global}
use Rattle.ss_stats.specs.History.{History}
use Rattle.ss_meaning.specs.Histories.{home, history_in, figure_kept, mean_kept, renewed}
use Rattle.ss_meaning.specs.Statistics.{subject_of_statistic, bearer_number, present, figure, mean, reset}
use Rattle.ss_machine_world.proofs.Reading.{whole_is, value_once}
use Rattle.ss_machine_world.proofs.Starting.{seen_of, seen_moved}

-- ## The entity of a statistic

looked_at : (x : ℤ) (b : Bool) (q : OkOr (Unit {0}) FaultKind) → IsRight (where_fit b (turned (λ _. x) (due q))) → where_fit b (turned (λ _. x) (due q)) ≡ due (number_if x q)
looked_at x true (Ok u) right = refl
looked_at x true (Err k) right = refl
looked_at x false q right = absurd (right refl)

owner_looked : (x : ℤ) (q : OkOr ℕ FaultKind) → turned (λ _. x) (due q) ≡ due (number_if x (no_value q))
owner_looked x (Ok m) = refl
owner_looked x (Err k) = refl

borne : (t : Subject) (o : Option Value) (x : ℤ) (e : Seen) (s : Store) → IsReferenceTo (home e.heap.layout t) o x → IsRight (bearer_number t o (with_seen s e)) → bearer_number t o (with_seen s e) ≡ due (number_if x (looked_in e.heap t x))
borne (OfVariable k) None x e s refers right = refers
borne (OfVariable k) (Some v) x e s refers right = absurd cc
borne (OfAttribute class field) None x e s refers right = absurd cc
borne (OfAttribute class field) (Some v) x e s refers right =
    by ∙ looked_at x (is_some (slice_get e.heap.layout.classes class)) (known_in e.heap class x) (λ wrong. right (by ∙ wrong))
  where
    by : entity class v (with_seen s e) ≡ where_fit (is_some (slice_get e.heap.layout.classes class)) (turned (λ _. x) (due (known_in e.heap class x)))
    by = ap (λ r. if_ok r (λ n. where_fit (is_some (slice_get e.heap.layout.classes class)) (turned (λ _. n) (due (known_in e.heap class n))))) refers
borne (OfCount set) o x e s refers right = by (slice_get e.heap.layout.sets set) refers right
  where
    go : ℤ → OkOr ℤ Failure
    go n = turned (λ _. n) (due (owner e.heap set n))

    by : (t : Option SetLayout) → IsReferenceTo (owner_in t) o x → IsRight (if_ok (owner_by_layout t o) go) → if_ok (owner_by_layout t o) go ≡ due (number_if x (no_value (owner e.heap set x)))
    by None refers right = absurd (right refl)
    by (Some t) refers right = ap (λ r. if_ok r go) refers ∙ owner_looked x (owner e.heap set x)

-- what is asked of a statistic, once its entity was looked at
module _ {B : Type 0} (kept : Subject → ℤ → Store → OkOr B Failure) (j : ℕ) (o : Option Value) (x : ℤ) (e : Seen) (refers : IsReferenceToSubject e j o x) where
  abbrev asked : Store → OkOr B Failure
  asked s = if_ok (subject_of_statistic j s) (λ t. if_ok (bearer_number t o s) (λ n. kept t n s))

  asked_is : (look : OkOr (Unit {0}) FaultKind) → ((t : Subject) → subject_in e.statistics j ≡ Some t → look ≡ looked_in e.heap t x) → (s : Store) → IsRight (asked (with_seen s e)) → (t : Subject) × (subject_in e.statistics j ≡ Some t) × (asked (with_seen s e) ≡ if_ok (due (number_if x look)) (λ n. kept t n (with_seen s e)))
  asked_is look looks s right = by (slice_get e.statistics j) refl right
    where
      by : (u : Option Statistic) → slice_get e.statistics j ≡ u → IsRight (if_ok (turned (λ (t : Statistic). t.subject) (sure u)) (λ t. if_ok (bearer_number t o (with_seen s e)) (λ n. kept t n (with_seen s e)))) → (t : Subject) × (subject_in e.statistics j ≡ Some t) × (if_ok (turned (λ (t : Statistic). t.subject) (sure u)) (λ t. if_ok (bearer_number t o (with_seen s e)) (λ n. kept t n (with_seen s e))) ≡ if_ok (due (number_if x look)) (λ n. kept t n (with_seen s e)))
      by None at right = absurd (right refl)
      by (Some u) at right =
          let is : subject_in e.statistics j ≡ Some u.subject = ap (option_map (λ (t : Statistic). t.subject)) at in
          let found = borne u.subject o x e s (refers u.subject is) (λ wrong. right (ap (λ r. if_ok r (λ n. kept u.subject n (with_seen s e))) wrong)) in
          (u.subject, is, ap (λ r. if_ok r (λ n. kept u.subject n (with_seen s e))) (found ∙ ap (λ q. due (number_if x q)) (sym (looks u.subject is))))

-- ## Figures and means

-- what is answered where a history was asked
abbrev pub MatchAnswer : Option (OkOr ℤ FaultKind) → OkOr ℤ FaultKind → Type 0
MatchAnswer None r = Unit {0}
MatchAnswer (Some answer) r = answer ≡ r

abbrev pub MatchMean : Option (ℤ × ℤ) → OkOr (ℤ × ℤ) FaultKind → Type 0
MatchMean None r = Unit {0}
MatchMean (Some m) r = Ok m ≡ r

module _ (j : ℕ) (o : Option Value) (x : ℤ) (e : Seen) (refers : IsReferenceToSubject e j o x) where
  -- where the entity has a fault
  pub figure_not : (fold : Fold) (kind : FaultKind) → ((t : Subject) → subject_in e.statistics j ≡ Some t → Err kind ≡ looked_in e.heap t x) → HasAnswer (figure fold j o) e (Err kind)
  figure_not fold kind looks s right = (asked_is (λ t n s. figure_kept fold j n s) j o x e refers (Err kind) looks s right).2

  pub mean_not : (kind : FaultKind) → ((t : Subject) → subject_in e.statistics j ≡ Some t → Err kind ≡ looked_in e.heap t x) → HasAnswer (mean j o) e (Err kind)
  mean_not kind looks s right = (asked_is (λ t n s. mean_kept j n s) j o x e refers (Err kind) looks s right).2

  -- what a figure is
  figured_as : (answer : Option (OkOr ℤ FaultKind)) (r : OkOr ℤ FaultKind) → MatchAnswer answer r → IsRight (figured answer) → figured answer ≡ due (as_value r)
  figured_as None r is right = absurd (right refl)
  figured_as (Some (Ok n)) r is right = ap (λ (r : OkOr ℤ FaultKind). due (as_value r)) is
  figured_as (Some (Err k)) r is right = ap (λ (r : OkOr ℤ FaultKind). due (as_value r)) is

  pub figure_is : (fold : Fold) (answer : Option (OkOr ℤ FaultKind)) (r : OkOr ℤ FaultKind) → ((t : Subject) → subject_in e.statistics j ≡ Some t → Ok tt ≡ looked_in e.heap t x) → ((s : Store) → figure_kept fold j x (with_seen s e) ≡ figured answer) → MatchAnswer answer r → HasAnswer (figure fold j o) e (as_value r)
  figure_is fold answer r looks kept is s right =
      let all = (asked_is (λ t n s. figure_kept fold j n s) j o x e refers (Ok tt) looks s right).2 ∙ kept s in
      all ∙ figured_as answer r is (λ wrong. right (all ∙ wrong))

  -- what a mean is
  meant_as : (answer : Option (ℤ × ℤ)) (r : OkOr (ℤ × ℤ) FaultKind) → MatchMean answer r → IsRight (sure answer) → sure answer ≡ due r
  meant_as None r is right = absurd (right refl)
  meant_as (Some m) r is right = ap due is

  pub mean_is : (answer : Option (ℤ × ℤ)) (r : OkOr (ℤ × ℤ) FaultKind) → ((t : Subject) → subject_in e.statistics j ≡ Some t → Ok tt ≡ looked_in e.heap t x) → ((s : Store) → mean_kept j x (with_seen s e) ≡ sure answer) → MatchMean answer r → HasAnswer (mean j o) e r
  mean_is answer r looks kept is s right =
      let all = (asked_is (λ t n s. mean_kept j n s) j o x e refers (Ok tt) looks s right).2 ∙ kept s in
      all ∙ meant_as answer r is (λ wrong. right (all ∙ wrong))

  -- whether there is a mean
  there_is : {C : Type 0} (g : History → C) (c : Option Column) → IsRight (turned {B = Unit {0}} (λ _. tt) (turned g (history_in c x))) → turned {B = Unit {0}} (λ _. tt) (turned g (history_in c x)) ≡ Ok tt
  there_is g None right = absurd (right refl)
  there_is g (Some c) right = by (c x) right
    where
      by : (h : Option History) → IsRight (turned {B = Unit {0}} (λ _. tt) (turned g (sure h))) → turned {B = Unit {0}} (λ _. tt) (turned g (sure h)) ≡ Ok tt
      by None right = absurd (right refl)
      by (Some h) right = refl

  pub mean_looked : (look : OkOr (Unit {0}) FaultKind) → ((t : Subject) → subject_in e.statistics j ≡ Some t → look ≡ looked_in e.heap t x) → HasAnswer (without_value (mean j o)) e look
  mean_looked (Err kind) looks s right =
      ap (turned (λ _. tt)) (mean_not kind looks s (λ wrong. right (ap (turned (λ _. tt)) wrong)))
  mean_looked (Ok u) looks s right =
      let all = ap (turned {B = Unit {0}} (λ _. tt)) (asked_is (λ t n s. mean_kept j n s) j o x e refers (Ok u) looks s (λ wrong. right (ap (turned (λ _. tt)) wrong))).2 in
      all ∙ there_is _ (slice_get (columns_of e.histories) j) (λ wrong. right (all ∙ wrong))

-- ## RESET

look_of : {A B : Type 0} (f : A → B) (q : OkOr A FaultKind) → no_value (and_then q (λ r. Ok (f r))) ≡ no_value q
look_of f (Ok r) = refl
look_of f (Err k) = refl

count_of : (f : ℕ → ℤ) (q : OkOr ℕ FaultKind) → no_value (and_then (and_then q (λ m. Ok (f m))) (λ n. Ok (Whole n))) ≡ no_value q
count_of f (Ok m) = refl
count_of f (Err k) = refl

-- a look at the entity is part of reading the present value
present_looked : (h : State) (t : Subject) (x held : ℤ) → no_value (present_in h t x held) ≡ looked_in h t x
present_looked h (OfVariable k) x held = refl
present_looked h (OfAttribute class field) x held = look_of (λ (r : Record). slice_index_or r.values field (Whole (pos 0))) (entity_in h class x)
present_looked h (OfCount set) x held = count_of (λ n. pos (length (members_of h.lists set n))) (owner h set x)

counted_value : (q : OkOr ℤ FaultKind) → turned Whole (due q) ≡ due (and_then q (λ n. Ok (Whole n)))
counted_value (Ok n) = refl
counted_value (Err k) = refl

module _ (j : ℕ) (o : Option Value) (x held : ℤ) (e : Seen) (refers : IsReferenceToSubject e j o x) (has : HasValidSubject e j) where
  -- the present value
  present_is : (t : Subject) → subject_in e.statistics j ≡ Some t → (s : Store) → IsHeldBySubject j held (with_seen s e) → IsRight (present t o (with_seen s e)) → present t o (with_seen s e) ≡ due (present_in e.heap t x held)
  present_is (OfVariable k) is s holds right = by (fetched (Global k) (with_seen s e)) refl right
    where
      by : (v : Option Value) → fetched (Global k) (with_seen s e) ≡ v → IsRight (sure v) → sure v ≡ Ok (Whole held)
      by None at right = absurd (right refl)
      by (Some v) at right = ap Ok (holds v (ap (λ t. held_in (variable_in t) (with_seen s e)) is ∙ at))
  present_is (OfAttribute class field) is s holds right = by o (refers (OfAttribute class field) is)
    where
      by : (o : Option Value) → IsReferenceTo (home e.heap.layout (OfAttribute class field)) o x → present (OfAttribute class field) o (with_seen s e) ≡ due (value_in e.heap class field x)
      by None refers = absurd cc
      by (Some v) refers =
          ap (λ v. attribute class field v (with_seen s e)) (whole_is v x refers)
          ∙ value_once e class field x s (ap is_some (has (OfAttribute class field) is).1)
  present_is (OfCount set) is s holds right = by (slice_get e.heap.layout.sets set) (refers (OfCount set) is) right
    where
      go : ℤ → OkOr Value Failure
      go n = turned Whole (due (count_in e.heap set n))

      by : (t : Option SetLayout) → IsReferenceTo (owner_in t) o x → IsRight (if_ok (owner_by_layout t o) go) → if_ok (owner_by_layout t o) go ≡ due (and_then (count_in e.heap set x) (λ n. Ok (Whole n)))
      by None refers right = absurd (right refl)
      by (Some t) refers right = ap (λ r. if_ok r go) refers ∙ counted_value (count_in e.heap set x)

  -- what is done with it
  abbrev afresh : Subject → ℤ → Store → OkOr Store Failure
  afresh t n s = if_ok (present t o s) (λ v. if_ok (number_of v) (λ z. turned (with_histories s) (renewed j n s.world.time z s.world.histories)))

  -- there is a fault
  pub reset_not : (kind : FaultKind) → ((t : Subject) → subject_in e.statistics j ≡ Some t → Err kind ≡ present_in e.heap t x held) → HasChangedWhere (λ s. IsRight (reset j o s) × IsHeldBySubject j held s) (reset j o) e e (Err kind)
  reset_not kind presents =
      (λ s p. (asked_is afresh j o x e refers (Err kind) (λ t is. ap no_value (presents t is) ∙ present_looked e.heap t x held) s p.0).2, refl)

  -- a number, and a history that starts afresh with it
  module _ (p : ℤ) (presents : (t : Subject) → subject_in e.statistics j ≡ Some t → Ok (Whole p) ≡ present_in e.heap t x held) where
    reset_by : (s : Store) → IsRight (reset j o (with_seen s e)) → IsHeldBySubject j held (with_seen s e) → reset j o (with_seen s e) ≡ renewed_known j x p (with_seen s e)
    reset_by s right holds =
        let a = asked_is afresh j o x e refers (Ok tt) (λ t is. ap no_value (presents t is) ∙ present_looked e.heap t x held) s right in
        a.2 ∙ ap after (present_is a.0 a.1 s holds (λ wrong. right (a.2 ∙ ap after wrong)) ∙ ap due (sym (presents a.0 a.1)))
      where
        after : OkOr Value Failure → OkOr Store Failure
        after r = if_ok r (λ v. if_ok (number_of v) (λ z. renewed_known j x z (with_seen s e)))

    pub reset_then : (new : Seen) (r : OkOr (Unit {0}) FaultKind) → HasChanged (renewed_known j x p) e new r → HasChangedWhere (λ s. IsRight (reset j o s) × IsHeldBySubject j held s) (reset j o) e new r
    reset_then new (Ok u) d = λ s q. reset_by s q.0 q.1 ∙ d s (λ wrong. q.0 (reset_by s q.0 q.1 ∙ wrong))
    reset_then new (Err k) d = (λ s q. reset_by s q.0 q.1 ∙ d.0 s (λ wrong. q.0 (reset_by s q.0 q.1 ∙ wrong)), d.1)

-- the history starts afresh
module _ (ds : List Discipline) (ns : List Notices) (h : State) (t w : Times) (j : ℕ) (x p : ℤ) where
  pub renew_changes : renewed j x t.time p (columns t) ≡ renewed_where true (columns w) → IsAt t w → HasChanged (renewed_known j x p) (seen_of ds ns h t) (seen_of ds ns h w) (Ok tt)
  renew_changes is at = λ s right.
      ap (turned (with_histories (with_seen s (seen_of ds ns h t)))) is
      ∙ ap (λ (e : Seen). Ok (with_seen s e)) (sym (seen_moved ds ns h t w at.0 at.1 at.2))

  -- or there is none, and this is not right
  pub renew_wrong : renewed j x t.time p (columns t) ≡ renewed_where false (columns w) → w ≡ t → HasChanged (renewed_known j x p) (seen_of ds ns h t) (seen_of ds ns h w) (Err NoEntity)
  renew_wrong is same =
      (λ s right. absurd (right (ap (turned (with_histories (with_seen s (seen_of ds ns h t)))) is)), ap (λ (u : Times). seen_of ds ns h u) same)

-- the subject of a statistic is one
pub one_subject : (j : ℕ) (e : Seen) (t u : Subject) → Some t ≡ subject_in e.statistics j → subject_in e.statistics j ≡ Some u → t ≡ u
one_subject j e t u found is = by (found ∙ is)
  where
    by : Some t ≡ Some u → t ≡ u
    by is = cc
