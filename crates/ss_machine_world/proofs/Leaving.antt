-- Entities that go, with their histories, and notices that are pending no longer.
use Rattle.std.proofs.Common.{arith, ◌≡◌, ℕ, zero, suc, ◌-◌, ◌<◌, ℤ, Bool, true, false, List, [], ◌∷◌, length, Option, Some, None, Ok, Err, refl, ap, sym, ◌∙◌}
use Rattle.std.specs.Prelude.{is_some, slice_get, MatchResult, if◌then◌else◌, Result as OkOr}
use Rattle.ss_machine_world.proofs.Common.{cancelled, ClassLayout, columns_of, destroyed, Discipline, due, ending, Fails, Failure, FaultKind, HasChanged, if_ok, is_pending, known_in, no_value, Seen, State, Times, turned, unless_fault, unscheduled, where_fit, Whole, with_seen}
use Rattle.ss_meaning.specs.Entities.{gone, is_single, entity, without, with_none}
use Rattle.ss_meaning.specs.Store.{Notices, Store, with_pending}
use Rattle.ss_base.specs.declared.fault.FaultKind.TheVariants.{Scheduled}
use Rattle.ss_world.specs.State as S
use Rattle.ss_machine_world.proofs.Changing.{changes_alike}
use Rattle.ss_machine_world.proofs.Starting.{joined, seen_of}

-- ## A look at an entity, and then what is done

pub single_there : (c : Option ClassLayout) → is_single c ≡ true → is_some c ≡ true
single_there None e = absurd cc
single_there (Some c) e = refl

-- what is done fails with the fault of the look, where the look does
pub one_look : {B C : Type 0} (n : ℤ) (rest : ℤ → OkOr B Failure) (b : Bool) (q : OkOr C FaultKind) → b ≡ true → ((k : FaultKind) → q ≡ Err k → rest n ≡ Err (Fails k)) → if_ok (where_fit b (turned (λ _. n) (due (no_value q)))) rest ≡ rest n
one_look n rest true (Ok c) there h = refl
one_look n rest true (Err k) there h = sym (h k refl)
one_look n rest false q there h = absurd cc

-- what a look at an entity gives
module _ (e : Seen) (class : ℕ) (n : ℤ) (there : is_some (slice_get e.heap.layout.classes class) ≡ true) where
  looked_by : {B : Type 0} (rest : ℤ → OkOr B Failure) (r : OkOr (Unit {0}) FaultKind) → r ≡ known_in e.heap class n → (s : Store) → if_ok (entity class (Whole n) (with_seen s e)) rest ≡ if_ok (turned (λ _. n) (due r)) rest
  looked_by rest r is s =
      ap (λ b. if_ok (where_fit b (turned (λ _. n) (due (known_in e.heap class n)))) rest) there
      ∙ ap (λ (q : OkOr (Unit {0}) FaultKind). if_ok (turned (λ _. n) (due q)) rest) (sym is)

  -- an entity that is pending
  pub kept_pending : (r : OkOr (Unit {0}) FaultKind) → r ≡ known_in e.heap class n → is_pending n e.pending.entries ≡ true → MatchResult r (λ _. (s : Store) → without class (Whole n) (with_seen s e) ≡ Err (Fails Scheduled)) (λ k. (s : Store) → without class (Whole n) (with_seen s e) ≡ Err (Fails k))
  kept_pending (Ok u) is pending = λ s.
      looked_by (λ k. unless_fault (is_pending k e.pending.entries) Scheduled (gone class (Whole n) (with_seen s e))) (Ok u) is s
      ∙ ap (λ b. unless_fault b Scheduled (gone class (Whole n) (with_seen s e))) pending
  kept_pending (Err k) is pending = λ s.
      looked_by (λ k. unless_fault (is_pending k e.pending.entries) Scheduled (gone class (Whole n) (with_seen s e))) (Err k) is s

-- a class that a layout has
pub there_in : {A : Type 0} (xs : List A) (i : ℕ) → i < length xs → is_some (slice_get xs i) ≡ true
there_in [] zero within = absurd (omega (arith, within))
there_in [] (suc i) within = absurd (omega (arith, within))
there_in (x ∷ xs) zero within = refl
there_in (x ∷ xs) (suc i) within = there_in xs i (omega (arith, within))

-- ## A notice that is pending no longer, if it was

module _ (ds : List Discipline) (ns : List Notices) (h : State) (t : Times) (class : ℕ) (n : ℤ) (there : is_some (slice_get h.layout.classes class) ≡ true) where
  abbrev before : Seen
  before = seen_of ds ns h t

  pub not_cancelled : (kind : FaultKind) → Err kind ≡ known_in h class n → HasChanged (unscheduled class (Whole n)) before before (Err kind)
  not_cancelled kind is = (λ s right. looked_by before class n there (λ n. turned (with_pending (with_seen s before)) (due (cancelled n t.pending))) (Err kind) is s, refl)

  pub cancelled_changes : (u : Unit {0}) → Ok u ≡ known_in h class n → (w : Times) (r : OkOr (Unit {0}) FaultKind) → MatchResult r (λ _. (cancelled n t.pending ≡ Ok w.pending) × (w ≡ record t { pending = w.pending })) (λ k. (cancelled n t.pending ≡ Err k) × (w ≡ t)) → HasChanged (unscheduled class (Whole n)) before (seen_of ds ns h w) r
  cancelled_changes u is w (Ok v) d = λ s right.
      looked_by before class n there (λ n. turned (with_pending (with_seen s before)) (due (cancelled n t.pending))) (Ok u) is s
      ∙ ap (λ q. turned (with_pending (with_seen s before)) (due q)) d.0
      ∙ ap (λ (v : Times). Ok (with_seen s (seen_of ds ns h v))) (sym d.1)
  cancelled_changes u is w (Err k) d = (
    λ s right.
        looked_by before class n there (λ n. turned (with_pending (with_seen s before)) (due (cancelled n t.pending))) (Ok u) is s
        ∙ ap (λ q. turned (with_pending (with_seen s before)) (due q)) d.0,
    ap (λ (v : Times). seen_of ds ns h v) d.1,
  )

module _ (e : Seen) (class : ℕ) (n : ℤ) (single : is_single (slice_get e.heap.layout.classes class) ≡ true) where
  gone_by : (r : OkOr State FaultKind) → destroyed e.heap class n ≡ r → (s : Store) → gone class (Whole n) (with_seen s e) ≡ turned (with_none class n (with_seen s e)) (due r)
  gone_by r is s =
      ap (λ b. where_fit b (turned (with_none class n (with_seen s e)) (due (destroyed e.heap class n)))) single
      ∙ ap (λ r. turned (with_none class n (with_seen s e)) (due r)) is

  -- one may not
  pub gone_not : (h : State) (kind : FaultKind) → destroyed e.heap class n ≡ Err kind → h ≡ e.heap → HasChanged (gone class (Whole n)) e (record e { heap = h }) (Err kind)
  gone_not h kind is same = (λ s right. gone_by (Err kind) is s, ap (λ (h : State). record e { heap = h }) same)

  -- one goes, and its histories end
  pub gone_ended : (new : Seen) (h : State) → new ≡ record e { heap = h; histories = new.histories } → destroyed e.heap class n ≡ Ok h → columns_of new.histories ≡ ending h.layout class n e.statistics (columns_of e.histories) → HasChanged (gone class (Whole n)) e new (Ok tt)
  gone_ended new h same is ended = λ s right. gone_by (Ok h) is s ∙ ap Ok (joined e new h same _ s ended)

  -- one that may go and is not pending: DESTROY finds nothing else
  gone_once : (s : Store) → is_pending n e.pending.entries ≡ false → without class (Whole n) (with_seen s e) ≡ gone class (Whole n) (with_seen s e)
  gone_once s free =
      one_look n rest (is_some (slice_get e.heap.layout.classes class)) (S.entity_in e.heap class n) (single_there (slice_get e.heap.layout.classes class) single)
      (λ k no. at ∙ ap (λ b. where_fit b (turned (with_none class n (with_seen s e)) (due (destroyed e.heap class n)))) single
      ∙ ap (λ (q : OkOr S.Record FaultKind). turned (with_none class n (with_seen s e)) (due (S.and_then q (λ r. S.let_go e.heap class (S.number_in n))))) no)
      ∙ at
    where
      rest : ℤ → OkOr Store Failure
      rest k = unless_fault (is_pending k e.pending.entries) Scheduled (gone class (Whole n) (with_seen s e))

      at : rest n ≡ gone class (Whole n) (with_seen s e)
      at = ap (λ b. unless_fault b Scheduled (gone class (Whole n) (with_seen s e))) free

  pub gone_without : (new : Seen) (r : OkOr (Unit {0}) FaultKind) → is_pending n e.pending.entries ≡ false → HasChanged (gone class (Whole n)) e new r → HasChanged (without class (Whole n)) e new r
  gone_without new r free d = changes_alike (without class (Whole n)) (gone class (Whole n)) e new r (λ s. gone_once s free) d

-- whatever is cancelled, the statistics are the same
pub cancelled_statistics : (n : ℤ) (t w : Times) (r : OkOr (Unit {0}) FaultKind) → MatchResult r (λ _. (cancelled n t.pending ≡ Ok w.pending) × (w ≡ record t { pending = w.pending })) (λ k. (cancelled n t.pending ≡ Err k) × (w ≡ t)) → w.histories.statistics ≡ t.histories.statistics
cancelled_statistics n t w (Ok u) d = ap (λ (v : Times). v.histories.statistics) d.1
cancelled_statistics n t w (Err k) d = ap (λ (v : Times). v.histories.statistics) d.1
