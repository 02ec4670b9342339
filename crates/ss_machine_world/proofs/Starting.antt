-- Entities that are made, with their histories: one, and all of a permanent class.
use Rattle.std.proofs.Common.{arith, ◌≡◌, ℕ, zero, suc, ◌≤◌, ℤ, Bool, true, false, List, [], ◌∷◌, length, Option, Some, Ok, Err, int_eq, refl, ap, ◌∙◌, sym, subst}
use Rattle.std.specs.Prelude.{pos, negsuc, IsOk, nat_le, ◌≤ℤ◌, slice_get, slice_set, replicate, MatchResult, Result as OkOr, if◌then◌else◌}
use Rattle.std.proofs.lemmas.Int.{ints}
use Rattle.ss_machine_world.proofs.Common.{Class, Column, columns_of, Discipline, due, Fails, Failure, Fault, FaultKind, HasAnswer, HasChangedWithMemory, HasMade, HasRooms, is_up_to, IsAlwaysOk, IsRight, Layout, Memory, Notices, Owner, Seen, starting, Statistic, Store, Times, turned, unless_fault, where_fit, Whole, with_heap, with_histories, with_seen}
use Rattle.ss_machine_world.specs.Numbers.{created_all_known, count_open}
use Rattle.ss_meaning.specs.Entities.{is_single, made_one, is_permanent, with_new, with_all}
use Rattle.ss_world.specs.State.{created_all, no_value, State, Record, MOST_ENTITIES, IsRefusalOf, first_record, created, is_made, with_made, made_many, records_in}
use Rattle.ss_base.specs.declared.fault.FaultKind.TheVariants.{CreatedTwice, BadCount}
use Rattle.ss_base.specs.declared.fault.Refused.{Refused}
use Rattle.ss_world.specs.PendingList.{PendingList}
use Rattle.ss_machine_entities.proofs.Counting.{created_keeps}
use Rattle.std.proofs.lemmas.List.{length-replicate}

-- ## Which fault is due

pub fault_due : {A : Type 0} (r : OkOr A FaultKind) (kind : FaultKind) → Err kind ≡ no_value r → r ≡ Err kind
fault_due (Ok a) kind e = absurd cc
fault_due (Err k) kind e = cc

-- ## The store with other entities and other histories

module _ (old new : Seen) (h : State) (same : new ≡ record old { heap = h; histories = new.histories }) where
  pub joined : (hs : List Column) (s : Store) → columns_of new.histories ≡ hs → with_histories (with_heap (with_seen s old) h) hs ≡ with_seen s new
  joined hs s e = ap (with_histories (with_heap (with_seen s old) h)) (sym e) ∙ ap (with_seen s) (sym same)

-- what is seen, by what passes in time
abbrev pub seen_of : List Discipline → List Notices → State → Times → Seen
seen_of ds ns h t = record {
  disciplines = ds;
  notices = ns;
  statistics = t.histories.statistics;
  heap = h;
  time = t.time;
  pending = t.pending;
  histories = t.histories.rows;
}

-- only histories differ
pub seen_moved : (ds : List Discipline) (ns : List Notices) (h : State) (t w : Times) → w.time ≡ t.time → w.pending ≡ t.pending → w.histories.statistics ≡ t.histories.statistics → seen_of ds ns h w ≡ record (seen_of ds ns h t) { histories = w.histories.rows }
seen_moved ds ns h t w time pending statistics =
    ap (λ (z : ℤ). record (seen_of ds ns h w) { time = z }) time
    ∙ ap (λ (p : PendingList). record (seen_of ds ns h w) { time = t.time; pending = p }) pending
    ∙ ap (λ (ss : List Statistic). record (seen_of ds ns h w) { statistics = ss; time = t.time; pending = t.pending }) statistics

-- ## One entity

-- what is left of an operation that goes well goes well
due_well : {A B : Type 0} (f : A → B) (r : OkOr A FaultKind) → IsOk r → IsOk (turned f (due r))
due_well f (Ok a) ok = refl
due_well f (Err k) ok = absurd cc

module _ (e : Seen) (class : ℕ) (single : is_single (slice_get e.heap.layout.classes class) ≡ true) where
  one_by : (r : OkOr (ℤ × State) FaultKind) → created e.heap class ≡ r → (s : Store) → made_one class (with_seen s e) ≡ turned (with_new class (with_seen s e)) (due r)
  one_by r made s =
      ap (λ b. where_fit b (turned (with_new class (with_seen s e)) (due (created e.heap class)))) single
      ∙ ap (λ r. turned (with_new class (with_seen s e)) (due r)) made

  one_well : IsOk (created e.heap class) → IsAlwaysOk (made_one class) e
  one_well ok s = subst (λ b. IsOk (where_fit b (turned (with_new class (with_seen s e)) (due (created e.heap class))))) (sym single) (due_well (with_new class (with_seen s e)) (created e.heap class) ok)

  -- there is none
  pub one_refused : (r : Refused) → IsRefusalOf (created e.heap class) r → HasMade (made_one class) e e (Err r)
  one_refused (Fault kind) due = (λ s. one_by (Err kind) due s, refl)
  one_refused Memory ok = (one_well ok, refl)

  -- one whose histories start
  pub one_made : (new : Seen) (h : State) (n : ℤ) → new ≡ record e { heap = h; histories = new.histories } → created e.heap class ≡ Ok (n, h) → columns_of new.histories ≡ starting h.layout (Class class) (int_eq n) e.time e.statistics (columns_of e.histories) → HasMade (made_one class) e new (Ok n)
  one_made new h n same made started = λ s.
      one_by (Ok (n, h)) made s
      ∙ ap (λ (t : Store). Ok (Whole n, t)) (joined e new h same (starting h.layout (Class class) (int_eq n) e.time e.statistics (columns_of e.histories)) s started)

  -- or one of a class of which there is no history
  pub one_alone : (h : State) (r : OkOr ℤ Refused) → ((here : ℤ → Bool) (now : ℤ) → starting e.heap.layout (Class class) here now e.statistics (columns_of e.histories) ≡ columns_of e.histories) → MatchResult r (λ n. created e.heap class ≡ Ok (n, h)) (λ k. (h ≡ e.heap) × IsRefusalOf (created e.heap class) k) → HasMade (made_one class) e (record e { heap = h }) r
  one_alone h (Ok n) starts made =
      one_made (record e { heap = h }) h n refl made
      (sym (ap (λ (l : Layout). starting l (Class class) (int_eq n) e.time e.statistics (columns_of e.histories)) (created_keeps e.heap h class (Ok n) made).layout ∙ starts (int_eq n) e.time))
  one_alone h (Err k) starts d = subst (λ (h : State). HasMade (made_one class) e (record e { heap = h }) (Err k)) (sym d.0) (one_refused k d.1)

-- ## All entities of a class

-- the layout stays, and there are at most as many as were asked for
pub record IsAllMade (st h : State) (c : ℕ) (n : ℤ) : Type 0 where
  pub layout : h.layout ≡ st.layout
  pub most : pos (length (records_in (slice_get h.permanents c))) ≤ℤ n

most_at : (ps : List (Option (List Record))) (c : ℕ) (rs : List Record) → length (records_in (slice_get (slice_set ps c (Some rs)) c)) ≤ length rs
most_at [] zero rs = omega arith
most_at [] (suc c) rs = omega arith
most_at (p ∷ ps) zero rs = omega arith
most_at (p ∷ ps) (suc c) rs = most_at ps c rs

pub all_made : (st h : State) (c : ℕ) (n : ℤ) → created_all st c n ≡ Ok h → IsAllMade st h c n
all_made st h c n e = by (is_made st c) n e
  where
    many : (k : ℕ) (b : Bool) → (let r : OkOr State FaultKind = (if b then Ok (with_made st c k) else Err BadCount) in r ≡ Ok h) → IsAllMade st h c (pos k)
    many k true e =
        let same : with_made st c k ≡ h = cc in
        let one = first_record st.layout c in
        subst (λ (h : State). IsAllMade st h c (pos k)) same (record {
          layout = refl;
          most = omega (arith, ints, most_at st.permanents c (replicate k one), length-replicate k one);
        })
    many k false e = absurd cc

    by : (b : Bool) (n : ℤ) → (let r : OkOr State FaultKind = (if b then Err CreatedTwice else made_many st c n) in r ≡ Ok h) → IsAllMade st h c n
    by true n e = absurd cc
    by false (pos k) e = many k (nat_le k MOST_ENTITIES) e
    by false (negsuc k) e = absurd cc

-- room for more is room for less
pub less_room : (l : Layout) (whose : Owner) (few many : ℤ) (ss : List Statistic) (room : List ℕ) → few ≤ℤ many → HasRooms l whose many ss room → HasRooms l whose few ss room
less_room l whose few many [] room le h = tt
less_room l whose few many (s ∷ ss) [] le h = h
less_room l whose few many (s ∷ ss) (m ∷ room) le h = (λ t. omega (arith, ints, le, h.0 t), less_room l whose few many ss room le h.1)

module _ (e : Seen) (class : ℕ) (n : ℤ) (permanent : is_permanent (slice_get e.heap.layout.classes class) ≡ true) where
  all_by : (r : OkOr State FaultKind) → created_all e.heap class n ≡ r → (s : Store) → created_all_known class n (with_seen s e) ≡ turned (with_all class (with_seen s e)) (due r)
  all_by r made s =
      ap (λ b. where_fit b (turned (with_all class (with_seen s e)) (due (created_all e.heap class n)))) permanent
      ∙ ap (λ r. turned (with_all class (with_seen s e)) (due r)) made

  pub all_fault : (kind : FaultKind) → created_all e.heap class n ≡ Err kind → (s : Store) → created_all_known class n (with_seen s e) ≡ Err (Fails kind)
  all_fault kind made s = all_by (Err kind) made s

  pub all_well : IsOk (created_all e.heap class n) → IsAlwaysOk (created_all_known class n) e
  all_well ok s = subst (λ b. IsOk (where_fit b (turned (with_all class (with_seen s e)) (due (created_all e.heap class n))))) (sym permanent) (due_well (with_all class (with_seen s e)) (created_all e.heap class n) ok)

  -- there are none
  pub all_refused : (r : Refused) → IsRefusalOf (created_all e.heap class n) r → HasChangedWithMemory (created_all_known class n) e e (Err r)
  all_refused (Fault kind) due = (λ s. all_fault kind due s, refl)
  all_refused Memory ok = (all_well ok, refl)

  -- their histories start
  pub many_made : (new : Seen) (h : State) → new ≡ record e { heap = h; histories = new.histories } → created_all e.heap class n ≡ Ok h → columns_of new.histories ≡ starting h.layout (Class class) (is_up_to (pos (length (records_in (slice_get h.permanents class))))) e.time e.statistics (columns_of e.histories) → (s : Store) → created_all_known class n (with_seen s e) ≡ Ok (with_seen s new)
  many_made new h same made started s = all_by (Ok h) made s ∙ ap Ok (joined e new h same _ s started)

-- ## N. of a class

module _ (e : Seen) (class : ℕ) where
  abbrev open_or_not : OkOr (Unit {0}) Failure
  open_or_not = unless_fault (is_made e.heap class) CreatedTwice (Ok tt)

  open_by : (r : OkOr (Unit {0}) Failure) → open_or_not ≡ r → (s : Store) → IsRight (count_open class (with_seen s e)) → count_open class (with_seen s e) ≡ r
  open_by r is s right = by (is_permanent (slice_get e.heap.layout.classes class)) right
    where
      by : (b : Bool) → IsRight (where_fit b open_or_not) → where_fit b open_or_not ≡ r
      by true right = is
      by false right = absurd (right refl)

  pub open_not : is_made e.heap class ≡ true → HasAnswer (count_open class) e (Err CreatedTwice)
  open_not made s right = open_by (Err (Fails CreatedTwice)) (ap (λ b. unless_fault b CreatedTwice (Ok tt)) made) s right

  pub open_still : is_made e.heap class ≡ false → HasAnswer (count_open class) e (Ok tt)
  open_still made s right = open_by (Ok tt) (ap (λ b. unless_fault b CreatedTwice (Ok tt)) made) s right
