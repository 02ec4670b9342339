-- No notice is pending for a time that is past.
use Rattle.std.proofs.Common.{arith, ◌≡◌, Bool, true, false, List, [], ◌∷◌, fold, Some, Ok, Err, refl, subst, sym}
use Rattle.std.specs.Prelude.{ℤ, pos, ◌≤ℤ◌, ◌<ℤ◌, not, OnOk, OnErr, Result as OkOr, if◌then◌else◌}
use Rattle.std.specs.Option.{option_map, option_map_or}
use Rattle.std.specs.List.{All}
use Rattle.std.specs.declared.cmp.Ordering.{Ordering}
use Rattle.std.specs.declared.cmp.Ordering.TheVariants.{Less, Equal, Greater}
use Rattle.std.specs.Ordering.{MatchOrdering, int_eq, int_cmp, nat_cmp, is_lt, ordering_then}
use Rattle.std.specs.Cmp.{int_ranks}
use Rattle.std.specs.Int.Signed.{≤ℤ_refl}
use Rattle.std.proofs.lemmas.Int.{ints}
use Rattle.std.specs.Cmp.Lexicographic.{slice_cmp}
use Rattle.std.proofs.lemmas.List.Elements.{All-nil, All-cons, All-head, All-tail, All-filter}
use Rattle.ss_base.specs.declared.fault.FaultKind.{FaultKind}
use Rattle.ss_base.specs.declared.fault.FaultKind.TheVariants.{NotScheduled}
use Rattle.ss_world.specs.PendingNotice.{PendingNotice}
use Rattle.ss_world.specs.Order.{comes_before, tie_order}
use Rattle.ss_world.specs.PendingList.{PendingList, is_pending, earlier_notice, least, least_event, after_next, without_notice, cancelled}
use Rattle.ss_machine_time.specs.Times.{IsNotBefore, IsTimely}

-- ## The entry that comes out first has the least time

later : (a b c : ℤ) → a ≤ℤ b → b ≤ℤ c → a ≤ℤ c
later a b c l k = omega (arith, ints, l, k)

-- an entry that comes before another has no greater time, and one that doesn't has no less
module _ (a b : ℤ) (r q : Ordering) where
  before_by : (o : Ordering) → MatchOrdering o (a <ℤ b) (a ≡ b) (b <ℤ a) → is_lt (ordering_then (ordering_then o r) q) ≡ true → a ≤ℤ b
  before_by Less m e = let n : a <ℤ b = m in omega (arith, ints, n)
  before_by Equal m e = let n : a ≡ b = m in omega (arith, ints, n)
  before_by Greater m e = absurd cc

  after_by : (o : Ordering) → MatchOrdering o (a <ℤ b) (a ≡ b) (b <ℤ a) → is_lt (ordering_then (ordering_then o r) q) ≡ false → b ≤ℤ a
  after_by Less m e = absurd cc
  after_by Equal m e = let n : a ≡ b = m in omega (arith, ints, n)
  after_by Greater m e = let n : b <ℤ a = m in omega (arith, ints, n)

abbrev rest_order : PendingNotice → PendingNotice → Ordering
rest_order a b = ordering_then (nat_cmp a.key.rank b.key.rank) (slice_cmp tie_order a.key.ties b.key.ties)

before_time : (a b : PendingNotice) → comes_before a b ≡ true → a.key.time ≤ℤ b.key.time
unfolding comes_before
before_time a b e = before_by a.key.time b.key.time (rest_order a b) (nat_cmp a.number b.number) (int_cmp a.key.time b.key.time) (int_ranks a.key.time b.key.time) e

after_time : (a b : PendingNotice) → comes_before a b ≡ false → b.key.time ≤ℤ a.key.time
unfolding comes_before
after_time a b e = after_by a.key.time b.key.time (rest_order a b) (nat_cmp a.number b.number) (int_cmp a.key.time b.key.time) (int_ranks a.key.time b.key.time) e

earlier_first : (a b : PendingNotice) → IsNotBefore (earlier_notice a b).key.time a × IsNotBefore (earlier_notice a b).key.time b
earlier_first a b = by (comes_before b a) refl
  where
    by : (c : Bool) → comes_before b a ≡ c → (let x : PendingNotice = if c then b else a in IsNotBefore x.key.time a × IsNotBefore x.key.time b)
    by true e = (before_time b a e, ≤ℤ_refl b.key.time)
    by false e = (≤ℤ_refl a.key.time, after_time b a e)

earlier_ahead : (t : ℤ) (a b : PendingNotice) → IsNotBefore t a → IsNotBefore t b → IsNotBefore t (earlier_notice a b)
earlier_ahead t a b h k = by (comes_before b a)
  where
    by : (c : Bool) → IsNotBefore t (if c then b else a)
    by true = k
    by false = h

fold_first : (e : PendingNotice) (es : List PendingNotice) → All (IsNotBefore (fold earlier_notice e es).key.time) (e ∷ es)
fold_first e [] = All-cons (IsNotBefore e.key.time) e [] (≤ℤ_refl e.key.time) (All-nil (IsNotBefore e.key.time))
fold_first e (f ∷ fs) =
    let t = (fold earlier_notice (earlier_notice e f) fs).key.time in
    let r = fold_first (earlier_notice e f) fs in
    let first : IsNotBefore t (earlier_notice e f) = All-head (IsNotBefore t) (earlier_notice e f) fs r in
    let s = earlier_first e f in
    All-cons (IsNotBefore t) e (f ∷ fs) (later t (earlier_notice e f).key.time e.key.time first s.0) (All-cons (IsNotBefore t) f fs (later t (earlier_notice e f).key.time f.key.time first s.1) (All-tail (IsNotBefore t) (earlier_notice e f) fs r))

fold_ahead : (t : ℤ) (e : PendingNotice) (es : List PendingNotice) → IsNotBefore t e → All (IsNotBefore t) es → IsNotBefore t (fold earlier_notice e es)
fold_ahead t e [] h all = h
fold_ahead t e (f ∷ fs) h all = fold_ahead t (earlier_notice e f) fs (earlier_ahead t e f h (All-head (IsNotBefore t) f fs all)) (All-tail (IsNotBefore t) f fs all)

-- ## Moves

module _ (t latest : ℤ) where
  -- a notice is pending no longer
  pub timely_cancelled : (n : ℤ) (p q : PendingList) (r : OkOr (Unit {0}) FaultKind) → OnOk r (cancelled n p ≡ Ok q) → OnErr r (q ≡ p) → IsTimely t latest p.entries → IsTimely t latest q.entries
  timely_cancelled n p q (Ok u) e same h = by (is_pending n p.entries) e
    where
      by : (b : Bool) → (if b then Ok (record p { entries = without_notice n p.entries }) else Err NotScheduled) ≡ Ok q → IsTimely t latest q.entries
      by true e =
          let less : record p { entries = without_notice n p.entries } ≡ q = cc in
          subst (λ (q : PendingList). IsTimely t latest q.entries) less (h.0, h.1, All-filter (λ (e : PendingNotice). not (int_eq n e.notice)) (IsNotBefore t) p.entries h.2)
      by false e = absurd cc
  timely_cancelled n p q (Err k) e same h = subst (λ (q : PendingList). IsTimely t latest q.entries) (sym same) h

  -- the entry that comes next was taken out, and the time is its time
  pub timely_passed : (p : PendingList) (n : ℤ × ℤ) → least_event p ≡ Some n → IsTimely t latest p.entries → IsTimely n.0 latest (after_next p).entries
  timely_passed p n e h = by p.entries e h
    where
      by : (es : List PendingNotice) → option_map (λ (x : PendingNotice). (x.key.time, x.notice)) (least es) ≡ Some n → IsTimely t latest es → IsTimely n.0 latest (option_map_or (λ (x : PendingNotice). without_notice x.notice es) (least es) [])
      by [] e h = absurd cc
      by (x ∷ xs) e h =
          let first : PendingNotice = fold earlier_notice x xs in
          let time : first.key.time ≡ n.0 = cc in
          let old : t ≤ℤ first.key.time = fold_ahead t x xs (All-head (IsNotBefore t) x xs h.2) (All-tail (IsNotBefore t) x xs h.2) in
          subst (λ (u : ℤ). IsTimely u latest (without_notice first.notice (x ∷ xs))) time
          (later (pos 0) t first.key.time h.0 old, later latest t first.key.time h.1 old, All-filter (λ (e : PendingNotice). not (int_eq first.notice e.notice)) (IsNotBefore first.key.time) (x ∷ xs) (fold_first x xs))
