-- The sets that a class joins, one after another.
use Rattle.std.proofs.Common.{◌≡◌, ℕ, zero, suc, ◌+◌, ◌*◌, ◌≤◌, ◌<◌, ◌==◌, Bool, true, false, List, [], ◌∷◌, length, drop, slice_get, Some, refl, sym, ap, subst, ◌∙◌, arith}
use Rattle.ss_records_entities.proofs.Common.{by_same, Class, count_before, count_sets, get_there, in_a_set, is_filed, joins, Layout, links_start, member_base, Members, owned_start, same, SetLayout}
use Rattle.ss_records_words.proofs.Filed.{in_here, in_not_filed, in_other}
use Rattle.ss_records_words.proofs.Planning.{few_sets}
use Rattle.ss_records_entities.proofs.Setless.{in_none, counts_one, counts_none}

-- those before a place and those from it on are all
pub counted_apart : (p : SetLayout → Bool) (ts : List SetLayout) (s : ℕ) → count_before p ts s + count_sets p (drop s ts) ≡ count_sets p ts
counted_apart p [] zero = refl
counted_apart p [] (suc s) = refl
counted_apart p (t ∷ ts) zero = omega arith
counted_apart p (t ∷ ts) (suc s) = omega (arith, counted_apart p ts s)

some_left : (p : SetLayout → Bool) (ts : List SetLayout) (s : ℕ) → 1 ≤ count_sets p (drop s ts) → s < length ts
some_left p [] zero some = absurd (omega (arith, some))
some_left p [] (suc s) some = absurd (omega (arith, some))
some_left p (t ∷ ts) zero some = omega arith
some_left p (t ∷ ts) (suc s) some = omega (arith, some_left p ts s some)

-- the first set from a place on that the class joins
pub record NextJoined (ts : List SetLayout) (s c x : ℕ) (ms : List Members) : Type 0 where
  pub at : ℕ
  pub set : SetLayout
  pub there : slice_get ts at ≡ Some set
  pub joined : set.member ≡ c
  pub left : count_sets (joins c) (drop at ts) ≡ count_sets (joins c) (drop s ts)
  pub same : in_a_set (drop at ts) at ms c x ≡ in_a_set (drop s ts) s ms c x

module _ (ts : List SetLayout) (c x : ℕ) (ms : List Members) where
  next_within : (fuel s : ℕ) → length ts ≤ s + fuel → 1 ≤ count_sets (joins c) (drop s ts) → NextJoined ts s c x ms
  next_within zero s few some = absurd (omega (arith, few, some_left (joins c) ts s some))
  next_within (suc fuel) s few some =
      let y = get_there ts s (some_left (joins c) ts s some) in
      by_same y.0.member c
      (λ z is. record { at = s; set = y.0; there = y.1; joined = is; left = refl; same = refl })
      (λ z other.
      let less = counts_none (joins c) ts s y.0 y.1 z in
      let n = next_within fuel (s + 1) (omega (arith, few)) (omega (arith, some, less)) in
      record {
        at = n.at;
        set = n.set;
        there = n.there;
        joined = n.joined;
        left = n.left ∙ sym less;
        same = n.same ∙ sym (in_other ts s c x y.0 ms y.1 other);
      })

  pub next_joined : (s : ℕ) → 1 ≤ count_sets (joins c) (drop s ts) → NextJoined ts s c x ms
  next_joined s some = next_within (length ts) s (omega arith) some

-- the links of an entity's block, three words for each set that its class joins, in the order of the sets
module _ (l : Layout) (c x : ℕ) (ms : List Members) where
  -- from the word k on they are those of the sets from a place on, and it is in none of those before
  abbrev pub From : ℕ → Type 0
  From k = (s : ℕ) × (k + 3 * count_sets (joins c) (drop s l.sets) ≡ owned_start l (Class c)) × (in_a_set (drop s l.sets) s ms c x ≡ in_a_set l.sets 0 ms c x)

  -- at the word k they are those of this set
  pub record Here (k : ℕ) : Type 0 where
    pub at : ℕ
    pub set : SetLayout
    pub there : slice_get l.sets at ≡ Some set
    pub joined : set.member ≡ c
    pub base : k ≡ member_base l at set
    pub left : k + 3 * count_sets (joins c) (drop at l.sets) ≡ owned_start l (Class c)
    pub same : in_a_set (drop at l.sets) at ms c x ≡ in_a_set l.sets 0 ms c x

  pub at_first : From (links_start l c)
  at_first = (0, refl, refl)

  based : (k at m : ℕ) → m ≡ c → k + 3 * count_sets (joins c) (drop at l.sets) ≡ owned_start l (Class c) → k ≡ links_start l m + 3 * count_before (joins m) l.sets at
  based k at m is left = subst (λ n. k ≡ links_start l n + 3 * count_before (joins n) l.sets at) (sym is) (omega (arith, left, counted_apart (joins c) l.sets at))

  pub here : (k : ℕ) → From k → k < owned_start l (Class c) → Here k
  here k f within =
      let n = next_joined l.sets c x ms f.0 (omega (arith, f.1, within)) in
      let left : k + 3 * count_sets (joins c) (drop n.at l.sets) ≡ owned_start l (Class c) = omega (arith, f.1, n.left) in
      record { at = n.at; set = n.set; there = n.there; joined = n.joined; base = based k n.at n.set.member n.joined left; left = left; same = n.same ∙ f.2 }

  pub room : (k : ℕ) → Here k → k + 3 ≤ owned_start l (Class c)
  room k h = omega (arith, h.left, counts_one (joins c) l.sets h.at h.set h.there (ap (λ n. n == c) h.joined ∙ same c))

  pub found : (k : ℕ) (h : Here k) → is_filed ms h.at x ≡ true → in_a_set l.sets 0 ms c x ≡ true
  found k h filed = sym h.same ∙ in_here l.sets h.at c x h.set ms h.there h.joined filed

  pub after : (k : ℕ) (h : Here k) → is_filed ms h.at x ≡ false → From (k + 3)
  after k h filed =
      let one = counts_one (joins c) l.sets h.at h.set h.there (ap (λ n. n == c) h.joined ∙ same c) in
      (h.at + 1, omega (arith, h.left, one), sym (in_not_filed l.sets h.at c x h.set ms h.there filed) ∙ h.same)

  pub at_last : (k : ℕ) → From k → owned_start l (Class c) ≤ k → in_a_set l.sets 0 ms c x ≡ false
  at_last k f past = sym f.2 ∙ in_none (drop f.0 l.sets) f.0 c x ms (omega (arith, f.1, past))

  -- the touches so far are few
  pub few_touched : (k t i : ℕ) → length l.sets ≤ 1048576 → k ≤ owned_start l (Class c) → 3 * t + links_start l c ≡ 3 * i + k → t ≤ i + 1048576
  few_touched k t i small within touches_known = omega (arith, small, within, touches_known, few_sets (joins c) l.sets)
