-- What is read of slots, of the entries in places, and of followers.
use Rattle.std.proofs.Common.{◌≡◌, ℕ, zero, suc, ◌<◌, ◌≤◌, Bool, true, false, cond, List, [], ◌∷◌, ◌++◌, length, get_or, set, take, refl, sym, ap, subst, ◌∙◌, ⊎_elim, arith}
use Rattle.std.specs.Prelude.{nat_le}
use Rattle.ss_events_entries.proofs.Common.{blank_slot, cases_lt, Entry, entry_at, followers, following, get_or-map, get_or-set_other, get_or-set_same, get_or-take, heads, HeapNode, IsPermutation, length-map, length-take-le, nat_tests, next_put, no_node, node, plain_entry, same_lists, Slot, slot_at}
use Rattle.std.proofs.lemmas.List.Sorted.{IsPermutation-refl, IsPermutation-cons, IsPermutation-trans, IsPermutation-middle}

-- ---- the contents of a slot, once another was written

pub slot_at-same : (xs : List Slot) (s : ℕ) (y : Slot) → s < length xs → slot_at (set xs s y) s ≡ y
slot_at-same xs s y within = get_or-set_same xs s y blank_slot within

pub slot_at-other : (xs : List Slot) (s t : ℕ) (y : Slot) → (t ≡ s → ⊥) → slot_at (set xs s y) t ≡ slot_at xs t
slot_at-other xs s t y other = get_or-set_other xs s t y blank_slot other

-- ---- the heads

module _ (count : ℕ) (slots : List Slot) (wholes : List Entry) (nodes : List HeapNode) (few : count ≤ length nodes) where
  pub long_heads : length (heads count slots wholes nodes) ≡ count
  long_heads = length-map (take count nodes) (λ (t : HeapNode). entry_at slots wholes t.slot) ∙ length-take-le count nodes few

  pub head_at : (k : ℕ) (d : Entry) → k < count → get_or (heads count slots wholes nodes) k d ≡ entry_at slots wholes (node nodes k).slot
  head_at k d within =
      get_or-map (λ (t : HeapNode). entry_at slots wholes t.slot) (take count nodes) k no_node d (omega (arith, within, length-take-le count nodes few))
      ∙ ap (λ (t : HeapNode). entry_at slots wholes t.slot) (get_or-take count nodes k no_node within)

  -- entries that are the heads, one by one
  pub heads_are : (es : List Entry) → length es ≡ count → ((k : ℕ) (d : Entry) → k < count → entry_at slots wholes (node nodes k).slot ≡ get_or es k d) → heads count slots wholes nodes ≡ es
  heads_are es long same =
      same_lists (heads count slots wholes nodes) es (long_heads ∙ sym long)
      (λ k d k_in.
      let within : k < count = omega (arith, k_in, long_heads) in
      head_at k d within ∙ same k d within)

-- heads that are equal one by one
pub same_heads : (count : ℕ) (xs ys : List Slot) (ws vs : List Entry) (ss ts : List HeapNode) → count ≤ length ss → count ≤ length ts → ((k : ℕ) → k < count → entry_at ys vs (node ts k).slot ≡ entry_at xs ws (node ss k).slot)
    → heads count ys vs ts ≡ heads count xs ws ss
same_heads count xs ys ws vs ss ts few_ss few_ts same =
    heads_are count ys vs ts few_ts (heads count xs ws ss) (long_heads count xs ws ss few_ss) (λ k d within. same k within ∙ sym (head_at count xs ws ss few_ss k d within))

-- ---- the followers

abbrev pub follower : Slot → Entry
follower x = plain_entry x.mark x.notice

pub followers-following : (x : Slot) (xs : List Slot) → following ≤ x.at → followers (x ∷ xs) ≡ follower x ∷ followers xs
followers-following x xs h = grind (arith, nat_tests)

pub followers-apart : (x : Slot) (xs : List Slot) → x.at < following → followers (x ∷ xs) ≡ followers xs
followers-apart x xs h = grind (arith, nat_tests)

-- a slot that is in a place before and after
pub followers-placed : (xs : List Slot) (s : ℕ) (y : Slot) → s < length xs → (slot_at xs s).at < following → y.at < following → followers (set xs s y) ≡ followers xs
followers-placed [] s y within h k = absurd (omega (arith, within))
followers-placed (x ∷ xs) zero y within h k = followers-apart y xs k ∙ sym (followers-apart x xs h)
followers-placed (x ∷ xs) (suc s) y within h k =
    ap (λ l. cond (nat_le following x.at) (follower x ∷ l) l) (followers-placed xs s y (omega (arith, within)) h k)

-- a slot that follows another before and after
pub followers-kept : (xs : List Slot) (s : ℕ) (y : Slot) → s < length xs → following ≤ (slot_at xs s).at → following ≤ y.at → follower y ≡ follower (slot_at xs s) → followers (set xs s y) ≡ followers xs
followers-kept [] s y within h k same = absurd (omega (arith, within))
followers-kept (x ∷ xs) zero y within h k same = followers-following y xs k ∙ ap (λ e. e ∷ followers xs) same ∙ sym (followers-following x xs h)
followers-kept (x ∷ xs) (suc s) y within h k same =
    ap (λ l. cond (nat_le following x.at) (follower x ∷ l) l) (followers-kept xs s y (omega (arith, within)) h k same)

-- another one after a slot changes no follower
pub followers-next_put : (xs : List Slot) (s next : ℕ) → s < length xs → followers (next_put xs s next) ≡ followers xs
followers-next_put xs s next within = ⊎_elim
    (λ lt. followers-placed xs s (record (slot_at xs s) { next = next }) within lt lt)
    (λ ge. followers-kept xs s (record (slot_at xs s) { next = next }) within ge ge refl)
    (cases_lt (slot_at xs s).at following)

pub swap_two : (e f : Entry) (l : List Entry) → IsPermutation (e ∷ f ∷ l) (f ∷ e ∷ l)
swap_two e f l = IsPermutation-middle (e ∷ []) f l

-- with one more in front, if it is there
front_joined : (b : Bool) (x e : Entry) (l m : List Entry) → IsPermutation (e ∷ l) m → IsPermutation (e ∷ cond b (x ∷ l) l) (cond b (x ∷ m) m)
front_joined true x e l m p = IsPermutation-trans (e ∷ x ∷ l) (x ∷ e ∷ l) (x ∷ m) (swap_two e x l) (IsPermutation-cons x (e ∷ l) m p)
front_joined false x e l m p = p

front_left : (b : Bool) (x e : Entry) (l m : List Entry) → IsPermutation l (e ∷ m) → IsPermutation (cond b (x ∷ l) l) (e ∷ cond b (x ∷ m) m)
front_left true x e l m p = IsPermutation-trans (x ∷ l) (x ∷ e ∷ m) (e ∷ x ∷ m) (IsPermutation-cons x l (e ∷ m) p) (swap_two x e m)
front_left false x e l m p = p

-- a slot that now follows another
pub followers-joined : (xs : List Slot) (s : ℕ) (y : Slot) → s < length xs → (slot_at xs s).at < following → following ≤ y.at → IsPermutation (follower y ∷ followers xs) (followers (set xs s y))
followers-joined [] s y within h k = absurd (omega (arith, within))
followers-joined (x ∷ xs) zero y within h k =
    subst (λ l. IsPermutation l (followers (y ∷ xs))) (ap (λ l. follower y ∷ l) (sym (followers-apart x xs h)))
    (subst (λ l. IsPermutation (follower y ∷ followers xs) l) (sym (followers-following y xs k)) (IsPermutation-refl (follower y ∷ followers xs)))
followers-joined (x ∷ xs) (suc s) y within h k =
    front_joined (nat_le following x.at) (follower x) (follower y) (followers xs) (followers (set xs s y)) (followers-joined xs s y (omega (arith, within)) h k)

-- a slot that no longer follows another
pub followers-left : (xs : List Slot) (s : ℕ) (y : Slot) → s < length xs → following ≤ (slot_at xs s).at → y.at < following → IsPermutation (followers xs) (follower (slot_at xs s) ∷ followers (set xs s y))
followers-left [] s y within h k = absurd (omega (arith, within))
followers-left (x ∷ xs) zero y within h k =
    subst (λ l. IsPermutation l (follower x ∷ followers (y ∷ xs))) (sym (followers-following x xs h))
    (subst (λ l. IsPermutation (follower x ∷ followers xs) (follower x ∷ l)) (sym (followers-apart y xs k)) (IsPermutation-refl (follower x ∷ followers xs)))
followers-left (x ∷ xs) (suc s) y within h k =
    front_left (nat_le following x.at) (follower x) (follower (slot_at xs s)) (followers xs) (followers (set xs s y)) (followers-left xs s y (omega (arith, within)) h k)

-- a new slot that is in a place
pub followers-pushed : (xs : List Slot) (y : Slot) → y.at < following → followers (xs ++ y ∷ []) ≡ followers xs
followers-pushed [] y k = followers-apart y [] k
followers-pushed (x ∷ xs) y k = ap (λ l. cond (nat_le following x.at) (follower x ∷ l) l) (followers-pushed xs y k)

-- where a follower is in the list, and of which slot
pub record Follows (xs : List Slot) (s k : ℕ) : Type 0 where
  pub within : s < length xs
  pub nodes : following ≤ (slot_at xs s).at
  pub listed : k < length (followers xs)
  pub is : (d : Entry) → get_or (followers xs) k d ≡ follower (slot_at xs s)

-- one slot further
later : (x : Slot) (xs : List Slot) (s j k : ℕ) → k < length (followers (x ∷ xs)) → ((d : Entry) → get_or (followers (x ∷ xs)) k d ≡ get_or (followers xs) j d) → Follows xs s j → Follows (x ∷ xs) (suc s) k
later x xs s j k listed same f = record { within = omega (arith, f.within); nodes = f.nodes; listed = listed; is = λ d. same d ∙ f.is d }

pub follower_at : (xs : List Slot) (s : ℕ) → s < length xs → following ≤ (slot_at xs s).at → (k : ℕ) × Follows xs s k
follower_at [] s within h = absurd (omega (arith, within))
follower_at (x ∷ xs) zero within h =
    let is = followers-following x xs h in (
      zero,
      record { within = within; nodes = h; listed = omega (arith, ap length is); is = λ d. ap (λ l. get_or l 0 d) is },
    )
follower_at (x ∷ xs) (suc s) within h =
    let k = follower_at xs s (omega (arith, within)) h in
    ⊎_elim
    (λ lt. let is = followers-apart x xs lt in (k.0, later x xs s k.0 k.0 (omega (arith, k.1.listed, ap length is)) (λ d. ap (λ l. get_or l k.0 d) is) k.1))
    (λ ge. let is = followers-following x xs ge in (suc k.0, later x xs s k.0 (suc k.0) (omega (arith, k.1.listed, ap length is)) (λ d. ap (λ l. get_or l (suc k.0) d) is) k.1))
    (cases_lt x.at following)

pub slot_of_follower : (xs : List Slot) (k : ℕ) → k < length (followers xs) → (s : ℕ) × Follows xs s k
slot_of_follower [] k h = absurd (omega (arith, h))
slot_of_follower (x ∷ xs) zero h = ⊎_elim
    (λ lt.
    let is = followers-apart x xs lt in
    let s = slot_of_follower xs zero (omega (arith, h, ap length is)) in (suc s.0, later x xs s.0 zero zero h (λ d. ap (λ l. get_or l zero d) is) s.1))
    (λ ge. let is = followers-following x xs ge in (zero, record { within = omega arith; nodes = ge; listed = h; is = λ d. ap (λ l. get_or l zero d) is }))
    (cases_lt x.at following)
slot_of_follower (x ∷ xs) (suc k) h = ⊎_elim
    (λ lt.
    let is = followers-apart x xs lt in
    let s = slot_of_follower xs (suc k) (omega (arith, h, ap length is)) in (suc s.0, later x xs s.0 (suc k) (suc k) h (λ d. ap (λ l. get_or l (suc k) d) is) s.1))
    (λ ge.
    let is = followers-following x xs ge in
    let s = slot_of_follower xs k (omega (arith, h, ap length is)) in (suc s.0, later x xs s.0 k (suc k) h (λ d. ap (λ l. get_or l (suc k) d) is) s.1))
    (cases_lt x.at following)
