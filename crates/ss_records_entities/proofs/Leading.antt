-- Where the words of a set lead, from an owner and from a member.
use Rattle.std.proofs.Common.{◌≡◌, ℕ, ◌+◌, ◌^◌, ◌<◌, ◌≤◌, Bool, true, false, List, [], length, slice_get, Some, None, ◌⊎◌, inl, inr, refl, sym, ap, subst, ◌∙◌, arith}
use Rattle.ss_records_entities.proofs.Common.{ArePartsKept, by_same, Cells, Class, counter, Directory, entity_at, entry_of, false_is_not_true, get_inside, get_there, HasLink, head0, is_filed, is_some, IsCounter, IsEntityOf, IsInList, IsLink, IsNotInList, last_or, Layout, link, listing, MayOwn, member_base, Members, members_of, number, Owner, owner_at, owner_base, owner_of, plain, pred_from, SetLayout, succ, System, word_at}
use denote.RawPtr.{Ptr}
use Rattle.ss_records_words.proofs.Splice.{pred_is, succ_is, head_is, last_is, succ_differs}
use Rattle.ss_world.specs.Sets.{follower, member_class, member_in, owner_in, owner_kind, precursor, members_by, companions}
use Rattle.ss_records_words.proofs.Listing.{not_many}
use Rattle.ss_records_words.proofs.Filed.{number_at, owner_number_at, above_zero, filed_or_not}
use Rattle.ss_records_entities.proofs.Listed.{follower_is, precursor_is, pred_differs, few}

link_same : {p q : Ptr} → link p ≡ link q → p ≡ q
link_same e = cc

counter_same : {m n : ℕ} → counter m ≡ counter n → m ≡ n
counter_same e = cc

-- the word k of the block at p leads to the block of the entity n, or to that of the system where n is 0
pub record To (cs : Cells) (at : ℕ → Ptr) (p : Ptr) (k n : ℕ) : Type 0 where
  pub word : word_at cs p k ≡ link (at n)
  pub there : word_at cs (at n) 1 ≡ number n
  pub small : n < 2 ^ 62

module _ (cs : Cells) (at : ℕ → Ptr) (p : Ptr) (k n : ℕ) (h : To cs at p k n) where
  pub leads : HasLink cs p k
  leads = record { to = at n; n = n; word = h.word; there = h.there }

  pub is_link : IsLink (word_at cs p k)
  is_link = subst IsLink (sym h.word) tt

  module _ (q : Ptr) (w : word_at cs p k ≡ link q) where
    pub at_target : q ≡ at n
    at_target = link_same (sym w ∙ h.word)

    pub its_number : (v : ℕ) → word_at cs q 1 ≡ number v → v ≡ n
    its_number v e = ap plain (sym e ∙ (λ i. word_at cs (at_target i) 1) ∙ h.there)

module _ (l : Layout) (cs : Cells) (sys : Ptr) (d : Directory) (ms : List Members) (K : ArePartsKept l cs sys d ms) (s : ℕ) (inside : s < length l.sets) where
  abbrev f : ℕ → List ℕ
  f = members_of ms s

  abbrev pub t : SetLayout
  t = (get_there l.sets s inside).0

  pub g : slice_get l.sets s ≡ Some t
  g = (get_there l.sets s inside).1

  abbrev at : ℕ → Ptr
  at = entity_at sys d t.member

  abbrev home : ℕ → Ptr
  home = owner_at sys d t.owner

  pub its_members : member_class l s ≡ t.member
  its_members = ap member_in g

  pub its_owner : owner_kind l s ≡ t.owner
  its_owner = ap owner_in g

  -- where a word of the name is
  abbrev InMember : ℕ → Type 0
  InMember b = (u : SetLayout) → slice_get l.sets s ≡ Some u → b ≡ member_base l s u

  abbrev InOwner : ℕ → Type 0
  InOwner b = (u : SetLayout) → slice_get l.sets s ≡ Some u → b ≡ owner_base l s u

  pub small_of : (c n : ℕ) → (n ≡ 0) ⊎ IsEntityOf cs d c n → n < 2 ^ 62
  small_of c n (inl e) = omega (arith, e)
  small_of c n (inr h) = let a = entry_of cs d c n h in let i = get_inside (listing d c) a.0 (Some a.1) a.3 in omega (arith, i, a.2, not_many l cs sys d ms K c)

  pub zero_or : (o n : ℕ) → (n ≡ 0) ⊎ IsInList n (f o) → (n ≡ 0) ⊎ IsEntityOf cs d t.member n
  zero_or o n h = elim h as (λ _. (n ≡ 0) ⊎ IsEntityOf cs d t.member n) [ inl e ↦ inl e | inr i ↦ inr ((K.names s t g).members o n i).0 ]

  to_member : (p : Ptr) (k n : ℕ) → word_at cs p k ≡ link (at n) → (n ≡ 0) ⊎ IsEntityOf cs d t.member n → To cs at p k n
  to_member p k n w h = record { word = w; there = number_at l cs sys d ms K t.member n h; small = small_of t.member n h }

  small_owner : (u : Owner) (n : ℕ) → MayOwn cs d u n → n < 2 ^ 62
  small_owner System n h = small_of 0 n (inl h)
  small_owner (Class c) n h = small_of c n (inr h)

  -- the words of an owner
  module _ (p : Ptr) (n : ℕ) (lies : p ≡ owner_at sys d (owner_kind l s) n) (may : MayOwn cs d (owner_kind l s) n) (b : ℕ) (base : InOwner b) where
    there : p ≡ home n
    there = lies ∙ ap (λ u. owner_at sys d u n) its_owner

    pub owns : MayOwn cs d t.owner n
    owns = subst (λ u. MayOwn cs d u n) its_owner may

    pub first_to : To cs at p b (head0 (f n))
    first_to = to_member p b (head0 (f n)) ((λ i. word_at cs (there i) (base t g i)) ∙ (K.names s t g).first n owns) (zero_or n (head0 (f n)) (head_is (f n)))

    pub last_to : To cs at p (b + 1) (last_or 0 (f n))
    last_to = to_member p (b + 1) (last_or 0 (f n)) ((λ i. word_at cs (there i) (base t g i + 1)) ∙ (K.names s t g).last n owns) (zero_or n (last_or 0 (f n)) (last_is 0 (f n)))

    pub count_of : word_at cs p (b + 2) ≡ counter (length (f n))
    count_of = (λ i. word_at cs (there i) (base t g i + 2)) ∙ (K.names s t g).count n owns

    pub is_counter : IsCounter (word_at cs p (b + 2))
    is_counter = subst IsCounter (sym count_of) tt

    pub count_is : (v : ℕ) → word_at cs p (b + 2) ≡ counter v → v ≡ length (f n)
    count_is v e = counter_same (sym e ∙ count_of)

  -- different members have different numbers
  pub count_small : (n : ℕ) → length (f n) < 2 ^ 62
  count_small n = let k = few (length (listing d t.member)) (f n) ((K.names s t g).distinct n) (λ y h. let e = (K.names s t g).members n y h in (e.1, issued y e.0)) in omega (arith, k, not_many l cs sys d ms K t.member) where
    issued : (y : ℕ) → IsEntityOf cs d t.member y → y ≤ length (listing d t.member)
    issued y h = let a = entry_of cs d t.member y h in let i = get_inside (listing d t.member) a.0 (Some a.1) a.3 in omega (arith, i, a.2)

  -- the words of a member
  module _ (p : Ptr) (x : ℕ) (lies : p ≡ entity_at sys d (member_class l s) x) (may : IsEntityOf cs d (member_class l s) x) (b : ℕ) (base : InMember b) where
    its_block : p ≡ at x
    its_block = lies ∙ ap (λ c. entity_at sys d c x) its_members

    pub is : IsEntityOf cs d t.member x
    is = subst (λ c. IsEntityOf cs d c x) its_members may

    pub positive : 0 ≡ x → ⊥
    positive = above_zero l cs sys d ms K s t g x is

    -- where x is in the set of o
    module _ (o : ℕ) (h : IsInList x (f o)) where
      pub next_to : To cs at p b (succ x (f o))
      next_to = to_member p b (succ x (f o)) ((λ i. word_at cs (its_block i) (base t g i)) ∙ (K.names s t g).next o x h) (zero_or o (succ x (f o)) (succ_is x (f o) h))

      pub prev_to : To cs at p (b + 1) (pred_from 0 x (f o))
      prev_to = to_member p (b + 1) (pred_from 0 x (f o)) ((λ i. word_at cs (its_block i) (base t g i + 1)) ∙ (K.names s t g).prev o x h) (zero_or o (pred_from 0 x (f o)) (pred_is 0 x (f o) h))

      pub owner_to : To cs home p (b + 2) o
      owner_to = let m = ((K.names s t g).members o x h).2 in
          record { word = (λ i. word_at cs (its_block i) (base t g i + 2)) ∙ (K.names s t g).owner o x h; there = owner_number_at l cs sys d ms K t.owner o m; small = small_owner t.owner o m }

    -- where x is in no set of the name
    module _ (out : (o : ℕ) → IsNotInList x (f o)) where
      pub next_self : To cs at p b x
      next_self = to_member p b x ((λ i. word_at cs (its_block i) (base t g i)) ∙ ((K.names s t g).unfiled x is positive out).0) (inr is)

      pub prev_self : To cs at p (b + 1) x
      prev_self = to_member p (b + 1) x ((λ i. word_at cs (its_block i) (base t g i + 1)) ∙ ((K.names s t g).unfiled x is positive out).1) (inr is)

      pub owner_self : To cs at p (b + 2) x
      owner_self = to_member p (b + 2) x ((λ i. word_at cs (its_block i) (base t g i + 2)) ∙ ((K.names s t g).unfiled x is positive out).2) (inr is)

    -- the neighbour that a link names: x itself where x is in no set
    pub record Beside (k : ℕ) (of : List ℕ → ℕ) : Type 0 where
      pub to : ℕ
      pub leads_to : To cs at p k to
      pub out : to ≡ x → owner_of ms s x ≡ None
      pub in_one : (to ≡ x → ⊥) → (o : ℕ) × (owner_of ms s x ≡ Some o) × (IsInList x (f o)) × (to ≡ of (f o))

    pub next_beside : Beside b (succ x)
    next_beside = elim (filed_or_not ms s x) as (λ _. Beside b (succ x)) [
      | inl a ↦ record { to = succ x (f a.0); leads_to = next_to a.0 a.2; out = λ e. absurd (succ_differs x (f a.0) a.2 ((K.names s t g).distinct a.0) positive e); in_one = λ n. (a.0, a.1, a.2, refl) }
      | inr a ↦ record { to = x; leads_to = next_self a.1; out = λ e. a.0; in_one = λ n. absurd (n refl) }
    ]

    pub prev_beside : Beside (b + 1) (pred_from 0 x)
    prev_beside = elim (filed_or_not ms s x) as (λ _. Beside (b + 1) (pred_from 0 x)) [
      | inl a ↦ record { to = pred_from 0 x (f a.0); leads_to = prev_to a.0 a.2; out = λ e. absurd (pred_differs 0 x (f a.0) a.2 ((K.names s t g).distinct a.0) positive e); in_one = λ n. (a.0, a.1, a.2, refl) }
      | inr a ↦ record { to = x; leads_to = prev_self a.1; out = λ e. a.0; in_one = λ n. absurd (n refl) }
    ]

    -- whether x is in a set, by the number to which a link leads
    pub filed_is : (k : ℕ) (of : List ℕ → ℕ) (n : Beside k of) (v : ℕ) → v ≡ n.to → (r : Bool) → ((v ≡ x) → r ≡ false) → ((v ≡ x → ⊥) → r ≡ true) → r ≡ is_filed ms s x
    filed_is k of n v e r out one = by_same v x
        (λ z q. out q ∙ sym (ap is_some (n.out (sym e ∙ q))))
        (λ z q. one q ∙ sym (ap is_some (n.in_one (λ i. q (e ∙ i))).1))

    companions_none : owner_of ms s x ≡ None → companions ms s x ≡ []
    companions_none e = ap (members_by ms s) e

    companions_are : (o : ℕ) → owner_of ms s x ≡ Some o → companions ms s x ≡ f o
    companions_are o e = ap (members_by ms s) e

    -- what follows and what precedes x, by the number to which a link leads
    pub next_value : (n : Beside b (succ x)) (v : ℕ) → v ≡ n.to → ((v ≡ x) → follower x (companions ms s x) ≡ 0) × ((v ≡ x → ⊥) → follower x (companions ms s x) ≡ v)
    next_value n v e = (
      (λ q. ap (follower x) (companions_none (n.out (sym e ∙ q)))),
      (λ q. let a = n.in_one (λ i. q (e ∙ i)) in ap (follower x) (companions_are a.0 a.1) ∙ follower_is x (f a.0) a.2 ∙ sym a.3 ∙ sym e),
    )

    pub prev_value : (n : Beside (b + 1) (pred_from 0 x)) (v : ℕ) → v ≡ n.to → ((v ≡ x) → precursor 0 x (companions ms s x) ≡ 0) × ((v ≡ x → ⊥) → precursor 0 x (companions ms s x) ≡ v)
    prev_value n v e = (
      (λ q. ap (precursor 0 x) (companions_none (n.out (sym e ∙ q)))),
      (λ q. let a = n.in_one (λ i. q (e ∙ i)) in ap (precursor 0 x) (companions_are a.0 a.1) ∙ precursor_is 0 x (f a.0) a.2 ∙ sym a.3 ∙ sym e),
    )

    -- the set that has x
    pub in_which : is_filed ms s x ≡ true → (o : ℕ) × (owner_of ms s x ≡ Some o) × (IsInList x (f o))
    in_which e = elim (filed_or_not ms s x) as (λ _. (o : ℕ) × (owner_of ms s x ≡ Some o) × (IsInList x (f o))) [
      | inl a ↦ a
      | inr a ↦ absurd (false_is_not_true (sym (ap is_some a.0) ∙ e))
    ]
