-- Whether an entity is in a set, by the lists and by its links.
use Rattle.std.proofs.Common.{◌≡◌, ℕ, zero, suc, true, false, ◌==◌, List, [], ◌∷◌, slice_get, drop, ◌+◌, Some, None, ◌⊎◌, inl, inr, refl, sym, ap, subst, ◌∙◌, arith}
use Rattle.std.specs.Prelude.{◌&&◌, ◌||◌, is_some}
use Rattle.std.proofs.lemmas.Bool.{and_parts, and_right, both_ways, cases_Bool, eq-eqb, eqb-false, eqb-true, or_cases, or_left, or_parts, or_right}
use Rattle.std.proofs.lemmas.List.{drop_more}
use Rattle.std.proofs.lemmas.Option.{get_or_from_slice_get, same_Some}
use denote.RawPtr.{Ptr}
use Rattle.ss_records_words.proofs.Common.{ArePartsKept, Cells, Class, differs, Directory, entity_at, IsEntityOf, IsInList, IsNotInList, Layout, link, MayOwn, number, Owner, owner_at, place_in_record, same, SetLayout, slice_get_within, slots_of, succ, System, word_at}
use Rattle.ss_world.specs.State.{Members, members_of, contains, owner_among, owner_of, is_filed, has_members, in_a_set, owns_members, is_owner_class}
use Rattle.ss_records_words.proofs.Splice.{succ_is, succ_differs}
use Rattle.ss_records_words.proofs.Listing.{listed}
use Rattle.ss_records_words.proofs.Disjoint.{entry_of}

pub contains_in : (l : List ℕ) (x : ℕ) → contains l x ≡ true → IsInList x l
contains_in [] x h = cc
contains_in (y ∷ ys) x h = elim (or_cases (y == x) (contains ys x) h) as (λ _. IsInList x (y ∷ ys)) [ inl e ↦ inl (eqb-true y x e) | inr k ↦ inr (contains_in ys x k) ]

contains_not : (l : List ℕ) (x : ℕ) → contains l x ≡ false → IsNotInList x l
contains_not [] x h = tt
contains_not (y ∷ ys) x h = let p = or_parts (y == x) (contains ys x) h in (eqb-false y x p.0, contains_not ys x p.1)

pub in_contains : (l : List ℕ) (x : ℕ) → IsInList x l → contains l x ≡ true
in_contains [] x h = absurd h
in_contains (y ∷ ys) x (inl e) = or_left (y == x) (contains ys x) (eq-eqb y x e)
in_contains (y ∷ ys) x (inr h) = or_right (y == x) (contains ys x) (in_contains ys x h)

-- x is a member of a list that ms names, or of none
abbrev IsFiledOrNot : List Members → List Members → ℕ → ℕ → Type 0
IsFiledOrNot ms all s x = ((o : ℕ) × (owner_among ms all s x ≡ Some o) × (IsInList x (members_of all s o))) ⊎ ((owner_among ms all s x ≡ None) × ((o : ℕ) → (members_of ms s o ≡ []) ⊎ IsNotInList x (members_of all s o)))

filed_among : (ms all : List Members) (s x : ℕ) → IsFiledOrNot ms all s x
filed_among [] all s x = inr (refl, λ o. inl refl)
filed_among (m ∷ ms) all s x = elim (cases_Bool ((m.set == s) && contains (members_of all s m.owner) x)) as (λ _. IsFiledOrNot (m ∷ ms) all s x) [
  | inl y ↦ inl (m.owner, rw y refl, contains_in (members_of all s m.owner) x (and_parts (m.set == s) (contains (members_of all s m.owner) x) y).1)
  | inr n ↦ elim (filed_among ms all s x) as (λ _. IsFiledOrNot (m ∷ ms) all s x) [
    | inl a ↦ inl (a.0, rw n a.1, a.2)
    | inr a ↦ inr (
      rw n a.0,
      λ o. elim (cases_Bool ((m.set == s) && (m.owner == o))) as (λ _. (members_of (m ∷ ms) s o ≡ []) ⊎ IsNotInList x (members_of all s o)) [
        | inl e ↦ let p = and_parts (m.set == s) (m.owner == o) e in inr (subst (λ k. IsNotInList x (members_of all s k)) (eqb-true m.owner o p.1) (contains_not (members_of all s m.owner) x (rw p.0 at n)))
        | inr e ↦ rw e (a.1 o)
      ],
    )
  ]
]

-- x is a member of a list of the name s, or of none
pub filed_or_not : (ms : List Members) (s x : ℕ) → ((o : ℕ) × (owner_of ms s x ≡ Some o) × (IsInList x (members_of ms s o))) ⊎ ((owner_of ms s x ≡ None) × ((o : ℕ) → IsNotInList x (members_of ms s o)))
filed_or_not ms s x = elim (filed_among ms ms s x) [ inl a ↦ inl a | inr a ↦ inr (a.0, λ o. elim (a.1 o) as (λ _. IsNotInList x (members_of ms s o)) [ inl y ↦ subst (IsNotInList x) (sym y) tt | inr n ↦ n ]) ]

module _ (l : Layout) (cs : Cells) (sys : Ptr) (d : Directory) (ms : List Members) (K : ArePartsKept l cs sys d ms) where
  -- the number in the block of an entity, or of the end
  pub number_at : (c n : ℕ) → (n ≡ 0) ⊎ IsEntityOf cs d c n → word_at cs (entity_at sys d c n) 1 ≡ number n
  number_at c n (inl e) = (λ z. word_at cs (entity_at sys d c (e z)) 1) ∙ K.end ∙ ap number (sym e)
  number_at c n (inr h) = let a = entry_of cs d c n h in let q : entity_at sys d c n ≡ a.1.at = ap (entity_at sys d c) a.2 ∙ ap place_in_record a.3 in
      (λ z. word_at cs (q z) 1) ∙ (K.formed a.0 a.1 (listed d c a.0 a.1 a.3)).number ∙ ap number (sym a.2)

  -- the number in the block of an owner
  pub owner_number_at : (o : Owner) (n : ℕ) → MayOwn cs d o n → word_at cs (owner_at sys d o n) 1 ≡ number n
  owner_number_at System n h = K.end ∙ ap number (sym h)
  owner_number_at (Class c) n h = number_at c n (inr h)

  module _ (s : ℕ) (t : SetLayout) (g : slice_get l.sets s ≡ Some t) (x : ℕ) (h : IsEntityOf cs d t.member x) where
    abbrev at : ℕ → Ptr
    at = entity_at sys d t.member

    abbrev f : ℕ → List ℕ
    f = members_of ms s

    pub above_zero : 0 ≡ x → ⊥
    above_zero e = let a = entry_of cs d t.member x h in let q : 0 ≡ suc a.0 = e ∙ a.2 in omega arith

    -- the next word of x leads to n, which is x itself where x is in no list
    pub record Next : Type 0 where
      pub to : ℕ
      pub word : word_at cs (at x) (slots_of l s t).next ≡ link (at to)
      pub there : word_at cs (at to) 1 ≡ number to
      pub out : (to ≡ x) → (owner_of ms s x ≡ None) × ((o : ℕ) → IsNotInList x (f o))
      pub in_one : ((to ≡ x) → ⊥) → (o : ℕ) × (owner_of ms s x ≡ Some o) × (IsInList x (f o)) × (to ≡ succ x (f o))

    pub next_of : Next
    next_of = elim (filed_or_not ms s x) as (λ _. Next) [
      | inl a ↦
          let k = succ_is x (f a.0) a.2 in
          record {
            to = succ x (f a.0);
            word = (K.names s t g).next a.0 x a.2;
            there = number_at t.member (succ x (f a.0)) (elim k as (λ _. (succ x (f a.0) ≡ 0) ⊎ IsEntityOf cs d t.member (succ x (f a.0))) [ inl e ↦ inl e | inr i ↦ inr ((K.names s t g).members a.0 (succ x (f a.0)) i).0 ]);
            out = λ e. absurd (succ_differs x (f a.0) a.2 ((K.names s t g).distinct a.0) above_zero e);
            in_one = λ n. (a.0, a.1, a.2, refl);
          }
      | inr a ↦ record {
        to = x;
        word = ((K.names s t g).unfiled x h above_zero a.1).0;
        there = number_at t.member x (inr h);
        out = λ e. a;
        in_one = λ n. absurd (n refl);
      }
    ]

-- the set at a place of the layout
pub drop_at : {A : Type 0} (xs : List A) (s : ℕ) (t : A) → slice_get xs s ≡ Some t → drop s xs ≡ t ∷ drop (s + 1) xs
drop_at xs s t g = drop_more xs s t (slice_get_within xs s t g) ∙ ap (λ y. y ∷ drop (s + 1) xs) (get_or_from_slice_get xs s t t g)

-- the sets from s on, by what the set s says
pub in_step : (ts : List SetLayout) (s c x : ℕ) (t : SetLayout) (ms : List Members) → slice_get ts s ≡ Some t → in_a_set (drop s ts) s ms c x ≡ (((t.member == c) && is_filed ms s x) || in_a_set (drop (s + 1) ts) (s + 1) ms c x)
in_step ts s c x t ms g = ap (λ us. in_a_set us s ms c x) (drop_at ts s t g)

pub in_here : (ts : List SetLayout) (s c x : ℕ) (t : SetLayout) (ms : List Members) → slice_get ts s ≡ Some t → t.member ≡ c → is_filed ms s x ≡ true → in_a_set (drop s ts) s ms c x ≡ true
in_here ts s c x t ms g e h = let q : (t.member == c) ≡ true = ap (λ n. n == c) e ∙ same c in in_step ts s c x t ms g ∙ rw (q, h) refl

pub in_not_filed : (ts : List SetLayout) (s c x : ℕ) (t : SetLayout) (ms : List Members) → slice_get ts s ≡ Some t → is_filed ms s x ≡ false → in_a_set (drop s ts) s ms c x ≡ in_a_set (drop (s + 1) ts) (s + 1) ms c x
in_not_filed ts s c x t ms g h = in_step ts s c x t ms g ∙ rw (and_right (t.member == c) (is_filed ms s x) h) refl

pub in_other : (ts : List SetLayout) (s c x : ℕ) (t : SetLayout) (ms : List Members) → slice_get ts s ≡ Some t → (t.member ≡ c → ⊥) → in_a_set (drop s ts) s ms c x ≡ in_a_set (drop (s + 1) ts) (s + 1) ms c x
in_other ts s c x t ms g n = in_step ts s c x t ms g ∙ rw (differs t.member c n) refl

pub owns_step : (ts : List SetLayout) (s c x : ℕ) (t : SetLayout) (ms : List Members) → slice_get ts s ≡ Some t → owns_members (drop s ts) s ms c x ≡ ((is_owner_class t.owner c && has_members (members_of ms s x)) || owns_members (drop (s + 1) ts) (s + 1) ms c x)
owns_step ts s c x t ms g = ap (λ us. owns_members us s ms c x) (drop_at ts s t g)

pub owns_here : (ts : List SetLayout) (s c x : ℕ) (t : SetLayout) (ms : List Members) → slice_get ts s ≡ Some t → is_owner_class t.owner c ≡ true → has_members (members_of ms s x) ≡ true → owns_members (drop s ts) s ms c x ≡ true
owns_here ts s c x t ms g e h = owns_step ts s c x t ms g ∙ rw (e, h) refl

pub owns_not : (ts : List SetLayout) (s c x : ℕ) (t : SetLayout) (ms : List Members) → slice_get ts s ≡ Some t → has_members (members_of ms s x) ≡ false → owns_members (drop s ts) s ms c x ≡ owns_members (drop (s + 1) ts) (s + 1) ms c x
owns_not ts s c x t ms g h = owns_step ts s c x t ms g ∙ rw (and_right (is_owner_class t.owner c) (has_members (members_of ms s x)) h) refl

pub owns_other : (ts : List SetLayout) (s c x : ℕ) (t : SetLayout) (ms : List Members) → slice_get ts s ≡ Some t → is_owner_class t.owner c ≡ false → owns_members (drop s ts) s ms c x ≡ owns_members (drop (s + 1) ts) (s + 1) ms c x
owns_other ts s c x t ms g n = owns_step ts s c x t ms g ∙ rw n refl

pub class_of_owner : (o : Owner) (c : ℕ) → is_owner_class o c ≡ true → o ≡ Class c
class_of_owner System c h = cc
class_of_owner (Class d) c h = ap Class (eqb-true d c h)

-- what no set says of x
pub in_none_of : (ts : List SetLayout) (s c x : ℕ) (ms : List Members) → in_a_set ts s ms c x ≡ false → (k : ℕ) (t : SetLayout) → slice_get ts k ≡ Some t → t.member ≡ c → is_filed ms (s + k) x ≡ false
in_none_of [] s c x ms h k t g e = cc
in_none_of (u ∷ us) s c x ms h zero t g e =
    let p = or_parts ((u.member == c) && is_filed ms s x) (in_a_set us (s + 1) ms c x) h in let z : s + 0 ≡ s = omega arith in
    rw z (rw (eq-eqb u.member c (ap (λ (v : SetLayout). v.member) (same_Some u t g) ∙ e)) at p.0)
in_none_of (u ∷ us) s c x ms h (suc k) t g e =
    let z : s + suc k ≡ s + 1 + k = omega arith in rw z (in_none_of us (s + 1) c x ms (or_parts ((u.member == c) && is_filed ms s x) (in_a_set us (s + 1) ms c x) h).1 k t g e)

pub owns_none_of : (ts : List SetLayout) (s c x : ℕ) (ms : List Members) → owns_members ts s ms c x ≡ false → (k : ℕ) (t : SetLayout) → slice_get ts k ≡ Some t → t.owner ≡ Class c → has_members (members_of ms (s + k) x) ≡ false
owns_none_of [] s c x ms h k t g e = cc
owns_none_of (u ∷ us) s c x ms h zero t g e =
    let p = or_parts (is_owner_class u.owner c && has_members (members_of ms s x)) (owns_members us (s + 1) ms c x) h in let z : s + 0 ≡ s = omega arith in
    let o = ap (λ o. is_owner_class o c) (ap (λ (v : SetLayout). v.owner) (same_Some u t g) ∙ e) ∙ same c in rw z (rw o at p.0)
owns_none_of (u ∷ us) s c x ms h (suc k) t g e =
    let z : s + suc k ≡ s + 1 + k = omega arith in rw z (owns_none_of us (s + 1) c x ms (or_parts (is_owner_class u.owner c && has_members (members_of ms s x)) (owns_members us (s + 1) ms c x) h).1 k t g e)

pub not_filed_in : (ms : List Members) (s x : ℕ) → is_filed ms s x ≡ false → (o : ℕ) → IsNotInList x (members_of ms s o)
not_filed_in ms s x h = elim (filed_or_not ms s x) [ inl a ↦ absurd (both_ways (is_filed ms s x) h (ap is_some a.1)) | inr a ↦ a.1 ]

pub no_members : (l : List ℕ) → has_members l ≡ false → l ≡ []
no_members [] h = refl
no_members (z ∷ zs) h = cc
