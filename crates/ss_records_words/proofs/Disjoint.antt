-- The words of two set names are apart, and those of a name are none of a block's head.
use Rattle.std.proofs.Common.{◌≡◌, ℕ, zero, suc, ◌+◌, ◌*◌, ◌<◌, ◌≤◌, true, List, [], ◌∷◌, length, slice_get, Some, None, inl, inr, refl, sym, ap, subst, ◌∙◌, arith}
use Rattle.std.specs.Prelude.{Option, Bool, ◌⊎◌}
use Rattle.std.proofs.lemmas.Bool.{cases_order}
use Rattle.std.proofs.lemmas.Option.{same_Some}
use denote.RawPtr.{Ptr}
use Rattle.ss_records_words.proofs.Common.{ArePartsKept, block_words, BlockPlace, Cells, Class, class_at_place, count_before, count_sets, Directory, entity_at, IsListedAt, joins, Layout, links_start, listing, Members, owned_by, owned_start, Owner, owner_at, place_in_record, put_word, same, SetLayout, System, Word, words_at}
use Rattle.ss_base.specs.Layout.{same_owner}
use Rattle.ss_records_words.specs.Links.{AreSlotsApart, IsOfMember, IsOfOwner}
use Rattle.ss_records_words.specs.Slotted.{member_base, owner_base, slots_of, is_entry, IsEntityOf, MayOwn, IsOfName, AreSpared}
use Rattle.ss_records_words.specs.Reading.{class_in_words}
use Rattle.ss_records_words.proofs.Listing.{listed, lists_place}
use Rattle.ss_records_blocks.proofs.Puts.{put_other, length_put}
use Rattle.ss_records_blocks.proofs.Count.{blocks_put}

count_inside : (p : SetLayout → Bool) (ts : List SetLayout) (s : ℕ) (t : SetLayout) → slice_get ts s ≡ Some t → p t ≡ true → count_before p ts s + 1 ≤ count_sets p ts
count_inside p [] s t g h = cc
count_inside p (u ∷ us) zero t g h = let e : p u ≡ true = ap p (same_Some u t g) ∙ h in rw e (omega arith)
count_inside p (u ∷ us) (suc s) t g h = omega (arith, count_inside p us s t g h)

count_later : (p : SetLayout → Bool) (ts : List SetLayout) (s r : ℕ) (t : SetLayout) → slice_get ts s ≡ Some t → p t ≡ true → s < r → count_before p ts s + 1 ≤ count_before p ts r
count_later p [] s r t g h l = cc
count_later p (u ∷ us) s zero t g h l = absurd (omega (arith, l))
count_later p (u ∷ us) zero (suc r) t g h l = let e : p u ≡ true = ap p (same_Some u t g) ∙ h in rw e (omega arith)
count_later p (u ∷ us) (suc s) (suc r) t g h l = omega (arith, count_later p us s r t g h (omega (arith, l)))

same_owner_refl : (o : Owner) → same_owner o o ≡ true
same_owner_refl System = refl
same_owner_refl (Class c) = same c

-- one of three words in a row
in_three : (b k : ℕ) → (k ≡ b) ⊎ ((k ≡ b + 1) ⊎ (k ≡ b + 2)) → (b ≤ k) × (k < b + 3)
in_three b k (inl e) = (omega (arith, e), omega (arith, e))
in_three b k (inr (inl e)) = (omega (arith, e), omega (arith, e))
in_three b k (inr (inr e)) = (omega (arith, e), omega (arith, e))

-- the words of a name within a block
pub member_inside : (l : Layout) (s : ℕ) (t : SetLayout) (k : ℕ) → slice_get l.sets s ≡ Some t → IsOfMember (slots_of l s t) k → (links_start l t.member ≤ k) × (k < owned_start l (Class t.member))
member_inside l s t k g m = let r = in_three (member_base l s t) k m in let c = count_inside (joins t.member) l.sets s t g (same t.member) in (omega (arith, r.0), omega (arith, r.1, c))

pub owner_inside : (l : Layout) (s : ℕ) (t : SetLayout) (k : ℕ) → slice_get l.sets s ≡ Some t → IsOfOwner (slots_of l s t) k → (owned_start l t.owner ≤ k) × (k < block_words l t.owner)
owner_inside l s t k g m = let r = in_three (owner_base l s t) k m in let c = count_inside (owned_by t.owner) l.sets s t g (same_owner_refl t.owner) in (omega (arith, r.0), omega (arith, r.1, c))

-- two names of one member class, or of one owner, have words of their own
members_disjoint : (l : Layout) (s r : ℕ) (t u : SetLayout) (k : ℕ) → slice_get l.sets s ≡ Some t → slice_get l.sets r ≡ Some u → t.member ≡ u.member → s < r → IsOfMember (slots_of l s t) k → IsOfMember (slots_of l r u) k → ⊥
members_disjoint l s r t u k g h e n a b =
    let x = in_three (member_base l s t) k a in let y = in_three (member_base l r u) k b in
    let c = count_later (joins t.member) l.sets s r t g (same t.member) n in
    let z : links_start l t.member + 3 * count_before (joins t.member) l.sets r ≤ k = subst (λ m. links_start l m + 3 * count_before (joins m) l.sets r ≤ k) (sym e) y.0 in
    omega (arith, x.1, z, c)

owners_disjoint : (l : Layout) (s r : ℕ) (t u : SetLayout) (k : ℕ) → slice_get l.sets s ≡ Some t → slice_get l.sets r ≡ Some u → t.owner ≡ u.owner → s < r → IsOfOwner (slots_of l s t) k → IsOfOwner (slots_of l r u) k → ⊥
owners_disjoint l s r t u k g h e n a b =
    let x = in_three (owner_base l s t) k a in let y = in_three (owner_base l r u) k b in
    let c = count_later (owned_by t.owner) l.sets s r t g (same_owner_refl t.owner) n in
    let z : owned_start l t.owner + 3 * count_before (owned_by t.owner) l.sets r ≤ k = subst (λ m. owned_start l m + 3 * count_before (owned_by m) l.sets r ≤ k) (sym e) y.0 in
    omega (arith, x.1, z, c)

-- one of two numbers that differ is less
lower : (s r : ℕ) → (s ≡ r → ⊥) → (s < r → ⊥) → (r < s → ⊥) → ⊥
lower s r n a b = elim (cases_order s r) [ inl e ↦ n e | inr c ↦ elim c [ inl x ↦ a x | inr y ↦ b y ] ]

pub entry_of : (cs : Cells) (d : Directory) (c n : ℕ) → IsEntityOf cs d c n → (i : ℕ) × (p : BlockPlace) × (n ≡ suc i) × (slice_get (listing d c) i ≡ Some (Some p)) × (class_at_place cs p ≡ c)
entry_of cs d c zero h = absurd h
entry_of cs d c (suc i) h = cases (slice_get (listing d c) i) refl h where
  cases : (o : Option (Option BlockPlace)) → slice_get (listing d c) i ≡ o → is_entry cs c o → (j : ℕ) × (p : BlockPlace) × (suc i ≡ suc j) × (slice_get (listing d c) j ≡ Some (Some p)) × (class_at_place cs p ≡ c)
  cases None e h = absurd h
  cases (Some None) e h = absurd h
  cases (Some (Some p)) e h = (i, p, refl, e, h)

pub is_of : (cs : Cells) (d : Directory) (c i : ℕ) (p : BlockPlace) → slice_get (listing d c) i ≡ Some (Some p) → class_at_place cs p ≡ c → IsEntityOf cs d c (suc i)
is_of cs d c i p g e = subst (is_entry cs c) (sym g) e

module _ (l : Layout) (cs : Cells) (sys : Ptr) (d : Directory) (ms : List Members) (K : ArePartsKept l cs sys d ms) where
  abbrev at : ℕ → ℕ → Ptr
  at = entity_at sys d

  abbrev home : Owner → ℕ → Ptr
  home = owner_at sys d

  pub at_entry : (c n i : ℕ) (p : BlockPlace) → n ≡ suc i → slice_get (listing d c) i ≡ Some (Some p) → at c n ≡ p.at
  at_entry c n i p e g = ap (at c) e ∙ ap place_in_record g

  pub apart_of : (c b x y : ℕ) → IsEntityOf cs d c x → IsEntityOf cs d b y → at c x ≡ at b y → (x ≡ y) × (c ≡ b)
  apart_of c b x y h k z =
      let a = entry_of cs d c x h in let e = entry_of cs d b y k in
      let q = sym (at_entry c x a.0 a.1 a.2 a.3) ∙ z ∙ at_entry b y e.0 e.1 e.2 e.3 in
      let i : a.0 ≡ e.0 = K.apart a.0 e.0 a.1 e.1 (listed d c a.0 a.1 a.3) (listed d b e.0 e.1 e.3) q in
      (a.2 ∙ ap suc i ∙ sym e.2, sym a.4 ∙ ap (λ (r : Ptr). class_in_words (words_at cs r)) q ∙ e.4)

  pub off_end : (c x : ℕ) → IsEntityOf cs d c x → at c x ≡ sys → ⊥
  off_end c x h z = let a = entry_of cs d c x h in K.off_system a.0 a.1 (listed d c a.0 a.1 a.3) (sym (at_entry c x a.0 a.1 a.2 a.3) ∙ z)

  pub size_of : (c x : ℕ) → IsEntityOf cs d c x → length (words_at cs (at c x)) ≡ block_words l (Class c)
  size_of c x h = let a = entry_of cs d c x h in ap (λ q. length (words_at cs q)) (at_entry c x a.0 a.1 a.2 a.3) ∙ (K.formed a.0 a.1 (listed d c a.0 a.1 a.3)).size ∙ ap (λ b. block_words l (Class b)) a.4

  own_size : (o : Owner) (x : ℕ) → MayOwn cs d o x → length (words_at cs (home o x)) ≡ block_words l o
  own_size System x h = K.system
  own_size (Class c) x h = size_of c x h

  own_apart : (o : Owner) (x y : ℕ) → MayOwn cs d o x → MayOwn cs d o y → home o x ≡ home o y → x ≡ y
  own_apart System x y h k z = h ∙ sym k
  own_apart (Class c) x y h k z = (apart_of c c x y h k z).0

  -- a member's word is no owner's word
  crossed_by : (c k j x y : ℕ) (o : Owner) → k < owned_start l (Class c) → owned_start l o ≤ j → IsEntityOf cs d c x → MayOwn cs d o y → at c x ≡ home o y → k ≡ j → ⊥
  crossed_by c k j x y System a b h m z e = off_end c x h z
  crossed_by c k j x y (Class f) a b h m z e = let q = (apart_of c f x y h m z).1 in omega (arith, a, subst (λ n. owned_start l (Class n) ≤ j) (sym q) b, e)

  owners_same : (o u : Owner) (x y : ℕ) → MayOwn cs d o x → MayOwn cs d u y → home o x ≡ home u y → o ≡ u
  owners_same System System x y h k z = refl
  owners_same System (Class c) x y h k z = absurd (off_end c y k (sym z))
  owners_same (Class c) System x y h k z = absurd (off_end c x h z)
  owners_same (Class c) (Class e) x y h k z = ap Class (apart_of c e x y h k z).1

  module _ (s : ℕ) (t : SetLayout) (g : slice_get l.sets s ≡ Some t) where
    pub grounds : AreSlotsApart (slots_of l s t) cs (at t.member) (home t.owner) (IsEntityOf cs d t.member) (MayOwn cs d t.owner)
    grounds = record {
      members_apart = λ x y h k z. (apart_of t.member t.member x y h k z).0;
      owners_apart = λ x y h k z. own_apart t.owner x y h k z;
      member_room = λ y k h m. let r = member_inside l s t k g m in omega (arith, r.1, size_of t.member y h);
      owner_room = λ o k h m. let r = owner_inside l s t k g m in omega (arith, r.1, own_size t.owner o h);
      next_prev = λ e. absurd (omega (arith, e));
      next_owner = λ e. absurd (omega (arith, e));
      prev_owner = λ e. absurd (omega (arith, e));
      first_last = λ e. absurd (omega (arith, e));
      first_count = λ e. absurd (omega (arith, e));
      last_count = λ e. absurd (omega (arith, e));
      crossed = λ y o k j h m a b z e. crossed_by t.member k j y o t.owner (member_inside l s t k g a).1 (owner_inside l s t j g b).0 h m z e;
    }

    -- no word of the name is in a block's head
    pub above_head : (i : ℕ) (p : BlockPlace) (k : ℕ) → IsListedAt d i p → k < links_start l (class_at_place cs p) → IsOfName l cs sys d s t p.at k → ⊥
    above_head i p k h small (inl m) =
        let q = (apart_of (class_at_place cs p) t.member (suc i) m.0 (is_of cs d (class_at_place cs p) i p (lists_place l cs sys d ms K i p h) refl) m.1 (ap place_in_record (lists_place l cs sys d ms K i p h) ∙ m.2)).1 in
        omega (arith, small, subst (λ c. links_start l c ≤ k) (sym q) (member_inside l s t k g m.3).0)
    above_head i p k h small (inr m) = by_owner t.owner m.1 m.2 (owner_inside l s t k g m.3).0 where
      by_owner : (o : Owner) → MayOwn cs d o m.0 → p.at ≡ home o m.0 → owned_start l o ≤ k → ⊥
      by_owner System a z b = K.off_system i p h z
      by_owner (Class c) a z b = let q = (apart_of (class_at_place cs p) c (suc i) m.0 (is_of cs d (class_at_place cs p) i p (lists_place l cs sys d ms K i p h) refl) a (ap place_in_record (lists_place l cs sys d ms K i p h) ∙ z)).1 in
          omega (arith, small, subst (λ n. owned_start l (Class n) ≤ k) (sym q) b)

    pub above_end : (k : ℕ) → k < 2 → IsOfName l cs sys d s t sys k → ⊥
    above_end k small (inl m) = off_end t.member m.0 m.1 (sym m.2)
    above_end k small (inr m) = by_owner t.owner m.1 m.2 (owner_inside l s t k g m.3).0 where
      by_owner : (o : Owner) → MayOwn cs d o m.0 → sys ≡ home o m.0 → owned_start l o ≤ k → ⊥
      by_owner System a z b = omega (arith, small, b)
      by_owner (Class c) a z b = off_end c m.0 a (sym z)

    pub names_apart : (r : ℕ) (u : SetLayout) (q : Ptr) (k : ℕ) → slice_get l.sets r ≡ Some u → (s ≡ r → ⊥) → IsOfName l cs sys d s t q k → IsOfName l cs sys d r u q k → ⊥
    names_apart r u q k h n (inl a) (inl b) =
        let e = (apart_of t.member u.member a.0 b.0 a.1 b.1 (sym a.2 ∙ b.2)).1 in
        lower s r n (λ x. members_disjoint l s r t u k g h e x a.3 b.3) (λ x. members_disjoint l r s u t k h g (sym e) x b.3 a.3)
    names_apart r u q k h n (inl a) (inr b) = crossed_by t.member k k a.0 b.0 u.owner (member_inside l s t k g a.3).1 (owner_inside l r u k h b.3).0 a.1 b.1 (sym a.2 ∙ b.2) refl
    names_apart r u q k h n (inr a) (inl b) = crossed_by u.member k k b.0 a.0 t.owner (member_inside l r u k h b.3).1 (owner_inside l s t k g a.3).0 b.1 a.1 (sym b.2 ∙ a.2) refl
    names_apart r u q k h n (inr a) (inr b) =
        let e = owners_same t.owner u.owner a.0 b.0 a.1 b.1 (sym a.2 ∙ b.2) in
        lower s r n (λ x. owners_disjoint l s r t u k g h e x a.3 b.3) (λ x. owners_disjoint l r s u t k h g (sym e) x b.3 a.3)

-- writes
pub spares_none : (Of : Ptr → ℕ → Type 0) (cs : Cells) → AreSpared Of cs cs
spares_none Of cs = record { word = λ q j n. refl; size = λ q. refl; count = refl }

pub spares_put : (Of : Ptr → ℕ → Type 0) (cs ds : Cells) (p : Ptr) (k : ℕ) (w : Word) → AreSpared Of cs ds → Of p k → AreSpared Of cs (put_word ds p k w)
spares_put Of cs ds p k w h o = record {
  word = λ q j n. put_other ds p k w q j (λ e i. n (subst (λ r. Of r j) e (subst (Of p) i o))) ∙ h.word q j n;
  size = λ q. length_put ds p k w q ∙ h.size q;
  count = blocks_put ds p k w ∙ h.count;
}
