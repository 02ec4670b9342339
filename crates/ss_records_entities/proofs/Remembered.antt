-- An entity that is remembered by its number.
use Rattle.std.proofs.Common.{◌≡◌, ℕ, zero, suc, ◌+◌, ◌-◌, ◌%◌, ◌^◌, ◌<◌, FitsSigned, w64, of_z, Bool, true, false, length, slice_get, Some, Ok, inl, inr, refl, sym, ap, subst, ◌∙◌, arith}
use Rattle.std.specs.Prelude.{ℤ, pos, negsuc, if◌then◌else◌, ◌⊎◌}
use Rattle.ss_records_entities.proofs.Common.{BlockPlace, CanJoin, class_at_place, ClassKind, entity_at, entity_in, EntityBlock, entry_of, ints, IsEntityPlace, IsInList, IsInPlace, IsKept, IsListedAt, IsPermanent, issued_place, kind_of, link, listed, member_base, member_class, members_of, Notice, number, numbered_place, Numbers, Permanent, place_in_record, places, pred_is, Records, SetLayout, slice_get_within, state, succ_is, Temporary, word_at}
use Rattle.ss_records_words.specs.Plans.{is_permanent_kind}
use Rattle.ss_records_entities.proofs.Apart.{entity_is}
use Rattle.ss_records_entities.proofs.Cuts.{lies_there}
use Rattle.ss_records_entities.proofs.Ends.{joins_it}
use Rattle.ss_records_entities.proofs.Keeps.{there}
use Rattle.ss_records_entities.proofs.Leading.{next_to, prev_to}

-- where it is, by the word of its number
pub numbered_at : (ps : Numbers) → length ps < 2 ^ 62 → (x : ℤ) → FitsSigned w64 x → (i : ℕ) → i ≡ of_z w64 x → (p : BlockPlace) → slice_get ps ((i + 18446744073709551615) % 18446744073709551616) ≡ Some (Some p) → numbered_place ps x ≡ Ok p
numbered_at ps few (pos zero) fits i is p h = absurd (omega (arith, ints, few, is, slice_get_within ps _ (Some p) h))
numbered_at ps few (pos (suc k)) fits i is p h =
    let e : (i + 18446744073709551615) % 18446744073709551616 ≡ k = omega (arith, ints, fits, is) in
    ap (λ j. issued_place (slice_get ps j)) (sym e) ∙ ap issued_place h
numbered_at ps few (negsuc k) fits i is p h = absurd (omega (arith, ints, few, fits, is, slice_get_within ps _ (Some p) h))

-- whatever the kind of its class is, since one that has a creation number is of no permanent class
pub found_numbered : (r : Records) (K : IsKept r) (c : ℕ) (x : ℤ) (p : BlockPlace) → numbered_place r.directory.places x ≡ Ok p → class_at_place r.blocks.cells p ≡ c → IsEntityPlace r c x p
found_numbered r K c x p h k =
    let t = there r.directory.places x p h in
    record { index = t.0; is = t.1; entry = inl t.2; class = k; entity = ap (entity_in (state r) c) t.1 ∙ entity_is r.layout r.blocks.cells r.system.at (places r) r.notes.lists K c (suc t.0) t.0 p refl k (inl t.2) }

pub comes_and_goes : (k : ClassKind) → is_permanent_kind k ≡ false → IsPermanent k → ⊥
comes_and_goes Permanent e p = cc
comes_and_goes Temporary e p = p
comes_and_goes Notice e p = p

same_place : (p q : BlockPlace) → p.at ≡ q.at → p ≡ q
same_place p q e = λ i. record { at = e i }

-- where its class isn't permanent, one that may be in a set is found by its creation number
pub numbered_entry : (r : Records) (K : IsKept r) (s : ℕ) (e : EntityBlock) → CanJoin r s e → (IsPermanent (kind_of r.layout (member_class r.layout s)) → ⊥) → slice_get r.directory.places (e.number - 1) ≡ Some (Some e.place)
numbered_entry r K s e h kind =
    let a = entry_of r.blocks.cells (places r) (member_class r.layout s) e.number h.is in
    let at : e.place.at ≡ a.1.at = h.lies ∙ ap (entity_at r.system.at (places r) (member_class r.layout s)) a.2 ∙ ap place_in_record a.3 in
    let m = by_entry a.0 a.1 a.4 (listed (places r) (member_class r.layout s) a.0 a.1 a.3) in
    let before : e.number - 1 ≡ a.0 = omega (arith, a.2) in
    ap (λ n. slice_get r.directory.places n) before ∙ m ∙ ap (λ (q : BlockPlace). Some (Some q)) (same_place a.1 e.place (sym at)) where
      by_entry : (i : ℕ) (p : BlockPlace) → class_at_place r.blocks.cells p ≡ member_class r.layout s → IsListedAt (places r) i p → slice_get r.directory.places i ≡ Some (Some p)
      by_entry i p c (inl m) = m
      by_entry i p c (inr (b, ps, m, g)) = let y = K.made b ps m in absurd (kind (subst (λ k. IsPermanent (kind_of r.layout k)) (sym (y.class i p g) ∙ c) y.permanent))

-- the neighbour of a member may be in the set as well, if there is one
module _ (r : Records) (K : IsKept r) (s : ℕ) (inside : s < length r.layout.sets) (e : EntityBlock) (h : CanJoin r s e) (b : ℕ) (base : (u : SetLayout) → slice_get r.layout.sets s ≡ Some u → b ≡ member_base r.layout s u)
    (o : ℕ) (i : IsInList e.number (members_of r.notes.lists s o)) (q : EntityBlock) (v : word_at r.blocks.cells q.place.at 1 ≡ number q.number) (some : q.number ≡ 0 → ⊥) where
  joined : (n : ℕ) → IsInPlace r s q → q.number ≡ n → (n ≡ 0) ⊎ IsInList n (members_of r.notes.lists s o) → CanJoin r s q
  joined n lies is (inl z) = absurd (some (is ∙ z))
  joined n lies is (inr m) = joins_it r K s inside o q lies (subst (λ k. IsInList k (members_of r.notes.lists s o)) (sym is) m)

  pub beside_joins : (reverse : Bool) → word_at r.blocks.cells e.place.at (if reverse then b + 1 else b) ≡ link q.place.at → CanJoin r s q
  beside_joins false w =
      let l = lies_there r K s inside e.place.at b _ (next_to r.layout r.blocks.cells r.system.at (places r) r.notes.lists K s inside e.place.at e.number h.lies h.is b base o i) q w v in
      joined _ l.0 l.1 (succ_is e.number (members_of r.notes.lists s o) i)
  beside_joins true w =
      let l = lies_there r K s inside e.place.at (b + 1) _ (prev_to r.layout r.blocks.cells r.system.at (places r) r.notes.lists K s inside e.place.at e.number h.lies h.is b base o i) q w v in
      joined _ l.0 l.1 (pred_is 0 e.number (members_of r.notes.lists s o) i)
