-- What the functions that look at a set read.
use Rattle.std.proofs.Common.{◌≡◌, ℕ, ◌+◌, ◌^◌, ◌<◌, Bool, true, false, length, slice_get, Some, Ok, Err, refl, sym, ap, subst, ◌∙◌, arith}
use Rattle.std.specs.Prelude.{ℤ, pos, not, nat_eq, if◌then◌else◌}
use Rattle.ss_records_entities.proofs.Common.{and_then, by_same, CanJoin, cast_signed, counter, differs, entity_at, EntityBlock, FaultKind, get_there, HasLink, head0, ints, is_filed, IsCounter, IsInList, IsKept, IsOwnerBlock, last_or, link, member_base, members_of, number, owner_at, owner_base, owner_of, places, pred_from, Records, SetLayout, State, state, succ, word_at}
use mir.Syntax.{w64}
use denote.RawPtr.{Ptr}
use Rattle.ss_world.specs.Sets.{follower, joiner, owner, precursor, as_number, companions, first_in, last_in, count_in, next_in, previous_in, owner_of_member}
use Rattle.ss_records_entities.proofs.Leading.{To, leads, its_number, first_to, last_to, is_counter, count_is, count_small, Beside, next_beside, prev_beside, owner_to, filed_is, next_value, prev_value, in_which}

pub as_whole : (n m : ℕ) → n ≡ m → m < 2 ^ 62 → cast_signed w64 n ≡ pos m
as_whole n m e h = let k : n < 2 ^ 63 = omega (arith, e, h) in let z : cast_signed w64 n ≡ pos n = omega (arith, ints, k) in z ∙ ap pos e

-- where there is no owner, there is no end
pub no_end : (last : Bool) (st : State) (s : ℕ) (x : ℤ) (e : FaultKind) → owner st s x ≡ Err e → Err e ≡ (if last then last_in st s x else first_in st s x)
no_end false st s x e h = sym (ap (λ z. and_then z (λ n. Ok (pos (head0 (members_of st.lists s n))))) h)
no_end true st s x e h = sym (ap (λ z. and_then z (λ n. Ok (pos (last_or 0 (members_of st.lists s n))))) h)

-- where there is no member, there is none next to it
pub none_beside : (reverse : Bool) (st : State) (s : ℕ) (x : ℤ) (e : FaultKind) → joiner st s x ≡ Err e → (if reverse then previous_in st s x else next_in st s x) ≡ Err e
none_beside false st s x e h = ap (λ z. and_then z (λ n. Ok (pos (follower n (companions st.lists s n))))) h
none_beside true st s x e h = ap (λ z. and_then z (λ n. Ok (pos (precursor 0 n (companions st.lists s n))))) h

module _ (r : Records) (K : IsKept r) (s : ℕ) (inside : s < length r.layout.sets) where
  abbrev at : ℕ → Ptr
  at = entity_at r.system.at (places r) (get_there r.layout.sets s inside).0.member

  abbrev home : ℕ → Ptr
  home = owner_at r.system.at (places r) (get_there r.layout.sets s inside).0.owner

  -- the words of an owner
  module _ (e : EntityBlock) (h : IsOwnerBlock r s e) (b : ℕ) (base : (u : SetLayout) → slice_get r.layout.sets s ≡ Some u → b ≡ owner_base r.layout s u) where
    there : (last : Bool) → To r.blocks.cells at e.place.at (if last then b + 1 else b) (if last then last_or 0 (members_of r.notes.lists s e.number) else head0 (members_of r.notes.lists s e.number))
    there false = first_to r.layout r.blocks.cells r.system.at (places r) r.notes.lists K s inside e.place.at e.number h.lies h.may b base
    there true = last_to r.layout r.blocks.cells r.system.at (places r) r.notes.lists K s inside e.place.at e.number h.lies h.may b base

    -- at either end
    pub end_leads : (last : Bool) → HasLink r.blocks.cells e.place.at (if last then b + 1 else b)
    end_leads last = leads r.blocks.cells at e.place.at (if last then b + 1 else b) _ (there last)

    pub counts : IsCounter (word_at r.blocks.cells e.place.at (b + 2))
    counts = is_counter r.layout r.blocks.cells r.system.at (places r) r.notes.lists K s inside e.place.at e.number h.lies h.may b base

    module _ (q : EntityBlock) (v : word_at r.blocks.cells q.place.at 1 ≡ number q.number) where
      end_number : (last : Bool) → word_at r.blocks.cells e.place.at (if last then b + 1 else b) ≡ link q.place.at → q.number ≡ (if last then last_or 0 (members_of r.notes.lists s e.number) else head0 (members_of r.notes.lists s e.number))
      end_number last w = its_number r.blocks.cells at e.place.at (if last then b + 1 else b) _ (there last) q.place.at w q.number v

      pub end_small : (last : Bool) → word_at r.blocks.cells e.place.at (if last then b + 1 else b) ≡ link q.place.at → q.number < 2 ^ 62
      end_small last w = subst (λ n. n < 4611686018427387904) (sym (end_number last w)) (there last).small

      pub end_value : (last : Bool) → word_at r.blocks.cells e.place.at (if last then b + 1 else b) ≡ link q.place.at → (x : ℤ) → owner (state r) s x ≡ Ok e.number
          → Ok (cast_signed w64 q.number) ≡ (if last then last_in (state r) s x else first_in (state r) s x)
      end_value false w x o = ap Ok (as_whole q.number _ (end_number false w) (there false).small) ∙ sym (ap (λ z. and_then z (λ n. Ok (pos (head0 (members_of r.notes.lists s n))))) o)
      end_value true w x o = ap Ok (as_whole q.number _ (end_number true w) (there true).small) ∙ sym (ap (λ z. and_then z (λ n. Ok (pos (last_or 0 (members_of r.notes.lists s n))))) o)

    module _ (v : ℕ) (w : word_at r.blocks.cells e.place.at (b + 2) ≡ counter v) where
      pub how_many : v ≡ length (members_of r.notes.lists s e.number)
      how_many = count_is r.layout r.blocks.cells r.system.at (places r) r.notes.lists K s inside e.place.at e.number h.lies h.may b base v w

      few_enough : length (members_of r.notes.lists s e.number) < 2 ^ 62
      few_enough = count_small r.layout r.blocks.cells r.system.at (places r) r.notes.lists K s inside e.number

      pub how_many_small : v < 2 ^ 62
      how_many_small = subst (λ n. n < 4611686018427387904) (sym how_many) few_enough

      pub how_many_value : (x : ℤ) → owner (state r) s x ≡ Ok e.number → Ok (cast_signed w64 v) ≡ count_in (state r) s x
      how_many_value x o = ap Ok (as_whole v _ how_many few_enough) ∙ sym (ap (λ z. and_then z (λ n. Ok (pos (length (members_of r.notes.lists s n))))) o)

  -- the words of a member
  module _ (e : EntityBlock) (h : CanJoin r s e) (b : ℕ) (base : (u : SetLayout) → slice_get r.layout.sets s ≡ Some u → b ≡ member_base r.layout s u) where
    -- the next link, or in reverse the previous one
    abbrev Near : Bool → Type 0
    Near reverse = Beside r.layout r.blocks.cells r.system.at (places r) r.notes.lists K s inside e.place.at e.number h.lies h.is b base (if reverse then b + 1 else b) (if reverse then pred_from 0 e.number else succ e.number)

    near : (reverse : Bool) → Near reverse
    near false = next_beside r.layout r.blocks.cells r.system.at (places r) r.notes.lists K s inside e.place.at e.number h.lies h.is b base
    near true = prev_beside r.layout r.blocks.cells r.system.at (places r) r.notes.lists K s inside e.place.at e.number h.lies h.is b base

    pub beside_leads : (reverse : Bool) → HasLink r.blocks.cells e.place.at (if reverse then b + 1 else b)
    beside_leads reverse = leads r.blocks.cells at e.place.at (if reverse then b + 1 else b) _ (near reverse).leads_to

    -- the neighbour that was read
    module _ (q : EntityBlock) (v : word_at r.blocks.cells q.place.at 1 ≡ number q.number) where
      abbrev Read : Bool → Type 0
      Read reverse = word_at r.blocks.cells e.place.at (if reverse then b + 1 else b) ≡ link q.place.at

      beside_number : (reverse : Bool) → Read reverse → q.number ≡ (near reverse).to
      beside_number reverse w = its_number r.blocks.cells at e.place.at (if reverse then b + 1 else b) _ (near reverse).leads_to q.place.at w q.number v

      pub beside_small : (reverse : Bool) → Read reverse → q.number < 2 ^ 62
      beside_small reverse w = subst (λ n. n < 4611686018427387904) (sym (beside_number reverse w)) (near reverse).leads_to.small

      pub is_filed_value : (reverse : Bool) → Read reverse → not (nat_eq q.number e.number) ≡ is_filed r.notes.lists s e.number
      is_filed_value reverse w = filed_is r.layout r.blocks.cells r.system.at (places r) r.notes.lists K s inside e.place.at e.number h.lies h.is b base (if reverse then b + 1 else b) (if reverse then pred_from 0 e.number else succ e.number) (near reverse) q.number (beside_number reverse w) (not (nat_eq q.number e.number))
          (λ i. by_same q.number e.number (λ z n. rw z refl) (λ z n. absurd (n i)))
          (λ i. rw (differs q.number e.number i) refl)

      pub beside_fits : (reverse : Bool) → Read reverse → (y : ℕ) → (q.number ≡ e.number → y ≡ 0) → ((q.number ≡ e.number → ⊥) → y ≡ q.number) → y < 2 ^ 62
      beside_fits reverse w y same other = by_same q.number e.number (λ z i. omega (arith, same i)) (λ z i. subst (λ n. n < 4611686018427387904) (sym (other i)) (beside_small reverse w))

      pub beside_is : (reverse : Bool) → Read reverse → (x : ℤ) (y : ℕ) → joiner (state r) s x ≡ Ok e.number → (q.number ≡ e.number → y ≡ 0) → ((q.number ≡ e.number → ⊥) → y ≡ q.number) → Ok (cast_signed w64 y) ≡ (if reverse then previous_in (state r) s x else next_in (state r) s x)
      beside_is false w x y o same other =
          let f = next_value r.layout r.blocks.cells r.system.at (places r) r.notes.lists K s inside e.place.at e.number h.lies h.is b base (near false) q.number (beside_number false w) in
          ap Ok (as_whole y y refl (beside_fits false w y same other) ∙ ap pos (by_same q.number e.number (λ z i. same i ∙ sym (f.0 i)) (λ z i. other i ∙ sym (f.1 i)))) ∙ sym (ap (λ z. and_then z (λ n. Ok (pos (follower n (companions r.notes.lists s n))))) o)
      beside_is true w x y o same other =
          let f = prev_value r.layout r.blocks.cells r.system.at (places r) r.notes.lists K s inside e.place.at e.number h.lies h.is b base (near true) q.number (beside_number true w) in
          ap Ok (as_whole y y refl (beside_fits true w y same other) ∙ ap pos (by_same q.number e.number (λ z i. same i ∙ sym (f.0 i)) (λ z i. other i ∙ sym (f.1 i)))) ∙ sym (ap (λ z. and_then z (λ n. Ok (pos (precursor 0 n (companions r.notes.lists s n))))) o)

      -- it is itself
      pub beside_free : (reverse : Bool) → Read reverse → q.number ≡ e.number → is_filed r.notes.lists s e.number ≡ false
      beside_free reverse w n = sym (is_filed_value reverse w) ∙ by_same q.number e.number (λ z i. rw z refl) (λ z i. absurd (i n))

      -- it is another one
      module _ (n : q.number ≡ e.number → ⊥) where
        pub beside_filed : (reverse : Bool) → Read reverse → is_filed r.notes.lists s e.number ≡ true
        beside_filed reverse w = sym (is_filed_value reverse w) ∙ rw (differs q.number e.number n) refl

        pub beside_value : (reverse : Bool) → Read reverse → (x : ℤ) → joiner (state r) s x ≡ Ok e.number → (if reverse then previous_in (state r) s x else next_in (state r) s x) ≡ Ok (cast_signed w64 q.number)
        beside_value reverse w x j = sym (beside_is reverse w x q.number j (λ i. absurd (n i)) (λ _. refl))

    -- where it is in a set
    module _ (filed : is_filed r.notes.lists s e.number ≡ true) where
      in_it : (o : ℕ) × (owner_of r.notes.lists s e.number ≡ Some o) × (IsInList e.number (members_of r.notes.lists s o))
      in_it = in_which r.layout r.blocks.cells r.system.at (places r) r.notes.lists K s inside e.place.at e.number h.lies h.is b base filed

      owner_there : To r.blocks.cells home e.place.at (b + 2) in_it.0
      owner_there = owner_to r.layout r.blocks.cells r.system.at (places r) r.notes.lists K s inside e.place.at e.number h.lies h.is b base in_it.0 in_it.2

      pub owner_leads : HasLink r.blocks.cells e.place.at (b + 2)
      owner_leads = leads r.blocks.cells home e.place.at (b + 2) _ owner_there

      module _ (q : EntityBlock) (w : word_at r.blocks.cells e.place.at (b + 2) ≡ link q.place.at) (v : word_at r.blocks.cells q.place.at 1 ≡ number q.number) where
        owner_number : q.number ≡ in_it.0
        owner_number = its_number r.blocks.cells home e.place.at (b + 2) _ owner_there q.place.at w q.number v

        pub owner_small : q.number < 2 ^ 62
        owner_small = subst (λ n. n < 4611686018427387904) (sym owner_number) owner_there.small

        -- the set in which it is
        pub owner_has : (owner_of r.notes.lists s e.number ≡ Some q.number) × (IsInList e.number (members_of r.notes.lists s q.number))
        owner_has = (in_it.1 ∙ ap Some (sym owner_number), subst (λ o. IsInList e.number (members_of r.notes.lists s o)) (sym owner_number) in_it.2)

        pub owner_value : (x : ℤ) → joiner (state r) s x ≡ Ok e.number → Ok (Some (cast_signed w64 q.number)) ≡ owner_of_member (state r) s x
        owner_value x o = ap (λ z. Ok (Some z)) (as_whole q.number q.number refl owner_small) ∙ sym (ap (λ z. and_then z (λ n. Ok (as_number (owner_of r.notes.lists s n)))) o ∙ ap (λ z. Ok (as_number z)) owner_has.0)
