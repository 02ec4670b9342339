-- What a reference means as an owner, or as one that may be a member, of a set.
use Rattle.std.proofs.Common.{◌≡◌, ℕ, suc, ◌<◌, true, length, slice_get, Some, Ok, Err, refl, sym, ap, subst, ◌∙◌}
use Rattle.ss_records_entities.proofs.Common.{and_then, BlockPlace, CanJoin, Class, entity_at, entity_in, FaultKind, get_there, is_of, is_system, IsEntityOf, IsEntityPlace, IsKept, IsNumber, IsOwnerBlock, joiner, Layout, listing, MayOwn, member_class, number, number_in, Owner, owner, owner_at, owner_by, owner_kind, place_in_record, places, plain, Records, SetLayout, State, state, System, word_at, ℤ}
use Rattle.ss_records_words.proofs.Listing.{lists_place}

module _ (r : Records) (K : IsKept r) (c : ℕ) (x : ℤ) (p : BlockPlace) (f : IsEntityPlace r c x p) where
  pub has_number : IsNumber (word_at r.blocks.cells p.at 1)
  has_number = subst IsNumber (sym (K.formed f.index p f.entry).number) tt

  module _ (n : ℕ) (w : word_at r.blocks.cells p.at 1 ≡ number n) where
    number_of : n ≡ suc f.index
    number_of = ap plain (sym w ∙ (K.formed f.index p f.entry).number)

    its_place : slice_get (listing (places r) c) f.index ≡ Some (Some p)
    its_place = subst (λ b. slice_get (listing (places r) b) f.index ≡ Some (Some p)) f.class (lists_place r.layout r.blocks.cells r.system.at (places r) r.notes.lists K f.index p f.entry)

    lies_at : p.at ≡ entity_at r.system.at (places r) c n
    lies_at = sym (ap (entity_at r.system.at (places r) c) number_of ∙ ap place_in_record its_place)

    is_it : IsEntityOf r.blocks.cells (places r) c n
    is_it = subst (IsEntityOf r.blocks.cells (places r) c) (sym number_of) (is_of r.blocks.cells (places r) c f.index p its_place f.class)

    named : number_in x ≡ n
    named = ap number_in f.is ∙ sym number_of

    module _ (s : ℕ) where
      pub joins_found : member_class r.layout s ≡ c → CanJoin r s (record { place = p; number = n }) × (joiner (state r) s x ≡ Ok n)
      joins_found e = (
        record { lies = subst (λ b. p.at ≡ entity_at r.system.at (places r) b n) (sym e) lies_at; is = subst (λ b. IsEntityOf r.blocks.cells (places r) b n) (sym e) is_it },
        ap (λ b. and_then (entity_in (state r) b x) (λ q. Ok (number_in x))) e ∙ ap (λ z. and_then z (λ q. Ok (number_in x))) f.entity ∙ ap Ok named,
      )

      pub owns_found : owner_kind r.layout s ≡ Class c → IsOwnerBlock r s (record { place = p; number = n }) × (owner (state r) s x ≡ Ok n)
      owns_found e = (
        record { lies = subst (λ u. p.at ≡ owner_at r.system.at (places r) u n) (sym e) lies_at; may = subst (λ u. MayOwn r.blocks.cells (places r) u n) (sym e) is_it },
        ap (λ u. owner_by (state r) u x) e ∙ ap (λ z. and_then z (λ q. Ok (number_in x))) f.entity ∙ ap Ok named,
      )

pub system_owns : (r : Records) (s : ℕ) (x : ℤ) → owner_kind r.layout s ≡ System → IsOwnerBlock r s (record { place = r.system; number = 0 }) × (owner (state r) s x ≡ Ok 0)
system_owns r s x e = (record { lies = subst (λ u. r.system.at ≡ owner_at r.system.at (places r) u 0) (sym e) refl; may = subst (λ u. MayOwn r.blocks.cells (places r) u 0) (sym e) refl }, ap (λ u. owner_by (state r) u x) e)

pub not_joiner : (st : State) (s : ℕ) (c : ℕ) (x : ℤ) (e : FaultKind) → member_class st.layout s ≡ c → entity_in st c x ≡ Err e → joiner st s x ≡ Err e
not_joiner st s c x e h k = ap (λ b. and_then (entity_in st b x) (λ q. Ok (number_in x))) h ∙ ap (λ z. and_then z (λ q. Ok (number_in x))) k

pub not_owner : (st : State) (s : ℕ) (c : ℕ) (x : ℤ) (e : FaultKind) → owner_kind st.layout s ≡ Class c → entity_in st c x ≡ Err e → owner st s x ≡ Err e
not_owner st s c x e h k = ap (λ u. owner_by st u x) h ∙ ap (λ z. and_then z (λ q. Ok (number_in x))) k

-- what a function that reads the layout of a set says
pub of_system : (o : Owner) → is_system o ≡ true → o ≡ System
of_system System e = refl
of_system (Class c) e = absurd cc

pub kind_is : {A : Type 0} (l : Layout) (s : ℕ) (of : SetLayout → A) (a : A) → s < length l.sets → ((t : SetLayout) → slice_get l.sets s ≡ Some t → a ≡ of t) → (t : SetLayout) × (slice_get l.sets s ≡ Some t) × (of t ≡ a)
kind_is l s of a inside h = let y = get_there l.sets s inside in (y.0, y.1, sym (h y.0 y.1))
