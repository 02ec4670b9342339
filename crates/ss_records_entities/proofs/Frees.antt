-- An entity that is in no set and has no members, as the tests say.
use Rattle.std.proofs.Common.{◌≡◌, ℕ, suc, false, List, slice_get, Some, inl, inr, sym, ap, subst, ◌∙◌, zero-add}
use Rattle.ss_records_entities.proofs.Common.{ArePartsKept, BlockPlace, Cells, Class, class_at_place, Directory, has_members, in_a_set, is_filed, IsEntityPlace, IsKept, IsListedAt, IsPermanent, kind_of, Layout, Members, members_of, owns_members, places, Records, ℤ}
use denote.RawPtr.{Ptr}
use Rattle.ss_records_words.proofs.Filed.{in_none_of, owns_none_of, not_filed_in, no_members}
use Rattle.ss_records_entities.proofs.Destroys.{Free}

-- an entity of a class of numbers is found under its number
pub by_number : (r : Records) (K : IsKept r) (c : ℕ) (x : ℤ) (p : BlockPlace) (f : IsEntityPlace r c x p) → (IsPermanent (kind_of r.layout c) → ⊥) → slice_get r.directory.places f.index ≡ Some (Some p)
by_number r K c x p f kind = by_entry f.entry where
  by_entry : IsListedAt (places r) f.index p → slice_get r.directory.places f.index ≡ Some (Some p)
  by_entry (inl m) = m
  by_entry (inr (b, ps, m, h)) = let y = K.made b ps m in absurd (kind (subst (λ a. IsPermanent (kind_of r.layout a)) (sym (y.class f.index p h) ∙ f.class) y.permanent))

pub free_by : (l : Layout) (cs : Cells) (sys : Ptr) (d : Directory) (ms : List Members) (K : ArePartsKept l cs sys d ms) (i : ℕ) (p : BlockPlace) (g : slice_get d.numbers i ≡ Some (Some p)) (c : ℕ) → class_at_place cs p ≡ c
    → in_a_set l.sets 0 ms c (suc i) ≡ false → owns_members l.sets 0 ms c (suc i) ≡ false → Free l cs sys d ms K i p g
free_by l cs sys d ms K i p g c class none few = record {
  unfiled = λ s t h e. not_filed_in ms s (suc i) (ap (λ n. is_filed ms n (suc i)) (sym (zero-add s)) ∙ in_none_of l.sets 0 c (suc i) ms none s t h (e ∙ class));
  owns_none = λ s t h e. no_members (members_of ms s (suc i)) (ap (λ n. has_members (members_of ms n (suc i))) (sym (zero-add s)) ∙ owns_none_of l.sets 0 c (suc i) ms few s t h (e ∙ ap Class class));
}
