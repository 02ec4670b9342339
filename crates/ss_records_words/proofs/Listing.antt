-- Where the entities of a class are listed.
use Rattle.std.proofs.Common.{◌≡◌, ℕ, zero, suc, ◌^◌, ◌<◌, List, [], ◌∷◌, map, length, slice_get, Option, Some, None, inl, inr, refl, sym, ap, subst, ◌∙◌, arith}
use Rattle.std.specs.Option.{option_map}
use Rattle.std.proofs.lemmas.List.{length-map}
use Rattle.std.proofs.lemmas.Option.{slice_get-map}
use denote.RawPtr.{Ptr}
use Rattle.ss_records_words.proofs.Common.{ArePartsKept, BlockPlace, Cells, Layout, Members}
use Rattle.ss_records_words.specs.Places.{Directory, own_or, listing, IsListedAt, class_at_place}

pub unmapped : (ps : List BlockPlace) (i : ℕ) (p : BlockPlace) → slice_get (map Some ps) i ≡ Some (Some p) → slice_get ps i ≡ Some p
unmapped [] i p h = cc
unmapped (q ∷ qs) zero p h = cc
unmapped (q ∷ qs) (suc i) p h = unmapped qs i p h

pub mapped : (ps : List BlockPlace) (i : ℕ) (p : BlockPlace) → slice_get ps i ≡ Some p → slice_get (map Some ps) i ≡ Some (Some p)
mapped ps i p h = slice_get-map Some ps i ∙ ap (option_map Some) h

pub listed : (d : Directory) (c i : ℕ) (p : BlockPlace) → slice_get (listing d c) i ≡ Some (Some p) → IsListedAt d i p
listed d c i p h = by_class (slice_get d.classes c) refl h where
  by_class : (o : Option (Option (List BlockPlace))) → slice_get d.classes c ≡ o → slice_get (own_or d.numbers o) i ≡ Some (Some p) → IsListedAt d i p
  by_class None e k = inl k
  by_class (Some None) e k = inl k
  by_class (Some (Some ps)) e k = inr (c, ps, e, unmapped ps i p k)

module _ (l : Layout) (cs : Cells) (sys : Ptr) (d : Directory) (ms : List Members) (K : ArePartsKept l cs sys d ms) where
  -- an entity is listed under its class
  pub lists_place : (i : ℕ) (p : BlockPlace) → IsListedAt d i p → slice_get (listing d (class_at_place cs p)) i ≡ Some (Some p)
  lists_place i p (inl g) = by_class (slice_get d.classes (class_at_place cs p)) refl where
    by_class : (o : Option (Option (List BlockPlace))) → slice_get d.classes (class_at_place cs p) ≡ o → slice_get (listing d (class_at_place cs p)) i ≡ Some (Some p)
    by_class None e = ap (λ o. slice_get (own_or d.numbers o) i) e ∙ g
    by_class (Some None) e = ap (λ o. slice_get (own_or d.numbers o) i) e ∙ g
    by_class (Some (Some ps)) e = absurd (K.kinds i p g (K.made (class_at_place cs p) ps e).permanent)
  lists_place i p (inr m) = let h = K.made m.0 m.1 m.2 in ap (λ c. slice_get (listing d c) i) (h.class i p m.3) ∙ ap (λ o. slice_get (own_or d.numbers o) i) m.2 ∙ mapped m.1 i p m.3

  -- there are not too many of a class
  pub not_many : (c : ℕ) → length (listing d c) < 2 ^ 62
  not_many c = by_class (slice_get d.classes c) refl where
    by_class : (o : Option (Option (List BlockPlace))) → slice_get d.classes c ≡ o → length (listing d c) < 4611686018427387904
    by_class None e = subst (λ o. length (own_or d.numbers o) < 4611686018427387904) (sym e) K.issued
    by_class (Some None) e = subst (λ o. length (own_or d.numbers o) < 4611686018427387904) (sym e) K.issued
    by_class (Some (Some ps)) e = subst (λ o. length (own_or d.numbers o) < 4611686018427387904) (sym e) (omega (arith, length-map ps Some, (K.made c ps e).few))
