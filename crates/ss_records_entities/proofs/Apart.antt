-- The sets of a heap are apart.
use Rattle.std.proofs.Common.{◌≡◌, ℕ, suc, List, slice_get, Some, Ok, inl, inr, refl, sym, ap, subst, ◌∙◌}
use Rattle.ss_records_entities.proofs.Common.{and_then, ArePartsKept, BlockPlace, Cells, class_at_place, ClassKind, Directory, entity_in, entity_of_kind, entry_of, filed_or_not, get_there, indexed, IsEntityOf, IsListedAt, IsPermanent, issued_place, kind_of, Layout, listed, Members, members_of, not_and_in, Notice, number_in, numbered_place, numbered_record, of_class, owner_of, Permanent, pos, record_of, same, State, state_of, Temporary, words_at}
use denote.RawPtr.{Ptr}
use Rattle.ss_world.specs.Sets.{member_class, member_in, AreMembersApart}
use Rattle.ss_records_entities.proofs.Keeps.{read_place, numbered_is}
use Rattle.ss_records_entities.proofs.Indexing.{indexed_there, of_permanent}

of_kind : (st : State) (k : ClassKind) (c n : ℕ) → (IsPermanent k → ⊥) → entity_of_kind st k c (pos n) ≡ and_then (numbered_record st (pos n)) (of_class c)
of_kind st Permanent c n h = absurd (h tt)
of_kind st Temporary c n h = refl
of_kind st Notice c n h = refl

module _ (l : Layout) (cs : Cells) (sys : Ptr) (d : Directory) (ms : List Members) (K : ArePartsKept l cs sys d ms) where
  abbrev st : State
  st = state_of l cs d ms

  -- what an entity of a class is
  pub entity_is : (c n i : ℕ) (p : BlockPlace) → n ≡ suc i → class_at_place cs p ≡ c → IsListedAt d i p → entity_in st c (pos n) ≡ Ok (record_of l (words_at cs p.at))
  entity_is c n i p e k (inl m) =
      let kind = subst (λ b. IsPermanent (kind_of l b) → ⊥) k (K.kinds i p m) in
      let place : numbered_place d.numbers (pos n) ≡ Ok p = ap (λ z. numbered_place d.numbers (pos z)) e ∙ ap issued_place m in
      let read : numbered_record st (pos n) ≡ Ok (record_of l (words_at cs p.at)) = numbered_is l cs d ms (pos n) ∙ ap (read_place l cs) place in
      let class : of_class c (record_of l (words_at cs p.at)) ≡ Ok (record_of l (words_at cs p.at)) = rw (k, same c) refl in
      of_kind st (kind_of l c) c n kind ∙ ap (λ z. and_then z (of_class c)) read ∙ class
  entity_is c n i p e k (inr (b, ps, m, h)) =
      let y = K.made b ps m in let q : b ≡ c = sym (y.class i p h) ∙ k in
      of_permanent st (kind_of l c) c (pos n) (subst (λ a. IsPermanent (kind_of l a)) q y.permanent) ∙ ap (λ z. indexed st c (pos z)) e ∙ indexed_there l cs d ms c ps i p (subst (λ a. slice_get d.classes a ≡ Some (Some ps)) q m) h

  -- an entity of a class is what its number means
  pub is_entity : (c n : ℕ) → IsEntityOf cs d c n → and_then (entity_in st c (pos n)) (λ r. Ok (number_in (pos n))) ≡ Ok n
  is_entity c n h = let a = entry_of cs d c n h in ap (λ z. and_then z (λ r. Ok (number_in (pos n)))) (entity_is c n a.0 a.1 a.2 a.4 (listed d c a.0 a.1 a.3))

  pub sets_apart : AreMembersApart st
  sets_apart = record {
    distinct = λ s o h. let y = get_there l.sets s h in (K.names s y.0 y.1).distinct o;
    members = λ s o x h i. let y = get_there l.sets s h in let m = (K.names s y.0 y.1).members o x i in
        (m.1, is_entity (member_class l s) x (subst (λ b. IsEntityOf cs d b x) (sym (ap member_in y.1)) m.0));
    sole = λ s o x h i. let y = get_there l.sets s h in elim (filed_or_not ms s x) as (λ _. owner_of ms s x ≡ Some o) [
      | inl a ↦ a.1 ∙ ap Some ((K.names s y.0 y.1).sole a.0 o x a.2 i)
      | inr a ↦ absurd (not_and_in x (members_of ms s o) (a.1 o) i)
    ];
  }
