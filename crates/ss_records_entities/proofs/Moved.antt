-- The words of a set name show the same lists where the words of its members and owners are as they were,
-- or those of newcomers without lists.
use Rattle.std.proofs.Common.{◌≡◌, ℕ, List, [], length, ◌⊎◌, inl, inr, sym, ap, subst, ◌∙◌}
use denote.RawPtr.{Ptr}
use Rattle.ss_records_entities.proofs.Common.{AreShowing, counter, head0, head_is, IsInList, IsNotInList, last_is, last_or, link, not_and_in, pred_from, pred_is, succ, succ_is, Words}

module _ (m m' : Words) (at at' home home' : ℕ → Ptr) (alive alive' owns owns' : ℕ → Type 0) (f : ℕ → List ℕ) where
  abbrev pub OldMember : ℕ → Type 0
  OldMember y = alive y × (at' y ≡ at y) × (m'.next y ≡ m.next y) × (m'.prev y ≡ m.prev y) × (m'.owner y ≡ m.owner y)

  abbrev pub NewMember : ℕ → Type 0
  NewMember y = ((o : ℕ) → IsNotInList y (f o)) × (m'.next y ≡ link (at' y)) × (m'.prev y ≡ link (at' y)) × (m'.owner y ≡ link (at' y))

  abbrev pub OldOwner : ℕ → Type 0
  OldOwner o = owns o × (home' o ≡ home o) × (m'.first o ≡ m.first o) × (m'.last o ≡ m.last o) × (m'.count o ≡ m.count o)

  abbrev pub NewOwner : ℕ → Type 0
  NewOwner o = (f o ≡ []) × (m'.first o ≡ link (at' 0)) × (m'.last o ≡ link (at' 0)) × (m'.count o ≡ counter 0)

  module _ (s : AreShowing m at home alive owns f) (zero_at : at' 0 ≡ at 0) (member : (y : ℕ) → alive' y → OldMember y ⊎ NewMember y) (owner : (o : ℕ) → owns' o → OldOwner o ⊎ NewOwner o) (stays : (o y : ℕ) → IsInList y (f o) → alive' y × owns' o) where
    -- a member is an old one, and so is the owner of one
    old_member : (o y : ℕ) → IsInList y (f o) → OldMember y
    old_member o y h = elim (member y (stays o y h).0) as (λ _. OldMember y) [ inl x ↦ x | inr x ↦ absurd (not_and_in y (f o) (x.0 o) h) ]

    old_owner : (o y : ℕ) → IsInList y (f o) → OldOwner o
    old_owner o y h = elim (owner o (stays o y h).1) as (λ _. OldOwner o) [ inl x ↦ x | inr x ↦ absurd (subst (λ l. IsInList y l) x.0 h) ]

    -- a neighbour, or the end, lies where it lay
    goes : (o n : ℕ) → (n ≡ 0) ⊎ IsInList n (f o) → link (at n) ≡ link (at' n)
    goes o n h = elim h as (λ _. link (at n) ≡ link (at' n)) [ inl e ↦ ap link (ap at e ∙ sym zero_at ∙ ap at' (sym e)) | inr k ↦ ap link (sym (old_member o n k).1) ]

    pub shows_moved : AreShowing m' at' home' alive' owns' f
    shows_moved = record {
      first = λ o h. elim (owner o h) as (λ _. m'.first o ≡ link (at' (head0 (f o)))) [ inl x ↦ x.2 ∙ s.first o x.0 ∙ goes o (head0 (f o)) (head_is (f o)) | inr x ↦ x.1 ∙ ap (λ l. link (at' (head0 l))) (sym x.0) ];
      last = λ o h. elim (owner o h) as (λ _. m'.last o ≡ link (at' (last_or 0 (f o)))) [ inl x ↦ x.3 ∙ s.last o x.0 ∙ goes o (last_or 0 (f o)) (last_is 0 (f o)) | inr x ↦ x.2 ∙ ap (λ l. link (at' (last_or 0 l))) (sym x.0) ];
      count = λ o h. elim (owner o h) as (λ _. m'.count o ≡ counter (length (f o))) [ inl x ↦ x.4 ∙ s.count o x.0 | inr x ↦ x.3 ∙ ap (λ l. counter (length l)) (sym x.0) ];
      next = λ o y h. (old_member o y h).2 ∙ s.next o y h ∙ goes o (succ y (f o)) (succ_is y (f o) h);
      prev = λ o y h. (old_member o y h).3 ∙ s.prev o y h ∙ goes o (pred_from 0 y (f o)) (pred_is 0 y (f o) h);
      owner = λ o y h. (old_member o y h).4 ∙ s.owner o y h ∙ ap link (sym (old_owner o y h).1);
      unfiled = λ y h pos out. elim (member y h) as (λ _. (m'.next y ≡ link (at' y)) × (m'.prev y ≡ link (at' y)) × (m'.owner y ≡ link (at' y))) [
        | inl x ↦ let u = s.unfiled y x.0 pos out in let e : link (at y) ≡ link (at' y) = ap link (sym x.1) in (x.2 ∙ u.0 ∙ e, x.3 ∙ u.1 ∙ e, x.4 ∙ u.2 ∙ e)
        | inr x ↦ (x.1, x.2, x.3)
      ];
      members = λ o y h. let k = s.members o y h in ((stays o y h).0, k.1, (stays o y h).1);
      distinct = s.distinct;
      sole = s.sole;
    }
