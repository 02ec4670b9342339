-- Whether an entity is in a set, by the words of its own block.
use Rattle.std.proofs.Common.{◌≡◌, ℕ, suc, inl, true, false, slice_get, Some, ap, sym, subst, ◌∙◌}
use Rattle.ss_records_entities.proofs.Common.{BlockPlace, by_same, class_at_place, differs, entity_at, EntityBlock, HasLink, is_filed, IsKept, link, member_base, nat_eq, not, number, places, Records, SetLayout, word_at}
use Rattle.ss_records_words.proofs.Tied.{its_next, next_word, filed_value}

-- where its links of a set begin at the word k
module _ (r : Records) (K : IsKept r) (s : ℕ) (t : SetLayout) (g : slice_get r.layout.sets s ≡ Some t) (i : ℕ) (p : BlockPlace) (e : slice_get r.directory.places i ≡ Some (Some p)) (class : class_at_place r.blocks.cells p ≡ t.member) (k : ℕ) (base : k ≡ member_base r.layout s t) where
  pub leads_on : HasLink r.blocks.cells p.at k
  leads_on =
      let n = its_next r.layout r.blocks.cells r.system.at (places r) r.notes.lists K s t g i p (inl e) class in
      record {
        to = entity_at r.system.at (places r) t.member n.to;
        n = n.to;
        word = ap (λ j. word_at r.blocks.cells p.at j) base ∙ next_word r.layout r.blocks.cells r.system.at (places r) r.notes.lists K s t g i p (inl e) class;
        there = n.there;
      }

  -- and the next is q
  module _ (x : ℕ) (is : x ≡ suc i) (q : EntityBlock) (w : word_at r.blocks.cells p.at k ≡ link q.place.at) (v : word_at r.blocks.cells q.place.at 1 ≡ number q.number) where
    filed_by : not (nat_eq q.number x) ≡ is_filed r.notes.lists s x
    filed_by = subst (λ n. not (nat_eq q.number n) ≡ is_filed r.notes.lists s n) (sym is)
        (filed_value r.layout r.blocks.cells r.system.at (places r) r.notes.lists K s t g i p (inl e) class q.place.at q.number (ap (λ j. word_at r.blocks.cells p.at j) (sym base) ∙ w) v)

    pub filed_there : (q.number ≡ x → ⊥) → is_filed r.notes.lists s x ≡ true
    filed_there other = sym filed_by ∙ ap not (differs q.number x other)

    pub filed_nowhere : q.number ≡ x → is_filed r.notes.lists s x ≡ false
    filed_nowhere same = sym filed_by ∙ by_same q.number x (λ z n. ap not z) (λ z n. absurd (n same))
