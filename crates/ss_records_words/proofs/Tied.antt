-- What the words of an entity say of its sets.
use Rattle.std.proofs.Common.{◌≡◌, ℕ, zero, suc, ◌+◌, Bool, false, List, [], ◌∷◌, length, take, slice_get, Some, refl, sym, ap, subst, ◌∙◌, arith}
use Rattle.std.specs.Prelude.{is_some, not, nat_eq}
use denote.RawPtr.{Ptr}
use Rattle.ss_records_words.proofs.Common.{ArePartsKept, BlockPlace, by_same, Class, class_at_place, count_before, count_sets, differs, Directory, entity_at, has_members, is_filed, IsEntityOf, IsListedAt, Layout, listing, MayOwn, member_base, Members, members_of, owner_at, owner_base, place_in_record, plain, SetLayout}
use Rattle.ss_records_blocks.specs.Cells.{number, counter, link, Cells, IsCounter, word_at}
use Rattle.ss_records_words.proofs.Listing.{lists_place}
use Rattle.ss_records_words.proofs.Disjoint.{is_of}
use Rattle.ss_records_words.proofs.Filed.{Next, next_of}

pub count_taken : (p : SetLayout → Bool) (ts : List SetLayout) (s : ℕ) → count_sets p (take s ts) ≡ count_before p ts s
count_taken p [] zero = refl
count_taken p [] (suc s) = refl
count_taken p (t ∷ ts) zero = refl
count_taken p (t ∷ ts) (suc s) = omega (arith, count_taken p ts s)

link_to : {p q : Ptr} → link p ≡ link q → p ≡ q
link_to e = cc

counter_is : {m n : ℕ} → counter m ≡ counter n → m ≡ n
counter_is e = cc

module _ (l : Layout) (cs : Cells) (sys : Ptr) (d : Directory) (ms : List Members) (K : ArePartsKept l cs sys d ms) (s : ℕ) (t : SetLayout) (g : slice_get l.sets s ≡ Some t) (i : ℕ) (p : BlockPlace) (e : IsListedAt d i p) where
  abbrev at : ℕ → Ptr
  at = entity_at sys d t.member

  module _ (class : class_at_place cs p ≡ t.member) where
    its_place : slice_get (listing d t.member) i ≡ Some (Some p)
    its_place = subst (λ c. slice_get (listing d c) i ≡ Some (Some p)) class (lists_place l cs sys d ms K i p e)

    here : at (suc i) ≡ p.at
    here = ap place_in_record its_place

    pub it : IsEntityOf cs d t.member (suc i)
    it = is_of cs d t.member i p its_place class

    abbrev pub its_next : Next l cs sys d ms K s t g (suc i) it
    its_next = next_of l cs sys d ms K s t g (suc i) it

    pub next_word : word_at cs p.at (member_base l s t) ≡ link (at its_next.to)
    next_word = (λ z. word_at cs (sym here z) (member_base l s t)) ∙ its_next.word

    pub next_number : (q : Ptr) → word_at cs p.at (member_base l s t) ≡ link q → word_at cs q 1 ≡ number its_next.to
    next_number q w = let k : q ≡ at its_next.to = link_to (sym w ∙ next_word) in (λ z. word_at cs (k z) 1) ∙ its_next.there

    pub filed_value : (q : Ptr) (n : ℕ) → word_at cs p.at (member_base l s t) ≡ link q → word_at cs q 1 ≡ number n → not (nat_eq n (suc i)) ≡ is_filed ms s (suc i)
    filed_value q n w v =
        let k : n ≡ its_next.to = ap plain (sym v ∙ next_number q w) in
        ap (λ m. not (nat_eq m (suc i))) k ∙ by_same its_next.to (suc i)
        (λ z y. rw z (sym (ap is_some (its_next.out y).0)))
        (λ z y. rw z (sym (ap is_some (its_next.in_one y).1)))

  module _ (owns : t.owner ≡ Class (class_at_place cs p)) where
    owner : MayOwn cs d t.owner (suc i)
    owner = subst (λ o. MayOwn cs d o (suc i)) (sym owns) (is_of cs d (class_at_place cs p) i p (lists_place l cs sys d ms K i p e) refl)

    home : owner_at sys d t.owner (suc i) ≡ p.at
    home = ap (λ o. owner_at sys d o (suc i)) owns ∙ ap place_in_record (lists_place l cs sys d ms K i p e)

    pub count_word : word_at cs p.at (owner_base l s t + 2) ≡ counter (length (members_of ms s (suc i)))
    count_word = (λ z. word_at cs (sym home z) (owner_base l s t + 2)) ∙ (K.names s t g).count (suc i) owner

    pub may_count : IsCounter (word_at cs p.at (owner_base l s t + 2))
    may_count = subst IsCounter (sym count_word) tt

    pub owns_value : (n : ℕ) → word_at cs p.at (owner_base l s t + 2) ≡ counter n → not (nat_eq n 0) ≡ has_members (members_of ms s (suc i))
    owns_value n w = ap (λ m. not (nat_eq m 0)) (counter_is (sym w ∙ count_word)) ∙ some (members_of ms s (suc i)) where
      some : (xs : List ℕ) → not (nat_eq (length xs) 0) ≡ has_members xs
      some [] = refl
      some (y ∷ ys) = let z : nat_eq (length (y ∷ ys)) 0 ≡ false = differs (length (y ∷ ys)) 0 (λ q. absurd (omega (arith, q))) in rw z refl
