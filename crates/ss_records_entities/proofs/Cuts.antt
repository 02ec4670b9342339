-- The neighbours between which a filing links, and a removal.
use Rattle.std.proofs.Common.{◌≡◌, ℕ, ◌+◌, ◌<◌, Bool, true, false, List, [], ◌∷◌, ◌++◌, length, slice_get, Some, Ok, Err, refl, sym, ap, subst, ◌∙◌, append_assoc, append-nil}
use Rattle.std.specs.Prelude.{ℤ, if◌then◌else◌, Result, MatchResult}
use denote.RawPtr.{Ptr}
use Rattle.ss_records_entities.specs.Parts.{before_end, after_end}
use Rattle.ss_records_entities.proofs.Common.{after_in, and_then, AreAllDistinct, AreNeighbours, before_in, CanJoin, contains, contains_in, entity_at, EntityBlock, FaultKind, get_there, HasLink, HasNeighbours, head0, is_filed, IsInList, IsInPlace, IsKept, IsNotInList, IsOwnerBlock, last_or, link, member_base, members_of, number, owner_base, places, pred_from, Records, SetLayout, State, succ, word_at}
use Rattle.ss_records_words.proofs.Splice.{distinct_less, succ_cut, succ_last, cut, pred_cut, pred_head, last_splice}
use Rattle.ss_world.specs.Sets.{joiner, less, owner, put_before, put_in, with_list_of, put_after, put_beside, filed_first, filed_last, filed_before, filed_after, taken_out}
use Rattle.ss_base.specs.declared.fault.FaultKind.TheVariants.{FiledTwice, NotFiled}
use Rattle.ss_records_entities.proofs.Listed.{put_before_cut, put_after_cut, less_cut, not_in_front}
use Rattle.ss_records_entities.proofs.Leading.{To, leads, at_target, its_number, its_members, positive, first_to, last_to, next_to, prev_to}

-- q is the last member of the set s of o, or the first
pub record IsAtEnd (r : Records) (s o : ℕ) (last : Bool) (q : EntityBlock) : Type 0 where
  pub lies : IsInPlace r s q
  pub is : q.number ≡ (if last then last_or 0 (members_of r.notes.lists s o) else head0 (members_of r.notes.lists s o))
  pub inn : IsInList q.number (members_of r.notes.lists s o)

-- the list with one more directly before another, or after it
abbrev pub put_by : Bool → ℕ → ℕ → List ℕ → List ℕ
put_by true = put_before
put_by false = put_after

module _ (r : Records) (K : IsKept r) (s : ℕ) (inside : s < length r.layout.sets) where
  abbrev at : ℕ → Ptr
  at = entity_at r.system.at (places r) (get_there r.layout.sets s inside).0.member

  abbrev f : ℕ → List ℕ
  f = members_of r.notes.lists s

  abbrev end : EntityBlock
  end = record { place = r.system; number = 0 }

  pub lies_there : (p : Ptr) (k n : ℕ) → To r.blocks.cells at p k n → (q : EntityBlock) → word_at r.blocks.cells p k ≡ link q.place.at → word_at r.blocks.cells q.place.at 1 ≡ number q.number → (IsInPlace r s q) × (q.number ≡ n)
  lies_there p k n h q w v = let e = its_number r.blocks.cells at p k n h q.place.at w q.number v in (at_target r.blocks.cells at p k n h q.place.at w ∙ ap at (sym e) ∙ ap (λ c. entity_at r.system.at (places r) c q.number) (sym (its_members r.layout r.blocks.cells r.system.at (places r) r.notes.lists K s inside)), e)

  -- at the ends of a set
  module _ (e : EntityBlock) (h : IsOwnerBlock r s e) (b : ℕ) (base : (u : SetLayout) → slice_get r.layout.sets s ≡ Some u → b ≡ owner_base r.layout s u) (q : EntityBlock) where
    pub at_end : (last : Bool) → word_at r.blocks.cells e.place.at (if last then b + 1 else b) ≡ link q.place.at → word_at r.blocks.cells q.place.at 1 ≡ number q.number
        → AreNeighbours r s e.number (if last then q else end) (if last then end else q) (before_end last (f e.number)) (after_end last (f e.number))
    at_end false w v =
        let l = lies_there e.place.at b _ (first_to r.layout r.blocks.cells r.system.at (places r) r.notes.lists K s inside e.place.at e.number h.lies h.may b base) q w v in
        record { list = refl; before = refl; last = refl; after = l.0; first = l.1 }
    at_end true w v =
        let l = lies_there e.place.at (b + 1) _ (last_to r.layout r.blocks.cells r.system.at (places r) r.notes.lists K s inside e.place.at e.number h.lies h.may b base) q w v in
        record { list = sym (append-nil (f e.number)); before = l.0; last = l.1; after = refl; first = refl }

    -- the member there, if there is one
    pub end_is : (last : Bool) → word_at r.blocks.cells e.place.at (if last then b + 1 else b) ≡ link q.place.at → word_at r.blocks.cells q.place.at 1 ≡ number q.number → (q.number ≡ 0 → ⊥) → IsAtEnd r s e.number last q
    end_is false w v some = let a = at_end false w v in
        record { lies = a.after; is = a.first; inn = after_in q.number [] (f e.number) (sym a.first) (λ i. some (sym i)) }
    end_is true w v some = let a = at_end true w v in
        record { lies = a.before; is = a.last; inn = subst (IsInList q.number) (append-nil (f e.number)) (before_in q.number (f e.number) [] (sym a.last) (λ i. some (sym i))) }

  -- beside a member y
  module _ (y : EntityBlock) (j : CanJoin r s y) (b : ℕ) (base : (u : SetLayout) → slice_get r.layout.sets s ≡ Some u → b ≡ member_base r.layout s u) (o : ℕ) (there : contains (f o) y.number ≡ true) where
    here : IsInList y.number (f o)
    here = contains_in (f o) y.number there

    pub parts : (xs : List ℕ) × (ys : List ℕ) × (f o ≡ xs ++ y.number ∷ ys)
    parts = cut y.number (f o) here

    abbrev xs : List ℕ
    xs = parts.0

    abbrev ys : List ℕ
    ys = parts.1

    some : 0 ≡ y.number → ⊥
    some = positive r.layout r.blocks.cells r.system.at (places r) r.notes.lists K s inside y.place.at y.number j.lies j.is b base

    distinct : AreAllDistinct (f o)
    distinct = let k = get_there r.layout.sets s inside in (K.names s k.0 k.1).distinct o

    apart : AreAllDistinct (xs ++ y.number ∷ ys)
    apart = subst AreAllDistinct parts.2 distinct

    not_before : IsNotInList y.number xs
    not_before = not_in_front y.number xs ys (distinct_less xs y.number ys apart).1

    -- on one side of it: before it, or after it
    abbrev Read : Bool → EntityBlock → Type 0
    Read before q = word_at r.blocks.cells y.place.at (if before then b + 1 else b) ≡ link q.place.at

    there_beside : (before : Bool) → To r.blocks.cells at y.place.at (if before then b + 1 else b) (if before then pred_from 0 y.number (f o) else succ y.number (f o))
    there_beside true = prev_to r.layout r.blocks.cells r.system.at (places r) r.notes.lists K s inside y.place.at y.number j.lies j.is b base o here
    there_beside false = next_to r.layout r.blocks.cells r.system.at (places r) r.notes.lists K s inside y.place.at y.number j.lies j.is b base o here

    pub beside_found : (before : Bool) → HasLink r.blocks.cells y.place.at (if before then b + 1 else b)
    beside_found before = leads r.blocks.cells at y.place.at (if before then b + 1 else b) _ (there_beside before)

    is_beside : (before : Bool) (q : EntityBlock) → Read before q → word_at r.blocks.cells q.place.at 1 ≡ number q.number → (IsInPlace r s q) × (q.number ≡ (if before then last_or 0 xs else head0 ys))
    is_beside true q w v = let l = lies_there y.place.at (b + 1) _ (there_beside true) q w v in (l.0, l.1 ∙ ap (pred_from 0 y.number) parts.2 ∙ pred_cut xs y.number ys some apart)
    is_beside false q w v = let l = lies_there y.place.at b _ (there_beside false) q w v in (l.0, l.1 ∙ ap (succ y.number) parts.2 ∙ succ_cut xs y.number ys some apart)

    abbrev pub front : Bool → List ℕ
    front true = xs
    front false = xs ++ y.number ∷ []

    abbrev pub back : Bool → List ℕ
    back true = y.number ∷ ys
    back false = ys

    pub beside_it : (before : Bool) (q : EntityBlock) → Read before q → word_at r.blocks.cells q.place.at 1 ≡ number q.number → AreNeighbours r s o (if before then q else y) (if before then y else q) (front before) (back before)
    beside_it true q w v = let n = is_beside true q w v in
        record { list = parts.2; before = n.0; last = n.1; after = j.lies; first = refl }
    beside_it false q w v = let n = is_beside false q w v in
        record { list = parts.2 ∙ sym (append_assoc xs (y.number ∷ []) ys); before = j.lies; last = sym (last_splice 0 xs y.number []); after = n.0; first = n.1 }

    pub list_beside : (before : Bool) (x : ℕ) → front before ++ x ∷ back before ≡ put_by before y.number x (f o)
    list_beside true x = sym (ap (put_before y.number x) parts.2 ∙ put_before_cut xs y.number x ys not_before)
    list_beside false x = append_assoc xs (y.number ∷ []) (x ∷ ys) ∙ sym (ap (put_after y.number x) parts.2 ∙ put_after_cut xs y.number x ys not_before)

    -- on both sides
    pub around_it : (q : EntityBlock) → Read true q → word_at r.blocks.cells q.place.at 1 ≡ number q.number → (z : EntityBlock) → Read false z → word_at r.blocks.cells z.place.at 1 ≡ number z.number → HasNeighbours r s o y.number q z xs ys
    around_it q w v z wz vz = let p = is_beside true q w v in let n = is_beside false z wz vz in
        record { list = parts.2; before = p.0; last = p.1; after = n.0; first = n.1 }

    pub list_less : xs ++ ys ≡ less y.number (f o)
    list_less = sym (ap (less y.number) parts.2 ∙ less_cut xs y.number ys not_before)

    -- where it is at an end, by the neighbour on the other side
    pub around_end : (last : Bool) → y.number ≡ (if last then last_or 0 (f o) else head0 (f o)) → (z : EntityBlock) → Read last z → word_at r.blocks.cells z.place.at 1 ≡ number z.number → HasNeighbours r s o y.number (if last then z else end) (if last then end else z) xs ys
    around_end false is z w v =
        let n = is_beside false z w v in
        let none : pred_from 0 y.number (f o) ≡ 0 = pred_head 0 y.number [] (f o) (sym is) some distinct in
        record { list = parts.2; before = refl; last = sym none ∙ ap (pred_from 0 y.number) parts.2 ∙ pred_cut xs y.number ys some apart; after = n.0; first = n.1 }
    around_end true is z w v =
        let p = is_beside true z w v in
        let none : succ y.number (f o ++ []) ≡ 0 = succ_last y.number (f o) [] (sym is) some (subst AreAllDistinct (sym (append-nil (f o))) distinct) in
        record { list = parts.2; before = p.0; last = p.1; after = refl; first = sym none ∙ ap (succ y.number) (append-nil (f o)) ∙ ap (succ y.number) parts.2 ∙ succ_cut xs y.number ys some apart }

-- what was done, as the definitions say
module _ (st : State) (s : ℕ) (o x : ℤ) (m n : ℕ) (jn : joiner st s x ≡ Ok n) (om : owner st s o ≡ Ok m) where
  at_both : (g : ℕ → ℕ → Result State FaultKind) → and_then (joiner st s x) (λ i. and_then (owner st s o) (g i)) ≡ g n m
  at_both g = ap (λ z. and_then z (λ i. and_then (owner st s o) (g i))) jn ∙ ap (λ z. and_then z (g n)) om

  put_tried : (put : ℕ → List ℕ → List ℕ) (new : State) (r : Result (Unit {0}) FaultKind)
      → MatchResult r (λ _. (is_filed st.lists s n ≡ false) × (new ≡ with_list_of st s m (put n (members_of st.lists s m)))) (λ e. (e ≡ FiledTwice) × (is_filed st.lists s n ≡ true) × (new ≡ st))
      → MatchResult r (λ _. and_then (joiner st s x) (λ i. and_then (owner st s o) (λ k. put_in put st s k i)) ≡ Ok new) (λ e. (and_then (joiner st s x) (λ i. and_then (owner st s o) (λ k. put_in put st s k i)) ≡ Err e) × (new ≡ st))
  put_tried put new (Ok u) h = at_both (λ i k. put_in put st s k i) ∙ rw h.0 (ap Ok (sym h.1))
  put_tried put new (Err e) h = (at_both (λ i k. put_in put st s k i) ∙ rw h.1 (ap Err (sym h.0)), h.2)

  -- at an end
  pub end_tried : (last : Bool) (new : State) (r : Result (Unit {0}) FaultKind)
      → MatchResult r (λ _. (is_filed st.lists s n ≡ false) × (new ≡ with_list_of st s m (before_end last (members_of st.lists s m) ++ n ∷ after_end last (members_of st.lists s m)))) (λ e. (e ≡ FiledTwice) × (is_filed st.lists s n ≡ true) × (new ≡ st))
      → MatchResult r (λ _. (if last then filed_last else filed_first) st s o x ≡ Ok new) (λ e. ((if last then filed_last else filed_first) st s o x ≡ Err e) × (new ≡ st))
  end_tried true new r h = put_tried (λ y l. l ++ y ∷ []) new r h
  end_tried false new r h = put_tried (λ y l. y ∷ l) new r h

  pub not_out : contains (members_of st.lists s m) n ≡ false → and_then (joiner st s x) (λ i. and_then (owner st s o) (λ k. taken_out st s k i)) ≡ Err NotFiled
  not_out h = at_both (λ i k. taken_out st s k i) ∙ rw h refl

  pub out_done : (new : State) → contains (members_of st.lists s m) n ≡ true → new ≡ with_list_of st s m (less n (members_of st.lists s m)) → and_then (joiner st s x) (λ i. and_then (owner st s o) (λ k. taken_out st s k i)) ≡ Ok new
  out_done new h e = at_both (λ i k. taken_out st s k i) ∙ rw h (ap Ok (sym e))

  module _ (y : ℤ) (k : ℕ) (jk : joiner st s y ≡ Ok k) where
    at_all : (g : ℕ → ℕ → ℕ → Result State FaultKind) → and_then (joiner st s x) (λ i. and_then (joiner st s y) (λ z. and_then (owner st s o) (g i z))) ≡ g n k m
    at_all g = ap (λ v. and_then v (λ i. and_then (joiner st s y) (λ z. and_then (owner st s o) (g i z)))) jn ∙ ap (λ v. and_then v (λ z. and_then (owner st s o) (g n z))) jk ∙ ap (λ v. and_then v (g n k)) om

    side : (before : Bool) → (if before then filed_before else filed_after) st s o x y ≡ put_beside (put_by before) st s m n k
    side true = at_all (λ i z a. put_beside put_before st s a i z)
    side false = at_all (λ i z a. put_beside put_after st s a i z)

    module _ (before : Bool) where
      abbrev whole : Result State FaultKind
      whole = (if before then filed_before else filed_after) st s o x y

      pub beside_twice : is_filed st.lists s n ≡ true → whole ≡ Err FiledTwice
      beside_twice h = side before ∙ rw h refl

      pub not_beside : is_filed st.lists s n ≡ false → contains (members_of st.lists s m) k ≡ false → whole ≡ Err NotFiled
      not_beside h i = side before ∙ rw (h, i) refl

      pub beside_done : (new : State) → is_filed st.lists s n ≡ false → contains (members_of st.lists s m) k ≡ true → new ≡ with_list_of st s m (put_by before k n (members_of st.lists s m)) → whole ≡ Ok new
      beside_done new h i e = side before ∙ rw (h, i) (ap Ok (sym e))

-- where one of the references is to none, so does filing fail
pub end_failed : (last : Bool) (st : State) (s : ℕ) (o x : ℤ) (f : FaultKind) → ((g : ℕ → ℕ → Result State FaultKind) → and_then (joiner st s x) (λ n. and_then (owner st s o) (g n)) ≡ Err f)
    → (if last then filed_last else filed_first) st s o x ≡ Err f
end_failed true st s o x f h = h (λ n m. put_in (λ y l. l ++ y ∷ []) st s m n)
end_failed false st s o x f h = h (λ n m. put_in (λ y l. y ∷ l) st s m n)

pub beside_failed : (before : Bool) (st : State) (s : ℕ) (o x y : ℤ) (f : FaultKind)
    → ((g : ℕ → ℕ → ℕ → Result State FaultKind) → and_then (joiner st s x) (λ n. and_then (joiner st s y) (λ k. and_then (owner st s o) (g n k))) ≡ Err f)
    → (if before then filed_before else filed_after) st s o x y ≡ Err f
beside_failed true st s o x y f h = h (λ n k m. put_beside put_before st s m n k)
beside_failed false st s o x y f h = h (λ n k m. put_beside put_after st s m n k)
