-- Walking along a set past the members that do not rank after a number.
use Rattle.std.proofs.Common.{◌≡◌, ℕ, suc, inl, inr, ◌+◌, ◌*◌, ◌^◌, ◌<◌, Bool, true, false, List, [], ◌∷◌, ◌++◌, length, slice_get, Some, Ok, refl, sym, ap, subst, ◌∙◌, arith, append_assoc, append-nil}
use Rattle.ss_records_entities.proofs.Common.{IsEntityPlace, AreAllDistinct, AreNeighbours, BlockPlace, CanJoin, class_at_place, entity_at, EntityBlock, entry_of, get_there, HasLink, head0, int_cmp, Integer, IsInList, IsInPlace, IsKept, IsListedAt, IsNumber, link, listed, match_ordering, member_base, member_class, members_of, Mode, modes_of, not, number, place_in_record, places, pos, Records, SetLayout, state, succ, Value, value_at, value_in, Whole, word_at, ℤ}
use denote.RawPtr.{Ptr}
use Rattle.ss_base.specs.Order.{value_cmp}
use Rattle.ss_records_entities.specs.Passing.{ranks_past, first_where, before_where}
use Rattle.ss_records_words.proofs.Splice.{length_splice, succ_cut, head_in}
use Rattle.ss_world.specs.Disciplines.{value_or_zero}
use Rattle.ss_records_entities.proofs.Assigns.{found_first, found_second, found_value}
use Rattle.ss_records_entities.proofs.Leading.{To, leads, next_to, small_of, count_small}
use Rattle.ss_records_entities.proofs.Apart.{entity_is}
use Rattle.ss_records_entities.proofs.Cuts.{lies_there}
use Rattle.ss_records_entities.proofs.Ends.{joins_it}

-- a test at the head of a list
module _ (t : ℕ → Bool) (y : ℕ) (ys : List ℕ) where
  pub stops : t y ≡ true → (first_where t (y ∷ ys) ≡ y) × (before_where t (y ∷ ys) ≡ 0)
  stops e = (rw e refl, rw e refl)

  pub passes : t y ≡ false → (first_where t (y ∷ ys) ≡ first_where t ys) × (before_where t (y ∷ ys) ≡ suc (before_where t ys))
  passes e = (rw e refl, rw e refl)

headed : (l : List ℕ) (n : ℕ) → n ≡ head0 l → (n ≡ 0 → ⊥) → (zs : List ℕ) × (l ≡ n ∷ zs)
headed [] n e h = absurd (h e)
headed (z ∷ zs) n e h = (zs, ap (λ y. y ∷ zs) (sym e))

none_first : (t : ℕ → Bool) (l : List ℕ) (n : ℕ) → n ≡ head0 l → n ≡ 0 → ((x : ℕ) → IsInList x l → 0 ≡ x → ⊥) → l ≡ []
none_first t [] n e h some = refl
none_first t (z ∷ zs) n e h some = absurd (some z (inl refl) (sym h ∙ e))

-- the value of an attribute of a member
module _ (r : Records) (K : IsKept r) (s : ℕ) (q : EntityBlock) (j : CanJoin r s q) (f k : ℕ) (start : k ≡ 2 + 2 * f) (m : Mode) (mode : slice_get (modes_of r.layout (member_class r.layout s)) f ≡ Some m) where
  abbrev class : ℕ
  class = member_class r.layout s

  place : (i : ℕ) × (p : BlockPlace) × (q.number ≡ suc i) × (IsListedAt (places r) i p) × (class_at_place r.blocks.cells p ≡ class) × (q.place.at ≡ p.at)
  place = let a = entry_of r.blocks.cells (places r) class q.number j.is in
      (a.0, a.1, a.2, listed (places r) class a.0 a.1 a.3, a.4, j.lies ∙ ap (entity_at r.system.at (places r) class) a.2 ∙ ap place_in_record a.3)

  its_entity : IsEntityPlace r class (pos q.number) place.1
  its_entity = record {
    index = place.0;
    is = ap pos place.2;
    entry = place.3;
    class = place.4;
    entity = entity_is r.layout r.blocks.cells r.system.at (places r) r.notes.lists K class q.number place.0 place.1 place.2 place.4 place.3;
  }

  pub is_number : IsNumber (word_at r.blocks.cells q.place.at k)
  is_number = subst (λ z. IsNumber (word_at r.blocks.cells z k)) (sym place.5)
      (found_first r K class (pos q.number) place.1 its_entity f k start m mode)

  pub second_is_number : IsNumber (word_at r.blocks.cells q.place.at (k + 1))
  second_is_number = subst (λ z. IsNumber (word_at r.blocks.cells z (k + 1))) (sym place.5)
      (found_second r K class (pos q.number) place.1 its_entity f k start m mode)

  pub its_value : value_in (state r) class f (pos q.number) ≡ Ok (value_at m r.blocks.cells q.place.at k)
  its_value = found_value r K class (pos q.number) place.1 its_entity f k start m mode
      ∙ ap (λ z. Ok (value_at m r.blocks.cells z k)) (sym place.5)

module _ (r : Records) (K : IsKept r) (s : ℕ) (q : EntityBlock) (j : CanJoin r s q) (f k : ℕ) (start : k ≡ 2 + 2 * f) (mode : slice_get (modes_of r.layout (member_class r.layout s)) f ≡ Some Integer) where
  pub test_is : (its own : ℤ) (high : Bool) → Whole its ≡ value_at Integer r.blocks.cells q.place.at k → match_ordering (int_cmp its own) high false (not high) ≡ ranks_past (state r) (member_class r.layout s) f high (Whole own) q.number
  test_is its own high h = ap (λ (w : Value). match_ordering (value_cmp w (Whole own)) high false (not high)) (h ∙ sym (ap value_or_zero (its_value r K s q j f k start Integer mode)))

-- how far a walk along the set s of o has come: it has passed the members xs, and is at the first of ys, or at the end
pub record WalkState (r : Records) (s o : ℕ) (t : ℕ → Bool) (q : EntityBlock) (touches : ℕ) : Type 0 where
  pub xs : List ℕ
  pub ys : List ℕ
  pub list : members_of r.notes.lists s o ≡ xs ++ ys
  pub size : length xs + length ys ≡ length (members_of r.notes.lists s o)
  pub lies : IsInPlace r s q
  pub first : q.number ≡ head0 ys
  pub found : first_where t ys ≡ first_where t (members_of r.notes.lists s o)
  pub passed : length xs + before_where t ys ≡ before_where t (members_of r.notes.lists s o)
  pub touched : touches ≡ length xs + 1

pub at_start : (r : Records) (s o : ℕ) (t : ℕ → Bool) (a q : EntityBlock) (touches : ℕ) → AreNeighbours r s o a q [] (members_of r.notes.lists s o) → touches ≡ 1 → WalkState r s o t q touches
at_start r s o t a q touches w e = record { xs = []; ys = members_of r.notes.lists s o; list = refl; size = omega arith; lies = w.after; first = w.first; found = refl; passed = omega arith; touched = omega (arith, e) }

module _ (r : Records) (K : IsKept r) (s : ℕ) (inside : s < length r.layout.sets) (o : ℕ) (t : ℕ → Bool) (q : EntityBlock) (touches : ℕ) (S : WalkState r s o t q touches) where
  abbrev f : List ℕ
  f = members_of r.notes.lists s o

  abbrev at : ℕ → Ptr
  at = entity_at r.system.at (places r) (get_there r.layout.sets s inside).0.member

  pub few : length f < 2 ^ 62
  few = count_small r.layout r.blocks.cells r.system.at (places r) r.notes.lists K s inside o

  pub room : touches + 1 < 2 ^ 64
  room = omega (arith, few, S.size, S.touched)

  some : (x : ℕ) → IsInList x f → 0 ≡ x → ⊥
  some x h = let y = get_there r.layout.sets s inside in ((K.names s y.0 y.1).members o x h).1

  -- at the end
  module _ (none : q.number ≡ 0) where
    empty : S.ys ≡ []
    empty = none_first t S.ys q.number S.first none (λ x h. some x (subst (IsInList x) (sym S.list) (in_right x S.xs S.ys h))) where
      in_right : (x : ℕ) (xs ys : List ℕ) → IsInList x ys → IsInList x (xs ++ ys)
      in_right x [] ys h = h
      in_right x (z ∷ zs) ys h = inr (in_right x zs ys h)

    pub none_past : first_where t f ≡ 0
    none_past = sym S.found ∙ ap (first_where t) empty

  -- at a member
  module _ (one : q.number ≡ 0 → ⊥) where
    shape : (zs : List ℕ) × (S.ys ≡ q.number ∷ zs)
    shape = headed S.ys q.number S.first one

    list : f ≡ S.xs ++ q.number ∷ shape.0
    list = S.list ∙ ap (λ l. S.xs ++ l) shape.1

    inn : IsInList q.number f
    inn = subst (IsInList q.number) (sym list) (head_in S.xs q.number shape.0)

    pub joins : CanJoin r s q
    joins = joins_it r K s inside o q S.lies inn

    pub small : q.number < 2 ^ 62
    small = small_of r.layout r.blocks.cells r.system.at (places r) r.notes.lists K s inside (member_class r.layout s) q.number (inr joins.is)

    -- that ranks after the number
    module _ (e : t q.number ≡ true) where
      pub it_is : q.number ≡ first_where t f
      it_is = sym (sym S.found ∙ ap (first_where t) shape.1 ∙ (stops t q.number shape.0 e).0)

    -- and is passed
    module _ (b : ℕ) (base : (u : SetLayout) → slice_get r.layout.sets s ≡ Some u → b ≡ member_base r.layout s u) where
      next_there : To r.blocks.cells at q.place.at b (succ q.number f)
      next_there = next_to r.layout r.blocks.cells r.system.at (places r) r.notes.lists K s inside q.place.at q.number joins.lies joins.is b base o inn

      pub next_leads : HasLink r.blocks.cells q.place.at b
      next_leads = leads r.blocks.cells at q.place.at b _ next_there

      pub next_walk : (e : t q.number ≡ false) (z : EntityBlock) (more : ℕ) → word_at r.blocks.cells q.place.at b ≡ link z.place.at → word_at r.blocks.cells z.place.at 1 ≡ number z.number → more ≡ touches + 1 → WalkState r s o t z more
      next_walk e z more w v m =
          let l = lies_there r K s inside q.place.at b _ next_there z w v in
          let y = get_there r.layout.sets s inside in
          let p = passes t q.number shape.0 e in
          let apart = subst AreAllDistinct list ((K.names s y.0 y.1).distinct o) in
          let longer = length_splice S.xs q.number [] in let same = ap length (append-nil S.xs) in
          record {
            xs = S.xs ++ q.number ∷ [];
            ys = shape.0;
            list = list ∙ sym (append_assoc S.xs (q.number ∷ []) shape.0);
            size = omega (arith, longer, same, S.size, ap length shape.1);
            lies = l.0;
            first = l.1 ∙ ap (succ q.number) list ∙ succ_cut S.xs q.number shape.0 (some q.number inn) apart;
            found = sym p.0 ∙ ap (first_where t) (sym shape.1) ∙ S.found;
            passed = omega (arith, longer, same, S.passed, ap (before_where t) shape.1, p.1);
            touched = omega (arith, m, S.touched, longer, same);
          }
