-- How many entities there are, the heap at first, and the blocks at the end.
use Rattle.std.proofs.Common.{◌≡◌, ℕ, zero, suc, ◌+◌, ◌<◌, ◌≤◌, List, [], ◌∷◌, map, length, drop, slice_get, Option, Some, None, inl, inr, refl, sym, ap, subst, ◌∙◌, arith}
use Rattle.ss_records_entities.proofs.Common.{blanks, block_words, BlockPlace, blocks_without, Cells, Class, class_in_words, ClassLayout, Directory, in_page, IsListedAt, IsMade, IsSystemLaid, Layout, length-blanks, listed, living_count, lying, Made, Numbers, permanent_count, record_at, record_of, records_at, replicate, row_in, System, without_block, words_at, words_new, words_without}
use denote.RawPtr.{Ptr}
use Rattle.ss_records_words.specs.Kept.{ArePartsKept, IsSmall, state_of, AreRowsHeld}
use Rattle.ss_world.specs.State.{Members, not_made as unmade, living_numbers, made_entities, living_records}
use Rattle.std.proofs.lemmas.List.{length-map, length-replicate, nil_from_length}
use Rattle.ss_records_entities.proofs.Destroys.{not_made}
use Rattle.ss_records_entities.proofs.NamesGone.{name_first}

pub numbers_are : (l : Layout) (cs : Cells) (d : Numbers) → living_numbers (map (record_at l cs) d) ≡ living_count d
numbers_are l cs [] = refl
numbers_are l cs (None ∷ ps) = numbers_are l cs ps
numbers_are l cs (Some p ∷ ps) = ap suc (numbers_are l cs ps)

made_are : (l : Layout) (cs : Cells) (ms : Made) → made_entities (map (records_at l cs) ms) ≡ permanent_count ms
made_are l cs [] = refl
made_are l cs (None ∷ ms) = made_are l cs ms
made_are l cs (Some ps ∷ ms) = omega (arith, length-map ps (λ (p : BlockPlace). record_of l (words_at cs p.at)), made_are l cs ms)

pub living_is : (l : Layout) (cs : Cells) (d : Directory) (ms : List Members) → living_count d.numbers + permanent_count d.classes + 1 ≡ living_records (state_of l cs d ms) + 1
living_is l cs d ms = omega (arith, numbers_are l cs d.numbers, made_are l cs d.classes)

-- nothing is listed at first
nothing_made : (n c : ℕ) (ps : List BlockPlace) → slice_get (replicate n None) c ≡ Some (Some ps) → ⊥
nothing_made zero c ps h = cc
nothing_made (suc n) zero ps h = cc
nothing_made (suc n) (suc c) ps h = nothing_made n c ps h

none_counted : (n : ℕ) → permanent_count (replicate n None) ≡ 0
none_counted zero = refl
none_counted (suc n) = none_counted n

none_listed : (n i : ℕ) (p : BlockPlace) → IsListedAt (lying [] (replicate n None)) i p → ⊥
none_listed n i p (inl h) = cc
none_listed n i p (inr h) = nothing_made n h.0 h.1 h.2

-- no class is made
pub none_made : (l : Layout) (cs : Cells) (cl : List ClassLayout) → map (records_at l cs) (replicate (length cl) None) ≡ map unmade cl
none_made l cs [] = refl
none_made l cs (k ∷ ks) = ap (λ rs. None ∷ rs) (none_made l cs ks)

pub kept_first : (l : Layout) (ds : Cells) (q : BlockPlace) (w : ℕ) → IsSmall l → w ≡ block_words l System → IsSystemLaid l ((q.at, blanks w) ∷ []) ds q.at → ArePartsKept l ds q.at (lying [] (replicate (length l.classes) None)) []
kept_first l ds q w small size laid = record {
  small = small;
  issued = omega arith;
  width = length-replicate (length l.classes) None;
  system = laid.written.size ∙ ap length (words_new [] q.at (blanks w)) ∙ length-blanks w ∙ size;
  end = laid.its_number;
  kinds = λ i p h. cc;
  made = λ c ps h. absurd (nothing_made (length l.classes) c ps h);
  classes = λ i p h. absurd (none_listed (length l.classes) i p h);
  formed = λ i p h. absurd (none_listed (length l.classes) i p h);
  apart = λ i j p r h k z. absurd (none_listed (length l.classes) i p h);
  off_system = λ i p h. absurd (none_listed (length l.classes) i p h);
  counted = omega (arith, laid.written.count, none_counted (length l.classes));
  names = λ s t g. name_first l ds q.at ((q.at, blanks w) ∷ []) laid (lying [] (replicate (length l.classes) None)) (λ c i p h. none_listed (length l.classes) i p (listed (lying [] (replicate (length l.classes) None)) c i p h)) s t g;
}

pub living_drop : (d : Numbers) (i : ℕ) → length d ≤ i → living_count (drop i d) ≡ 0
living_drop [] zero h = refl
living_drop [] (suc i) h = refl
living_drop (z ∷ zs) zero h = absurd (omega (arith, h))
living_drop (z ∷ zs) (suc i) h = living_drop zs i (omega (arith, h))

pub living_step : (d : Numbers) (i : ℕ) (p : BlockPlace) → slice_get d i ≡ Some (Some p) → living_count (drop i d) ≡ living_count (drop (i + 1) d) + 1
living_step [] i p h = cc
living_step (None ∷ zs) zero p h = cc
living_step (Some q ∷ zs) zero p h = omega arith
living_step (z ∷ zs) (suc i) p h = let q : suc i + 1 ≡ suc (i + 1) = omega arith in rw q (living_step zs i p h)

pub made_drop : (ms : Made) (c : ℕ) → length ms ≤ c → permanent_count (drop c ms) ≡ 0
made_drop [] zero h = refl
made_drop [] (suc c) h = refl
made_drop (m ∷ ms) zero h = absurd (omega (arith, h))
made_drop (m ∷ ms) (suc c) h = made_drop ms c (omega (arith, h))

pub made_step : (ms : Made) (c : ℕ) (o : Option (List BlockPlace)) → slice_get ms c ≡ Some o → permanent_count (drop c ms) ≡ length (row_in (Some o)) + permanent_count (drop (c + 1) ms)
made_step [] c o h = cc
made_step (None ∷ ms) zero None h = omega arith
made_step (None ∷ ms) zero (Some ps) h = cc
made_step (Some qs ∷ ms) zero None h = cc
made_step (Some qs ∷ ms) zero (Some ps) h = let e : qs ≡ ps = cc in omega (arith, ap length e)
made_step (m ∷ ms) (suc c) o h = let q : suc c + 1 ≡ suc (c + 1) = omega arith in rw q (made_step ms c o h)

pub nothing_left : (cs : Cells) (p : Ptr) → length cs ≡ 1 → 0 < length (words_at cs p) → without_block cs p ≡ []
nothing_left cs p h k = nil_from_length (without_block cs p) (omega (arith, blocks_without cs p k, h))

-- the blocks of the permanent entities, where the others were given back
pub rows_held : (l : Layout) (cs bs : Cells) (sys : Ptr) (d : Directory) (ms : List Members) → ArePartsKept l cs sys d ms → ((i : ℕ) (p : BlockPlace) → IsMade d.classes i p → words_at bs p.at ≡ words_at cs p.at) → length bs ≡ permanent_count d.classes + 1 → AreRowsHeld l bs sys d.classes
rows_held l cs bs sys d ms K same count = record {
  width = K.width;
  size = λ c i ps p m h. let x : IsMade d.classes i p = (c, ps, m, h) in ap length (same i p x) ∙ (K.formed i p (inr x)).size ∙ ap (λ b. block_words l (Class b)) ((K.made c ps m).class i p h);
  apart = λ c b i j ps qs p q m n h k z. (
    K.apart i j p q (inr (c, ps, m, h)) (inr (b, qs, n, k)) z,
    sym ((K.made c ps m).class i p h) ∙ ap (λ (r : Ptr). class_in_words (words_at cs r)) z ∙ (K.made b qs n).class j q k,
  );
  off_system = λ i p h. K.off_system i p (inr h);
  counted = count;
}

-- what is left where the blocks of the numbers below i were given back
pub record Left (cs bs : Cells) (sys : Ptr) (d : Directory) (i : ℕ) : Type 0 where
  pub kept : (j : ℕ) (p : BlockPlace) → i ≤ j → slice_get d.numbers j ≡ Some (Some p) → words_at bs p.at ≡ words_at cs p.at
  pub made : (j : ℕ) (p : BlockPlace) → IsMade d.classes j p → words_at bs p.at ≡ words_at cs p.at
  pub system : words_at bs sys ≡ words_at cs sys
  pub count : length bs ≡ living_count (drop i d.numbers) + permanent_count d.classes + 1

-- numbers that are not living have no block
pub living_past : (d : Numbers) (n i : ℕ) → ((j : ℕ) → i ≤ j → j < i + n → in_page (slice_get d j) ≡ None) → living_count (drop i d) ≡ living_count (drop (i + n) d)
living_past d zero i h = let e : i + zero ≡ i = omega arith in rw e refl
living_past d (suc n) i h =
    let e : i + suc n ≡ i + n + 1 = omega arith in
    rw e (living_past d n i (λ j a b. h j a (omega (arith, b))) ∙ one d (i + n) (h (i + n) (omega arith) (omega arith))) where
      one : (ds : Numbers) (k : ℕ) → in_page (slice_get ds k) ≡ None → living_count (drop k ds) ≡ living_count (drop (k + 1) ds)
      one [] zero z = refl
      one [] (suc k) z = let q : suc k + 1 ≡ suc (k + 1) = omega arith in rw q refl
      one (None ∷ zs) zero z = refl
      one (Some p ∷ zs) zero z = cc
      one (y ∷ zs) (suc k) z = let q : suc k + 1 ≡ suc (k + 1) = omega arith in rw q (one zs k z)

pub is_there : (o : Option (Option BlockPlace)) (p : BlockPlace) → Some p ≡ in_page o → o ≡ Some (Some p)
is_there None p e = cc
is_there (Some q) p e = ap Some (sym e)

pub left_past : (cs bs : Cells) (sys : Ptr) (d : Directory) (i n m : ℕ) → i + n ≡ m → ((j : ℕ) → i ≤ j → j < m → in_page (slice_get d.numbers j) ≡ None) → Left cs bs sys d i → Left cs bs sys d m
left_past cs bs sys d i n m e none h = record {
  kept = λ j q a g. h.kept j q (omega (arith, a, e)) g;
  made = h.made;
  system = h.system;
  count = h.count ∙ ap (λ k. k + permanent_count d.classes + 1) (living_past d.numbers n i (λ j a b. none j a (omega (arith, b, e))) ∙ ap (λ k. living_count (drop k d.numbers)) e);
}

-- one more block of a number is given back
module _ (l : Layout) (cs bs : Cells) (sys : Ptr) (d : Directory) (ms : List Members) (K : ArePartsKept l cs sys d ms) (i : ℕ) (p : BlockPlace) (g : slice_get d.numbers i ≡ Some (Some p)) (kept : (j : ℕ) (q : BlockPlace) → i ≤ j → slice_get d.numbers j ≡ Some (Some q) → words_at bs q.at ≡ words_at cs q.at) where
  pub still_here : words_at bs p.at ≡ words_at cs p.at
  still_here = kept i p (omega arith) g

  pub kept_rest : (j : ℕ) (q : BlockPlace) → i + 1 ≤ j → slice_get d.numbers j ≡ Some (Some q) → words_at (without_block bs p.at) q.at ≡ words_at cs q.at
  kept_rest j q h k = words_without bs p.at q.at (λ z. let e = K.apart i j p q (inl g) (inl k) z in absurd (omega (arith, h, e))) ∙ kept j q (omega (arith, h)) k

  pub kept_system : words_at bs sys ≡ words_at cs sys → words_at (without_block bs p.at) sys ≡ words_at cs sys
  kept_system h = words_without bs p.at sys (K.off_system i p (inl g)) ∙ h

  pub kept_made : ((j : ℕ) (q : BlockPlace) → IsMade d.classes j q → words_at bs q.at ≡ words_at cs q.at) → (j : ℕ) (q : BlockPlace) → IsMade d.classes j q → words_at (without_block bs p.at) q.at ≡ words_at cs q.at
  kept_made h j q m = words_without bs p.at q.at (not_made l cs sys d ms K i p g j q m) ∙ h j q m

  pub count_rest : length bs ≡ living_count (drop i d.numbers) + permanent_count d.classes + 1 → length (without_block bs p.at) ≡ living_count (drop (i + 1) d.numbers) + permanent_count d.classes + 1
  count_rest h = omega (arith, h, living_step d.numbers i p g, blocks_without bs p.at (subst (λ us. 0 < length us) (sym still_here) (omega (arith, (K.formed i p (inl g)).size))))

  pub left_given : Left cs bs sys d i → Left cs (without_block bs p.at) sys d (i + 1)
  left_given h = record { kept = kept_rest; made = kept_made h.made; system = kept_system h.system; count = count_rest h.count }
