-- Blocks that are placed and given back together.
use Rattle.std.proofs.Common.{◌≡◌, ℕ, zero, suc, ◌+◌, ◌<◌, ◌≤◌, List, [], ◌∷◌, ◌++◌, length, slice_get, Some, sym, ap, subst, ◌∙◌, arith, length-append}
pub use Rattle.std.proofs.lemmas.Option.{slice_get-get_or as place_at}
use Rattle.std.proofs.lemmas.Option.{same_Some}
use denote.RawPtr.{Ptr}
use Rattle.ss_records_blocks.specs.declared.store.BlockPlace.{BlockPlace}
use Rattle.ss_records_blocks.specs.Cells.{Cells, words_at, blanks, without_block}
use Rattle.ss_records_blocks.specs.Writes.{HasNoneAt, ArePlaced}
use Rattle.ss_records_blocks.proofs.Same.{by_same}
use Rattle.ss_records_blocks.proofs.Entries.{get_end, get_front, get_inside}
use Rattle.ss_records_blocks.proofs.Puts.{words_new, words_old, words_without}
use Rattle.ss_records_blocks.proofs.Count.{blocks_without}

abbrev pub AreApart : List BlockPlace → Type 0
AreApart ps = (i j : ℕ) (p q : BlockPlace) → slice_get ps i ≡ Some p → slice_get ps j ≡ Some q → p.at ≡ q.at → i ≡ j

-- the first n blocks at these places are given back
pub record Backed (cs bs : Cells) (ps : List BlockPlace) (n : ℕ) : Type 0 where
  pub rest : (j : ℕ) (p : BlockPlace) → n ≤ j → slice_get ps j ≡ Some p → words_at bs p.at ≡ words_at cs p.at
  pub others : (q : Ptr) → HasNoneAt ps q → words_at bs q ≡ words_at cs q
  pub count : length bs + n ≡ length cs

pub backed_more : (cs bs : Cells) (ps : List BlockPlace) (n : ℕ) (p : BlockPlace) → slice_get ps n ≡ Some p → AreApart ps → 0 < length (words_at cs p.at) → Backed cs bs ps n → Backed cs (without_block bs p.at) ps (n + 1)
backed_more cs bs ps n p g apart some b = record {
  rest = λ j q h k. words_without bs p.at q.at (λ z. past n j h (apart n j p q g k z)) ∙ b.rest j q (omega (arith, h)) k;
  others = λ q h. words_without bs p.at q (λ z. h n p g z) ∙ b.others q h;
  count = omega (arith, b.count, blocks_without bs p.at (subst (λ us. 0 < length us) (sym (b.rest n p (omega arith) g)) some));
} where
  past : (x y : ℕ) → x + 1 ≤ y → x ≡ y → ⊥
  past x y h e = omega (arith, h, e)

not_blank : (w : ℕ) → 0 < w → blanks w ≡ [] → ⊥
not_blank zero h e = omega (arith, h)
not_blank (suc n) h e = cc

pub placed_more : (cs ds : Cells) (w : ℕ) (ps : List BlockPlace) (p : BlockPlace) → ArePlaced cs ds w ps → words_at ds p.at ≡ [] → 0 < w → ArePlaced cs ((p.at, blanks w) ∷ ds) w (ps ++ p ∷ [])
placed_more cs ds w ps p b free some = record {
  fresh = λ i q h. by_place i q h (λ x y. subst (λ (r : BlockPlace). words_at cs r.at ≡ []) y (sym (b.others p.at off) ∙ free)) (λ x. b.fresh i q x);
  blank = λ i q h. by_place i q h
      (λ x y. subst (λ (r : BlockPlace). words_at ((p.at, blanks w) ∷ ds) r.at ≡ blanks w) y (words_new ds p.at (blanks w)))
      (λ x. words_old ds p.at q.at (blanks w) (λ z. off i q x (sym z)) ∙ b.blank i q x);
  apart = λ i j q r h k z. by_place i q h
      (λ x y. by_place j r k (λ x' y'. x ∙ sym x') (λ x'. absurd (off j r x' (sym z ∙ ap (λ (o : BlockPlace). o.at) (sym y)))))
      (λ x. by_place j r k (λ x' y'. absurd (off i q x (z ∙ ap (λ (o : BlockPlace). o.at) (sym y')))) (λ x'. b.apart i j q r x x' z));
  others = λ q h. words_old ds p.at q (blanks w) (λ z. h (length ps) p (get_end ps p) z) ∙ b.others q (λ i r g. h i r (get_front ps (p ∷ []) i (get_inside ps i r g) ∙ g));
  count = omega (arith, b.count, length-append ps (p ∷ []));
} where
  off : HasNoneAt ps p.at
  off i q h z = not_blank w some (sym (b.blank i q h) ∙ ap (words_at ds) z ∙ free)

  by_place : {P : Type 0} (i : ℕ) (q : BlockPlace) → slice_get (ps ++ p ∷ []) i ≡ Some q → ((i ≡ length ps) → (p ≡ q) → P) → (slice_get ps i ≡ Some q → P) → P
  by_place i q h new was = by_same i (length ps)
      (λ _ e. new e (same_Some p q (sym (get_end ps p) ∙ ap (slice_get (ps ++ p ∷ [])) (sym e) ∙ h)))
      (λ _ n. was (sym (get_front ps (p ∷ []) i (omega (arith, n, get_inside (ps ++ p ∷ []) i q h, length-append ps (p ∷ [])))) ∙ h))
