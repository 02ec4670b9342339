-- A word is taken out of the store, and put back. Assumes `Logic`.
use Rattle.std.proofs.Common.{◌≡◌, ℕ, zero, suc, ◌+◌, ◌*◌, ◌^◌, ◌<◌, Bool, true, false, cond, List, [], ◌∷◌, length, refl, sym, ap, subst, arith, lit<}
use seplogic.Ra.Ura.{Ura}
use base.Logic.{SProp, ent, sep, wand, via, apply∗, fst∗, snd∗, id⊢, never, guard_i}
use base.Fml.{Fml, fsep, fat, froom, feq}
use base.Fraction.{full_share}
use mir.Syntax.{w64, ty_int, ty_ptr}
use mir.Val.{Val, vint}
use types.Logic.{Logic, sem}
use types.Kit.{Item, Goal, Seq, some, given, pick, learn, ‵, raw, ◌⊛◌, ◌$◌, ◌∵◌, !, qed, by, move, drop, use1, use2, split, frame, assume, fsplit, fjoin, feq_i, feq_l, rewrite, done, flt_l}
use contract.Monad.{fact, fact_i, fact_use}
use denote.Plain.{uint_in, uint_out}
use borrow.Table.OneValue.{part_in, part_out}
use denote.Steps.{only}
use denote.RawPtr.{Ptr, RawPtr, block_ptr, null_ptr, ptr_val, ◌+ₚ◌}
use Rattle.ss_records_blocks.specs.Cells.{Word, blank, number, counter, link, StoredBlock, Cells, same_ptr, words_at, word_of, with_word, put_word, word_at}
use Rattle.ss_records_blocks.specs.Ownership.{word_owns, words_own, deed_owns, block_owns, store_owns}
use Rattle.ss_records_blocks.proofs.Numbers.{same_ptr_eq, length-with_word}

-- where the word k of the block at p lies
abbrev pub word_ptr : Ptr → ℕ → Ptr
word_ptr (block_ptr b o) k = block_ptr b (k * 8 + o)
word_ptr null_ptr k = null_ptr

pub word_ptr-zero : (p : Ptr) → word_ptr p zero ≡ p
word_ptr-zero (block_ptr b o) = ap (block_ptr b) (omega arith)
word_ptr-zero null_ptr = refl

pub word_ptr-suc : (p : Ptr) (k : ℕ) → word_ptr (p +ₚ 8) k ≡ word_ptr p (suc k)
word_ptr-suc (block_ptr b o) k = ap (block_ptr b) (omega arith)
word_ptr-suc null_ptr k = refl

module _ {M : Type 1} {𝓤 : Ura M} (𝓛 : Logic 𝓤) where
  abbrev ⟦◌⟧ : Fml → SProp 𝓤
  ⟦ P ⟧ = sem 𝓛 P

  -- P is Q, and back for Q' it is P'
  abbrev pub Takes : Fml → Fml → Fml → Fml → Type 1
  Takes P Q Q' P' = ent 𝓤 ⟦ P ⟧ (sep 𝓤 ⟦ Q ⟧ (wand 𝓤 ⟦ Q' ⟧ ⟦ P' ⟧))

  beside : (P Q Q' P' R : Fml) → Takes P Q Q' P' → Takes (fsep P R) Q Q' (fsep P' R)
  beside P Q Q' P' R h = qed 𝓛 (‵ (fsep P R) ∷ []) ∵ fsplit ! $ use1 𝓛 (‵ Q ⊛ raw (wand 𝓤 ⟦ Q' ⟧ ⟦ P' ⟧)) h $ split ! $ frame ! $
      assume ! (‵ Q') $ move ! (0 ∷ 1 ∷ []) $ use2 𝓛 (‵ P') (apply∗ 𝓤 ⟦ Q' ⟧ ⟦ P' ⟧) $ fjoin ! $ done !

  after : (P Q Q' P' R : Fml) → Takes P Q Q' P' → Takes (fsep R P) Q Q' (fsep R P')
  after P Q Q' P' R h = qed 𝓛 (‵ (fsep R P) ∷ []) ∵ fsplit ! $ move ! (1 ∷ []) $ use1 𝓛 (‵ Q ⊛ raw (wand 𝓤 ⟦ Q' ⟧ ⟦ P' ⟧)) h $ split ! $ frame ! $
      assume ! (‵ Q') $ move ! (0 ∷ 1 ∷ []) $ use2 𝓛 (‵ P') (apply∗ 𝓤 ⟦ Q' ⟧ ⟦ P' ⟧) $ move ! (1 ∷ 0 ∷ []) $ fjoin ! $ done !

  here : (P Q R : Fml) → Takes (fsep P R) P Q (fsep Q R)
  here P Q R = qed 𝓛 (‵ (fsep P R) ∷ []) ∵ fsplit ! $ frame ! $ assume ! (‵ Q) $ fjoin ! $ done !

  words_take : (ws : List Word) (p : Ptr) (k : ℕ) (x : Word) → k < length ws → Takes (words_own p ws) (word_owns (word_ptr p k) (word_of ws k)) (word_owns (word_ptr p k) x) (words_own p (with_word ws k x))
  words_take [] p k x inside = absurd (omega (arith, inside))
  words_take (w ∷ ws) p zero x inside = subst (λ (q : Ptr). Takes (words_own p (w ∷ ws)) (word_owns q w) (word_owns q x) (words_own p (x ∷ ws))) (sym (word_ptr-zero p))
      (here (word_owns p w) (word_owns p x) (words_own (p +ₚ 8) ws))
  words_take (w ∷ ws) p (suc k) x inside =
      let q : Ptr = word_ptr (p +ₚ 8) k in
      subst (λ (q : Ptr). Takes (words_own p (w ∷ ws)) (word_owns q (word_of ws k)) (word_owns q x) (words_own p (w ∷ with_word ws k x))) (word_ptr-suc p k)
      (after (words_own (p +ₚ 8) ws) (word_owns q (word_of ws k)) (word_owns q x) (words_own (p +ₚ 8) (with_word ws k x)) (word_owns p w) (words_take ws (p +ₚ 8) k x (omega arith)))

  block_take : (c : StoredBlock) (k : ℕ) (x : Word) → k < length c.1 → Takes (block_owns c) (word_owns (word_ptr c.0 k) (word_of c.1 k)) (word_owns (word_ptr c.0 k) x) (block_owns (c.0, with_word c.1 k x))
  block_take c k x inside =
      subst (λ (n : ℕ). Takes (block_owns c) (word_owns (word_ptr c.0 k) (word_of c.1 k)) (word_owns (word_ptr c.0 k) x) (fsep (words_own c.0 (with_word c.1 k x)) (deed_owns c.0 n))) (sym (length-with_word c.1 k x))
      (beside (words_own c.0 c.1) (word_owns (word_ptr c.0 k) (word_of c.1 k)) (word_owns (word_ptr c.0 k) x) (words_own c.0 (with_word c.1 k x)) (deed_owns c.0 (length c.1)) (words_take c.1 c.0 k x inside))

  pub store_take : (cs : Cells) (p : Ptr) (k : ℕ) (x : Word) → k < length (words_at cs p) → Takes (store_owns cs) (word_owns (word_ptr p k) (word_at cs p k)) (word_owns (word_ptr p k) x) (store_owns (put_word cs p k x))
  store_take [] p k x = λ inside. absurd (omega (arith, inside))
  store_take (c ∷ cs) p k x = elim (same_ptr c.0 p) as (λ y. (y ≡ true → c.0 ≡ p) → k < length (cond y c.1 (words_at cs p)) →
      Takes (store_owns (c ∷ cs)) (word_owns (word_ptr p k) (word_of (cond y c.1 (words_at cs p)) k)) (word_owns (word_ptr p k) x) (store_owns (cond y ((c.0, with_word c.1 k x) ∷ cs) (c ∷ put_word cs p k x)))) [
        | true ↦ λ is inside. subst (λ (q : Ptr). Takes (store_owns (c ∷ cs)) (word_owns (word_ptr q k) (word_of c.1 k)) (word_owns (word_ptr q k) x) (store_owns ((c.0, with_word c.1 k x) ∷ cs))) (is refl)
            (beside (block_owns c) (word_owns (word_ptr c.0 k) (word_of c.1 k)) (word_owns (word_ptr c.0 k) x) (block_owns (c.0, with_word c.1 k x)) (store_owns cs) (block_take c k x inside))
        | false ↦ λ is inside. after (store_owns cs) (word_owns (word_ptr p k) (word_at cs p k)) (word_owns (word_ptr p k) x) (store_owns (put_word cs p k x)) (block_owns c) (store_take cs p k x inside)
      ] (same_ptr_eq c.0 p)

  pub store_bound : (cs : Cells) (p : Ptr) → ent 𝓤 ⟦ store_owns cs ⟧ (fact 𝓤 (length (words_at cs p) * 8 < 2 ^ 63))
  store_bound [] p = fact_i 𝓤 (0 * 8 < 2 ^ 63) _ (lit< tt)
  store_bound (c ∷ cs) p = elim (same_ptr c.0 p) as (λ y. ent 𝓤 ⟦ store_owns (c ∷ cs) ⟧ (fact 𝓤 (length (cond y c.1 (words_at cs p)) * 8 < 2 ^ 63))) [
    | true ↦ qed 𝓛 (‵ (store_owns (c ∷ cs)) ∷ []) ∵ fsplit ! $ fsplit ! $ move ! (1 ∷ []) $ fsplit ! $ move ! (1 ∷ []) $ flt_l ! (λ small. by ! (fact_i 𝓤 (length c.1 * 8 < 2 ^ 63) _ small))
    | false ↦ via 𝓤 ⟦ store_owns cs ⟧ (snd∗ 𝓤 ⟦ block_owns c ⟧ ⟦ store_owns cs ⟧) (store_bound cs p)
  ]

  pub null_word : (w : Word) → ent 𝓤 ⟦ word_owns null_ptr w ⟧ (never 𝓤)
  null_word blank = id⊢ 𝓤 (never 𝓤)
  null_word (number n) = id⊢ 𝓤 (never 𝓤)
  null_word (counter n) = id⊢ 𝓤 (never 𝓤)
  null_word (link q) = id⊢ 𝓤 (never 𝓤)

  -- a word is room, whatever it holds
  pub word_room : (w : Word) (b o : ℕ) → ent 𝓤 ⟦ word_owns (block_ptr b o) w ⟧ ⟦ froom (ty_int w64) b o ⟧
  word_room blank b o = id⊢ 𝓤 _
  word_room (counter n) b o = via 𝓤 ⟦ fat full_share (ty_int w64) b o (vint w64 n) ⟧ (uint_out 𝓛 full_share w64 n b o) (𝓛.laws.at_room (ty_int w64) b o (vint w64 n))
  word_room (number n) b o = via 𝓤 ⟦ fat full_share (ty_int w64) b o (vint w64 n) ⟧ (uint_out 𝓛 full_share w64 n b o) (𝓛.laws.at_room (ty_int w64) b o (vint w64 n))
  word_room (link q) b o =
      qed 𝓛 (‵ (word_owns (block_ptr b o) (link q)) ∷ []) ∵
      use1 𝓛 (some (λ (v : Val). ‵ (fat full_share ty_ptr b o v) ⊛ ‵ (RawPtr.own_val q (v ∷ [])))) (part_out 𝓛 RawPtr refl full_share q b o) $ pick ! (λ v. split ! $ move ! (1 ∷ []) $ drop ! $
      use1 𝓛 (‵ (froom ty_ptr b o)) (𝓛.laws.at_room ty_ptr b o v) $
      use1 𝓛 (‵ (froom (ty_int w64) b o) ⊛ raw (wand 𝓤 ⟦ froom (ty_int w64) b o ⟧ ⟦ froom ty_ptr b o ⟧)) (𝓛.laws.room_as ty_ptr (ty_int w64) b o refl tt) $ split ! $ move ! (1 ∷ []) $ drop ! $ done !)

  -- a number in memory is a word, be it a number or a count
  pub value_in : (counts : Bool) (x b o : ℕ) → ent 𝓤 ⟦ fat full_share (ty_int w64) b o (vint w64 x) ⟧ ⟦ word_owns (block_ptr b o) (cond counts (counter x) (number x)) ⟧
  value_in true x b o = uint_in 𝓛 full_share w64 x b o
  value_in false x b o = uint_in 𝓛 full_share w64 x b o

  pub link_out : (q : Ptr) (b o : ℕ) → ent 𝓤 ⟦ word_owns (block_ptr b o) (link q) ⟧ ⟦ fat full_share ty_ptr b o (ptr_val q) ⟧
  link_out q b o =
      qed 𝓛 (‵ (word_owns (block_ptr b o) (link q)) ∷ []) ∵
      use1 𝓛 (some (λ (v : Val). ‵ (fat full_share ty_ptr b o v) ⊛ ‵ (feq (List Val) (v ∷ []) (ptr_val q ∷ [])))) (part_out 𝓛 RawPtr refl full_share q b o) $ pick ! (λ v. split ! $ move ! (1 ∷ []) $ feq_l ! (λ e.
      rewrite ! 0 (λ (w : Val). ‵ (fat full_share ty_ptr b o w)) (ap only e) refl $ done !))

  pub link_in : (q : Ptr) (b o : ℕ) → ent 𝓤 ⟦ fat full_share ty_ptr b o (ptr_val q) ⟧ ⟦ word_owns (block_ptr b o) (link q) ⟧
  link_in q b o =
      qed 𝓛 (‵ (fat full_share ty_ptr b o (ptr_val q)) ∷ []) ∵
      feq_i ! (List Val) (ptr_val q ∷ []) (ptr_val q ∷ []) refl $ move ! (1 ∷ 0 ∷ []) $ use2 𝓛 (‵ (word_owns (block_ptr b o) (link q))) (part_in 𝓛 RawPtr refl full_share q b o (ptr_val q)) $ done !

  pub room_pointer : (b o : ℕ) → ent 𝓤 ⟦ froom (ty_int w64) b o ⟧ ⟦ froom ty_ptr b o ⟧
  room_pointer b o = via 𝓤 (sep 𝓤 ⟦ froom ty_ptr b o ⟧ (wand 𝓤 ⟦ froom ty_ptr b o ⟧ ⟦ froom (ty_int w64) b o ⟧)) (𝓛.laws.room_as (ty_int w64) ty_ptr b o refl tt) (fst∗ 𝓤 ⟦ froom ty_ptr b o ⟧ (wand 𝓤 ⟦ froom ty_ptr b o ⟧ ⟦ froom (ty_int w64) b o ⟧))

module _ {M : Type 1} {𝓤 : Ura M} {𝓛 : Logic 𝓤} {K : Type 0} {Γ : List (Item 𝓤)} {G : Goal 𝓤 𝓛.H} where
  -- a block is not too large
  pub store_knows : K → (cs : Cells) (p : Ptr) → (length (words_at cs p) * 8 < 2 ^ 63 → Seq K 𝓛 (‵ (store_owns cs) ∷ Γ) G) → Seq K 𝓛 (‵ (store_owns cs) ∷ Γ) G
  store_knows t cs p k =
      let φ : Type 0 = length (words_at cs p) * 8 < 2 ^ 63 in
      use1 𝓛 (given φ (‵ (store_owns cs))) (fact_use 𝓤 φ (store_bound 𝓛 cs p) (λ x. guard_i 𝓤 φ (sem 𝓛 (store_owns cs)) x)) $ learn t k
