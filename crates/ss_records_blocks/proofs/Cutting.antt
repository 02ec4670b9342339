-- A block is cut into its words, and made of them again. Assumes `Logic`.
use Rattle.std.proofs.Common.{◌≡◌, ℕ, zero, suc, ◌+◌, ◌<◌, true, false, cond, List, [], ◌∷◌, length, refl, sym, subst, arith}
use seplogic.Ra.Ura.{Ura}
use base.Logic.{SProp, ent, sep, via, fst∗, never, never_e}
use base.Fml.{Fml, ftrue, froom}
use mir.Syntax.{w64, ty_int}
use prog.Model.{Model}
use types.Logic.{Logic, sem}
use types.Kit.{Item, Goal, Seq, ‵, raw, ◌⊛◌, ◌$◌, ◌∵◌, !, qed, by, move, keep, drop, use0, use1, use2, split, join, fsplit, fjoin, done, prop, mean}
use contract.Monad.{fact, fact_i, fact_use}
use denote.Steps.{nothing}
use denote.RawPtr.{Ptr, block_ptr, null_ptr}
use Rattle.ss_records_blocks.specs.Cells.{Word, Cells, same_ptr, words_at, without_block, blanks}
use Rattle.ss_records_blocks.specs.Ownership.{word_owns, words_own, block_type, deed_owns, store_owns}
use Rattle.ss_records_blocks.proofs.Numbers.{same_ptr_eq}
use Rattle.ss_records_blocks.proofs.Memory.{word_room, null_word}

module _ {M : Type 1} {𝓤 : Ura M} (𝓛 : Logic 𝓤) where
  abbrev ⟦◌⟧ : Fml → SProp 𝓤
  ⟦ P ⟧ = sem 𝓛 P

  pub block_cut : (n b o : ℕ) → ent 𝓤 ⟦ froom (block_type n) b o ⟧ ⟦ words_own (block_ptr b o) (blanks n) ⟧
  block_cut zero b o = qed 𝓛 (‵ (froom (block_type zero) b o) ∷ []) ∵ drop ! $ nothing ! $ done !
  block_cut (suc n) b o = qed 𝓛 (‵ (froom (block_type (suc n)) b o) ∷ []) ∵
      use1 𝓛 (‵ (froom (ty_int w64) b o) ⊛ ‵ (froom (block_type n) b (o + 8))) (𝓛.laws.room_uncons (ty_int w64) n b o) $ split ! $ move ! (1 ∷ []) $
      use1 𝓛 (‵ (words_own (block_ptr b (o + 8)) (blanks n))) (block_cut n b (o + 8)) $ move ! (1 ∷ 0 ∷ []) $ fjoin ! $ done !

  pub block_glue : (ws : List Word) (b o : ℕ) → ent 𝓤 ⟦ words_own (block_ptr b o) ws ⟧ ⟦ froom (block_type (length ws)) b o ⟧
  block_glue [] b o = qed 𝓛 (‵ ftrue ∷ []) ∵ drop ! $ use0 𝓛 (‵ (froom (block_type zero) b o)) (𝓛.laws.room_nil (ty_int w64) b o) $ done !
  block_glue (w ∷ ws) b o = qed 𝓛 (‵ (words_own (block_ptr b o) (w ∷ ws)) ∷ []) ∵ fsplit ! $
      use1 𝓛 (‵ (froom (ty_int w64) b o)) (word_room 𝓛 w b o) $ move ! (1 ∷ []) $ use1 𝓛 (‵ (froom (block_type (length ws)) b (o + 8))) (block_glue ws b (o + 8)) $
      move ! (1 ∷ 0 ∷ []) $ use2 𝓛 (‵ (froom (block_type (suc (length ws))) b o)) (𝓛.laws.room_cons (ty_int w64) (length ws) b o) $ done !

  -- the block at p leaves the store
  abbrev Leaves : Cells → Ptr → List Word → Cells → Type 1
  Leaves cs p ws ds = ent 𝓤 ⟦ store_owns cs ⟧ (sep 𝓤 ⟦ words_own p ws ⟧ (sep 𝓤 ⟦ deed_owns p (length ws) ⟧ ⟦ store_owns ds ⟧))

  pub store_leave : (cs : Cells) (p : Ptr) → 0 < length (words_at cs p) → Leaves cs p (words_at cs p) (without_block cs p)
  store_leave [] p = λ inside. absurd (omega (arith, inside))
  store_leave (c ∷ cs) p = elim (same_ptr c.0 p) as (λ y. (y ≡ true → c.0 ≡ p) → 0 < length (cond y c.1 (words_at cs p)) → Leaves (c ∷ cs) p (cond y c.1 (words_at cs p)) (cond y cs (c ∷ without_block cs p))) [
    | true ↦ λ is inside. subst (λ (q : Ptr). Leaves (c ∷ cs) q c.1 cs) (is refl)
        (qed 𝓛 (‵ (store_owns (c ∷ cs)) ∷ []) ∵ fsplit ! $ fsplit ! $ move ! (1 ∷ 2 ∷ []) $ join ! $ move ! (1 ∷ 0 ∷ []) $ join ! $ done !)
    | false ↦ λ is inside. qed 𝓛 (‵ (store_owns (c ∷ cs)) ∷ []) ∵ fsplit ! $ move ! (1 ∷ []) $
        use1 𝓛 (‵ (words_own p (words_at cs p)) ⊛ ‵ (deed_owns p (length (words_at cs p))) ⊛ ‵ (store_owns (without_block cs p))) (store_leave cs p inside) $ split ! $ move ! (1 ∷ []) $ split ! $
        move ! (3 ∷ 1 ∷ []) $ fjoin ! $ move ! (1 ∷ 0 ∷ []) $ join ! $ move ! (1 ∷ 0 ∷ []) $ join ! $ done !
  ] (same_ptr_eq c.0 p)

  pub null_words : (ws : List Word) → 0 < length ws → ent 𝓤 ⟦ words_own null_ptr ws ⟧ (never 𝓤)
  null_words [] h = absurd (omega (arith, h))
  null_words (w ∷ ws) h = via 𝓤 ⟦ word_owns null_ptr w ⟧ (fst∗ 𝓤 ⟦ word_owns null_ptr w ⟧ ⟦ words_own null_ptr ws ⟧) (null_word 𝓛 w)

  module _ (𝓜 : Model 𝓤 𝓛.H) where
    crowd : (b o : ℕ) → ent 𝓤 (sep 𝓤 ⟦ froom (ty_int w64) b o ⟧ ⟦ froom (ty_int w64) b o ⟧) (never 𝓤)
    crowd b o = 𝓜.room-room (ty_int w64) (ty_int w64) b o o o (omega arith, omega arith) (omega arith, omega arith)

    occupied : (ws : List Word) (cs : Cells) (b o : ℕ) → ent 𝓤 (sep 𝓤 ⟦ froom (ty_int w64) b o ⟧ ⟦ store_owns ((block_ptr b o, ws) ∷ cs) ⟧) (fact 𝓤 (ws ≡ []))
    occupied [] cs b o = fact_i 𝓤 _ _ refl
    occupied (w ∷ ws) cs b o = via 𝓤 (never 𝓤) (qed 𝓛 (‵ (froom (ty_int w64) b o) ∷ ‵ (store_owns ((block_ptr b o, w ∷ ws) ∷ cs)) ∷ []) ∵
        move ! (1 ∷ []) $ fsplit ! $ fsplit ! $ fsplit ! $ use1 𝓛 (‵ (froom (ty_int w64) b o)) (word_room 𝓛 w b o) $ keep ! (0 ∷ 4 ∷ []) $ by ! (crowd b o)) (never_e 𝓤 _)

    -- where there is room, there is no block yet
    pub store_fresh : (cs : Cells) (b o : ℕ) → ent 𝓤 (sep 𝓤 ⟦ froom (ty_int w64) b o ⟧ ⟦ store_owns cs ⟧) (fact 𝓤 (words_at cs (block_ptr b o) ≡ []))
    store_fresh [] b o = fact_i 𝓤 _ _ refl
    store_fresh ((p, ws) ∷ cs) b o =
        elim (same_ptr p (block_ptr b o)) as (λ y. (y ≡ true → p ≡ block_ptr b o) → ent 𝓤 (sep 𝓤 ⟦ froom (ty_int w64) b o ⟧ ⟦ store_owns ((p, ws) ∷ cs) ⟧) (fact 𝓤 (cond y ws (words_at cs (block_ptr b o)) ≡ []))) [
          | true ↦ λ is. subst (λ (q : Ptr). ent 𝓤 (sep 𝓤 ⟦ froom (ty_int w64) b o ⟧ ⟦ store_owns ((q, ws) ∷ cs) ⟧) (fact 𝓤 (ws ≡ []))) (sym (is refl)) (occupied ws cs b o)
          | false ↦ λ is. qed 𝓛 (‵ (froom (ty_int w64) b o) ∷ ‵ (store_owns ((p, ws) ∷ cs)) ∷ []) ∵ move ! (1 ∷ []) $ fsplit ! $ move ! (2 ∷ 1 ∷ []) $ keep ! (0 ∷ 1 ∷ []) $ by ! (store_fresh cs b o)
        ] (same_ptr_eq p (block_ptr b o))

    pub blanks_fresh : (n : ℕ) (cs : Cells) (b o : ℕ) → 0 < n → ent 𝓤 (sep 𝓤 ⟦ words_own (block_ptr b o) (blanks n) ⟧ ⟦ store_owns cs ⟧) (fact 𝓤 (words_at cs (block_ptr b o) ≡ []))
    blanks_fresh zero cs b o h = absurd (omega (arith, h))
    blanks_fresh (suc n) cs b o h = qed 𝓛 (‵ (words_own (block_ptr b o) (blanks (suc n))) ∷ ‵ (store_owns cs) ∷ []) ∵ fsplit ! $ keep ! (0 ∷ 2 ∷ []) $ by ! (store_fresh cs b o)

module _ {M : Type 1} {𝓤 : Ura M} {𝓛 : Logic 𝓤} {K : Type 0} {Γ : List (Item 𝓤)} {G : Goal 𝓤 𝓛.H} where
  -- a fact that two entries show is learned, and they stay
  pub knows : K → {i j : Item 𝓤} (φ : Type 0) → ent 𝓤 (sep 𝓤 (mean 𝓛 i) (mean 𝓛 j)) (fact 𝓤 φ) → (φ → Seq K 𝓛 (i ∷ j ∷ Γ) G) → Seq K 𝓛 (i ∷ j ∷ Γ) G
  knows t {i} {j} φ h k =
      let shown : Seq K 𝓛 (i ∷ j ∷ Γ) (prop (fact 𝓤 φ)) = use2 𝓛 (raw (fact 𝓤 φ)) h $ keep t (0 ∷ []) $ done t in
      record { prf = fact_use 𝓤 φ shown.prf (λ x. (k x).prf) }
