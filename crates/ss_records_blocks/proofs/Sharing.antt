-- A `&` to the store is made where one to each of its words is. Assumes `Logic`.
use Rattle.std.proofs.Common.{◌≡◌, ℕ, zero, suc, ◌*◌, ◌^◌, ◌<◌, true, false, cond, List, [], ◌∷◌, length, refl, sym, subst, arith, lit<}
use seplogic.Ra.Ura.{Ura}
use base.Logic.{ent, via, fst∗, snd∗, guard_i}
use contract.Monad.{fact, fact_i, fact_use}
use types.Kit.{Item, Goal, Seq, Step, Soaks, step, given, learn, ‵, ◌$◌, ◌∵◌, !, qed, by, move, keep, drop, use1, fsplit, fjoin, flt_l, flt_i, feq_l, feq_i, rewrite}
use mir.Val.{Val, vint}
use denote.Memory.{cell_at, part_at, hidden_shr}
use denote.Copied.{uint_Copied}
use denote.Opens.{Shut}
use denote.Steps.{looks, shuts}
use base.Fml.{Lft, Fml, Share, ftrue, flt, fex, fat, flft}
use Rattle.std.specs.declared.alloc.Global.{Global}
use Rattle.std.specs.contracts.impls.GlobalAllocator.TheImpl.{ghosts}
use contract.BorrowLft.{⊑_static}
use types.Logic.{Logic, sem}
use denote.Builtin.{u64}
use denote.Plain.{uint_row_laws}
use denote.Param.Shared.{copy_shared}
use denote.RawPtr.{Ptr, RawPtr, ptr_row_laws, ◌+ₚ◌}
use denote.Sharing.{ShrLaws, nothing, said, beside}
use denote.SharingLaws.{beside_shr_laws, nothing_shr_laws, said_shr_laws}
use denote.Shares.{Shares-less}
use denote.Struct.Field.{RawPtr-field, u64-field}
use denote.Struct.Laws.{RawPtr-copy, u64-copy}
use denote.Struct.Lending.{Lends, lent_at_shr_laws, Lends-lies, Lends-both, Lends-nothing, Lends-said}
use mir.Syntax.{w64, ty_int}
use Rattle.ss_records_blocks.specs.Cells.{Word, blank, number, counter, link, StoredBlock, Cells, same_ptr, words_at, word_of, word_at}
use Rattle.ss_records_blocks.specs.Ownership.{block_type, word_owns, words_own, deed_owns, block_owns, store_owns, word_lent, words_lent, block_lent, store_lent}
use Rattle.ss_records_blocks.proofs.Numbers.{same_ptr_eq}
use Rattle.ss_records_blocks.proofs.Memory.{word_ptr, word_ptr-zero, word_ptr-suc}

word_laws : (p : Ptr) (w : Word) → ShrLaws (word_lent p w)
word_laws p blank = nothing_shr_laws
word_laws p (number n) = lent_at_shr_laws u64 (uint_row_laws w64) p n
word_laws p (counter n) = lent_at_shr_laws u64 (uint_row_laws w64) p n
word_laws p (link q) = lent_at_shr_laws RawPtr ptr_row_laws p q

words_laws : (p : Ptr) (ws : List Word) → ShrLaws (words_lent p ws)
words_laws p [] = nothing_shr_laws
words_laws p (w ∷ ws) = beside_shr_laws (word_lent p w) (words_lent (p +ₚ 8) ws) (word_laws p w) (words_laws (p +ₚ 8) ws)

block_laws : (c : StoredBlock) → ShrLaws (block_lent c)
block_laws c = let F : Fml = flt (length c.1 * 8) (2 ^ 63) in
    beside_shr_laws (words_lent c.0 c.1) (beside nothing (said F)) (words_laws c.0 c.1) (beside_shr_laws nothing (said F) nothing_shr_laws (said_shr_laws F tt))

pub store_laws : (cs : Cells) → ShrLaws (store_lent cs)
store_laws [] = nothing_shr_laws
store_laws (c ∷ cs) = beside_shr_laws (block_lent c) (store_lent cs) (block_laws c) (store_laws cs)

module _ {M : Type 1} {𝓤 : Ura M} (𝓛 : Logic 𝓤) (l : Lft) where
  Lends-word : (p : Ptr) (w : Word) → Lends 𝓛 (word_owns p w) (word_lent p w) l
  Lends-word p blank = Lends-nothing 𝓛 (word_owns p blank) l
  Lends-word p (number n) = Lends-lies 𝓛 u64 l p n (Shares-less 𝓛 u64 [] l (⊑_static l) ((copy_shared u64-field u64-copy).shares M 𝓤 𝓛) n)
  Lends-word p (counter n) = Lends-lies 𝓛 u64 l p n (Shares-less 𝓛 u64 [] l (⊑_static l) ((copy_shared u64-field u64-copy).shares M 𝓤 𝓛) n)
  Lends-word p (link q) = Lends-lies 𝓛 RawPtr l p q (Shares-less 𝓛 RawPtr [] l (⊑_static l) ((copy_shared RawPtr-field RawPtr-copy).shares M 𝓤 𝓛) q)

  Lends-words : (p : Ptr) (ws : List Word) → Lends 𝓛 (words_own p ws) (words_lent p ws) l
  Lends-words p [] = Lends-nothing 𝓛 ftrue l
  Lends-words p (w ∷ ws) = Lends-both 𝓛 (word_owns p w) (words_own (p +ₚ 8) ws) (word_lent p w) (words_lent (p +ₚ 8) ws) l (Lends-word p w) (Lends-words (p +ₚ 8) ws)

  pub Lends-store : (cs : Cells) → Lends 𝓛 (store_owns cs) (store_lent cs) l
  Lends-store [] = Lends-nothing 𝓛 ftrue l
  Lends-store (c ∷ cs) =
      let F : Fml = flt (length c.1 * 8) (2 ^ 63) in let T : Fml = fex Global (λ a. ghosts.dealloc_token a (block_type (length c.1)) c.0) in
      Lends-both 𝓛 (block_owns c) (store_owns cs) (block_lent c) (store_lent cs) l
      (Lends-both 𝓛 (words_own c.0 c.1) (deed_owns c.0 (length c.1)) (words_lent c.0 c.1) (beside nothing (said F)) l (Lends-words c.0 c.1)
      (Lends-both 𝓛 T F nothing (said F) l (Lends-nothing 𝓛 T l) (Lends-said 𝓛 F tt l))) (Lends-store cs)

module _ {M : Type 1} {𝓤 : Ura M} (𝓛 : Logic 𝓤) (κ : Lft) where
  words_see : (ws : List Word) (p : Ptr) (k : ℕ) → k < length ws → ent 𝓤 (sem 𝓛 (words_lent p ws κ)) (sem 𝓛 (word_lent (word_ptr p k) (word_of ws k) κ))
  words_see [] p k inside = absurd (omega (arith, inside))
  words_see (w ∷ ws) p zero inside = subst (λ (q : Ptr). ent 𝓤 (sem 𝓛 (words_lent p (w ∷ ws) κ)) (sem 𝓛 (word_lent q w κ))) (sym (word_ptr-zero p)) (fst∗ 𝓤 (sem 𝓛 (word_lent p w κ)) (sem 𝓛 (words_lent (p +ₚ 8) ws κ)))
  words_see (w ∷ ws) p (suc k) inside = subst (λ (q : Ptr). ent 𝓤 (sem 𝓛 (words_lent p (w ∷ ws) κ)) (sem 𝓛 (word_lent q (word_of ws k) κ))) (word_ptr-suc p k)
      (via 𝓤 (sem 𝓛 (words_lent (p +ₚ 8) ws κ)) (snd∗ 𝓤 (sem 𝓛 (word_lent p w κ)) (sem 𝓛 (words_lent (p +ₚ 8) ws κ))) (words_see ws (p +ₚ 8) k (omega (arith, inside))))

  pub store_see : (cs : Cells) (p : Ptr) (k : ℕ) → k < length (words_at cs p) → ent 𝓤 (sem 𝓛 (store_lent cs κ)) (sem 𝓛 (word_lent (word_ptr p k) (word_at cs p k) κ))
  store_see [] p k = λ inside. absurd (omega (arith, inside))
  store_see (c ∷ cs) p k = elim (same_ptr c.0 p) as (λ y. (y ≡ true → c.0 ≡ p) → k < length (cond y c.1 (words_at cs p)) → ent 𝓤 (sem 𝓛 (store_lent (c ∷ cs) κ)) (sem 𝓛 (word_lent (word_ptr p k) (word_of (cond y c.1 (words_at cs p)) k) κ))) [
    | true ↦ λ is inside. subst (λ (q : Ptr). ent 𝓤 (sem 𝓛 (store_lent (c ∷ cs) κ)) (sem 𝓛 (word_lent (word_ptr q k) (word_of c.1 k) κ))) (is refl)
        (qed 𝓛 (‵ (store_lent (c ∷ cs) κ) ∷ []) ∵ fsplit ! $ fsplit ! $ keep ! (0 ∷ []) $ by ! (words_see c.1 c.0 k inside))
    | false ↦ λ is inside. via 𝓤 (sem 𝓛 (store_lent cs κ)) (snd∗ 𝓤 (sem 𝓛 (block_lent c κ)) (sem 𝓛 (store_lent cs κ))) (store_see cs p k inside)
  ] (same_ptr_eq c.0 p)

  pub store_lent_bound : (cs : Cells) (p : Ptr) → ent 𝓤 (sem 𝓛 (store_lent cs κ)) (fact 𝓤 (length (words_at cs p) * 8 < 2 ^ 63))
  store_lent_bound [] p = fact_i 𝓤 (0 * 8 < 2 ^ 63) (sem 𝓛 (store_lent [] κ)) (lit< tt)
  store_lent_bound (c ∷ cs) p = elim (same_ptr c.0 p) as (λ y. ent 𝓤 (sem 𝓛 (store_lent (c ∷ cs) κ)) (fact 𝓤 (length (cond y c.1 (words_at cs p)) * 8 < 2 ^ 63))) [
    | true ↦ qed 𝓛 (‵ (store_lent (c ∷ cs) κ) ∷ []) ∵ fsplit ! $ fsplit ! $ move ! (1 ∷ []) $ fsplit ! $ move ! (1 ∷ []) $ flt_l ! (λ small. by ! (fact_i 𝓤 (length c.1 * 8 < 2 ^ 63) _ small))
    | false ↦ via 𝓤 (sem 𝓛 (store_lent cs κ)) (snd∗ 𝓤 (sem 𝓛 (block_lent c κ)) (sem 𝓛 (store_lent cs κ))) (store_lent_bound cs p)
  ]

module _ {M : Type 1} {𝓤 : Ura M} {𝓛 : Logic 𝓤} {K : Type 0} {Γ : List (Item 𝓤)} {G : Goal 𝓤 𝓛.H} where
  pub lent_knows : K → (κ : Lft) (cs : Cells) (p : Ptr) → (length (words_at cs p) * 8 < 2 ^ 63 → Seq K 𝓛 (‵ (store_lent cs κ) ∷ Γ) G) → Seq K 𝓛 (‵ (store_lent cs κ) ∷ Γ) G
  lent_knows t κ cs p k =
      let φ : Type 0 = length (words_at cs p) * 8 < 2 ^ 63 in
      use1 𝓛 (given φ (‵ (store_lent cs κ))) (fact_use 𝓤 φ (store_lent_bound 𝓛 κ cs p) (λ x. guard_i 𝓤 φ (sem 𝓛 (store_lent cs κ)) x)) $ learn t k

  -- a number that a `&` leads to is opened, and shut
  pub peer_in : K → Soaks G → {κ : Lft} {q : Share} (n b at : ℕ)
      → ((part : Share) → n < 2 ^ 64 → Seq K 𝓛 (‵ (fat part (ty_int w64) b at (vint w64 n)) ∷ Shut 𝓛 κ q (part_at u64 part n b at) ∷ Γ) G) → Seq K 𝓛 (‵ (hidden_shr u64 κ n b at) ∷ ‵ (flft κ q) ∷ Γ) G
  peer_in t z n b at k =
      looks t z u64 (uint_Copied 𝓛 w64).opens n b at (λ part vs. move t (1 ∷ []) $ fsplit t $ feq_l t (λ e. flt_l t (λ fn.
      rewrite t 0 (λ (us : List Val). ‵ (cell_at part u64.mir us b at)) e refl $ move t (2 ∷ []) $ drop t $ k part fn)))

  pub peer_out : K → Soaks G → {κ : Lft} {q part : Share} (n b at : ℕ) → n < 2 ^ 64
      → Step K 𝓛 (‵ (flft κ q) ∷ Γ) G (‵ (fat part (ty_int w64) b at (vint w64 n)) ∷ Shut 𝓛 κ q (part_at u64 part n b at) ∷ Γ) G
  peer_out t z {part = part} n b at fn = step (λ s.
      flt_i t n (2 ^ 64) fn $ feq_i t (List Val) (vint w64 n ∷ []) (vint w64 n ∷ []) refl $ fjoin t $ move t (1 ∷ 0 ∷ []) $ shuts t z u64 part n (vint w64 n ∷ []) b at $ s)
