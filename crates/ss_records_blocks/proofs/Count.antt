-- How many blocks there are.
use Rattle.std.proofs.Common.{◌≡◌, ℕ, suc, ◌+◌, ◌<◌, true, false, cond, [], ◌∷◌, length, refl, ap, arith}
use denote.RawPtr.{Ptr}
use Rattle.ss_records_blocks.specs.Cells.{Word, Cells, same_ptr, words_at, with_word, put_word, without_block}

pub blocks_put : (cs : Cells) (p : Ptr) (k : ℕ) (w : Word) → length (put_word cs p k w) ≡ length cs
blocks_put [] p k w = refl
blocks_put (c ∷ cs) p k w = elim (same_ptr c.0 p) as (λ t. length (cond t ((c.0, with_word c.1 k w) ∷ cs) (c ∷ put_word cs p k w)) ≡ length (c ∷ cs)) [ true ↦ refl | false ↦ ap suc (blocks_put cs p k w) ]

pub blocks_without : (cs : Cells) (p : Ptr) → 0 < length (words_at cs p) → length (without_block cs p) + 1 ≡ length cs
blocks_without [] p = λ h. absurd (omega (arith, h))
blocks_without (c ∷ cs) p = elim (same_ptr c.0 p) as (λ t. 0 < length (cond t c.1 (words_at cs p)) → length (cond t cs (c ∷ without_block cs p)) + 1 ≡ length (c ∷ cs)) [ true ↦ λ h. omega arith | false ↦ λ h. omega (arith, blocks_without cs p h) ]
