-- The words of a new block.
use Rattle.std.specs.Prelude.{◌≡◌, ℕ, suc, ◌<◌, ◌≤◌, List, length, Some, slice_get}
use denote.RawPtr.{Ptr}
use Rattle.ss_records_blocks.specs.Cells.{number, link, Cells, words_at, word_at}
use Rattle.ss_base.specs.declared.layout.Layout.{Layout}
use Rattle.ss_records_blocks.specs.declared.store.BlockPlace.{BlockPlace}
use Rattle.ss_base.specs.declared.layout.Owner.TheVariants.{System, Class}
use Rattle.ss_records_words.specs.Shape.{links_start, owned_start, block_words}
use Rattle.ss_records_blocks.specs.Writes.{IsWrittenAt, owned_from, HasNoneAt}

-- the block at p has become that of the new entity n of the class c
pub record IsLaid (l : Layout) (cs ds : Cells) (end p : Ptr) (c n : ℕ) : Type 0 where
  pub written : IsWrittenAt cs ds p
  pub its_class : word_at ds p 0 ≡ number c
  pub its_number : word_at ds p 1 ≡ number n
  pub values : (k : ℕ) → 2 ≤ k → k < links_start l c → word_at ds p k ≡ number 0
  pub links : (k : ℕ) → links_start l c ≤ k → k < owned_start l (Class c) → word_at ds p k ≡ link p
  pub owned : (k : ℕ) → owned_start l (Class c) ≤ k → k < block_words l (Class c) → word_at ds p k ≡ owned_from end (owned_start l (Class c)) k

-- the block at p is that of the new entity n of the class c
pub record IsBorn (l : Layout) (ds : Cells) (end p : Ptr) (c n : ℕ) : Type 0 where
  pub size : length (words_at ds p) ≡ block_words l (Class c)
  pub its_class : word_at ds p 0 ≡ number c
  pub its_number : word_at ds p 1 ≡ number n
  pub values : (k : ℕ) → 2 ≤ k → k < links_start l c → word_at ds p k ≡ number 0
  pub links : (k : ℕ) → links_start l c ≤ k → k < owned_start l (Class c) → word_at ds p k ≡ link p
  pub owned : (k : ℕ) → owned_start l (Class c) ≤ k → k < block_words l (Class c) → word_at ds p k ≡ owned_from end (owned_start l (Class c)) k

-- the first n of the blocks at these places have become those of the entities 1 to n of the class c
pub record AreLaidTo (l : Layout) (cs ds : Cells) (end : Ptr) (ps : List BlockPlace) (c n : ℕ) : Type 0 where
  pub laid : (i : ℕ) (p : BlockPlace) → slice_get ps i ≡ Some p → i < n → IsBorn l ds end p.at c (suc i)
  pub rest : (i : ℕ) (p : BlockPlace) → slice_get ps i ≡ Some p → n ≤ i → words_at ds p.at ≡ words_at cs p.at
  pub others : (q : Ptr) → HasNoneAt ps q → words_at ds q ≡ words_at cs q
  pub count : length ds ≡ length cs

-- the block at p has become that of the system
pub record IsSystemLaid (l : Layout) (cs ds : Cells) (p : Ptr) : Type 0 where
  pub written : IsWrittenAt cs ds p
  pub its_number : word_at ds p 1 ≡ number 0
  pub owned : (k : ℕ) → 2 ≤ k → k < block_words l System → word_at ds p k ≡ owned_from p 2 k
