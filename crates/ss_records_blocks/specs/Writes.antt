-- What writes leave: which blocks have changed, which words, and which blocks there are.
use Rattle.std.specs.Prelude.{◌≡◌, ℕ, zero, suc, ◌+◌, ◌-◌, ◌<◌, ◌≤◌, List, [], length, Some, slice_get}
use denote.RawPtr.{Ptr}
use Rattle.ss_records_blocks.specs.declared.store.BlockPlace.{BlockPlace}
use Rattle.ss_records_blocks.specs.Cells.{Word, number, counter, link, Cells, words_at, word_at, blanks}

-- only the block at p has changed
pub record IsWrittenAt (cs ds : Cells) (p : Ptr) : Type 0 where
  pub others : (q : Ptr) → (p ≡ q → ⊥) → words_at ds q ≡ words_at cs q
  pub size : length (words_at ds p) ≡ length (words_at cs p)
  pub count : length ds ≡ length cs

-- only the words from one place to another of the block at p have changed: they are as f says
pub record IsFilled (cs ds : Cells) (p : Ptr) (from to : ℕ) (f : ℕ → Word) : Type 0 where
  pub written : IsWrittenAt cs ds p
  pub inside : (k : ℕ) → from ≤ k → k < to → word_at ds p k ≡ f k
  pub below : (k : ℕ) → k < from → word_at ds p k ≡ word_at cs p k
  pub above : (k : ℕ) → to ≤ k → word_at ds p k ≡ word_at cs p k

-- the first two words: the class and the number
abbrev pub head_word : ℕ → ℕ → ℕ → Word
head_word c n zero = number c
head_word c n (suc k) = number n

-- words that are 0
abbrev pub zeros : ℕ → Word
zeros k = number 0

-- links that lead to one place
abbrev pub links_to : Ptr → ℕ → Word
links_to p k = link p

-- the words of owned sets without a member: first and last lead to the end, the count is 0
abbrev pub owned_word : Ptr → ℕ → Word
owned_word end zero = link end
owned_word end (suc zero) = link end
owned_word end (suc (suc zero)) = counter 0
owned_word end (suc (suc (suc k))) = owned_word end k

-- what is written where those words begin at `from`
abbrev pub owned_from : Ptr → ℕ → ℕ → Word
owned_from end from k = owned_word end (k - from)

-- none of these places is q
abbrev pub HasNoneAt : List BlockPlace → Ptr → Type 0
HasNoneAt ps q = (i : ℕ) (p : BlockPlace) → slice_get ps i ≡ Some p → p.at ≡ q → ⊥

-- blank blocks of w words each are new at these places
pub record ArePlaced (cs ds : Cells) (w : ℕ) (ps : List BlockPlace) : Type 0 where
  pub fresh : (i : ℕ) (p : BlockPlace) → slice_get ps i ≡ Some p → words_at cs p.at ≡ []
  pub blank : (i : ℕ) (p : BlockPlace) → slice_get ps i ≡ Some p → words_at ds p.at ≡ blanks w
  pub apart : (i j : ℕ) (p q : BlockPlace) → slice_get ps i ≡ Some p → slice_get ps j ≡ Some q → p.at ≡ q.at → i ≡ j
  pub others : (q : Ptr) → HasNoneAt ps q → words_at ds q ≡ words_at cs q
  pub count : length ds ≡ length cs + length ps

-- no block but blank ones has changed
pub record AreUnchanged (cs ds : Cells) : Type 0 where
  pub words : (q : Ptr) → (words_at cs q ≡ [] → ⊥) → words_at ds q ≡ words_at cs q
  pub count : length ds ≡ length cs
