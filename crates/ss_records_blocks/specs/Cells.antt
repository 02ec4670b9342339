-- The blocks as the proofs see them: where each lies, and its words.
use Rattle.std.specs.Prelude.{ℕ, zero, suc, Bool, true, false, ◌&&◌, ◌==◌, cond, List, [], ◌∷◌}
use denote.RawPtr.{Ptr, block_ptr, null_ptr}

-- a word of a block: nothing yet, a number, a count of members, or a pointer
pub data Word : Type 0 where
  blank : Word
  number : ℕ → Word
  counter : ℕ → Word
  link : Ptr → Word

-- a block: where it lies, and its words
abbrev pub StoredBlock : Type 0
StoredBlock = Ptr × List Word

-- the blocks that are placed
abbrev pub Cells : Type 0
Cells = List StoredBlock

-- whether two pointers are the same
abbrev pub same_ptr : Ptr → Ptr → Bool
same_ptr (block_ptr b o) (block_ptr c p) = (b == c) && (o == p)
same_ptr (block_ptr b o) null_ptr = false
same_ptr null_ptr (block_ptr c p) = false
same_ptr null_ptr null_ptr = true

-- the words of the block at p, none where there is no such block
abbrev pub words_at : Cells → Ptr → List Word
words_at [] p = []
words_at (c ∷ cs) p = cond (same_ptr c.0 p) c.1 (words_at cs p)

-- the word k, blank past the end
abbrev pub word_of : List Word → ℕ → Word
word_of [] k = blank
word_of (w ∷ ws) zero = w
word_of (w ∷ ws) (suc k) = word_of ws k

-- the words with w as word k
abbrev pub with_word : List Word → ℕ → Word → List Word
with_word [] k x = []
with_word (w ∷ ws) zero x = x ∷ ws
with_word (w ∷ ws) (suc k) x = w ∷ with_word ws k x

-- the blocks with w as word k of the block at p
abbrev pub put_word : Cells → Ptr → ℕ → Word → Cells
put_word [] p k x = []
put_word (c ∷ cs) p k x = cond (same_ptr c.0 p) ((c.0, with_word c.1 k x) ∷ cs) (c ∷ put_word cs p k x)

-- the word k of the block at p
abbrev pub word_at : Cells → Ptr → ℕ → Word
word_at cs p k = word_of (words_at cs p) k

-- the blocks without that at p
abbrev pub without_block : Cells → Ptr → Cells
without_block [] p = []
without_block (c ∷ cs) p = cond (same_ptr c.0 p) cs (c ∷ without_block cs p)

-- n words that nothing was written to
abbrev pub blanks : ℕ → List Word
blanks zero = []
blanks (suc n) = blank ∷ blanks n

abbrev pub IsNumber : Word → Type 0
IsNumber blank = ⊥
IsNumber (number n) = Unit {0}
IsNumber (counter n) = ⊥
IsNumber (link q) = ⊥

abbrev pub IsCounter : Word → Type 0
IsCounter blank = ⊥
IsCounter (number n) = ⊥
IsCounter (counter n) = Unit {0}
IsCounter (link q) = ⊥

abbrev pub IsLink : Word → Type 0
IsLink blank = ⊥
IsLink (number n) = ⊥
IsLink (counter n) = ⊥
IsLink (link q) = Unit {0}

-- a word keeps its kind from its first write on
abbrev pub MayBeNumber : Word → Type 0
MayBeNumber blank = Unit {0}
MayBeNumber (number n) = Unit {0}
MayBeNumber (counter n) = ⊥
MayBeNumber (link q) = ⊥

abbrev pub MayBeCounter : Word → Type 0
MayBeCounter blank = Unit {0}
MayBeCounter (number n) = ⊥
MayBeCounter (counter n) = Unit {0}
MayBeCounter (link q) = ⊥

abbrev pub MayBeLink : Word → Type 0
MayBeLink blank = Unit {0}
MayBeLink (number n) = ⊥
MayBeLink (counter n) = ⊥
MayBeLink (link q) = Unit {0}

-- what a contract sees of the blocks: where each lies with its words, the touches since they were last
-- set to nothing, and all touches so far
pub record Memory : Type 0 where
  pub cells : Cells
  pub touches : ℕ
  pub total : ℕ
