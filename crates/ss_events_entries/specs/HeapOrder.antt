-- The order of a heap: the place p has four children, from 4 p + 1 to 4 p + 4.
use Rattle.std.specs.Prelude.{◌≡◌, ◌≢◌, ℕ, ◌+◌, ◌*◌, ◌<◌, ◌≤◌, Bool, false, List, length, slice_index_or}

-- k is a child of p
pub record IsChild (p k : ℕ) : Type 0 where
  pub from : 4 * p + 1 ≤ k
  pub to : k ≤ 4 * p + 4

module _ {X : Type 0} (before : X → X → Bool) where
  -- the item at k doesn't come before the item at p
  abbrev pub AreInOrder : List X → ℕ → ℕ → Type 0
  AreInOrder xs p k = (d : X) → before (slice_index_or xs k d) (slice_index_or xs p d) ≡ false

  -- nothing comes before its parent
  pub record IsHeap (xs : List X) : Type 0 where
    pub order : (p k : ℕ) → IsChild p k → k < length xs → AreInOrder xs p k

  -- `at` doesn't come before its parent
  pub record IsUnderParent (xs : List X) (at : ℕ) : Type 0 where
    pub order : (p : ℕ) → IsChild p at → AreInOrder xs p at

  -- no child of `at` comes before it
  pub record IsOverChildren (xs : List X) (at : ℕ) : Type 0 where
    pub order : (k : ℕ) → IsChild at k → k < length xs → AreInOrder xs at k

  -- a heap, but for the item at `at`: the others are in order, those below `at` and that above it too
  pub record IsHeapBut (xs : List X) (at : ℕ) : Type 0 where
    pub others : (p k : ℕ) → IsChild p k → k < length xs → p ≢ at → k ≢ at → AreInOrder xs p k
    pub across : (p k : ℕ) → IsChild p at → IsChild at k → k < length xs → AreInOrder xs p k

  -- c lies from a to b, and neither a nor b comes before it
  pub record IsFirstOf (xs : List X) (a b c : ℕ) : Type 0 where
    pub from : a ≤ c
    pub to : c ≤ b
    pub left : AreInOrder xs c a
    pub right : AreInOrder xs c b

  -- c is one of the places from `from` on and below `to`, and none of them comes before it
  pub record IsFirstAmong (xs : List X) (from to c : ℕ) : Type 0 where
    pub above : from ≤ c
    pub below : c < to
    pub order : (k : ℕ) → from ≤ k → k < to → AreInOrder xs c k

  -- c is a child of `at`, and no child of `at` comes before it
  pub record IsFirstChild (xs : List X) (at c : ℕ) : Type 0 where
    pub child : IsChild at c
    pub within : c < length xs
    pub order : (k : ℕ) → IsChild at k → k < length xs → AreInOrder xs c k
