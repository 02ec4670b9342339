-- The words of one set name, as functions of a member's or an owner's counter, and what links show.
use Rattle.std.specs.Prelude.{◌≡◌, ℕ, ◌+◌, ◌-◌, ◌<◌, cond, ◌==◌, List, length, ◌⊎◌}
use denote.RawPtr.{Ptr}
use Rattle.ss_records_blocks.specs.Cells.{Word, counter, link, Cells, words_at, word_at}
use Rattle.ss_world.specs.Lists.{head0, last_or, succ, pred_from, IsInList, IsNotInList, AreAllDistinct}
use Rattle.ss_records_blocks.specs.Links.{Slots}

pub record Words : Type 0 where
  pub next : ℕ → Word
  pub prev : ℕ → Word
  pub owner : ℕ → Word
  pub first : ℕ → Word
  pub last : ℕ → Word
  pub count : ℕ → Word

abbrev pub words_of : Slots → Cells → (ℕ → Ptr) → (ℕ → Ptr) → Words
words_of w cs at home = record {
  next = λ y. word_at cs (at y) w.next;
  prev = λ y. word_at cs (at y) w.prev;
  owner = λ y. word_at cs (at y) w.owner;
  first = λ o. word_at cs (home o) w.first;
  last = λ o. word_at cs (home o) w.last;
  count = λ o. word_at cs (home o) w.count;
}

-- the words of the set name show the lists f
pub record AreShowing (m : Words) (at home : ℕ → Ptr) (alive owns : ℕ → Type 0) (f : ℕ → List ℕ) : Type 0 where
  pub first : (o : ℕ) → owns o → m.first o ≡ link (at (head0 (f o)))
  pub last : (o : ℕ) → owns o → m.last o ≡ link (at (last_or 0 (f o)))
  pub count : (o : ℕ) → owns o → m.count o ≡ counter (length (f o))
  pub next : (o y : ℕ) → IsInList y (f o) → m.next y ≡ link (at (succ y (f o)))
  pub prev : (o y : ℕ) → IsInList y (f o) → m.prev y ≡ link (at (pred_from 0 y (f o)))
  pub owner : (o y : ℕ) → IsInList y (f o) → m.owner y ≡ link (home o)
  pub unfiled : (y : ℕ) → alive y → (0 ≡ y → ⊥) → ((o : ℕ) → IsNotInList y (f o)) → (m.next y ≡ link (at y)) × (m.prev y ≡ link (at y)) × (m.owner y ≡ link (at y))
  pub members : (o y : ℕ) → IsInList y (f o) → alive y × (0 ≡ y → ⊥) × owns o
  pub distinct : (o : ℕ) → AreAllDistinct (f o)
  pub sole : (o p y : ℕ) → IsInList y (f o) → IsInList y (f p) → o ≡ p

-- m' is m once the next, previous and owner of x lead to nx, px and ox, the next of a and the previous of b in the list of o to na and pb,
-- and o counts n members
pub record IsRewired (m m' : Words) (at home : ℕ → Ptr) (alive owns : ℕ → Type 0) (o a x b : ℕ) (nx px ox na pb : Ptr) (n : ℕ) : Type 0 where
  pub next : (y : ℕ) → alive y → (0 ≡ y → ⊥) → m'.next y ≡ cond (a == y) (link na) (cond (x == y) (link nx) (m.next y))
  pub prev : (y : ℕ) → alive y → (0 ≡ y → ⊥) → m'.prev y ≡ cond (b == y) (link pb) (cond (x == y) (link px) (m.prev y))
  pub owner : (y : ℕ) → alive y → m'.owner y ≡ cond (x == y) (link ox) (m.owner y)
  pub first : (p : ℕ) → owns p → m'.first p ≡ cond (a == 0) (cond (o == p) (link na) (m.first p)) (m.first p)
  pub last : (p : ℕ) → owns p → m'.last p ≡ cond (b == 0) (cond (o == p) (link pb) (m.last p)) (m.last p)
  pub count : (p : ℕ) → owns p → m'.count p ≡ cond (o == p) (counter n) (m.count p)

-- m' is m once x is linked in between a and b in the list of o, which had n members
abbrev pub IsLinkedIn : (m m' : Words) (at home : ℕ → Ptr) (alive owns : ℕ → Type 0) (o a x b n : ℕ) → Type 0
IsLinkedIn m m' at home alive owns o a x b n = IsRewired m m' at home alive owns o a x b (at b) (at a) (home o) (at x) (at x) (n + 1)

-- m' is m once x is taken out from between a and b
abbrev pub IsUnlinked : (m m' : Words) (at home : ℕ → Ptr) (alive owns : ℕ → Type 0) (o a x b n : ℕ) → Type 0
IsUnlinked m m' at home alive owns o a x b n = IsRewired m m' at home alive owns o a x b (at x) (at x) (at x) (at b) (at a) (n - 1)

-- k is one of the name's words in a member's block, and j one in an owner's
abbrev pub IsOfMember : Slots → ℕ → Type 0
IsOfMember w k = (k ≡ w.next) ⊎ ((k ≡ w.prev) ⊎ (k ≡ w.owner))

abbrev pub IsOfOwner : Slots → ℕ → Type 0
IsOfOwner w j = (j ≡ w.first) ⊎ ((j ≡ w.last) ⊎ (j ≡ w.count))

-- the name's words are there, and no two are one
pub record AreSlotsApart (w : Slots) (cs : Cells) (at home : ℕ → Ptr) (alive owns : ℕ → Type 0) : Type 0 where
  pub members_apart : (x y : ℕ) → alive x → alive y → at x ≡ at y → x ≡ y
  pub owners_apart : (o p : ℕ) → owns o → owns p → home o ≡ home p → o ≡ p
  pub member_room : (y k : ℕ) → alive y → IsOfMember w k → k < length (words_at cs (at y))
  pub owner_room : (o k : ℕ) → owns o → IsOfOwner w k → k < length (words_at cs (home o))
  pub next_prev : w.next ≡ w.prev → ⊥
  pub next_owner : w.next ≡ w.owner → ⊥
  pub prev_owner : w.prev ≡ w.owner → ⊥
  pub first_last : w.first ≡ w.last → ⊥
  pub first_count : w.first ≡ w.count → ⊥
  pub last_count : w.last ≡ w.count → ⊥
  pub crossed : (y o k j : ℕ) → alive y → owns o → IsOfMember w k → IsOfOwner w j → at y ≡ home o → k ≡ j → ⊥
