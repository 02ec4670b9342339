-- The links of a set: where they are in a block, what linking in and out writes, and where one leads.
use Rattle.std.specs.Prelude.{◌≡◌, ℕ, ◌+◌, ◌-◌, Bool, cond}
use denote.RawPtr.{Ptr}
use Rattle.ss_records_blocks.specs.Cells.{number, counter, link, Cells, word_at, put_word}

-- where the words of one name are: three in a member's block, three in an owner's
pub record Slots : Type 0 where
  pub next : ℕ
  pub prev : ℕ
  pub owner : ℕ
  pub first : ℕ
  pub last : ℕ
  pub count : ℕ

-- three words from m on in a member's block, three from o on in an owner's
abbrev pub slots_at : ℕ → ℕ → Slots
slots_at m o = record { next = m; prev = m + 1; owner = m + 2; first = o; last = o + 1; count = o + 2 }

-- the blocks once x is hooked to a neighbour: by the word j of a, or at an end of the list by the word k of the owner
abbrev pub hooked : Bool → Cells → Ptr → ℕ → Ptr → ℕ → Ptr → Cells
hooked ends cs o k a j x = cond ends (put_word cs o k (link x)) (put_word cs a j (link x))

-- the blocks once the next, previous and owner of x lead to nx, px and ox, the next of a and the previous of b in the list of o to na and
-- pb, and o counts n members. A neighbour that is no member is at the end
abbrev pub rewired : Slots → Cells → Ptr → Ptr → Bool → Ptr → Ptr → Bool → (nx px ox na pb : Ptr) → ℕ → Cells
rewired w cs o a a_ends x b b_ends nx px ox na pb n =
    put_word (hooked b_ends (hooked a_ends (put_word (put_word (put_word cs x w.next (link nx)) x w.prev (link px)) x w.owner (link ox)) o w.first a w.next na) o w.last b w.prev pb) o w.count (counter n)

-- the blocks once x is linked in between a and b in the list of o, which had n members
abbrev pub linked_in : Slots → Cells → Ptr → Ptr → Bool → Ptr → Ptr → Bool → ℕ → Cells
linked_in w cs o a a_ends x b b_ends n = rewired w cs o a a_ends x b b_ends b a o x x (n + 1)

-- the blocks once x is taken out from between a and b in the list of o, which had n members
abbrev pub unlinked_in : Slots → Cells → Ptr → Ptr → Bool → Ptr → Ptr → Bool → ℕ → Cells
unlinked_in w cs o a a_ends x b b_ends n = rewired w cs o a a_ends x b b_ends x x x b a (n - 1)

-- the word k of the block at p leads to the block at `to`, which has the number n
pub record HasLink (cs : Cells) (p : Ptr) (k : ℕ) : Type 0 where
  pub to : Ptr
  pub n : ℕ
  pub word : word_at cs p k ≡ link to
  pub there : word_at cs to 1 ≡ number n
