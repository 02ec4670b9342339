-- What the store owns.
use Rattle.std.specs.Prelude.{ℕ, ◌*◌, ◌^◌, List, [], ◌∷◌, length}
use mir.Syntax.{Ty, w64, ty_int, ty_array}
use base.Fraction.{full_share}
use base.Fml.{Lft, Fml, ftrue, flt, fsep, fex}
use denote.Sharing.{nothing, said, beside}
use denote.Struct.Lending.{lent_at}
use denote.Builtin.{u64}
use denote.RawPtr.{Ptr, RawPtr, lies_at, room_for, ◌+ₚ◌}
use Rattle.std.specs.declared.alloc.Global.{Global}
use Rattle.std.specs.contracts.impls.GlobalAllocator.TheImpl.{ghosts}
use Rattle.ss_records_blocks.specs.Cells.{Word, blank, number, counter, link, StoredBlock, Cells}

-- the word at p
abbrev pub word_owns : Ptr → Word → Fml
word_owns p blank = room_for (ty_int w64) p
word_owns p (number n) = lies_at u64 full_share p n
word_owns p (counter n) = lies_at u64 full_share p n
word_owns p (link q) = lies_at RawPtr full_share p q

-- the words from p on
abbrev pub words_own : Ptr → List Word → Fml
words_own p [] = ftrue
words_own p (w ∷ ws) = fsep (word_owns p w) (words_own (p +ₚ 8) ws)

-- the type of a block of n words
abbrev pub block_type : ℕ → Ty
block_type n = ty_array (ty_int w64) n

-- the right to give a block of n words back
abbrev pub deed_owns : Ptr → ℕ → Fml
deed_owns p n = fsep (fex Global (λ a. ghosts.dealloc_token a (block_type n) p)) (flt (n * 8) (2 ^ 63))

abbrev pub block_owns : StoredBlock → Fml
block_owns c = fsep (words_own c.0 c.1) (deed_owns c.0 (length c.1))

abbrev pub store_owns : Cells → Fml
store_owns [] = ftrue
store_owns (c ∷ cs) = fsep (block_owns c) (store_owns cs)

-- what the holder of a `&` has
abbrev pub word_lent : Ptr → Word → Lft → Fml
word_lent p blank = nothing
word_lent p (number n) = lent_at u64 p n
word_lent p (counter n) = lent_at u64 p n
word_lent p (link q) = lent_at RawPtr p q

abbrev pub words_lent : Ptr → List Word → Lft → Fml
words_lent p [] = nothing
words_lent p (w ∷ ws) = beside (word_lent p w) (words_lent (p +ₚ 8) ws)

abbrev pub block_lent : StoredBlock → Lft → Fml
block_lent c = beside (words_lent c.0 c.1) (beside nothing (said (flt (length c.1 * 8) (2 ^ 63))))

abbrev pub store_lent : Cells → Lft → Fml
store_lent [] = nothing
store_lent (c ∷ cs) = beside (block_lent c) (store_lent cs)
