-- Whether a creation number is left.
use Rattle.std.proofs.Common.{◌≡◌, ℕ, ◌+◌, ◌<◌, ◌≤◌, ◌^◌, ◌*◌, true, List, length, refl, arith}
use Rattle.std.specs.Prelude.{IsOk, nat_lt}
use Rattle.std.proofs.lemmas.Bool.{lt-ltb}
use Rattle.std.proofs.lemmas.List.{length-map}
use Rattle.ss_records_entities.proofs.Common.{Cells, Directory, Layout, record_at, state_of}
use Rattle.ss_world.specs.State.{LAST_NUMBER, Members, created}

-- the words of a block can be asked for
pub block_fits : (w : ℕ) → (2 ≤ w) × (w < 2 ^ 32) → (0 < w) × (w * 8 < 2 ^ 63)
block_fits w h = (omega (arith, h.0), omega (arith, h.1))

pub at_rest : (a : ℕ) (A : ℕ) → a ≡ 0 → A ≡ A + a
at_rest a A none = omega (arith, none)

pub rests : (a A b B : ℕ) → a ≡ 0 → (b ≡ a) × (B ≡ A) → B ≡ A + b
rests a A b B none same = omega (arith, none, same.0, same.1)

module _ (l : Layout) (cs : Cells) (d : Directory) (ms : List Members) (c n : ℕ) (is : n ≡ length d.numbers) where
  pub one_left : n < LAST_NUMBER → IsOk (created (state_of l cs d ms) c)
  one_left room =
      let may : nat_lt (length d.numbers) LAST_NUMBER ≡ true = lt-ltb (length d.numbers) LAST_NUMBER (omega (arith, room, is)) in
      rw (length-map d.numbers (record_at l cs), may) refl
