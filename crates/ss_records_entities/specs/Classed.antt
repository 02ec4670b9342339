-- The class of an entity that is known by its creation number.
use Rattle.std.specs.Prelude.{◌≡◌, ℕ, ℤ, ◌<◌, length, Ok}
use Rattle.ss_world.specs.State.{Record, State, kind_of, numbered_record}
use Rattle.ss_records_words.specs.Kept.{IsPermanent}

-- x is the creation number of a living entity, which is of the class c
pub record HasClass (s : State) (x : ℤ) (c : ℕ) : Type 0 where
  pub seen : Record
  pub found : numbered_record s x ≡ Ok seen
  pub class : seen.class ≡ c
  pub inside : c < length s.layout.classes
  pub kind : IsPermanent (kind_of s.layout c) → ⊥
