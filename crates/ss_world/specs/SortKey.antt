-- What a contract sees of a key.
use Rattle.std.specs.Prelude.{ℕ, ℤ, List}
use Rattle.ss_world.specs.declared.ties.Tie.{Tie}

-- the time of an event, the rank of its class, and the values that break ties within the class
pub record SortKey : Type 0 where
  pub time : ℤ
  pub rank : ℕ
  pub ties : List Tie
