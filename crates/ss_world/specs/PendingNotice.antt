-- What a contract sees of an entry.
use Rattle.std.specs.Prelude.{ℕ, ℤ}
use Rattle.ss_world.specs.SortKey.{SortKey}

-- a pending notice with its key, and how many schedulings came before its own
pub record PendingNotice : Type 0 where
  pub key : SortKey
  pub number : ℕ
  pub notice : ℤ
