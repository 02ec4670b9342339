-- Bytes of which a part went out.
use Rattle.std.specs.Prelude.{◌≡◌, ◌≢◌, ℕ, List, [], ◌++◌}
use Rattle.std.specs.declared.option.Option.{Option}
use Rattle.std.specs.Io.KnownBytes.{Appends}

-- a writer that had taken `old`, where it can say so, and has now taken `new`, took the first of these bytes
pub record HasTakenPart (old new : Option (List ℕ)) (bytes : List ℕ) : Type 0 where
  pub part : List ℕ
  pub rest : List ℕ
  pub whole : bytes ≡ part ++ rest
  pub took : Appends old new part

-- it took the first of them, but not all
pub record HasTakenLess (old new : Option (List ℕ)) (bytes : List ℕ) : Type 0 where
  pub part : List ℕ
  pub rest : List ℕ
  pub more : rest ≢ []
  pub whole : bytes ≡ part ++ rest
  pub took : Appends old new part
