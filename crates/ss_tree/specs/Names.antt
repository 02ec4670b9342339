-- The bytes of names.
use Rattle.std.specs.Prelude.{ℕ, List}

-- a name, as the list of its bytes, in capitals
abbrev pub NameBytes : Type 0
NameBytes = List ℕ
