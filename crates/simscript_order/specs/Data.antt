-- What is left of the data of a run.
use Rattle.std.specs.Prelude.{ℕ, List, [], Option, Some}
use Rattle.simscript_order.specs.declared.data.Data.{Data}
use Rattle.simscript_order.specs.declared.data.Data.TheVariants.{None, Given}

-- nothing where there are none, and else what is left of the reader
abbrev pub data_left : {R : Type 0} → (R → Option (List ℕ)) → Data R → Option (List ℕ)
data_left remaining None = Some []
data_left remaining (Given reader) = remaining reader
