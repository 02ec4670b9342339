-- The modes of values.
use Rattle.ss_base.specs.declared.layout.Mode.{Mode}
use Rattle.ss_base.specs.declared.layout.Mode.TheVariants.{Integer, Alpha}
use Rattle.ss_tree.specs.declared.preamble.ModeWord.{ModeWord}
use Rattle.ss_tree.specs.declared.preamble.ModeWord.TheVariants as words

-- the mode of a value: REAL, which is refused, counts as INTEGER
abbrev pub value_mode : ModeWord → Mode
value_mode words.Alpha = Alpha
value_mode _ = Integer
