-- How far tokens are read.
use Rattle.std.specs.Prelude.{◌≡◌, ℕ, ◌≤◌, Result, Ok, Err}
use Rattle.ss_parse_expressions.specs.declared.failure.ParseFault.{ParseFault}
use Rattle.ss_parse_expressions.specs.declared.failure.ParseFault.TheVariants.{Syntax, TooDeep as Deep}
use Rattle.ss_parse.specs.declared.reaching.Reach.{Reach}
use Rattle.ss_parse.specs.declared.reaching.Reach.TheVariants.{Whole, Stopped, TooDeep}

-- what is said of reading so many tokens, which gave this: that they spell a program, or a place among them and why it is the last
abbrev pub IsReach : {P : Type 0} → ℕ → Result P ParseFault → Reach → Type 0
IsReach count (Ok program) reach = reach ≡ Whole
IsReach count (Err Syntax) reach = (index : ℕ) × (index ≤ count) × (reach ≡ Stopped index)
IsReach count (Err Deep) reach = (index : ℕ) × (index ≤ count) × (reach ≡ TooDeep index)
