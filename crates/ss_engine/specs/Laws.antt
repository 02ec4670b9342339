-- Laws of what a text means, for every input.
use Rattle.std.specs.Prelude.{◌≡◌, ◌≢◌, ℕ, ◌+◌, List}
use Rattle.ss_program.specs.Program.{Program}
use Rattle.ss_program.specs.WellTyped.{IsWellTyped}
use Rattle.ss_meaning.specs.Meaning.{Paused, Run, WentWrong}
use Rattle.ss_code_instructions.specs.Laws.{IsReportPrefix}
use Rattle.ss_engine.specs.declared.refusal.Refusal.{Refusal}
use Rattle.ss_engine.specs.declared.refusal.Refusal.TheVariants.{CodeTooLong, Memory}
use Rattle.ss_engine.specs.Accepting.{IsProgramOf, IsRefusedWith, IsWellFormed}
use Rattle.ss_engine.specs.Headline.{IsMeaning}

-- two programs of one text are equal
abbrev pub OneProgram : Type 0
OneProgram = (text : List ℕ) (p q : Program) → IsProgramOf text p → IsProgramOf text q → p ≡ q

-- a text means one run for an input and so many ticks
abbrev pub OneMeaning : Type 0
OneMeaning = (text input : List ℕ) (n : ℕ) (run other : Run) → IsMeaning text input n run → IsMeaning text input n other → run ≡ other

-- each well-formed text means a run for each input and each number of ticks
abbrev pub EachHasOne : Type 0
EachHasOne = (text : List ℕ) → IsWellFormed text → (input : List ℕ) (n : ℕ) → (run : Run) × IsMeaning text input n run

-- the program of a text is well typed
abbrev pub ProgramsAreTyped : Type 0
ProgramsAreTyped = (text : List ℕ) (p : Program) → IsProgramOf text p → IsWellTyped p

-- no text goes wrong
abbrev pub NeverGoesWrong : Type 0
NeverGoesWrong = (text input : List ℕ) (n : ℕ) (run : Run) → IsMeaning text input n run → run.ending ≢ WentWrong

-- the report for some ticks begins that for more
abbrev pub ReportsGrow : Type 0
ReportsGrow = (text input : List ℕ) (n more : ℕ) (run longer : Run) → IsMeaning text input n run → IsMeaning text input (n + more) longer → IsReportPrefix run.report longer.report

-- an ending other than a pause stays, with its report, for more ticks, which are left
abbrev pub TextEndingsStay : Type 0
TextEndingsStay = (text input : List ℕ) (n more : ℕ) (run : Run) → IsMeaning text input n run → run.ending ≢ Paused → IsMeaning text input (n + more) (record run { ticks = run.ticks + more })

-- a text that is refused is not well formed, but where memory was refused or its code is too long
abbrev pub RefusedIsIllFormed : Type 0
RefusedIsIllFormed = (text : List ℕ) (cause : Refusal) → IsRefusedWith text cause → cause ≢ Memory → cause ≢ CodeTooLong → IsWellFormed text → ⊥
