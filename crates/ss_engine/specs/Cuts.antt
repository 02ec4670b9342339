-- Where a run was cut as memory, its reader or its writer failed.
use Rattle.std.specs.Prelude.{◌≡◌, ℕ, ◌+◌, Bool, true, false, List, [], ◌++◌}
use Rattle.std.specs.declared.option.Option.{Option}
use Rattle.std.specs.Io.KnownBytes.{Appends, Consumes, IsAtEnd}
use Rattle.ss_program.specs.Program.{Program}
use Rattle.ss_code_instructions.specs.Machine.{Code}
use Rattle.ss_code_instructions.specs.Running.{start}
use Rattle.ss_code_instructions.specs.Translation.{code_of}
use Rattle.ss_machine.specs.declared.stop.Stop.{Stop}
use Rattle.ss_machine.specs.declared.stop.Stop.TheVariants.{Ended, Fault, Paused, Memory, Output, Input, Failed}
use Rattle.ss_machine.specs.Runs.{IsCut, IsCutReading, IsCutWriting}
use Rattle.ss_engine.specs.declared.outcome.Outcome.{Outcome}
use Rattle.ss_engine.specs.declared.outcome.Outcome.TheVariants.{Refused, Stopped}
use Rattle.ss_engine.specs.Accepting.{IsProgramOf}

-- the code, run from its first state with so many ticks and any more, passes after so many steps a state with those more left:
-- there or in its next step the report is cut to these bytes; where the writer failed the next instruction writes, and not all
-- that it writes is in these bytes; where the reader failed the next instruction reads, and the input before its later bytes does
-- not settle what. Of every other stop the meaning says all
abbrev pub IsCutBy : Stop → Code → (used made : ℕ) → (bytes input later : List ℕ) → Type 0
IsCutBy Ended code used made bytes input later = Unit {0}
IsCutBy (Fault kind line) code used made bytes input later = Unit {0}
IsCutBy Paused code used made bytes input later = Unit {0}
IsCutBy Memory code used made bytes input later = (more : ℕ) → IsCut code (start code input (used + more)) made bytes more
IsCutBy Output code used made bytes input later = (more : ℕ) → IsCutWriting code (start code input (used + more)) made bytes more
IsCutBy Input code used made bytes input later = (more : ℕ) → IsCutReading code (start code input (used + more)) made bytes later more
IsCutBy Failed code used made bytes input later = Unit {0}

-- The run of a text that used so many ticks was cut so, while the writer took these bytes. The reader gave some bytes, and maybe its
-- end, but not where it failed. For each input that begins with what it gave, and is just that where the end was met, so many steps
-- bring the code of the text's program to the place of the cut.
pub record HasBeenCut {R W : Type 0} (remaining : R → Option (List ℕ)) (contents : W → Option (List ℕ)) (text : List ℕ) (stop : Stop) (used : ℕ) (reader new_reader : R) (writer new_writer : W) : Type 0 where
  pub program : Program
  pub is_program : IsProgramOf text program
  pub made : ℕ
  pub bytes : List ℕ
  pub took : Appends (contents writer) (contents new_writer) bytes
  pub read : List ℕ
  pub ended : Bool
  pub gave : Consumes (remaining reader) (remaining new_reader) read
  pub at_end : ended ≡ true → IsAtEnd (remaining new_reader)
  pub goes_on : stop ≡ Input → ended ≡ false
  pub place : (later : List ℕ) → (ended ≡ true → later ≡ []) → IsCutBy stop (code_of program) used made bytes (read ++ later) later

-- where memory, the reader or the writer failed, the text's code reaches, with these ticks used, a place where its report is cut so
abbrev pub IsReportCut : {R W : Type 0} → (R → Option (List ℕ)) → (W → Option (List ℕ)) → List ℕ → Outcome → R → R → W → W → Type 0
IsReportCut remaining contents text (Refused refusal) reader new_reader writer new_writer = Unit {0}
IsReportCut remaining contents text (Stopped stop used) reader new_reader writer new_writer =
    HasBeenCut remaining contents text stop used reader new_reader writer new_writer
