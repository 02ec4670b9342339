-- The headline. Read this file from its end: `IsOutcome` is what `simulate` promises.
use Rattle.std.specs.Prelude.{◌≡◌, ℕ, ◌+◌, ◌-◌, ◌^◌, ◌<◌, min, Bool, true, List, [], ◌++◌}
use Rattle.std.specs.List.{sum}
use Rattle.std.specs.declared.option.Option.{Option}
use Rattle.std.specs.Io.KnownBytes.{Appends, Consumes, IsAtEnd}
use Rattle.ss_program.specs.Program.{Program}
use Rattle.ss_meaning.specs.Meaning.{Ended as EndedThere, Fault as FaultThere, Paused as PausedThere, Run, meaning}
use Rattle.ss_code_instructions.specs.Laws.{IsReportPrefix}
use Rattle.ss_machine.specs.declared.stop.Stop.{Stop}
use Rattle.ss_machine.specs.declared.stop.Stop.TheVariants.{Ended, Fault, Paused, Memory, Output, Input, Failed}
use Rattle.ss_engine.specs.declared.outcome.Outcome.{Outcome}
use Rattle.ss_engine.specs.declared.outcome.Outcome.TheVariants.{Refused, Stopped}
use Rattle.ss_engine.specs.Accepting.{IsProgramOf, IsRefusedWith}

-- the ticks that pieces hand out in all, up to 2^64 - 1
abbrev pub handed_out : List ℕ → ℕ
handed_out pieces = min (sum pieces) (2 ^ 64 - 1)

-- the text has a program, and this is its run with this input and so many ticks
pub record IsMeaning (text input : List ℕ) (ticks : ℕ) (run : Run) : Type 0 where
  pub program : Program
  pub is_program : IsProgramOf text program
  pub is_run : meaning program input ticks ≡ run

-- A run that was cut after so many ticks: these bytes begin the report for these ticks. With fewer ticks the text pauses, and its
-- report begins these bytes.
pub record IsCutShort (text input : List ℕ) (used : ℕ) (bytes : List ℕ) : Type 0 where
  pub run : Run
  pub is_meaning : IsMeaning text input used run
  pub within : IsReportPrefix bytes run.report
  pub beyond : (fewer : ℕ) (earlier : Run) → fewer < used → IsMeaning text input fewer earlier → (earlier.ending ≡ PausedThere) × IsReportPrefix earlier.report bytes

-- What a run says of its text that used so many ticks, wrote these bytes and stopped so: for these ticks the text means this report
-- and this ending. After an end or a fault it means them for any more ticks too, which are left.
abbrev pub IsMeantRun : Stop → (text : List ℕ) → (used : ℕ) → (bytes input : List ℕ) → Type 0
IsMeantRun Ended text used bytes input = (more : ℕ) → IsMeaning text input (used + more) (record { report = bytes; ending = EndedThere; ticks = more })
IsMeantRun (Fault kind line) text used bytes input = (more : ℕ) → IsMeaning text input (used + more) (record { report = bytes; ending = FaultThere kind line; ticks = more })
IsMeantRun Paused text used bytes input = IsMeaning text input used (record { report = bytes; ending = PausedThere; ticks = 0 })
IsMeantRun Memory text used bytes input = IsCutShort text input used bytes
IsMeantRun Output text used bytes input = IsCutShort text input used bytes
IsMeantRun Input text used bytes input = IsCutShort text input used bytes
IsMeantRun Failed text used bytes input = ⊥

-- A reader gave some bytes, and maybe its end. This holds of each input that begins with these bytes; where the end was met, it
-- holds of just these bytes.
pub record HasGivenInput {R : Type 0} (remaining : R → Option (List ℕ)) (old new : R) (Says : List ℕ → Type 0) : Type 0 where
  pub read : List ℕ
  pub ended : Bool
  pub gave : Consumes (remaining old) (remaining new) read
  pub at_end : ended ≡ true → IsAtEnd (remaining new)
  pub says : (more : List ℕ) → (ended ≡ true → more ≡ []) → Says (read ++ more)

-- The run of a text used so many ticks and stopped so. The writer took its report, which is what the text means for each input
-- that the reader may have begun to give.
pub record IsSimulated {R W : Type 0} (remaining : R → Option (List ℕ)) (contents : W → Option (List ℕ)) (text : List ℕ) (stop : Stop) (used : ℕ) (reader new_reader : R) (writer new_writer : W) : Type 0 where
  pub bytes : List ℕ
  pub took : Appends (contents writer) (contents new_writer) bytes
  pub means : HasGivenInput remaining reader new_reader (IsMeantRun stop text used bytes)

-- the outcome of a text: a refused text has the refusal's cause, and the run of another is what the text means
abbrev pub IsOutcome : {R W : Type 0} → (R → Option (List ℕ)) → (W → Option (List ℕ)) → (text : List ℕ) → Outcome → (reader new_reader : R) → (writer new_writer : W) → Type 0
IsOutcome remaining contents text (Refused refusal) reader new_reader writer new_writer = IsRefusedWith text refusal
IsOutcome remaining contents text (Stopped stop used) reader new_reader writer new_writer =
    IsSimulated remaining contents text stop used reader new_reader writer new_writer
