-- The exit status and the line that report an outcome.
use Rattle.std.specs.Prelude.{ℕ, List, [], ◌++◌, ◌==◌, if◌then◌else◌, codes, decimal}
use Rattle.ss_base.specs.Faults.{fault_number, fault_words}
use Rattle.ss_machine.specs.declared.stop.Stop.{Stop}
use Rattle.ss_machine.specs.declared.stop.Stop.TheVariants.{Ended, Fault, Paused, Memory, Output, Input, Failed}
use Rattle.ss_engine.specs.declared.outcome.Outcome.{Outcome}
use Rattle.ss_engine.specs.declared.outcome.Outcome.TheVariants.{Refused, Stopped}
use Rattle.ss_engine.specs.Refusals.{refusal_number, refusal_name, refusal_line}

-- the exit status of a run that stopped so
abbrev pub stop_status : Stop → ℕ
stop_status Ended = 0
stop_status (Fault kind line) = 3
stop_status Paused = 4
stop_status Memory = 5
stop_status Output = 6
stop_status Input = 6
stop_status Failed = 6

-- the exit status of an outcome; a refusal for memory, whose number is 0, has that of memory
abbrev pub status_of : Outcome → ℕ
status_of (Refused refusal) = if refusal_number refusal == 0 then 5 else 1
status_of (Stopped stop used) = stop_status stop

-- a word, a number, a name and a line
abbrev pub line_with : List ℕ → ℕ → List ℕ → ℕ → List ℕ
line_with word number name line =
    word ++ codes " " ++ decimal number ++ codes " " ++ name ++ codes " at line " ++ decimal line ++ codes "\n"

-- the line that reports why a run stopped, after so many ticks; nothing where it ended
abbrev pub stop_line : Stop → ℕ → List ℕ
stop_line Ended used = []
stop_line (Fault kind line) used = line_with (codes "fault") (fault_number kind) (fault_words kind) line.0
stop_line Paused used = codes "paused after " ++ decimal used ++ codes " ticks\n"
stop_line Memory used = codes "out of memory\n"
stop_line Output used = codes "cannot write report\n"
stop_line Input used = codes "cannot read input\n"
stop_line Failed used = codes "failed before\n"

-- the line that reports an outcome
abbrev pub outcome_line : Outcome → List ℕ
outcome_line (Refused refusal) =
    if refusal_number refusal == 0 then codes "out of memory\n"
    else line_with (codes "refused") (refusal_number refusal) (refusal_name refusal) (refusal_line refusal)
outcome_line (Stopped stop used) = stop_line stop used
