-- Readers and writers over memory, as a contract sees them.
use Rattle.std.specs.Prelude.{ℕ, ◌-◌, min, List, [], length, Option, Some, None}
use Rattle.ss_base.specs.declared.plan.Plan.{Plan}
use Rattle.ss_base.specs.declared.plan.Progress.{Progress}
use Rattle.ss_base.specs.declared.memory.WriteFailure.{WriteFailure}
use Rattle.ss_base.specs.declared.memory.WriteFailure.TheVariants.{Error, NoByte}
use Rattle.ss_base.specs.Plan.{start_of_plan, bytes_passed}

-- a reader: the bytes that it has yet to give, how many it gave, its progress and how often it failed
pub record Reading : Type 0 where
  pub remaining : List ℕ
  pub passed : ℕ
  pub progress : Progress
  pub faults : ℕ

-- a reader of these bytes before its first call
abbrev pub reader_of : List ℕ → Plan → Reading
reader_of bytes plan = record { remaining = bytes; passed = 0; progress = start_of_plan plan; faults = 0 }

-- how many bytes the next read gives into so much room, or none where it fails
abbrev pub bytes_given : Reading → ℕ → Option ℕ
bytes_given r room = bytes_passed r.progress r.passed (min room (length r.remaining))

-- A writer: the bytes that it took, how many it has room for in all, what goes wrong, and its progress. It counts its
-- failures, its calls that returned an error, and its last calls in a row that took no byte.
pub record Writing : Type 0 where
  pub bytes : List ℕ
  pub room : ℕ
  pub failure : WriteFailure
  pub progress : Progress
  pub faults : ℕ
  pub errors : ℕ
  pub idle : ℕ

-- a writer before its first call
abbrev pub writer_of : ℕ → Plan → WriteFailure → Writing
writer_of room plan failure = record { bytes = []; room = room; failure = failure; progress = start_of_plan plan; faults = 0; errors = 0; idle = 0 }

-- what a call that goes wrong returns: an error, or that it took no byte
abbrev pub answer_in : WriteFailure → Option ℕ → Option ℕ
answer_in failure (Some n) = Some n
answer_in Error None = None
answer_in NoByte None = Some 0

-- how many of so many bytes the next write takes, or none where it fails
abbrev pub bytes_taken : Writing → ℕ → Option ℕ
bytes_taken w len = answer_in w.failure (bytes_passed w.progress (length w.bytes) (min len (w.room - length w.bytes)))
