-- What a clause sees of a session.
use Rattle.std.specs.Prelude.{◌≡◌, ◌≢◌, ℕ, ◌≤◌, List, [], ◌∷◌, ◌++◌, Option, Some, None}
use Rattle.ss_base.specs.Failures.{HasRisen, HasRisenBy}
use Rattle.ss_input.specs.Blocks.{IsEndKnown}
use Rattle.ss_code.specs.Running.{Generated}
use Rattle.ss_input.specs.declared.source.Source.{Source}
use Rattle.ss_input.specs.Inputs.{IsFresh, source_block, source_missed, source_reader}
use Rattle.ss_machine.specs.declared.stop.Stop.{Stop}
use Rattle.ss_machine.specs.declared.stop.Stop.TheVariants.{Paused, Output, Input, Failed}
use Rattle.ss_machine.specs.Held.{Held, IsFirst}
use Rattle.ss_machine.specs.Situations.{Situation}
use Rattle.ss_machine.specs.Start.{IsAtStart}
use Rattle.ss_machine.specs.Runs.{HasCome, IsPausing, IsRunResult}
use Rattle.ss_engine.specs.Headline.{handed_out}
use Rattle.ss_engine.specs.declared.session.Session.{Session}

-- its machine
abbrev pub session_machine : {R W : Type 0} → Session R W → Held
session_machine s = s.machine

-- the words of its input
abbrev pub session_source : {R W : Type 0} → Session R W → Source R
session_source s = s.source

-- its reader, in its state now
abbrev pub session_reader : {R W : Type 0} → Session R W → R
session_reader s = source_reader s.source

-- its writer, in its state now
abbrev pub session_writer : {R W : Type 0} → Session R W → W
session_writer s = s.sink.writer

-- a session of this code, this reader and this writer before its first run
pub record IsNewSession {R W : Type 0} (code : Generated) (reader : R) (writer : W) (s : Session R W) : Type 0 where
  pub first : IsFirst code (session_machine s)
  pub fresh : IsFresh reader (session_source s)
  pub writer_is : session_writer s ≡ writer

-- a session whose next run goes on: one before its first run, or after a pause
pub record CanGoOn {R W : Type 0} (s : Session R W) : Type 0 where
  pub unstopped : (session_machine s).stopped ≡ None
  pub unmissed : source_missed (session_source s) ≡ None

-- ## What a session has done since its start

-- why the last run of a session stopped; after a pause the next run goes on
abbrev pub last_stop : Option Stop → Stop
last_stop None = Paused
last_stop (Some stop) = stop

-- what the runs of a machine did in so many ticks and steps, where it goes on and where it has stopped
abbrev pub HasComeTo : {R : Type 0} → (R → Option (List ℕ)) → Option Stop → Generated → (old new : Situation) → Source R → Source R → Option (List ℕ) → Option (List ℕ) → (taken made : ℕ) → Type 0
HasComeTo remaining None code old new source new_source old_bytes new_bytes taken made =
    HasCome remaining code old new source new_source old_bytes new_bytes taken made
HasComeTo remaining (Some stop) code old new source new_source old_bytes new_bytes taken made =
    IsRunResult remaining stop code old new source new_source old_bytes new_bytes taken made

-- A session that started with this code, this reader and this writer is so after calls of `run` with these ticks: its
-- machine is where the definition's steps lead from the first state, on the input that the reader gave and with the bytes
-- that the writer took. After a pause all ticks handed out are used; it failed at its reader or its writer only where the
-- count of failures rose.
pub record HasRun {R W : Type 0} (remaining : R → Option (List ℕ)) (read_faults : R → ℕ) (contents : W → Option (List ℕ)) (write_faults : W → ℕ) (code : Generated) (reader : R) (writer : W) (pieces : List ℕ) (s : Session R W) : Type 0 where
  pub first : Situation
  pub source : Source R
  pub starts : IsAtStart code first
  pub fresh : IsFresh reader source
  pub code_is : (session_machine s).code ≡ code
  pub came : HasComeTo remaining (session_machine s).stopped code first (session_machine s).at source (session_source s) (contents writer) (contents (session_writer s)) (session_machine s).used (session_machine s).steps
  pub paused : (session_machine s).stopped ≡ None → pieces ≢ [] → IsPausing code (session_machine s).at
  pub goes_on : (session_machine s).stopped ≡ None → CanGoOn s
  pub right : (session_machine s).stopped ≡ Some Failed → ⊥
  pub used : (session_machine s).used ≤ handed_out pieces
  pub all_used : (session_machine s).stopped ≡ None → (session_machine s).used ≡ handed_out pieces
  pub end : IsEndKnown remaining (source_block (session_source s))
  pub output : (session_machine s).stopped ≡ Some Output → HasRisen (write_faults writer) (write_faults (session_writer s))
  pub input : (session_machine s).stopped ≡ Some Input → HasRisen (read_faults reader) (read_faults (session_reader s))
  pub never_falls : HasRisenBy 0 (write_faults writer) (write_faults (session_writer s))
  pub read_never_falls : HasRisenBy 0 (read_faults reader) (read_faults (session_reader s))

-- A session is so after calls of `run` with these ticks, the last of which went on from an earlier session that had paused or had
-- not run. In that call the reader or the writer failed only where the count of failures rose.
pub record HasBeenRun {R W : Type 0} (remaining : R → Option (List ℕ)) (read_faults : R → ℕ) (contents : W → Option (List ℕ)) (write_faults : W → ℕ) (code : Generated) (reader : R) (writer : W) (pieces : List ℕ) (s : Session R W) : Type 0 where
  pub before : List ℕ
  pub last : ℕ
  pub are : pieces ≡ before ++ last ∷ []
  pub some : pieces ≢ []
  pub run : HasRun remaining read_faults contents write_faults code reader writer pieces s
  pub earlier : Session R W
  pub first : before ≡ [] → (session_reader earlier ≡ reader) × (session_writer earlier ≡ writer)
  pub paused : (session_machine earlier).stopped ≡ None
  pub run_before : HasRun remaining read_faults contents write_faults code reader writer before earlier
  pub more : (session_machine earlier).used ≤ (session_machine s).used
  pub output : (session_machine s).stopped ≡ Some Output → HasRisen (write_faults (session_writer earlier)) (write_faults (session_writer s))
  pub input : (session_machine s).stopped ≡ Some Input → HasRisen (read_faults (session_reader earlier)) (read_faults (session_reader s))
