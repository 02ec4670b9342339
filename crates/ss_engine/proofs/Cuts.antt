-- Where the runs of a session were cut as memory, its reader or its writer failed.
use Rattle.std.proofs.Common.{◌≡◌, ℕ, ◌+◌, false, List, [], ◌++◌, inl, Option, Some, None, refl, arith}
use Rattle.std.proofs.KnownBytes.{Appends-nil, Consumes-nil}
use Rattle.ss_engine.proofs.Common.{code_of, Ended, Failed, Fault, Generated, HasCome, HasComeTo, HasTakenBeforeFailure, HasTakenLast, Input, IsAtStart, IsCodeOf, IsCutReading, IsEndKnown, IsFresh, IsProgramOf, last_stop, Memory, Output, Paused, Program, Situation, Source, source_block, source_reader, start, Stop}
use Rattle.ss_meaning.specs.Meaning.{Ended as EndedThere, Fault as FaultThere}
use Rattle.ss_engine.specs.Cuts.{IsCutBy, HasBeenCut}
use Rattle.ss_engine.proofs.Inputs.{fresh_failed, fresh_gave}
use Rattle.ss_machine.proofs.Inputs.{reads_finds}
use Rattle.ss_machine.proofs.Joining.{Saying, EachSays, EachLed, finishing, cutting, cutting_reading, cutting_writing}
use Rattle.ss_engine.proofs.Headline.{compiled_of, at_first}

module _ {R W : Type 0} (remaining : R → Option (List ℕ)) (contents : W → Option (List ℕ)) (reader last_reader : R) (writer last_writer : W) (text : List ℕ) (p : Program) (is_program : IsProgramOf text p) (code : Generated) (first new : Situation) (source last : Source R) (used made : ℕ)
    (of : IsCodeOf code (compiled_of p code)) (starts : IsAtStart code first) (fresh : IsFresh reader source) (at_last : source_reader last ≡ last_reader) (knows : IsEndKnown remaining (source_block last)) where
  -- a run after which no more is read
  took_last : (stop : Stop) (Q : Saying) → (stop ≡ Input → ⊥) → ((bytes input later : List ℕ) → ((more : ℕ) → Q (code_of p) made (start (code_of p) input (used + more)) bytes more) → IsCutBy stop (code_of p) used made bytes input later)
      → HasTakenLast remaining source last (contents writer) (contents last_writer) (EachSays Q code first used made) → HasBeenCut remaining contents text stop used reader last_reader writer last_writer
  took_last stop Q other to h =
      let g = fresh_gave remaining source last reader last_reader fresh at_last knows (EachSays Q code first used made h.bytes) (λ input. (more : ℕ) → Q (code_of p) made (start (code_of p) input (used + more)) h.bytes more) (λ input s. at_first Q p code first of starts used made h.bytes input s) h.says in
      record {
        program = p;
        is_program = is_program;
        made = made;
        bytes = h.bytes;
        took = h.took;
        read = g.read;
        ended = g.ended;
        gave = g.gave;
        at_end = g.at_end;
        goes_on = λ e. absurd (other e);
        place = λ later e. to h.bytes (g.read ++ later) later (g.says later e);
      }

  -- and one in which the reader failed
  took_failed : HasTakenBeforeFailure remaining source last (contents writer) (contents last_writer) (λ bytes input later. EachSays (cutting_reading later) code first used made bytes input) → HasBeenCut remaining contents text Input used reader last_reader writer last_writer
  took_failed h =
      let g = fresh_failed remaining source last reader last_reader fresh at_last (λ input later. EachSays (cutting_reading later) code first used made h.bytes input) (λ input later. (more : ℕ) → IsCutReading (code_of p) (start (code_of p) input (used + more)) made h.bytes later more) (λ input later s. at_first (cutting_reading later) p code first of starts used made h.bytes input s) h.says in
      record {
        program = p;
        is_program = is_program;
        made = made;
        bytes = h.bytes;
        took = h.took;
        read = g.0;
        ended = false;
        gave = g.1;
        at_end = λ e. absurd cc;
        goes_on = λ e. refl;
        place = λ later e. g.2 later;
      }

  -- a run that goes on isn't cut: its meaning pauses
  goes : HasCome remaining code first new source last (contents writer) (contents last_writer) used made → HasBeenCut remaining contents text Paused used reader last_reader writer last_writer
  goes h =
      let g = fresh_gave remaining source last reader last_reader fresh at_last knows (λ input. (rest : List ℕ) × EachLed code first new used made h.bytes input rest) (λ input. Unit {0}) (λ input s. tt) (reads_finds remaining source last (EachLed code first new used made h.bytes) _ (λ i j s. (j, s)) h.says) in
      record {
        program = p;
        is_program = is_program;
        made = made;
        bytes = h.bytes;
        took = h.took;
        read = g.read;
        ended = g.ended;
        gave = g.gave;
        at_end = g.at_end;
        goes_on = λ e. absurd cc;
        place = λ later e. tt;
      }

  pub came_cut : (stopped : Option Stop) → HasComeTo remaining stopped code first new source last (contents writer) (contents last_writer) used made → HasBeenCut remaining contents text (last_stop stopped) used reader last_reader writer last_writer
  came_cut None h = goes h
  came_cut (Some Ended) h = took_last Ended (finishing EndedThere) (λ e. absurd cc) (λ bytes input later s. tt) h
  came_cut (Some (Fault kind line)) h = took_last (Fault kind line) (finishing (FaultThere kind line)) (λ e. absurd cc) (λ bytes input later s. tt) h
  came_cut (Some Paused) h = goes h.0
  came_cut (Some Memory) h = took_last Memory cutting (λ e. absurd cc) (λ bytes input later s. s) h
  came_cut (Some Output) h = took_last Output cutting_writing (λ e. absurd cc) (λ bytes input later s. s) h
  came_cut (Some Input) h = took_failed h
  came_cut (Some Failed) h = absurd h

-- nothing was run, read or written
pub nothing_cut : {R W : Type 0} (remaining : R → Option (List ℕ)) (contents : W → Option (List ℕ)) (text : List ℕ) (p : Program) → IsProgramOf text p → (reader : R) (writer : W) → HasBeenCut remaining contents text Memory 0 reader reader writer writer
nothing_cut remaining contents text p is_program reader writer = record {
  program = p;
  is_program = is_program;
  made = 0;
  bytes = [];
  took = Appends-nil (contents writer);
  read = [];
  ended = false;
  gave = Consumes-nil (remaining reader);
  at_end = λ e. absurd cc;
  goes_on = λ e. refl;
  place = λ later e ticks. record { state = start (code_of p) later (0 + ticks); passed = refl; left = omega arith; cut = record { part = []; begins = refl; within = inl refl } };
}
