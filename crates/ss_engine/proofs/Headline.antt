-- A run of the machine is what the text of its code means.
use Rattle.std.proofs.Common.{◌≡◌, ◌≢◌, ℕ, suc, ◌+◌, ◌-◌, ◌<◌, false, List, [], ◌++◌, ◌⊎◌, inl, inr, Option, refl, sym, ap, ◌∙◌, subst, append_assoc, append-nil, arith}
use Rattle.std.proofs.KnownBytes.{Appends-nil, Consumes-nil}
use Rattle.ss_engine.proofs.Common.{at_core, Code, code_of, Compiled, Ended, Failed, Fault, Generated, Goes, HasCome, HasFound, HasRunToEnd, HasTakenBeforeFailure, HasTakenLast, Input, IsAtStart, IsCodeOf, IsCut, IsCutReading, IsCutWriting, IsEndKnown, IsFor, IsFresh, IsPausing, IsProgramOf, IsRunResult, IsWellTyped, MachineState, Memory, OneProgram, Output, Paused, Program, Situation, Source, source_block, source_reader, step, Stop}
use Rattle.ss_meaning.specs.Meaning.{Ending, Ended as EndedThere, Fault as FaultThere, Paused as PausedThere, WentWrong, Run, meaning}
use Rattle.ss_code_instructions.specs.Running.{Underway, Ends, IsFaithful, start, steps, after_one_step as goes_on}
use Rattle.ss_code_instructions.specs.Laws.{EndingsStay, IsReportPrefix, HasShape, OnTheWay, OneTickFewer, Pauses, Prefixes, StepsGoOn}
use Rattle.ss_engine.specs.Headline.{IsMeaning, IsCutShort, IsMeantRun, HasGivenInput, IsSimulated}
use Rattle.ss_engine.proofs.Inputs.{fails_find, fresh_gave}
use Rattle.ss_machine.proofs.Inputs.{reads_finds}
use Rattle.ss_machine.proofs.Joining.{Saying, EachSays, EachLed, finishing, cutting, cutting_reading, cutting_writing}
use Rattle.ss_engine.proofs.Ticks.{pauses_with_fewer}

-- ## The code of a program, and its first state

-- a program and its code, as it is run
abbrev pub compiled_of : Program → Generated → Compiled
compiled_of p code = record { program = p; code = code_of p; run = code.run }

pub is_of : HasShape → (p : Program) (code : Generated) → IsWellTyped p → IsFor p code → IsCodeOf code (compiled_of p code)
is_of shape p code typed f = record { compiled = record { typed = typed; code = refl; shaped = shape p typed; run = f.code }; run = refl; said = f.said; globals = f.globals }

-- what holds of each state that a machine at its start may hold also holds of the first state
pub at_first : (Q : Saying) (p : Program) (code : Generated) (first : Situation) → IsCodeOf code (compiled_of p code) → IsAtStart code first → (used made : ℕ) (bytes input : List ℕ) →
    EachSays Q code first used made bytes input → (ticks : ℕ) → Q (code_of p) made (start (code_of p) input (used + ticks)) bytes ticks
at_first Q p code first of starts used made bytes input s ticks = s (compiled_of p code) of (start (code_of p) input 0).core refl (starts (compiled_of p code) of input) [] ticks

-- a cut within what an instruction writes, as any cut
cut_so : (code : Code) (s : MachineState) (made : ℕ) (report : List ℕ) (ticks : ℕ) → IsCutWriting code s made report ticks → IsCut code s made report ticks
cut_so code s made report ticks c = record {
  state = c.state;
  passed = c.passed;
  left = c.left;
  cut = record { part = c.cut.part; begins = c.cut.begins; within = inr (c.cut.next, c.cut.rest, c.cut.goes, c.cut.whole) };
}

-- and so is one before an instruction that reads
cut_before : (code : Code) (s : MachineState) (made : ℕ) (report later : List ℕ) (ticks : ℕ) → IsCutReading code s made report later ticks → IsCut code s made report ticks
cut_before code s made report later ticks c = record {
  state = c.state;
  passed = c.passed;
  left = c.left;
  cut = record { part = []; begins = sym c.written ∙ sym (append-nil c.state.report); within = inl refl };
}

-- ## Numbers and reports

no_more : (n : ℕ) → n + 0 ≡ n
no_more n = omega arith

grows_first : (a b c : List ℕ) (part : List ℕ) → b ≡ a ++ part → IsReportPrefix b c → IsReportPrefix a c
grows_first a b c part e g = record { by = (part ++ g.by.0, g.by.1 ∙ ap (λ l. l ++ g.by.0) e ∙ append_assoc a part g.by.0) }

one_fewer : (fewer n : ℕ) → fewer < n → n ≡ suc (n - 1)
one_fewer fewer n lt = omega (arith, lt)

up_to : (fewer n : ℕ) → fewer < n → fewer + ((n - 1) - fewer) ≡ n - 1
up_to fewer n lt = omega (arith, lt)

-- from a run of the code of a text's program to the meaning of the text
module _ (on_the_way : OnTheWay) (fewer_ticks : OneTickFewer) (pauses : Pauses) (go_on : StepsGoOn) (stay : EndingsStay) (prefixes : Prefixes) (one : OneProgram)
    (text : List ℕ) (p : Program) (is_program : IsProgramOf text p) (right : (input : List ℕ) (n : ℕ) → (meaning p input n).ending ≢ WentWrong) (behaves : IsFaithful p (code_of p)) where
  abbrev code : Code
  code = code_of p

  -- what the program means, its text means
  means_so : (input : List ℕ) (n : ℕ) (run : Run) → meaning p input n ≡ run → IsMeaning text input n run
  means_so input n run e = record { program = p; is_program = is_program; is_run = e }

  -- and it means nothing else
  meant_so : (input : List ℕ) (n : ℕ) (run : Run) → IsMeaning text input n run → meaning p input n ≡ run
  meant_so input n run h = ap (λ q. meaning q input n) (one text p h.program is_program h.is_program) ∙ h.is_run

  -- a run that finishes ends so
  ends : (m : ℕ) (s : MachineState) (bytes : List ℕ) (ending : Ending) (ticks : ℕ) → HasRunToEnd code s m bytes ending ticks → steps code m s ≡ Ends (record { report = bytes; ending = ending; ticks = ticks })
  ends m s bytes ending ticks f =
      let count : m ≡ f.before + 1 = omega (arith, f.count) in
      ap (λ n. steps code n s) count ∙ go_on code f.before 1 s f.last f.passed ∙ ap (λ r. goes_on r f.last (steps code 0)) f.over ∙
      ap (λ l. Ends (record { report = l; ending = ending; ticks = ticks })) f.written

  -- and that is what the text means
  finished : (input : List ℕ) (n m : ℕ) (bytes : List ℕ) (ending : Ending) (ticks : ℕ) → HasRunToEnd code (start code input n) m bytes ending ticks → IsMeaning text input n (record { report = bytes; ending = ending; ticks = ticks })
  finished input n m bytes ending ticks f =
      let r : Run = record { report = bytes; ending = ending; ticks = ticks } in
      means_so input n r (sym (behaves.only input n m r (right input n) (ends m (start code input n) bytes ending ticks f)))

  -- the state after a step
  one_step : (m : ℕ) (s x next : MachineState) → steps code m s ≡ Underway x → step code x ≡ Goes next → steps code (m + 1) s ≡ Underway next
  one_step m s x next e f = go_on code m 1 s x e ∙ ap (λ r. goes_on r x (steps code 0)) f

  -- a run that is cut wrote a beginning of the report for its ticks, which goes on from the report for fewer
  cut_between : (input : List ℕ) (n m : ℕ) (bytes : List ℕ) → IsCut code (start code input n) m bytes 0 → IsCutShort text input n bytes
  cut_between input n m bytes c = record {
    run = meaning p input n;
    is_meaning = means_so input n (meaning p input n) refl;
    within = by-part c.cut.within;
    beyond = λ fewer earlier lt h.
        let e = meant_so input fewer earlier h in
        (ap (λ (r : Run). r.ending) (sym e) ∙ pauses_with_fewer stay p right code behaves input n m c.state passed c.left fewer lt, subst (λ (r : Run). IsReportPrefix r.report bytes) e (begun fewer lt));
  } where
    passed : steps code m (start code input n) ≡ Underway c.state
    passed = c.passed

    begun : (fewer : ℕ) → fewer < n → IsReportPrefix (meaning p input fewer).report bytes
    begun fewer lt =
        let k = n - 1 in
        let g = fewer_ticks p code behaves input k m c.state (right input k) (right input (suc k)) (subst (λ j. steps code m (start code input j) ≡ Underway c.state) (one_fewer fewer n lt) passed) c.left in
        let last : IsReportPrefix (meaning p input k).report bytes = record { by = (g.by.0 ++ c.cut.part, c.cut.begins ∙ ap (λ l. l ++ c.cut.part) g.by.1 ∙ append_assoc (meaning p input k).report g.by.0 c.cut.part) } in
        let first = subst (λ j. IsReportPrefix (meaning p input fewer).report (meaning p input j).report) (up_to fewer n lt) (prefixes p input fewer (k - fewer) (right input fewer) (right input (fewer + (k - fewer)))) in
        grows_first (meaning p input fewer).report (meaning p input k).report bytes first.by.0 first.by.1 last

    by-part : (c.cut.part ≡ []) ⊎ ((next : MachineState) × (rest : List ℕ) × (step code c.state ≡ Goes next) × (next.report ≡ bytes ++ rest)) → IsReportPrefix bytes (meaning p input n).report
    by-part (inl e) =
        let whole : bytes ≡ c.state.report = c.cut.begins ∙ ap (λ l. c.state.report ++ l) e ∙ append-nil c.state.report in
        subst (λ l. IsReportPrefix l (meaning p input n).report) (sym whole) (on_the_way p code behaves input n m c.state (right input n) passed)
    by-part (inr f) =
        let next = one_step m (start code input n) c.state f.0 passed f.2 in
        grows_first bytes f.0.report (meaning p input n).report f.1 f.3 (on_the_way p code behaves input n (m + 1) f.0 (right input n) next)

  module _ {R W : Type 0} (remaining : R → Option (List ℕ)) (contents : W → Option (List ℕ)) (reader last_reader : R) (writer last_writer : W) (run : Generated) (first new : Situation) (source last : Source R) (used made : ℕ)
      (of : IsCodeOf run (compiled_of p run)) (starts : IsAtStart run first) (fresh : IsFresh reader source) (at_last : source_reader last ≡ last_reader) (knows : IsEndKnown remaining (source_block last)) where
    -- what holds of the input before a run holds of what the reader gave
    gave : (Says IsMeantRun : List ℕ → Type 0) → ((input : List ℕ) → Says input → IsMeantRun input) → HasFound remaining source last Says → HasGivenInput remaining reader last_reader IsMeantRun
    gave = fresh_gave remaining source last reader last_reader fresh at_last knows

    -- a run after which no more is read
    took_last : (stop : Stop) (Q : Saying) → ((bytes input : List ℕ) → ((more : ℕ) → Q code made (start code input (used + more)) bytes more) → IsMeantRun stop text used bytes input)
        → HasTakenLast remaining source last (contents writer) (contents last_writer) (EachSays Q run first used made) → IsSimulated remaining contents text stop used reader last_reader writer last_writer
    took_last stop Q to h = record {
      bytes = h.bytes;
      took = h.took;
      means = gave (EachSays Q run first used made h.bytes) (IsMeantRun stop text used h.bytes) (λ input s. to h.bytes input (at_first Q p run first of starts used made h.bytes input s)) h.says;
    }

    over : (ending : Ending) (bytes input : List ℕ) → ((more : ℕ) → HasRunToEnd code (start code input (used + more)) made bytes ending more) → (more : ℕ) → IsMeaning text input (used + more) (record { report = bytes; ending = ending; ticks = more })
    over ending bytes input s more = finished input (used + more) made bytes ending more (s more)

    cut : (bytes input : List ℕ) → ((more : ℕ) → IsCut code (start code input (used + more)) made bytes more) → IsCutShort text input used bytes
    cut bytes input s = subst (λ n. IsCutShort text input n bytes) (no_more used) (cut_between input (used + 0) made bytes (s 0))

    paused : HasCome remaining run first new source last (contents writer) (contents last_writer) used made → IsPausing run new → IsSimulated remaining contents text Paused used reader last_reader writer last_writer
    paused h due = record {
      bytes = h.bytes;
      took = h.took;
      means = gave (λ input. (rest : List ℕ) × EachLed run first new used made h.bytes input rest) (IsMeantRun Paused text used h.bytes)
          (λ input s.
          let l = s.1 (compiled_of p run) of (start code input 0).core refl (starts (compiled_of p run) of input) in
          let x : MachineState = record { core = l.core; report = h.bytes; ticks = 0 } in
          let passed = subst (λ n. steps code made (start code input n) ≡ Underway x) (no_more used) (l.gets [] 0) in
          means_so input used (record { report = h.bytes; ending = PausedThere; ticks = 0 }) (pauses p code behaves input used made 0 x (right input used) passed (due (compiled_of p run) of l.core l.located h.bytes)))
          (reads_finds remaining source last (EachLed run first new used made h.bytes) _ (λ i j s. (j, s)) h.says);
    }

    -- a run in which the reader failed, as any that was cut
    failed : HasTakenBeforeFailure remaining source last (contents writer) (contents last_writer) (λ bytes input later. EachSays (cutting_reading later) run first used made bytes input) → HasTakenLast remaining source last (contents writer) (contents last_writer) (EachSays cutting run first used made)
    failed h = record {
      bytes = h.bytes;
      took = h.took;
      says = fails_find remaining source last (λ input later. EachSays (cutting_reading later) run first used made h.bytes input) (EachSays cutting run first used made h.bytes)
          (λ input later s w is k e located report ticks. cut_before w.code (at_core k report (used + ticks)) made (report ++ h.bytes) later ticks (s w is k e located report ticks)) h.says;
    }

    -- what a run from the start did
    pub ran_simulated : (stop : Stop) → IsRunResult remaining stop run first new source last (contents writer) (contents last_writer) used made → IsSimulated remaining contents text stop used reader last_reader writer last_writer
    ran_simulated Ended h = took_last Ended (finishing EndedThere) (over EndedThere) h
    ran_simulated (Fault kind line) h = took_last (Fault kind line) (finishing (FaultThere kind line)) (over (FaultThere kind line)) h
    ran_simulated Paused h = paused h.0 h.1
    ran_simulated Memory h = took_last Memory cutting cut h
    ran_simulated Output h = took_last Output cutting_writing (λ bytes input s. cut bytes input (λ more. cut_so code (start code input (used + more)) made bytes more (s more))) h
    ran_simulated Input h = took_last Input cutting cut (failed h)
    ran_simulated Failed h = absurd h

none_fewer : (fewer : ℕ) → fewer < 0 → ⊥
none_fewer fewer lt = omega (arith, lt)

-- nothing was run, read or written
pub nothing_simulated : {R W : Type 0} (remaining : R → Option (List ℕ)) (contents : W → Option (List ℕ)) (text : List ℕ) (p : Program) → IsProgramOf text p → (reader : R) (writer : W) → IsSimulated remaining contents text Memory 0 reader reader writer writer
nothing_simulated remaining contents text p is_program reader writer = record {
  bytes = [];
  took = Appends-nil (contents writer);
  means = record {
    read = [];
    ended = false;
    gave = Consumes-nil (remaining reader);
    at_end = λ e. absurd cc;
    says = λ more e. record {
      run = meaning p more 0;
      is_meaning = record { program = p; is_program = is_program; is_run = refl };
      within = record { by = ((meaning p more 0).report, refl) };
      beyond = λ fewer earlier lt h. absurd (none_fewer fewer lt);
    };
  };
}
