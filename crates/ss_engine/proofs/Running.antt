-- What a session did, one call after another.
use Rattle.std.proofs.Common.{◌≡◌, ◌≢◌, ℕ, ◌+◌, ◌-◌, ◌^◌, ◌≤◌, min, List, [], ◌∷◌, ◌++◌, Option, Some, None, refl, sym, ap, subst, ◌∙◌, append-nil, arith}
use Rattle.std.proofs.KnownBytes.{Appends-nil, Consumes-nil}
use Rattle.std.specs.Io.KnownBytes.{Appends}
use Rattle.ss_base.specs.Failures.{HasRisen, HasRisenBy}
use Rattle.ss_engine.proofs.Common.{at_core, CanGoOn, Failed, Generated, HasBeenRun, HasCome, HasComeTo, HasRun, Input, IsEndKnown, IsNewSession, IsPausing, IsRunResult, kept_after, last_stop, Output, Paused, Session, session_machine, session_reader, session_source, session_writer, Situation, Source, source_block, steps, StepsGoOn, Stop, Underway}
use Rattle.ss_machine.proofs.Joining.{ran_then}
use Rattle.ss_engine.proofs.Handing.{used_more, still_used, used_all, used_since}
use Rattle.ss_engine.proofs.Inputs.{fresh_knows}

-- ## Answers

pub kept_none : (stop : Stop) → kept_after stop ≡ None → stop ≡ Paused
kept_none stop e = grind arith

pub kept_some : (stop kept : Stop) → kept_after stop ≡ Some kept → stop ≡ kept
kept_some stop kept e = grind arith

pub kept_stop : (stop : Stop) → stop ≡ last_stop (kept_after stop)
kept_stop stop = grind arith

pub stopped_by : (o : Option Stop) (stop : Stop) → stop ≢ Paused → last_stop o ≡ stop → o ≡ Some stop
stopped_by None stop other e = absurd (other (sym e))
stopped_by (Some kept) stop other e = ap Some e

pub last_some : (pieces : List ℕ) (ticks : ℕ) → pieces ++ ticks ∷ [] ≢ []
last_some [] ticks e = cc
last_some (p ∷ ps) ticks e = cc

some_none : (stop : Stop) (o : Option Stop) → o ≡ Some stop → o ≡ None → ⊥
some_none stop o e f = let q : Some stop ≡ None = sym e ∙ f in cc

-- a session has stopped, or goes on
pub either_stop : {T : Type 0} (o : Option Stop) → ((stop : Stop) → o ≡ Some stop → T) → (o ≡ None → T) → T
either_stop (Some stop) stopped going = stopped stop refl
either_stop None stopped going = going refl

-- ## The state of a machine

module _ {R : Type 0} (remaining : R → Option (List ℕ)) (code : Generated) (old new : Situation) (source last : Source R) (a b : Option (List ℕ)) (taken made : ℕ) where
  pub came_kept : (stop : Stop) → IsRunResult remaining stop code old new source last a b taken made → HasComeTo remaining (kept_after stop) code old new source last a b taken made
  came_kept Paused h = h.0
  came_kept _ h = h

  pub came_ran : (o : Option Stop) → HasComeTo remaining o code old new source last a b taken made → (o ≡ None → IsPausing code new) → IsRunResult remaining (last_stop o) code old new source last a b taken made
  came_ran None h due = (h, due refl)
  came_ran (Some stop) h due = h

-- ## Before the first call

fallen_by_none : (count : ℕ) → HasRisenBy 0 count count
fallen_by_none count = omega arith

module _ {R W : Type 0} (remaining : R → Option (List ℕ)) (read_faults : R → ℕ) (contents : W → Option (List ℕ)) (write_faults : W → ℕ) (code : Generated) (reader : R) (writer : W) (s : Session R W) (b : IsNewSession code reader writer s) where
  came_none : HasCome remaining code (session_machine s).at (session_machine s).at (session_source s) (session_source s) (contents writer) (contents (session_writer s)) (session_machine s).used (session_machine s).steps
  came_none = record {
    bytes = [];
    took = subst (λ w. Appends (contents writer) (contents w) []) (sym b.writer_is) (Appends-nil (contents writer));
    says = record {
      got = [];
      consumed = Consumes-nil (remaining (session_reader s));
      after_end = λ e. (refl, e);
      says = λ more input e there. record {
        rest = input;
        ahead = there;
        says = λ w of c e located. record {
          core = c;
          input = e;
          located = located;
          gets = λ report ticks.
              let t : (session_machine s).used + ticks ≡ ticks = omega (arith, b.first.used) in
              ap (λ m. steps w.code m (at_core c report ((session_machine s).used + ticks))) b.first.steps ∙ ap (λ n. Underway (at_core c report n)) t ∙
              ap (λ r. Underway (at_core c r ticks)) (sym (append-nil report));
        };
      };
    };
  }

  pub not_run : HasRun remaining read_faults contents write_faults code reader writer [] s
  not_run = record {
    first = (session_machine s).at;
    source = session_source s;
    starts = b.first.state;
    fresh = b.fresh;
    code_is = b.first.code_is;
    came = subst (λ o. HasComeTo remaining o code (session_machine s).at (session_machine s).at (session_source s) (session_source s) (contents writer) (contents (session_writer s)) (session_machine s).used (session_machine s).steps) (sym b.first.stopped) came_none;
    paused = λ none some. absurd (some refl);
    goes_on = λ none. record { unstopped = none; unmissed = b.fresh.missed };
    right = λ e. let q : None ≡ Some Failed = sym b.first.stopped ∙ e in absurd cc;
    used = omega (arith, b.first.used);
    all_used = λ none. omega (arith, b.first.used);
    end = fresh_knows remaining reader (session_source s) b.fresh;
    output = λ e. let q : None ≡ Some Output = sym b.first.stopped ∙ e in absurd cc;
    input = λ e. let q : None ≡ Some Input = sym b.first.stopped ∙ e in absurd cc;
    never_falls = subst (λ w. HasRisenBy 0 (write_faults writer) (write_faults w)) (sym b.writer_is) (fallen_by_none (write_faults writer));
    read_never_falls = subst (λ r. HasRisenBy 0 (read_faults reader) (read_faults r)) (sym b.fresh.reader_is) (fallen_by_none (read_faults reader));
  }

-- ## One call more

module _ {R W : Type 0} (remaining : R → Option (List ℕ)) (read_faults : R → ℕ) (contents : W → Option (List ℕ)) (write_faults : W → ℕ) (code : Generated) (reader : R) (writer : W) (pieces : List ℕ) (ticks : ℕ) (old new : Session R W) (h : HasRun remaining read_faults contents write_faults code reader writer pieces old) where
  -- of a session that has stopped
  pub runs_again : (stop : Stop) → (session_machine old).stopped ≡ Some stop → new ≡ old → HasRun remaining read_faults contents write_faults code reader writer (pieces ++ ticks ∷ []) new
  runs_again stop stopped same = subst (HasRun remaining read_faults contents write_faults code reader writer (pieces ++ ticks ∷ [])) (sym same) (record {
    first = h.first;
    source = h.source;
    starts = h.starts;
    fresh = h.fresh;
    code_is = h.code_is;
    came = h.came;
    paused = λ none. absurd (some_none stop (session_machine old).stopped stopped none);
    goes_on = h.goes_on;
    right = h.right;
    used = still_used pieces ticks (session_machine old).used h.used;
    all_used = λ none. absurd (some_none stop (session_machine old).stopped stopped none);
    end = h.end;
    output = h.output;
    input = h.input;
    never_falls = h.never_falls;
    read_never_falls = h.read_never_falls;
  })

  -- of one that goes on
  module _ (on : StepsGoOn) (stop : Stop) (going : (session_machine old).stopped ≡ None)
      (ran : IsRunResult remaining stop (session_machine old).code (session_machine old).at (session_machine new).at (session_source old) (session_source new) (contents (session_writer old)) (contents (session_writer new)) ((session_machine new).used - (session_machine old).used) ((session_machine new).steps - (session_machine old).steps))
      (right : stop ≡ Failed → ⊥) (stopped : (session_machine new).stopped ≡ kept_after stop) (same : (session_machine new).code ≡ (session_machine old).code)
      (least : (session_machine old).used ≤ (session_machine new).used) (most : (session_machine new).used ≤ (session_machine old).used + ticks) (small : (session_machine new).used ≤ 2 ^ 64 - 1) (steps : (session_machine old).steps ≤ (session_machine new).steps)
      (paused : stop ≡ Paused → (session_machine new).used ≡ min ((session_machine old).used + ticks) (2 ^ 64 - 1)) where
    before : HasCome remaining code h.first (session_machine old).at h.source (session_source old) (contents writer) (contents (session_writer old)) (session_machine old).used (session_machine old).steps
    before = subst (λ o. HasComeTo remaining o code h.first (session_machine old).at h.source (session_source old) (contents writer) (contents (session_writer old)) (session_machine old).used (session_machine old).steps) going h.came

    here : IsRunResult remaining stop code (session_machine old).at (session_machine new).at (session_source old) (session_source new) (contents (session_writer old)) (contents (session_writer new)) ((session_machine new).used - (session_machine old).used) ((session_machine new).steps - (session_machine old).steps)
    here = subst (λ k. IsRunResult remaining stop k (session_machine old).at (session_machine new).at (session_source old) (session_source new) (contents (session_writer old)) (contents (session_writer new)) ((session_machine new).used - (session_machine old).used) ((session_machine new).steps - (session_machine old).steps)) h.code_is ran

    -- all runs as one
    whole : IsRunResult remaining stop code h.first (session_machine new).at h.source (session_source new) (contents writer) (contents (session_writer new)) (session_machine new).used (session_machine new).steps
    whole =
        let joined = ran_then on remaining code h.first (session_machine old).at (session_machine new).at h.source (session_source old) (session_source new) (contents writer) (contents (session_writer old)) (contents (session_writer new)) (session_machine old).used (session_machine old).steps ((session_machine new).used - (session_machine old).used) ((session_machine new).steps - (session_machine old).steps) stop before here in
        subst (λ n. IsRunResult remaining stop code h.first (session_machine new).at h.source (session_source new) (contents writer) (contents (session_writer new)) (session_machine new).used n) (used_since (session_machine old).steps (session_machine new).steps steps)
        (subst (λ n. IsRunResult remaining stop code h.first (session_machine new).at h.source (session_source new) (contents writer) (contents (session_writer new)) n ((session_machine old).steps + ((session_machine new).steps - (session_machine old).steps))) (used_since (session_machine old).used (session_machine new).used least) joined)

    due : (session_machine new).stopped ≡ None → IsPausing code (session_machine new).at
    due none =
        let so = subst (λ s. IsRunResult remaining s code (session_machine old).at (session_machine new).at (session_source old) (session_source new) (contents (session_writer old)) (contents (session_writer new)) ((session_machine new).used - (session_machine old).used) ((session_machine new).steps - (session_machine old).steps)) (kept_none stop (sym stopped ∙ none)) here in
        so.1

    pub runs_on : (stop ≡ Paused → CanGoOn new) → (IsEndKnown remaining (source_block (session_source old)) → IsEndKnown remaining (source_block (session_source new)))
        → (stop ≡ Output → HasRisen (write_faults (session_writer old)) (write_faults (session_writer new))) → (stop ≡ Input → HasRisen (read_faults (session_reader old)) (read_faults (session_reader new)))
        → HasRisenBy 0 (write_faults (session_writer old)) (write_faults (session_writer new)) → HasRisenBy 0 (read_faults (session_reader old)) (read_faults (session_reader new))
        → HasRun remaining read_faults contents write_faults code reader writer (pieces ++ ticks ∷ []) new
    runs_on goes_on end output input falls read_falls = record {
      first = h.first;
      source = h.source;
      starts = h.starts;
      fresh = h.fresh;
      code_is = same ∙ h.code_is;
      came = subst (λ o. HasComeTo remaining o code h.first (session_machine new).at h.source (session_source new) (contents writer) (contents (session_writer new)) (session_machine new).used (session_machine new).steps) (sym stopped)
          (came_kept remaining code h.first (session_machine new).at h.source (session_source new) (contents writer) (contents (session_writer new)) (session_machine new).used (session_machine new).steps stop whole);
      paused = λ none some. due none;
      goes_on = λ none. goes_on (kept_none stop (sym stopped ∙ none));
      right = λ e. right (kept_some stop Failed (sym stopped ∙ e));
      used = used_more pieces ticks (session_machine old).used (session_machine new).used h.used most small;
      all_used = λ none. used_all pieces ticks (session_machine old).used (session_machine new).used (h.all_used going) (paused (kept_none stop (sym stopped ∙ none)));
      end = end h.end;
      output = λ e. let r = output (kept_some stop Output (sym stopped ∙ e)) in omega (arith, h.never_falls, r);
      input = λ e. let r = input (kept_some stop Input (sym stopped ∙ e)) in omega (arith, h.read_never_falls, r);
      never_falls = omega (arith, h.never_falls, falls);
      read_never_falls = omega (arith, h.read_never_falls, read_falls);
    }

-- ## The last call

module _ {R W : Type 0} (remaining : R → Option (List ℕ)) (read_faults : R → ℕ) (contents : W → Option (List ℕ)) (write_faults : W → ℕ) (code : Generated) (reader : R) (writer : W) where
  pub runs_last : (pieces before : List ℕ) (last : ℕ) (old new : Session R W) (stop : Stop) → pieces ≡ before ++ last ∷ [] → (before ≡ [] → (session_reader old ≡ reader) × (session_writer old ≡ writer)) → CanGoOn old
      → HasRun remaining read_faults contents write_faults code reader writer before old → HasRun remaining read_faults contents write_faults code reader writer (before ++ last ∷ []) new
      → (session_machine new).stopped ≡ kept_after stop → (session_machine old).used ≤ (session_machine new).used
      → (stop ≡ Output → HasRisen (write_faults (session_writer old)) (write_faults (session_writer new))) → (stop ≡ Input → HasRisen (read_faults (session_reader old)) (read_faults (session_reader new)))
      → HasBeenRun remaining read_faults contents write_faults code reader writer pieces new
  runs_last pieces before last old new stop are first on run_before run stopped more output input = record {
    before = before;
    last = last;
    are = are;
    some = λ none. last_some before last (sym are ∙ none);
    run = subst (λ ps. HasRun remaining read_faults contents write_faults code reader writer ps new) (sym are) run;
    earlier = old;
    first = first;
    paused = on.unstopped;
    run_before = run_before;
    more = more;
    output = λ e. output (kept_some stop Output (sym stopped ∙ e));
    input = λ e. input (kept_some stop Input (sym stopped ∙ e));
  }
