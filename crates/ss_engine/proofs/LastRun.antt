-- The last of the runs of a text, from the last call of a session.
use Rattle.std.proofs.Common.{◌≡◌, ◌≢◌, ℕ, ◌≤◌, List, [], ◌∷◌, ◌++◌, Option, ap, ◌∙◌, subst, append_assoc}
use Rattle.ss_engine.proofs.Common.{Generated, handed_out, HasBeenRun, HasLastRun, HasRun, IsSimulated, last_stop, Paused, runs_of, Session, session_machine, session_reader, session_writer}

module _ {R W : Type 0} (remaining : R → Option (List ℕ)) (read_faults : R → ℕ) (contents : W → Option (List ℕ)) (write_faults : W → ℕ) (text : List ℕ) (code : Generated) (reader : R) (writer : W) where
  -- the runs of a session are what its text means
  abbrev pub AreMeant : Type 0
  AreMeant =
      (session : Session R W) (pieces : List ℕ) → pieces ≢ [] → HasRun remaining read_faults contents write_faults code reader writer pieces session →
      IsSimulated remaining contents text (last_stop (session_machine session).stopped) (session_machine session).used reader (session_reader session) writer (session_writer session)

  pub last_run : AreMeant → (pieces done after : List ℕ) (s : Session R W) → runs_of pieces ≡ done ++ after → (w : HasBeenRun remaining read_faults contents write_faults code reader writer done s) →
      (Says : R → W → Type 0) → Says (session_reader w.earlier) (session_writer w.earlier) → HasLastRun remaining contents text pieces (session_machine s).used reader writer Says
  last_run meant pieces done after s e w Says says = record {
    before = w.before;
    last = w.last;
    after = after;
    runs = e ∙ ap (λ l. l ++ after) w.are ∙ append_assoc w.before (w.last ∷ []) after;
    reader_then = session_reader w.earlier;
    writer_then = session_writer w.earlier;
    first = w.first;
    paused = λ some. subst (λ n. IsSimulated remaining contents text Paused n reader (session_reader w.earlier) writer (session_writer w.earlier)) all
        (subst (λ o. IsSimulated remaining contents text (last_stop o) (session_machine w.earlier).used reader (session_reader w.earlier) writer (session_writer w.earlier)) w.paused (meant w.earlier w.before some w.run_before));
    least = subst (λ n. n ≤ (session_machine s).used) all w.more;
    most = subst (λ ps. (session_machine s).used ≤ handed_out ps) w.are w.run.used;
    says = says;
  } where
    all : (session_machine w.earlier).used ≡ handed_out w.before
    all = w.run_before.all_used w.paused
