-- A well-typed program does not go wrong.
use Rattle.std.proofs.Common.{arith, ◌≡◌, ℕ, zero, suc, ◌+◌, Bool, true, false, List, [], ◌∷◌, ◌++◌, length, Option, Some, None, ℤ, pos, negsuc, refl, sym, ap, ◌∙◌, subst}
use Rattle.ss_meaning.proofs.Common.{Alpha, AreOfModes, Beginning, Block, Calls, Class, ClassKind, ClassLayout, Coming, Decides-int_eq, effects, eq-eqb, Event, event_begun, first_value, Has, int_eq, Integer, is_awaited, IsFittingStore, IsLivingAs, IsLivingOwner, IsSoundStore, Layout, made, Mode, mode_of, next_event, Notice, Owner, Permanent, Program, Routine, same_mode, Statistic, System, Temporary, Value}
use Rattle.std.specs.Prelude.{slice_get, map, ◌==◌, ◌≢◌, if◌then◌else◌}
use Rattle.ss_world.specs.State.{Record, kind_of, first_state, not_made, records_in}
use Rattle.ss_program.specs.WellTyped.{IsWellTyped, IsTypedRoutine, IsTypedEvent, IsTypedBlock}
use Rattle.ss_meaning.specs.Store.{Column, Store, prepended, first_values, taken_by_modes, appended, opened, front, yielded}
use Rattle.ss_meaning.specs.Histories.{home, no_history, no_histories, starting}
use Rattle.ss_meaning.specs.Parts.{RunState, Returned, Stopped, Faulted, OutOfTicks, Wrong, Outcome, WentOn, Left, Part, outcome_then, needed, take_tick}
use Rattle.ss_meaning.specs.Meaning.{with_locals, go_back, come_back, enclosed, routine_called, event_routine, begin, event_taken, calls, WentWrong, run_of, first_store, first_run_state, meaning}
use Rattle.ss_meaning.specs.Laws.{IsFittingAfter}
use Rattle.ss_meaning.proofs.Fine.{There, Any}
use Rattle.ss_meaning.proofs.Lists.{every_get}
use Rattle.ss_meaning.proofs.Kept.{KeepsColumn, starting_kept}
use Rattle.ss_meaning.proofs.Stores.{same_is}
use Rattle.ss_meaning.proofs.Events.{ComingAs, next_event_there, BegunAs, begun_fine}
use Rattle.ss_meaning.proofs.Parts.{Kept as Stays, Safe, safe_then, safe_looked, safe_tick}
use Rattle.ss_meaning.proofs.Statements.{CallsSafe, block_safe}

-- ## Variables of routines

firsts_modes : (modes : List Mode) → AreOfModes (first_values modes) modes
firsts_modes [] = refl
firsts_modes (m ∷ ms) = let here : mode_of (first_value m) ≡ m = first_mode m in let rest : AreOfModes (first_values ms) ms = firsts_modes ms in cc
  where
    first_mode : (m : Mode) → mode_of (first_value m) ≡ m
    first_mode Integer = refl
    first_mode Alpha = refl

prepended_there : (v : Value) (m : Mode) (ms : List Mode) (o : Option (List Value)) → mode_of v ≡ m → There (λ vs. AreOfModes vs ms) o → There (λ vs. AreOfModes vs (m ∷ ms)) (prepended v o)
prepended_there v m ms (Some vs) q h = let all : AreOfModes (v ∷ vs) (m ∷ ms) = cc in all
prepended_there v m ms None q h = absurd h

taken_there : (ms : List Mode) (vs : List Value) → AreOfModes vs ms → There (λ us. AreOfModes us ms) (taken_by_modes ms vs)
taken_there [] [] h = refl
taken_there [] (v ∷ vs) h = absurd cc
taken_there (m ∷ ms) [] h = absurd cc
taken_there (m ∷ ms) (v ∷ vs) h =
    let here : mode_of v ≡ m = cc in
    let rest : AreOfModes vs ms = cc in
    subst (λ b. There (λ us. AreOfModes us (m ∷ ms)) (if b then prepended v (taken_by_modes ms vs) else None)) (sym (ap (λ n. same_mode n m) here ∙ same_is m))
    (prepended_there v m ms (taken_by_modes ms vs) here (taken_there ms vs rest))

pub both_hold : (vs us : List Value) (ms ns : List Mode) → AreOfModes vs ms → AreOfModes us ns → AreOfModes (vs ++ us) (ms ++ ns)
both_hold [] us [] ns h g = g
both_hold [] us (m ∷ ms) ns h g = absurd cc
both_hold (v ∷ vs) us [] ns h g = absurd cc
both_hold (v ∷ vs) us (m ∷ ms) ns h g =
    let here : mode_of v ≡ m = cc in
    let rest : AreOfModes vs ms = cc in
    let later : AreOfModes (vs ++ us) (ms ++ ns) = both_hold vs us ms ns rest g in cc

pub opened_there : (given others : List Mode) (vs : List Value) → AreOfModes vs given → There (λ ls. AreOfModes ls (given ++ others)) (opened given others vs)
opened_there given others vs h = by (taken_by_modes given vs) (taken_there given vs h)
  where
    by : (o : Option (List Value)) → There (λ us. AreOfModes us given) o → There (λ ls. AreOfModes ls (given ++ others)) (appended o (first_values others))
    by (Some us) g = both_hold us (first_values others) given others g (firsts_modes others)
    by None g = absurd g

front_there : (ys os : List Mode) (ls : List Value) → AreOfModes ls (ys ++ os) → There (λ us. AreOfModes us ys) (front (length ys) ls)
front_there [] os ls h = refl
front_there (y ∷ ys) os [] h = absurd cc
front_there (y ∷ ys) os (l ∷ ls) h =
    let here : mode_of l ≡ y = cc in
    let rest : AreOfModes ls (ys ++ os) = cc in
    prepended_there l y ys (front (length ys) ls) here (front_there ys os ls rest)

pub yielded_there : (gs ys os : List Mode) (ls : List Value) → AreOfModes ls (gs ++ (ys ++ os)) → There (λ us. AreOfModes us ys) (yielded (length gs) (length ys) ls)
yielded_there [] ys os ls h = front_there ys os ls h
yielded_there (g ∷ gs) ys os [] h = absurd cc
yielded_there (g ∷ gs) ys os (l ∷ ls) h = let rest : AreOfModes ls (gs ++ (ys ++ os)) = cc in yielded_there gs ys os ls rest

-- ## Bodies with variables of their own

-- a store with other local variables
other_locals : (p : Program) (s : Store) (ls : List Value) → IsSoundStore p s → IsSoundStore p (record s { locals = ls })
other_locals p s ls f = record { globals = f.globals; world = f.world }

back_kept : (p : Program) (ms : List Mode) (P : List Value → Type 0) (first count : ℕ) (ls : List Value) (w : RunState) → There P (yielded first count w.store.locals) → IsSoundStore p w.store → AreOfModes ls ms → Stays p ms P (go_back first count ls w)
back_kept p ms P first count ls w h f g = by (yielded first count w.store.locals) h
  where
    by : (o : Option (List Value)) → There P o → Stays p ms P (outcome_then (needed o w) (λ vs w. WentOn vs (with_locals ls w)))
    by (Some us) q = (q, record { sound = other_locals p w.store ls f; locals = g })
    by None q = absurd q

come_kept : (p : Program) (ms ns : List Mode) (P : List Value → Type 0) (first count : ℕ) (ls : List Value) (o : Outcome (Unit {0})) → ((us : List Value) → AreOfModes us ns → There P (yielded first count us)) → AreOfModes ls ms → Stays p ns Any o → Stays p ms P (come_back first count ls o)
come_kept p ms ns P first count ls (WentOn u w) h g k = back_kept p ms P first count ls w (h w.store.locals k.1.locals) k.1.sound g
come_kept p ms ns P first count ls (Left Returned w) h g k = back_kept p ms P first count ls w (h w.store.locals k.locals) k.sound g
come_kept p ms ns P first count ls (Left Stopped w) h g k = k
come_kept p ms ns P first count ls (Left (Faulted kind line) w) h g k = k
come_kept p ms ns P first count ls (Left OutOfTicks w) h g k = k
come_kept p ms ns P first count ls (Left Wrong w) h g k = absurd k

enclosed_safe : (p : Program) (ms given others : List Mode) (P : List Value → Type 0) (body : Part (Unit {0})) (vs : List Value) (count : ℕ) → AreOfModes vs given → ((us : List Value) → AreOfModes us (given ++ others) → There P (yielded (length given) count us)) → Safe p (given ++ others) Any body → Safe p ms P (enclosed given others body vs count)
enclosed_safe p ms given others P body vs count q h safe = record { by = λ w fits. by w fits (opened given others vs) (opened_there given others vs q) }
  where
    by : (w : RunState) → IsFittingStore p ms w.store → (o : Option (List Value)) → There (λ ls. AreOfModes ls (given ++ others)) o → Stays p ms P (outcome_then (needed o w) (λ ls w. come_back (length given) count w.store.locals (body (with_locals ls w))))
    by w fits (Some ls) g =
        come_kept p ms (given ++ others) P (length given) count w.store.locals (body (with_locals ls w)) h fits.locals
        (safe.by (with_locals ls w) (record { sound = other_locals p w.store ls fits.sound; locals = g }))
    by w fits None g = absurd g

-- ## Calls and events

module _ (p : Program) (typed : IsWellTyped p) where
  routine_safe : (n : ℕ) (h : Calls) → CallsSafe p h → (ms : List Mode) (k : ℕ) (r : Routine) (vs : List Value) (count : ℕ) → slice_get p.routines k ≡ Some r → AreOfModes vs r.given → count ≡ length r.yielding → Safe p ms (λ us. AreOfModes us r.yielding) (routine_called (Some r) h n vs count)
  routine_safe n h ok ms k r vs count there q many =
      record { by = λ w fits. by w fits (count == length r.yielding) (eq-eqb count (length r.yielding) many) }
    where
      good : IsTypedRoutine p r
      good = every_get (IsTypedRoutine p) p.routines k r typed.routines there

      yields : (us : List Value) → AreOfModes us (r.given ++ (r.yielding ++ r.others)) → There (λ us. AreOfModes us r.yielding) (yielded (length r.given) count us)
      yields us g = subst (λ c. There (λ us. AreOfModes us r.yielding) (yielded (length r.given) c us)) (sym many) (yielded_there r.given r.yielding r.others us g)

      body : Safe p (r.given ++ (r.yielding ++ r.others)) Any (effects h n r.body)
      body = block_safe p typed (r.given ++ (r.yielding ++ r.others)) false h ok n r.body good

      by : (w : RunState) → IsFittingStore p ms w.store → (b : Bool) → b ≡ true → Stays p ms (λ us. AreOfModes us r.yielding) (if b then enclosed r.given (r.yielding ++ r.others) (effects h n r.body) vs count w else Left Wrong w)
      by w fits true e = (enclosed_safe p ms r.given (r.yielding ++ r.others) (λ us. AreOfModes us r.yielding) (effects h n r.body) vs count q yields body).by w fits
      by w fits false e = absurd cc

  event_safe : (n : ℕ) (h : Calls) → CallsSafe p h → (ms : List Mode) (k : ℕ) (e : Event) (vs : List Value) → slice_get p.events k ≡ Some e → AreOfModes vs e.given → Safe p ms Any (event_routine (Some e) h n vs)
  event_safe n h ok ms k e vs there q =
      safe_then {P = Any} (enclosed_safe p ms e.given e.others Any (effects h n e.body) vs 0 q nothing body) (λ us u. record { by = λ w fits. (tt, fits) })
    where
      good : IsTypedEvent p e
      good = every_get (IsTypedEvent p) p.events k e typed.events there

      nothing : (us : List Value) → AreOfModes us (e.given ++ e.others) → There Any (yielded (length e.given) 0 us)
      nothing us g = by (yielded_there e.given [] e.others us g)
        where
          by : There (λ us. AreOfModes us []) (yielded (length e.given) 0 us) → There Any (yielded (length e.given) 0 us)
          by h = weaker (yielded (length e.given) 0 us) h
            where
              weaker : (o : Option (List Value)) → There (λ us. AreOfModes us []) o → There Any o
              weaker (Some us) h = tt
              weaker None h = absurd h

      body : Safe p (e.given ++ e.others) Any (effects h n e.body)
      body = block_safe p typed (e.given ++ e.others) false h ok n e.body good.body

  taken_kept : (n : ℕ) (h : Calls) → CallsSafe p h → (ms : List Mode) (w : RunState) → IsFittingStore p ms w.store → is_awaited w.store ≡ true → Stays p ms Any (event_taken p.events h n w)
  taken_kept n h ok ms w fits a = by (next_event w.store) (next_event_there p typed ms w.store a fits)
    where
      body : (b : Beginning) → BegunAs p typed ms b → Safe p ms Any (event_routine (slice_get p.events b.rank) h n b.given)
      body b g = subst (λ o. Safe p ms Any (event_routine o h n b.given)) (sym g.there) (event_safe n h ok ms b.rank g.event b.given g.there g.given)

      started_with : (b : Beginning) → BegunAs p typed ms b → Safe p ms Any (λ w. event_routine (slice_get p.events b.rank) h n b.given (record w { store = b.store }))
      started_with b g = record { by = λ w f. (body b g).by (record w { store = b.store }) g.fits }

      by : (o : Option Coming) → There (ComingAs p typed ms) o → Stays p ms Any (outcome_then (needed o w) (λ c. begin c (λ b. event_routine (slice_get p.events b.rank) h n b.given)))
      by (Some c) g =
          (safe_then {P = BegunAs p typed ms} (safe_looked c.ranked.said.line (event_begun c) (begun_fine p typed ms c g)) started_with).by w fits
      by None g = absurd g

  pub calls_safe : (n : ℕ) → CallsSafe p (calls p n)
  calls_safe zero = record { call = λ ms k r vs count there q many. record { by = λ w fits. fits.sound }; event = λ ms w fits a. fits.sound }
  calls_safe (suc n) = record {
    call = λ ms k r vs count there q many.
        subst (λ o. Safe p ms (λ us. AreOfModes us r.yielding) (take_tick (routine_called o (calls p n) n vs count))) (sym there)
        (safe_tick (routine_safe n (calls p n) (calls_safe n) ms k r vs count there q many));
    event = taken_kept n (calls p n) (calls_safe n);
  }

-- ## The first store

none_made : (cs : List ClassLayout) (k : ℕ) (rs : List Record) → slice_get (map not_made cs) k ≡ Some (Some rs) → ⊥
none_made [] k rs q = absurd cc
none_made (c ∷ cs) zero rs q = absurd cc
none_made (c ∷ cs) (suc k) rs q = none_made cs k rs q

made_none : (cs : List ClassLayout) (k : ℕ) → length (records_in (slice_get (map not_made cs) k)) ≡ 0
made_none [] k = refl
made_none (c ∷ cs) zero = refl
made_none (c ∷ cs) (suc k) = made_none cs k

none_lives : (l : Layout) (k : ClassKind) (c : ℕ) (x : ℤ) → IsLivingAs k (first_state l) c x → ⊥
none_lives l Permanent c (pos zero) h = absurd h
none_lives l Permanent c (pos (suc i)) h = let none : made (first_state l) c ≡ 0 = made_none l.classes c in absurd (omega (arith, none, h))
none_lives l Permanent c (negsuc k) h = absurd h
none_lives l Temporary c (pos zero) h = absurd cc
none_lives l Temporary c (pos (suc i)) h = absurd cc
none_lives l Temporary c (negsuc k) h = absurd cc
none_lives l Notice c (pos zero) h = absurd cc
none_lives l Notice c (pos (suc i)) h = absurd cc
none_lives l Notice c (negsuc k) h = absurd cc

none_there : (ss : List Statistic) (j : ℕ) (t : Statistic) → slice_get ss j ≡ Some t → slice_get (no_histories ss) j ≡ Some no_history
none_there [] j t q = absurd cc
none_there (s ∷ ss) zero t q = refl
none_there (s ∷ ss) (suc j) t q = none_there ss j t q

pub first_fits : (p : Program) (input : List ℕ) → IsFittingStore p p.locals (first_store p input)
first_fits p input = record {
  sound = record {
    globals = firsts_modes p.globals;
    world = record {
      setting = refl;
      layout = refl;
      heap = (tt, λ k rs q. absurd (none_made p.layout.classes k rs q));
      pending = tt;
      histories = λ j t q. ((kept j t q).0, (kept j t q).1, λ x b. by j t q x (home p.layout t.subject) refl b);
    };
  };
  locals = firsts_modes p.locals;
}
  where
    kept : (j : ℕ) (t : Statistic) → slice_get p.statistics j ≡ Some t
        → (d : Column) × (slice_get (starting p.layout System (int_eq (pos 0)) (pos 0) p.statistics (no_histories p.statistics)) j ≡ Some d) × KeepsColumn no_history d × ((x : ℤ) → home p.layout t.subject ≡ System → int_eq (pos 0) x ≡ true → Has d x)
    kept j t q = starting_kept p.layout System (int_eq (pos 0)) (pos 0) p.statistics (no_histories p.statistics) j t no_history q (none_there p.statistics j t q)

    by : (j : ℕ) (t : Statistic) (q : slice_get p.statistics j ≡ Some t) (x : ℤ) (o : Owner) → home p.layout t.subject ≡ o → IsLivingOwner o (first_state p.layout) x → Has (kept j t q).0 x
    by j t q x System h b = (kept j t q).3 x h ((Decides-int_eq (pos 0) x).1 (sym b))
    by j t q x (Class c) h b = absurd (none_lives p.layout (kind_of p.layout c) c x b)

-- ## The whole

ending_right : (p : Program) (o : Outcome (Unit {0})) → Stays p p.locals Any o → (run_of o).ending ≢ WentWrong
ending_right p (WentOn u w) h q = absurd cc
ending_right p (Left Returned w) h q = absurd cc
ending_right p (Left Stopped w) h q = absurd cc
ending_right p (Left (Faulted kind line) w) h q = absurd cc
ending_right p (Left OutOfTicks w) h q = absurd cc
ending_right p (Left Wrong w) h q = absurd h

pub never_wrong : (p : Program) → IsWellTyped p → (input : List ℕ) (n : ℕ) → (meaning p input n).ending ≢ WentWrong
never_wrong p typed input n =
    ending_right p (effects (calls p n) n p.main (first_run_state p input n))
    ((block_safe p typed p.locals true (calls p n) (calls_safe p typed n) n p.main typed.main).by (first_run_state p input n) (first_fits p input))

after_fits : (p : Program) (ms : List Mode) (o : Outcome (Unit {0})) → Stays p ms Any o → IsFittingAfter p ms o
after_fits p ms (WentOn u w) h = h.1
after_fits p ms (Left Returned w) h = h
after_fits p ms (Left Stopped w) h = h
after_fits p ms (Left (Faulted kind line) w) h = h
after_fits p ms (Left OutOfTicks w) h = h
after_fits p ms (Left Wrong w) h = h

pub keeps_modes : (p : Program) → IsWellTyped p → (main : Bool) (ms : List Mode) (b : Block) → IsTypedBlock (record { program = p; locals = ms; is_main = main }) b → (n : ℕ) (w : RunState) → IsFittingStore p ms w.store → IsFittingAfter p ms (effects (calls p n) n b w)
keeps_modes p typed main ms b good n w fits =
    after_fits p ms (effects (calls p n) n b w) ((block_safe p typed ms main (calls p n) (calls_safe p typed n) n b good).by w fits)
