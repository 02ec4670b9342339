-- Parts of a well-typed program: they don't go wrong, and keep stores that fit.
use Rattle.std.proofs.Common.{ℕ, zero, suc, Bool, true, false, List, Ok, Err}
use Rattle.ss_meaning.proofs.Common.{Fails, Failure, IsFittingStore, IsSoundStore, IsWellTyped, Line, Mode, Program, Result, Spot, Store, TypeError, Value, written}
use Rattle.ss_meaning.specs.Parts.{RunState, Returned, Stopped, Faulted, OutOfTicks, Wrong, Outcome, WentOn, Left, Part, outcome_then, choose, looked, look, change, get, write, send, tick_from, take_tick, Next, Again, Over, go_on, loop}
use Rattle.ss_meaning.proofs.Fine.{Fine, Any}
use Rattle.ss_meaning.proofs.Entities.{SpotTakes, written_fine}
use Rattle.ss_meaning.proofs.Expressions.{HasMode_is}

-- a part does not go wrong; where it goes on its value is so, and the store fits
abbrev pub Kept : {A : Type 0} → Program → List Mode → (A → Type 0) → Outcome A → Type 0
Kept p ms P (WentOn a w) = P a × IsFittingStore p ms w.store
Kept p ms P (Left Returned w) = IsFittingStore p ms w.store
Kept p ms P (Left Stopped w) = IsSoundStore p w.store
Kept p ms P (Left (Faulted kind line) w) = IsSoundStore p w.store
Kept p ms P (Left OutOfTicks w) = IsSoundStore p w.store
Kept p ms P (Left Wrong w) = ⊥

pub record Safe {A : Type 0} (p : Program) (ms : List Mode) (P : A → Type 0) (m : Part A) : Type 0 where
  pub by : (w : RunState) → IsFittingStore p ms w.store → Kept p ms P (m w)

pub kept_then : {A B : Type 0} (p : Program) (ms : List Mode) (P : A → Type 0) (Q : B → Type 0) (o : Outcome A) (f : A → Part B) → Kept p ms P o → ((a : A) → P a → Safe p ms Q (f a)) → Kept p ms Q (outcome_then o f)
kept_then p ms P Q (WentOn a w) f h g = (g a h.0).by w h.1
kept_then p ms P Q (Left Returned w) f h g = h
kept_then p ms P Q (Left Stopped w) f h g = h
kept_then p ms P Q (Left (Faulted kind line) w) f h g = h
kept_then p ms P Q (Left OutOfTicks w) f h g = h
kept_then p ms P Q (Left Wrong w) f h g = absurd h

pub safe_then : {A B : Type 0} {p : Program} {ms : List Mode} {P : A → Type 0} {Q : B → Type 0} {m : Part A} {f : A → Part B} → Safe p ms P m → ((a : A) → P a → Safe p ms Q (f a)) → Safe p ms Q (λ w. outcome_then (m w) f)
safe_then {p = p} {ms = ms} {P = P} {Q = Q} {m = m} {f = f} h g = record { by = λ w fits. kept_then p ms P Q (m w) f (h.by w fits) g }

pub safe_went : {A : Type 0} {p : Program} {ms : List Mode} {P : A → Type 0} (a : A) → P a → Safe p ms P (WentOn a)
safe_went a q = record { by = λ w fits. (q, fits) }

kept_looked : {A : Type 0} (p : Program) (ms : List Mode) (P : A → Type 0) (l : Line) (r : Result A Failure) (w : RunState) → Fine P r → IsFittingStore p ms w.store → Kept p ms P (looked l r w)
kept_looked p ms P l (Ok a) w h fits = (h, fits)
kept_looked p ms P l (Err (Fails k)) w h fits = fits.sound
kept_looked p ms P l (Err TypeError) w h fits = absurd h

pub safe_looked : {A : Type 0} {p : Program} {ms : List Mode} {P : A → Type 0} (l : Line) (r : Result A Failure) → Fine P r → Safe p ms P (looked l r)
safe_looked {p = p} {ms = ms} {P = P} l r h = record { by = λ w fits. kept_looked p ms P l r w h fits }

pub safe_look : {A : Type 0} {p : Program} {ms : List Mode} {P : A → Type 0} (l : Line) (f : Store → Result A Failure) → ((s : Store) → IsFittingStore p ms s → Fine P (f s)) → Safe p ms P (look l f)
safe_look {p = p} {ms = ms} {P = P} l f h = record { by = λ w fits. kept_looked p ms P l (f w.store) w (h w.store fits) fits }

pub safe_change : {p : Program} {ms : List Mode} (l : Line) (f : Store → Result Store Failure) → ((s : Store) → IsFittingStore p ms s → Fine (IsFittingStore p ms) (f s)) → Safe p ms Any (change l f)
safe_change {p = p} {ms = ms} l f h = safe_then {P = IsFittingStore p ms} (safe_look l f h) (λ s fits. record { by = λ w _. (tt, fits) })

pub safe_get : {p : Program} {ms : List Mode} (l : Line) (f : Store → Result (Value × Store) Failure) (m : Mode) → ((s : Store) → IsFittingStore p ms s → Fine (λ b. HasMode_is m b.0 × IsFittingStore p ms b.1) (f s)) → Safe p ms (HasMode_is m) (get l f)
safe_get {p = p} {ms = ms} l f m h = safe_then {P = λ b. HasMode_is m b.0 × IsFittingStore p ms b.1} (safe_look l f h) (λ b g. record { by = λ w _. (g.0, g.1) })

pub safe_write : {p : Program} {ms : List Mode} (typed : IsWellTyped p) (main : Bool) (l : Line) (t : Spot) (m : Mode) (v : Value) → SpotTakes p typed ms main t m → HasMode_is m v → Safe p ms Any (write l t v)
safe_write {p = p} {ms = ms} typed main l t m v q g = safe_change l (written t v) (λ s fits. written_fine p typed ms main t m v s q g fits)

pub safe_send : {p : Program} {ms : List Mode} (bytes : List ℕ) → Safe p ms Any (send bytes)
safe_send bytes = record { by = λ w fits. (tt, fits) }

kept_tick : {A : Type 0} (p : Program) (ms : List Mode) (P : A → Type 0) (go : Part A) → Safe p ms P go → (t : ℕ) (w : RunState) → IsFittingStore p ms w.store → Kept p ms P (tick_from t go w)
kept_tick p ms P go h zero w fits = fits.sound
kept_tick p ms P go h (suc t) w fits = h.by (record w { ticks = t }) fits

pub safe_tick : {A : Type 0} {p : Program} {ms : List Mode} {P : A → Type 0} {go : Part A} → Safe p ms P go → Safe p ms P (take_tick go)
safe_tick {p = p} {ms = ms} {P = P} {go = go} h = record { by = λ w fits. kept_tick p ms P go h w.ticks w fits }

pub safe_choose : {A : Type 0} {p : Program} {ms : List Mode} {P : A → Type 0} (b : Bool) {go_with go_by : Part A} → Safe p ms P go_with → Safe p ms P go_by → Safe p ms P (choose b go_with go_by)
safe_choose true g h = record { by = λ w fits. g.by w fits }
safe_choose false g h = record { by = λ w fits. h.by w fits }

safe_next : {C A : Type 0} {p : Program} {ms : List Mode} {more : C → Part A} (o : Next C A) → ((c : C) → Safe p ms Any (more c)) → Safe p ms Any (go_on more o)
safe_next (Again c) h = record { by = λ w fits. (h c).by w fits }
safe_next (Over a) h = record { by = λ w fits. (tt, fits) }

pub safe_loop : {C A : Type 0} {p : Program} {ms : List Mode} {turn : C → Part (Next C A)} → ((c : C) → Safe p ms Any (turn c)) → (n : ℕ) (c : C) → Safe p ms Any (loop n turn c)
safe_loop h zero c = record { by = λ w fits. fits.sound }
safe_loop {p = p} {ms = ms} {turn = turn} h (suc n) c =
    record { by = λ w fits. (safe_tick {go = λ w. outcome_then (turn c w) (go_on (loop n turn))} (safe_then {P = Any} (h c) (λ o u. safe_next o (λ d. safe_loop h n d)))).by w fits }
