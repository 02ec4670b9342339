-- Where an instruction leads, and what it leaves of the store: none changes what the program says once and for all, or that each member of a set lives,
-- and none but a READ the input.
use Rattle.std.proofs.Common.{◌≡◌, ℕ, ◌+◌, ◌-◌, ◌<◌, ◌==◌, Bool, true, false, not, List, [], ◌∷◌, length, Option, Some, None, Ok, Err, ℤ, refl, sym, ap, ◌∙◌, arith, ◌⊎◌, inl, inr}
use Rattle.std.specs.Prelude.{Result, ◌+ℤ◌, slice_get}
use Rattle.ss_code_instructions.proofs.Common.{act, AnEvent, applied, ARoutine, assignable_count, assigned_attribute, assigned_variable, AtTime, attribute, back_if, Beginning, begun, begun_at, calculated, Called, cell_at, cells_of_kinds, changed_attribute, clock, Code, Coming, Core, core_at, deliver_with, did, due, empty_lines, enter, entity, EntryPoint, event_begun, Failure, FaultKind, figure, filed_in, filed_notice, Frame, Given, goes_on, has_item, has_next, if_ok, indices, Instruction, Into, is_awaited, is_due, is_empty, is_ended, is_in, is_none, known_owner, Later, leave, Line, made_all, made_notice, made_one, mean, member, Mode, Moved, next_event, next_item, not_if, number_of, of_member, of_set, Onto, onward, onward_if, opened, printed, put_to, range_of, read_value, related, removed_at, removed_from, rescheduled, reset, Setting, Store, take_event, take_next, take_off, Taken, Target, time_at, time_of, turned, unscheduled, unsigned, Value, values_shown, Walk, walk_at, walk_cells, walk_further, where_fit, Whole, without, Written, yielded}
use Rattle.ss_code_instructions.specs.Instructions as i
use Rattle.ss_code_instructions.specs.Running.{goes_back}
use Rattle.ss_code_instructions.specs.Reached.{read_mode, HasTakenIf, HasTakenBy, input_of}
use Rattle.ss_code_instructions.proofs.Keeping.{Only, Where, Lasts, lasts_then, lasts_so, Same, same_here, same_then, SameWith, TakesWord, ComingSame, BeginningSame, each, then_only, made, made_from, variable_same, attribute_same, changed_same, made_one_same, made_all_same, without_same, filed_same, removed_same, end_same, notice_same, pending_same, again_same, cancelled_same, read_takes, reset_same, event_same, begun_same}
use Rattle.ss_code_instructions.proofs.Moving.{Every, every_so, did_only, did_any, fit_any, if_every, high, block, number, value, values, bearer, position, three, walk}

-- where an instruction leads: further on; back, if it goes back; to where the last call goes back to; or into a call, if it takes a tick
abbrev pub Way : Bool → Option ℕ → Core → Core → Type 0
Way due g c d =
    ((c.place < d.place) × (d.frames ≡ c.frames))
    ⊎ (((back : ℕ) × (g ≡ Some back) × (d.place ≡ c.place - back) × (d.frames ≡ c.frames))
    ⊎ (((f : Frame) × (c.frames ≡ f ∷ d.frames) × (d.place ≡ f.back))
    ⊎ ((f : Frame) × (d.frames ≡ f ∷ c.frames) × (due ≡ true))))

-- there a word of a mode is taken from the store, or all is as it was
abbrev pub Leaves : Option Mode → Store → Core → Type 0
Leaves None s d = Same s d.store
Leaves (Some mode) s d = TakesWord mode s d.store

abbrev pub Good : Bool → Option ℕ → Option Mode → Core → Core → Type 0
Good due g o c d = Way due g c d × Leaves o c.store d

-- of an instruction that takes no tick; of one that may go back; and of one that takes a tick
abbrev Calm : Core → Core → Type 0
Calm c = Good false None None c

abbrev Back : ℕ → Core → Core → Type 0
Back back c = Good false (Some back) None c

abbrev Busy : Core → Core → Type 0
Busy c = Good true None None c

ahead : (c : Core) → c.place < c.place + 1
ahead c = omega arith

-- on to the next instruction
rests : (c : Core) (cells : List Value) → Calm c (core_at (c.place + 1) cells c.frames c.store)
rests c cells = (inl (ahead c, refl), same_here c.store)

skips : (c : Core) (skip : ℕ) (b : Bool) (cells : List Value) → Every (Calm c) (onward_if skip b cells c)
skips c skip true cells = (inl (ahead c, refl), same_here c.store)
skips c skip false cells = let further : c.place < c.place + 1 + skip = omega arith in (inl (further, refl), same_here c.store)

backs : (c : Core) (back : ℕ) (b : Bool) (cells : List Value) → Every (Back back c) (back_if back b cells c)
backs c back true cells = (inr (inl (back, refl, refl, refl)), same_here c.store)
backs c back false cells = (inl (ahead c, refl), same_here c.store)

-- what is so of a store, and of each in which the same is said
module _ (P : Store → Type 0) (on : (t u : Store) → P t → Same t u → P u) where
  abbrev IsWritten : Written → Type 0
  IsWritten w = P w.store

  put_to_so : (to : Target) (v : Value) (cells : List Value) (t : Store) → P t → Only IsWritten (put_to to v cells t)
  put_to_so (Into x) v cells t p = made_from IsWritten (Same t) _ (assigned_variable x v t) (variable_same x v t) (λ u q. on t u p q)
  put_to_so (Onto h) v cells t p = fits (length cells == h)
    where
      fits : (b : Bool) → Only IsWritten (where_fit b (Ok (record { cells = v ∷ cells; store = t })))
      fits true = p
      fits false = tt

  delivers_so : (l : Line) (to : Target) (r : Result (Value × Store) Failure) (cells : List Value) (c : Core) → Only (λ (b : Value × Store). P b.1) r → Every (λ (d : Core). Way false None c d × P d.store) (deliver_with l to r cells c)
  delivers_so l to r cells c q =
      did_only (λ (d : Core). Way false None c d × P d.store) IsWritten l (if_ok r (λ b. put_to to b.0 cells b.1)) (λ w. onward w.cells c w.store) (then_only IsWritten (λ (b : Value × Store). P b.1) r (λ b. put_to to b.0 cells b.1) q (λ b p. put_to_so to b.0 cells b.1 p)) (λ w p. (inl (ahead c, refl), p))

delivers : (l : Line) (to : Target) (r : Result (Value × Store) Failure) (cells : List Value) (c : Core) → Only (SameWith c.store) r → Every (Calm c) (deliver_with l to r cells c)
delivers l to r cells c q = delivers_so (Same c.store) (λ t u p q. same_then c.store t u p q) l to r cells c q

-- what computes a value leaves the store
computes : (l : Line) (to : Target) (r : Result Value Failure) (cells : List Value) (c : Core) → Every (Calm c) (deliver_with l to (turned (λ v. (v, c.store)) r) cells c)
computes l to r cells c = delivers l to (turned (λ v. (v, c.store)) r) cells c (made (SameWith c.store) (λ v. (v, c.store)) r (λ v. same_here c.store))

-- what changes the store
changes : (due : Bool) (l : Line) (r : Result Store Failure) (cells : List Value) (c : Core) → Only (Same c.store) r → Every (Good due None None c) (did l r (λ t. onward cells c t))
changes due l r cells c q = did_only (Good due None None c) (Same c.store) l r (λ t. onward cells c t) q (λ t p. (inl (ahead c, refl), p))

entering : (e : EntryPoint) (called : Called) (given below : List Value) (c : Core) (t : Store) → Same c.store t → Every (Busy c) (enter e called given below c t)
entering e called given below c t p =
    fit_any (Busy c) (opened e.given e.others given) _ (λ variables.
    (inr (inr (inr (record { back = c.place + 1; cells = below; locals = t.locals; first = length e.given; count = e.yielding; called = called }, refl, refl))), p))

leaving : (fs : List Frame) (c : Core) → c.frames ≡ fs → Every (Calm c) (leave fs c)
leaving [] c e = tt
leaving (f ∷ fs) c e = fit_any (Calm c) (yielded f.first f.count c.store.locals) _ (λ vs. (inr (inr (inl (f, e, refl))), same_here c.store))

next_leads : (back : ℕ) (item limit step : ℤ) (below : List Value) (c : Core) → Every (Back back c) (next_item back item limit step below c)
next_leads back item limit step below c =
    if_every (Back back c) (has_next item limit step) (back_if back true (Whole step ∷ Whole limit ∷ Whole (item +ℤ unsigned step) ∷ below) c) (back_if back false (Whole step ∷ Whole limit ∷ Whole item ∷ below) c)
    (backs c back true (Whole step ∷ Whole limit ∷ Whole (item +ℤ unsigned step) ∷ below)) (backs c back false (Whole step ∷ Whole limit ∷ Whole item ∷ below))

further_leads : (back : ℕ) (old new : Walk) (below : List Value) (c : Core) → Every (Back back c) (walk_further back old new below c)
further_leads back old new below c =
    if_every (Back back c) (is_none new.member) (back_if back false (walk_cells old below) c) (back_if back true (walk_cells new below) c)
    (backs c back false (walk_cells old below)) (backs c back true (walk_cells new below))

taking : (code : Code) (h : ℕ) (n : Coming) (c : Core) → Same c.store n.store → Every (Busy c) (take_event code h n c)
taking code h n c p =
    did_only (Busy c) (BeginningSame c.store) n.ranked.said.line (event_begun n) _ (weaken (event_begun n) (begun_same n)) (λ b q.
    fit_any (Busy c) (slice_get code.events b.rank) _ (λ e. high (Busy c) h c.cells _ (entering e (AnEvent b.rank) b.given c.cells c b.store q)))
  where
    weaken : (r : Result Beginning Failure) → Only (BeginningSame n.store) r → Only (BeginningSame c.store) r
    weaken (Ok b) q = same_then c.store n.store b.store p q
    weaken (Err t) q = tt

taking_next : (code : Code) (h : ℕ) (o : Option Coming) (c : Core) → Where (ComingSame c.store) o → Every (Busy c) (take_next code h o c)
taking_next code h None c p = (inl (ahead c, refl), same_here c.store)
taking_next code h (Some n) c p = taking code h n c p

pub act_leads : (code : Code) (l : Line) (x : Instruction) (c : Core) → Every (Good (is_due x) (goes_back x) (read_mode x) c) (act code l x c)
act_leads code l (i.Move from to) c = value (Calm c) from c.store c.cells _ (λ v below. computes l to (Ok v) below c)
act_leads code l (i.Keep from x) c = value (Calm c) from c.store c.cells _ (λ v below. changes false l (assigned_variable x v c.store) below c (variable_same x v c.store))
act_leads code l (i.Calculate op left right to) c = values (Calm c) left right c.store c.cells _ (λ x y below. computes l to (calculated op x y) below c)
act_leads code l (i.Unary op x to) c = value (Calm c) x c.store c.cells _ (λ x below. computes l to (applied op x) below c)
act_leads code l (i.Clock to) c = computes l to (Ok (clock c.store)) c.cells c
act_leads code l (i.TimeOf x to) c = value (Calm c) x c.store c.cells _ (λ x below. computes l to (time_of x c.store) below c)
act_leads code l (i.Attribute class field x to) c = value (Calm c) x c.store c.cells _ (λ x below. computes l to (attribute class field x c.store) below c)
act_leads code l (i.OfSet query set owner to) c = bearer (Calm c) owner c.store c.cells _ (λ o below. computes l to (of_set query set o c.store) below c)
act_leads code l (i.OfMember query set x to) c = value (Calm c) x c.store c.cells _ (λ x below. computes l to (of_member query set x c.store) below c)
act_leads code l (i.Figure fold j x to) c = bearer (Calm c) x c.store c.cells _ (λ x below. computes l to (figure fold j x c.store) below c)
act_leads code l (i.LookEntity class x) c = value (Calm c) x c.store c.cells _ (λ x below. did_any (Calm c) l (entity class x c.store) _ (λ n. rests c below))
act_leads code l (i.LookMember set x) c = value (Calm c) x c.store c.cells _ (λ x below. did_any (Calm c) l (member set x c.store) _ (λ n. rests c below))
act_leads code l (i.LookOwner set owner) c = bearer (Calm c) owner c.store c.cells _ (λ o below. did_any (Calm c) l (known_owner set o c.store) _ (λ n. rests c below))
act_leads code l (i.LookMean j x) c = bearer (Calm c) x c.store c.cells _ (λ x below. did_any (Calm c) l (mean j x c.store) _ (λ n. rests c below))
act_leads code l (i.LookCount class) c = did_any (Calm c) l (assignable_count class c.store) _ (λ n. rests c c.cells)
act_leads code l (i.SetAttribute class field x from) c =
    values (Calm c) x from c.store c.cells _ (λ x v below. changes false l (assigned_attribute class field x v c.store) below c (attribute_same class field x v c.store))
act_leads code l (i.ChangeAttribute sign class field x by) c =
    values (Calm c) x by c.store c.cells _ (λ x y below. changes false l (changed_attribute sign class field x y c.store) below c (changed_same sign class field x y c.store))
act_leads code l (i.Reset j x) c = bearer (Calm c) x c.store c.cells _ (λ x below. changes false l (reset j x c.store) below c (reset_same j x c.store))
act_leads code l (i.Jump skip) c = skips c skip false c.cells
act_leads code l (i.Unless relation left right skip) c = values (Calm c) left right c.store c.cells _ (λ x y below. fit_any (Calm c) (related relation x y) _ (λ b. skips c skip b below))
act_leads code l (i.UnlessEnded negated skip) c = did_any (Calm c) l (due (is_ended c.store.world.input)) _ (λ b. skips c skip (not_if negated b) c.cells)
act_leads code l (i.UnlessEmpty negated set owner skip) c = bearer (Calm c) owner c.store c.cells _ (λ o below. did_any (Calm c) l (is_empty set o c.store) _ (λ b. skips c skip (not_if negated b) below))
act_leads code l (i.UnlessMember negated set x owner skip) c =
    bearer (Calm c) owner c.store c.cells _ (λ o above. value (Calm c) x c.store above _ (λ x below. did_any (Calm c) l (is_in set x o c.store) _ (λ b. skips c skip (not_if negated b) below)))
act_leads code l i.Turn c = (inl (ahead c, refl), same_here c.store)
act_leads code l (i.Repeat back) c = backs c back true c.cells
act_leads code l (i.Begin h skip) c = three (Calm c) h c.cells _ (λ item limit step below. did_any (Calm c) l (range_of (Whole item) (Whole limit) (Some (Whole step))) _ (λ r. skips c skip (has_item item limit) c.cells))
act_leads code l (i.BeginClass class h skip) c = high (Calm c) h c.cells _ (did_any (Calm c) l (indices class c.store) _ (λ r. skips c skip (has_item r.first r.limit) (Whole r.step ∷ Whole r.limit ∷ Whole r.first ∷ c.cells)))
act_leads code l (i.Take h x) c = fit_any (Busy c) (cell_at h c.cells) _ (λ v. changes true l (assigned_variable x v c.store) c.cells c (variable_same x v c.store))
act_leads code l (i.Next h back) c = three (Back back c) h c.cells _ (λ item limit step below. next_leads back item limit step below c)
act_leads code l (i.BeginSet reverse set owner h skip) c =
    bearer (Calm c) owner c.store c.cells _ (λ o below. high (Calm c) h below _ (did_any (Calm c) l (if_ok (begun reverse set o c.store) (λ x. walk_at reverse set x c.store)) _ (λ k. skips c skip (not (is_none k.member)) (walk_cells k below))))
act_leads code l (i.BeginAt reverse after set owner h skip) c =
    value (Calm c) (Taken h) c.store c.cells _ (λ y above. bearer (Calm c) owner c.store above _ (λ o below. did_any (Calm c) l (if_ok (begun_at reverse after set y o c.store) (λ x. walk_at reverse set x c.store)) _ (λ k. skips c skip (not (is_none k.member)) (walk_cells k below))))
act_leads code l (i.NextMember reverse set owner h back) c =
    walk (Back back c) h c.cells _ (λ k above. bearer (Back back c) owner c.store above _ (λ o below. did_any (Back back c) l (if_ok (goes_on set k.next o c.store) (λ _. walk_at reverse set k.next c.store)) _ (λ k'. further_leads back k k' below c)))
act_leads code l (i.Forget count) c = fit_any (Calm c) (take_off count c.cells []) _ (λ b. rests c b.below)
act_leads code l (i.Call routine h) c =
    fit_any (Busy c) (slice_get code.routines routine) _ (λ e. block (Busy c) (length e.given) h c.cells _ (λ vs below. entering e (ARoutine routine) vs below c c.store (same_here c.store)))
act_leads code l i.Leave c = leaving c.frames c refl
act_leads code l i.Halt c = tt
act_leads code l (i.Create class to) c = delivers l to (made_one class c.store) c.cells c (made_one_same class c.store)
act_leads code l (i.CreateAll counted) c = changes false l (made_all counted c.store) c.cells c (made_all_same counted c.store)
act_leads code l (i.Destroy class x) c = value (Calm c) x c.store c.cells _ (λ x below. changes false l (without class x c.store) below c (without_same class x c.store))
act_leads code l (i.File filing set x owner) c =
    bearer (Calm c) owner c.store c.cells _ (λ o over. position (Calm c) filing c.store over _ (λ f above. value (Calm c) x c.store above _ (λ x below.
    changes false l (filed_in f set x o c.store) below c (filed_same f set x o c.store))))
act_leads code l (i.Remove set x owner) c =
    bearer (Calm c) owner c.store c.cells _ (λ o above. value (Calm c) x c.store above _ (λ x below. changes false l (removed_from set x o c.store) below c (removed_same set x o c.store)))
act_leads code l (i.RemoveEnd end set owner to) c =
    bearer (Calm c) owner c.store c.cells _ (λ o below. delivers l to (removed_at end set o c.store) below c (end_same end set o c.store))
act_leads code l (i.At time to) c = value (Calm c) time c.store c.cells _ (λ v below. computes l to (turned Whole (time_at (AtTime v) c.store)) below c)
act_leads code l (i.In units to) c = value (Calm c) units c.store c.cells _ (λ v below. computes l to (turned Whole (time_at (Later v) c.store)) below c)
act_leads code l (i.MakeNotice class h given to) c =
    number (Calm c) c.cells _ (λ time above. block (Calm c) given h above _ (λ vs below. delivers l to (made_notice class vs time c.store) (Whole time ∷ below) c (notice_same class vs time c.store)))
act_leads code l (i.FileNotice class x time) c =
    values (Calm c) x time c.store c.cells _ (λ x t below. changes false l (if_ok (number_of t) (λ t. filed_notice class x t c.store)) below c (each (Same c.store) (number_of t) _ (λ t. pending_same class x t c.store)))
act_leads code l (i.Reschedule class x h given) c =
    number (Calm c) c.cells _ (λ time over. block (Calm c) given h over _ (λ vs above. value (Calm c) x c.store above _ (λ x below.
    changes false l (rescheduled class x vs time c.store) below c (again_same class x vs time c.store))))
act_leads code l (i.Cancel class x) c = value (Calm c) x c.store c.cells _ (λ x below. changes false l (unscheduled class x c.store) below c (cancelled_same class x c.store))
act_leads code l (i.Await skip) c = skips c skip (is_awaited c.store) c.cells
act_leads code l (i.TakeEvent h) c = taking_next code h (next_event c.store) c (event_same c.store)
act_leads code l (i.NextEvent back) c = backs c back (is_awaited c.store) c.cells
act_leads code l (i.Read mode to) c =
    delivers_so (TakesWord mode c.store) (λ t u p q. (lasts_then c.store t u p.0 (lasts_so t u q), (p.1.0, p.1.1 ∙ ap (λ (b : Setting × List ℕ). (let g : Result (Given Value) FaultKind = Ok (record { value = p.1.0; rest = b.1 }) in g)) (sym q.0)))) l to (read_value mode c.store) c.cells c (read_takes mode c.store)
act_leads code l (i.Print lines h) c =
    fit_any (Calm c) (slice_get code.prints lines) _ (λ p. block (Calm c) (cells_of_kinds p.items) h c.cells _ (λ vs below. fit_any (Calm c) (values_shown p.items vs c.store) _ (λ items. fit_any (Calm c) (printed p.pictures items) _ (λ bytes. rests c below))))
act_leads code l (i.Skip count) c = value (Calm c) count c.store c.cells _ (λ v below. did_any (Calm c) l (empty_lines v) _ (λ bytes. rests c below))

-- so it says the same, and each member of a set lives
abbrev pub Endures : Store → Moved → Type 0
Endures s m = Every (λ (c : Core). Lasts s c.store) m

pub act_lasts : (code : Code) (l : Line) (x : Instruction) (c : Core) → Endures c.store (act code l x c)
act_lasts code l x c = every_so (Good (is_due x) (goes_back x) (read_mode x) c) (λ (d : Core). Lasts c.store d.store) (act code l x c) (λ d h. by (read_mode x) d h.1) (act_leads code l x c)
  where
    by : (o : Option Mode) (d : Core) → Leaves o c.store d → Lasts c.store d.store
    by None d h = lasts_so c.store d.store h
    by (Some mode) d h = h.0

-- and a READ takes a word from the input, and no other instruction takes anything
pub act_takes : (code : Code) (l : Line) (x : Instruction) (c : Core) → Every (λ (d : Core). HasTakenBy x (input_of c) (input_of d)) (act code l x c)
act_takes code l x c = every_so (Good (is_due x) (goes_back x) (read_mode x) c) (λ (d : Core). HasTakenBy x (input_of c) (input_of d)) (act code l x c) (λ d h. by (read_mode x) d h.1) (act_leads code l x c)
  where
    by : (o : Option Mode) (d : Core) → Leaves o c.store d → HasTakenIf o (input_of c) (input_of d)
    by None d h = ap (λ (b : Setting × List ℕ). b.1) h.0
    by (Some mode) d h = h.1
