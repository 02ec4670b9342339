-- Loops and statements of a well-typed program don't go wrong, and keep stores that fit.
use Rattle.std.proofs.Common.{◌≡◌, ℕ, zero, suc, ◌+◌, Bool, true, false, List, [], ◌∷◌, length, Option, Some, None, Ok, Err, ℤ, pos, refl, sym, ap, ◌∙◌}
use Rattle.std.specs.Prelude.{Result, slice_get, map, sum, take, ◌==◌, int_lt, Contains, if◌then◌else◌}
use Rattle.std.specs.List.{AllByRecursion as Every, AllZip, flat_map}
use Rattle.ss_meaning.proofs.Common.{Again, Alpha, AreOfModes, begun, begun_at, choose, coming, CountedClass, End, Faulted, filed_in, filed_notice, get, go_on, goes_on, held, IfSome, Integer, InVariable, is_awaited, is_none, IsFittingStore, Item, Left, Line, look, loop, made_notice, Mode, mode_of, Notice, Outcome, outcome_then, OutOfTicks, Over, Part, Permanent, removed_at, removed_from, rescheduled, reset, Returned, RunState, Sign, Stopped, Store, Text, tick_from, unscheduled, Value, Variable, WentOn, Whole, Wrong}
use Rattle.ss_base.specs.declared.fault.FaultKind.TheVariants.{LoopStep, BadCount}
use Rattle.ss_picture.specs.Pictures.{picture_fields}
use Rattle.ss_input.specs.Words.{Given, value_given, next_word, read_word, word_value, if_read, as_whole, optional_text, number_read}
use Rattle.ss_base.specs.Values.{text_of}
use Rattle.ss_base.specs.declared.words.PhraseKind.{PhraseKind}
use Rattle.ss_base.specs.declared.words.PhraseKind.TheVariants as kinds
use Rattle.ss_program.specs.Program.{Expression, SetOwner, Head, Numbers, Members, Each, Start, AtEnd, From, After, Phrase, Guard, Place, ToVariable, InputTarget, Position, When, Restart, PrintItem, Statement, Let, Change, Call, Return, Stop, Read, Simulate, If, Loop, For, Find, Create, CreateEvery, Destroy, File, RemoveEnd, Remove, ScheduleNew, Schedule, Cancel, Reset, Print, Skip, Block, Done, Then, Routine, Program}
use Rattle.ss_program.specs.WellTyped.{TypedScope, IsWellTyped, HasMode, IsTypedOwner, IsTypedCondition, CanTakeMode, IsTypedStart, IsTypedHead, IsTypedPhrase, IsTypedPosition, IsTypedWhen, AreTypedGiven, IsTypedRestart, IsTypedPrint, IsTypedStatement, IsTypedBlock, kind_of_class as kind_said}
use Rattle.ss_meaning.specs.Values.{if_ok, turned, due, sure, unless_fault, number_of, calculated, operator_of, take_all, lines_with, printed, empty_lines}
use Rattle.ss_meaning.specs.Entities.{class_at, is_permanent, made_count, made_one, made_all, without}
use Rattle.ss_meaning.specs.Expressions.{value, values, shown_items as items_meant, value_if_any, entity_value, member_value, owner_value, owner_looked_at, spot, filing, time_value, holds, all_pass}
use Rattle.ss_meaning.specs.Loops.{Turn, GoesOn, EndsLoop, IsFound, phrase, phrases, visit, range_items, after_turn, over_items, step_number, range_of, range, indices, Outset, from_member, loop_outset, next_member, member_turn, over, guarded}
use Rattle.ss_meaning.specs.Statements.{give_to, give_each, change_by, with_input, read_value, read_each, print, create_every, file, remove, remove_end, schedule_new, schedule, next_due, event_turn, simulate, restart_each, Calls, effect, effects}
use Rattle.ss_meaning.proofs.Fine.{Fine, There, Any, fine_then, fine_turned, sure_fine, fit_fine, unless_fine}
use Rattle.ss_meaning.proofs.Kept.{number_fine}
use Rattle.ss_meaning.proofs.Entities.{SpotTakes, permanent_here, made_one_fine, made_all_fine, without_fine, held_fine}
use Rattle.ss_meaning.proofs.Sets.{OwnerOk, FilingOk, begun_fine, begun_at_fine, coming_fine, goes_on_fine, filed_in_fine, removed_from_fine, removed_at_fine, set_of, AskedStatistic, reset_fine}
use Rattle.ss_meaning.proofs.Events.{FieldsAre, fields_are, made_notice_fine, filed_notice_fine, rescheduled_fine, unscheduled_fine}
use Rattle.ss_meaning.proofs.Expressions.{HasMode_is, AllTaken, calculated_fine, value_fine, values_fine, items_fine, entity_value_fine, member_value_fine, owner_value_fine, owner_looked_at_fine, set_of_owner, spot_fine, filing_fine, time_value_fine, holds_fine, all_pass_fine, asked_alone, asked_of}
use Rattle.ss_meaning.proofs.Parts.{Kept, Safe, safe_then, safe_went, safe_look, safe_change, safe_get, safe_write, safe_send, safe_tick, safe_choose, safe_loop}

-- what a call and an event do
pub record CallsSafe (p : Program) (h : Calls) : Type 0 where
  pub call : (ms : List Mode) (k : ℕ) (r : Routine) (vs : List Value) (count : ℕ) → slice_get p.routines k ≡ Some r → AreOfModes vs r.given → count ≡ length r.yielding → Safe p ms (λ us. AreOfModes us r.yielding) (h.call k vs count)
  pub event : (ms : List Mode) (w : RunState) → IsFittingStore p ms w.store → is_awaited w.store ≡ true → Kept p ms Any (h.event w)

-- ## Values

pub range_of_fine : (x y : Value) (z : Option Value) (Q : Option Value → Type 0) → mode_of x ≡ Integer → mode_of y ≡ Integer → Fine Any (step_number z) → Fine Any (range_of x y z)
range_of_fine x y z Q p q r =
    fine_then Any (number_of x) (λ a. if_ok (number_of y) (λ b. if_ok (step_number z) (λ c. unless_fault (int_lt c (pos 1)) LoopStep (Ok (record { first = a; limit = b; step = c }))))) (number_fine x p) (λ a u.
    fine_then Any (number_of y) (λ b. if_ok (step_number z) (λ c. unless_fault (int_lt c (pos 1)) LoopStep (Ok (record { first = a; limit = b; step = c })))) (number_fine y q) (λ b v.
    fine_then Any (step_number z) (λ c. unless_fault (int_lt c (pos 1)) LoopStep (Ok (record { first = a; limit = b; step = c }))) r (λ c t.
    unless_fine Any (int_lt c (pos 1)) LoopStep (Ok (record { first = a; limit = b; step = c })) (λ e. tt))))

printed_there : (pictures : List (List ℕ)) (xs : List Item) → AllTaken (flat_map picture_fields pictures) xs → There Any (printed pictures xs)
printed_there pictures xs q = by (take_all (flat_map picture_fields pictures) xs) q
  where
    by : (b : Bool) → b ≡ true → There Any (if b then Some (lines_with pictures xs) else None)
    by true h = tt
    by false h = absurd cc

pub empty_fine : (v : Value) → mode_of v ≡ Integer → Fine Any (empty_lines v)
empty_fine (Whole (pos n)) q = unless_fine Any (Rattle.std.specs.Prelude.nat_lt 1000 n) BadCount (Ok (Rattle.std.specs.Prelude.replicate n 10)) (λ e. tt)
empty_fine (Whole (Rattle.std.specs.Prelude.negsuc n)) q = tt
empty_fine (Text t) q = absurd cc

-- the next word is a value of the mode
pub word_fine : (mode : Mode) (s : Store) → Fine (λ (g : Given Value). mode_of g.value ≡ mode) (due (value_given mode s.world.input))
word_fine mode s = by (next_word s.world.input)
  where
    whole_read : (o : Option ℤ) (rest : List ℕ) → Fine (λ (g : Given Value). mode_of g.value ≡ Integer) (due (if_read (as_whole o) rest))
    whole_read None rest = tt
    whole_read (Some z) rest = refl

    text_read : (o : Option (List ℕ)) (rest : List ℕ) → Fine (λ (g : Given Value). mode_of g.value ≡ Alpha) (due (if_read (optional_text o) rest))
    text_read None rest = tt
    text_read (Some t) rest = refl

    read : (mode : Mode) (word rest : List ℕ) → Fine (λ (g : Given Value). mode_of g.value ≡ mode) (due (if_read (word_value mode word) rest))
    read Integer word rest = whole_read (number_read word) rest
    read Alpha word rest = text_read (text_of word) rest

    by : (r : Result (Given (List ℕ)) Rattle.ss_base.specs.declared.fault.FaultKind.FaultKind) → Fine (λ (g : Given Value). mode_of g.value ≡ mode) (due (read_word mode r))
    by (Err k) = tt
    by (Ok word) = read mode word.value word.rest

pub held_length : (vs : List Value) (ns : List Mode) → AreOfModes vs ns → length vs ≡ length ns
held_length [] [] q = refl
held_length [] (n ∷ ns) q = absurd cc
held_length (v ∷ vs) [] q = absurd cc
held_length (v ∷ vs) (n ∷ ns) q = let rest : AreOfModes vs ns = cc in ap suc (held_length vs ns rest)

module _ (p : Program) (typed : IsWellTyped p) (ms : List Mode) (b : Bool) where
  abbrev here : TypedScope
  here = record { program = p; locals = ms; is_main = b }

  -- ## Loops

  phrase_safe : (kind : PhraseKind) (c : Bool) (more : Part Turn) → Safe p ms Any more → Safe p ms Any (phrase kind c more)
  phrase_safe kinds.With c more h = safe_choose c h (safe_went GoesOn tt)
  phrase_safe kinds.Unless c more h = safe_choose c (safe_went GoesOn tt) h
  phrase_safe kinds.While c more h = safe_choose c h (safe_went EndsLoop tt)
  phrase_safe kinds.Until c more h = safe_choose c (safe_went EndsLoop tt) h

  phrases_safe : (l : Line) (ps : List Phrase) (turn : Part Turn) → Every (IsTypedPhrase here) ps → Safe p ms Any turn → Safe p ms Any (phrases l ps turn)
  phrases_safe l [] turn g h = record { by = λ w fits. h.by w fits }
  phrases_safe l (q ∷ qs) turn g h = safe_then {P = Any} (safe_look l (holds q.condition) (holds_fine p typed ms b q.condition g.0)) (λ c u. phrase_safe q.kind c (phrases l qs turn) (phrases_safe l qs turn g.1 h))

  visit_safe : (l : Line) (x : Variable) (turn : Part Turn) → CanTakeMode here (ToVariable x) Integer → Safe p ms Any turn → (v : ℤ) → Safe p ms Any (visit l x turn v)
  visit_safe l x turn g h v = safe_then {P = Any} (safe_write typed b l (InVariable x) Integer (Whole v) g.0 refl) (λ u w. h)

  after_safe : (t : Turn) (later : Part Bool) → Safe p ms Any later → Safe p ms Any (after_turn t later)
  after_safe GoesOn later h = record { by = λ w fits. h.by w fits }
  after_safe EndsLoop later h = safe_went false tt
  after_safe IsFound later h = safe_went true tt

  items_safe : (go : ℤ → Part Turn) (is : List ℤ) → ((v : ℤ) → Safe p ms Any (go v)) → Safe p ms Any (over_items go is)
  items_safe go [] h = record { by = λ w fits. (tt, fits) }
  items_safe go (i ∷ is) h =
      record { by = λ w fits. (safe_tick {go = λ w. outcome_then (go i w) (λ t. after_turn t (over_items go is))} (safe_then {P = Any} (h i) (λ t u. after_safe t (over_items go is) (items_safe go is h)))).by w fits }

  step_fine : (c : Option Expression) → IfSome c (λ e. HasMode here e Integer) → (s : Store) → IsFittingStore p ms s → Fine (λ v. Fine Any (step_number v)) (value_if_any c s)
  step_fine None h s f = tt
  step_fine (Some e) h s f = fine_turned (λ v. Fine Any (step_number v)) Some (value e s) (value_fine p typed ms b e Integer h s f) (λ v g. number_fine v g)

  range_fine : (x y : Expression) (c : Option Expression) → HasMode here x Integer → HasMode here y Integer → IfSome c (λ e. HasMode here e Integer) → (s : Store) → IsFittingStore p ms s → Fine Any (range x y c s)
  range_fine x y c hx hy hc s f =
      fine_then Any (value x s) (λ u. if_ok (value y s) (λ v. if_ok (value_if_any c s) (λ z. range_of u v z))) (value_fine p typed ms b x Integer hx s f) (λ u gu.
      fine_then Any (value y s) (λ v. if_ok (value_if_any c s) (λ z. range_of u v z)) (value_fine p typed ms b y Integer hy s f) (λ v gv.
      fine_then Any (value_if_any c s) (λ z. range_of u v z) (step_fine c hc s f) (λ z gz. range_of_fine u v z Any gu gv gz)))

  indices_fine : (c : ℕ) → kind_said p c ≡ Some Permanent → (s : Store) → IsFittingStore p ms s → Fine Any (indices c s)
  indices_fine c q s f = fit_fine Any (is_permanent (class_at c s)) (Ok (record { first = pos 1; limit = pos (made_count c s); step = pos 1 })) (permanent_here p typed ms s c f q) tt

  abbrev OutsetOk : ℕ → Outset → Type 0
  OutsetOk set o = OwnerOk p typed ms set o.owner

  from_fine : (after reverse : Bool) (set : ℕ) (owner : SetOwner) (e : Expression) → IsTypedOwner here set owner → HasMode here e Integer → (s : Store) → IsFittingStore p ms s → Fine (OutsetOk set) (from_member after reverse set owner e s)
  from_fine after reverse set owner e q h s f =
      fine_then (OutsetOk set) (owner_looked_at set owner s) (λ o. if_ok (member_value set e s) (λ y. turned (λ x. record { first = x; owner = o }) (begun_at reverse after set y o s))) (owner_looked_at_fine p typed ms b set owner q s f) (λ o g.
      fine_then (OutsetOk set) (member_value set e s) (λ y. turned (λ x. record { first = x; owner = o }) (begun_at reverse after set y o s)) (member_value_fine p typed ms b set e (set_of_owner p typed ms b set owner q) h s f) (λ y k.
      fine_turned (OutsetOk set) (λ x. record { first = x; owner = o }) (begun_at reverse after set y o s) (begun_at_fine p typed ms reverse after set y o s k g f) (λ x u. g)))

  outset_fine : (start : Start) (reverse : Bool) (set : ℕ) (owner : SetOwner) → IsTypedStart here start → IsTypedOwner here set owner → (s : Store) → IsFittingStore p ms s → Fine (OutsetOk set) (loop_outset start reverse set owner s)
  outset_fine AtEnd reverse set owner h q s f =
      fine_then (OutsetOk set) (owner_value owner s) (λ o. turned (λ x. record { first = x; owner = o }) (begun reverse set o s)) (owner_value_fine p typed ms b set owner q s f) (λ o g.
      fine_turned (OutsetOk set) (λ x. record { first = x; owner = o }) (begun reverse set o s) (begun_fine p typed ms reverse set o s g f) (λ x u. g))
  outset_fine (From e) reverse set owner h q s f = from_fine false reverse set owner e q h s f
  outset_fine (After e) reverse set owner h q s f = from_fine true reverse set owner e q h s f

  next_safe : (l : Line) (set : ℕ) (o : Option Value) (x : ℤ) (t : Turn) → OwnerOk p typed ms set o → Safe p ms Any (next_member l set o x t)
  next_safe l set o x GoesOn q = safe_then {P = Any} (safe_look l (goes_on set x o) (λ s f. goes_on_fine p typed ms set x o s q f)) (λ c u. safe_choose c (safe_went (Again x) tt) (safe_went (Over false) tt))
  next_safe l set o x EndsLoop q = record { by = λ w fits. (tt, fits) }
  next_safe l set o x IsFound q = record { by = λ w fits. (tt, fits) }

  member_safe : (l : Line) (set : ℕ) (reverse : Bool) (o : Option Value) (go : ℤ → Part Turn) → OwnerOk p typed ms set o → ((v : ℤ) → Safe p ms Any (go v)) → (x : ℤ) → Safe p ms Any (member_turn l set reverse o go x)
  member_safe l set reverse o go q h x =
      safe_then {P = Any} (safe_look l (coming reverse set x) (λ s f. coming_fine p typed ms reverse set x s (set_of p typed ms set o q) f)) (λ n u. safe_then {P = Any} (h x) (λ t v. next_safe l set o n t q))

  pub over_safe : (n : ℕ) (l : Line) (head : Head) (turn : Part Turn) → IsTypedHead here head → Safe p ms Any turn → Safe p ms Any (over n l head turn)
  over_safe n l (Numbers x a c d) turn g h =
      safe_then {P = Any} (safe_look l (range a c d) (range_fine a c d g.1 g.2 g.3)) (λ r u. items_safe (visit l x turn) (range_items (suc n) r) (visit_safe l x turn g.0 h))
  over_safe n l (Each x class) turn g h =
      safe_then {P = Any} (safe_look l (indices class) (indices_fine class g.1)) (λ r u. items_safe (visit l x turn) (range_items (suc n) r) (visit_safe l x turn g.0 h))
  over_safe n l (Members x set owner start reverse) turn g h =
      safe_then {P = OutsetOk set} (safe_look l (loop_outset start reverse set owner) (outset_fine start reverse set owner g.2 g.1)) (λ o q.
      safe_choose (is_none o.first) (safe_went false tt) (safe_loop (member_safe l set reverse o.owner (visit l x turn) q (visit_safe l x turn g.0 h)) n o.first))

  pub guarded_safe : (n : ℕ) (l : Line) (gs : List Guard) (body : Part (Unit {0})) → Every (λ (g : Guard). IsTypedCondition here g.condition) gs → Safe p ms Any body → Safe p ms Any (guarded n l gs body)
  guarded_safe n l gs body g h =
      safe_then {P = Any} (safe_look l (all_pass gs) (all_pass_fine p typed ms b gs g)) (λ c u. safe_choose c
      (safe_loop (λ v. safe_then {P = Any} h (λ v w. safe_then {P = Any} (safe_look l (all_pass gs) (all_pass_fine p typed ms b gs g)) (λ d w. safe_choose d (safe_went (Again tt) tt) (safe_went (Over tt) tt)))) n tt)
      (safe_went tt tt))

  -- ## Plain statements

  pub give_safe : (l : Line) (t : Place) (m : Mode) (source : Part Value) → CanTakeMode here t m → Safe p ms (HasMode_is m) source → Safe p ms Any (give_to l t source)
  give_safe l t m source g h = safe_then {P = λ x. SpotTakes p typed ms b x m} (safe_look l (spot t) (spot_fine p typed ms b t m g)) (λ x q. safe_then {P = HasMode_is m} h (λ v k. safe_write typed b l x m v q k))

  gives_safe : (l : Line) (ts : List Place) (ns : List Mode) (us : List Value) → AllZip (CanTakeMode here) ts ns → AreOfModes us ns → Safe p ms Any (give_each l ts us)
  gives_safe l [] [] [] g q = record { by = λ w fits. (tt, fits) }
  gives_safe l [] [] (u ∷ us) g q = absurd cc
  gives_safe l [] (n ∷ ns) us g q = absurd g
  gives_safe l (t ∷ ts) [] us g q = absurd g
  gives_safe l (t ∷ ts) (n ∷ ns) [] g q = absurd cc
  gives_safe l (t ∷ ts) (n ∷ ns) (u ∷ us) g q =
      let first : mode_of u ≡ n = cc in
      let rest : AreOfModes us ns = cc in
      safe_then {P = Any} (give_safe l t n (WentOn u) g.0 (safe_went u first)) (λ v w. gives_safe l ts ns us g.1 rest)

  as_many : (ts : List Place) (ns : List Mode) → AllZip (CanTakeMode here) ts ns → length ts ≡ length ns
  as_many [] [] g = refl
  as_many [] (n ∷ ns) g = absurd g
  as_many (t ∷ ts) [] g = absurd g
  as_many (t ∷ ts) (n ∷ ns) g = ap suc (as_many ts ns g.1)

  change_safe : (l : Line) (sign : Sign) (t : Place) (e : Expression) → CanTakeMode here t Integer → HasMode here e Integer → Safe p ms Any (change_by l sign t e)
  change_safe l sign t e g h =
      safe_then {P = HasMode_is Integer} (safe_look l (value e) (value_fine p typed ms b e Integer h)) (λ y k.
      safe_then {P = λ x. SpotTakes p typed ms b x Integer} (safe_look l (spot t) (spot_fine p typed ms b t Integer g)) (λ x q.
      safe_then {P = HasMode_is Integer} (safe_look l (λ s. if_ok (held x s) (λ v. calculated (operator_of sign) v y)) (λ s f.
      fine_then (HasMode_is Integer) (held x s) (λ v. calculated (operator_of sign) v y) (held_fine p typed ms b x Integer s q f) (λ v r. calculated_fine (operator_of sign) v y r k))) (λ v r.
      safe_write typed b l x Integer v q r)))

  pub input_fits : (s : Store) (rest : List ℕ) → IsFittingStore p ms s → IsFittingStore p ms (record s { world = record s.world { input = rest } })
  input_fits s rest f = record {
    sound = record {
      globals = f.sound.globals;
      world = record { setting = f.sound.world.setting; layout = f.sound.world.layout; heap = f.sound.world.heap; pending = f.sound.world.pending; histories = f.sound.world.histories };
    };
    locals = f.locals;
  }

  reads_safe : (l : Line) (ts : List InputTarget) → Every (λ (t : InputTarget). CanTakeMode here t.place t.mode) ts → Safe p ms Any (read_each l ts)
  reads_safe l [] g = record { by = λ w fits. (tt, fits) }
  reads_safe l (t ∷ ts) g =
      safe_then {P = Any} (give_safe l t.place t.mode (get l (read_value t.mode)) g.0 (safe_get l (read_value t.mode) t.mode (λ s f.
      fine_turned (λ r. HasMode_is t.mode r.0 × IsFittingStore p ms r.1) (with_input s) (due (value_given t.mode s.world.input)) (word_fine t.mode s) (λ r q. (q, input_fits s r.rest f))))) (λ u v.
      reads_safe l ts g.1)

  print_safe : (l : Line) (xs : List PrintItem) (pictures : List (List ℕ)) → IsTypedPrint here xs pictures → Safe p ms Any (print l xs pictures)
  print_safe l xs pictures g =
      safe_then {P = Any} (safe_look l (λ s. if_ok (items_meant xs s) (λ ys. sure (printed pictures ys))) (λ s f.
      fine_then Any (items_meant xs s) (λ ys. sure (printed pictures ys)) (items_fine p typed ms b (flat_map picture_fields pictures) xs g s f) (λ ys q. sure_fine Any (printed pictures ys) (printed_there pictures ys q)))) (λ bytes u.
      safe_send bytes)

  every_safe : (l : Line) (cs : List CountedClass) → Every (Contains p.counts) cs → Safe p ms Any (create_every l cs)
  every_safe l [] g = record { by = λ w fits. (tt, fits) }
  every_safe l (c ∷ cs) g = safe_then {P = Any} (safe_change l (made_all c) (λ s f. made_all_fine p typed ms c s g.0 f)) (λ u v. every_safe l cs g.1)

  file_safe : (l : Line) (set : ℕ) (e : Expression) (position : Position) (owner : SetOwner) → HasMode here e Integer → IsTypedPosition here position → IsTypedOwner here set owner → Safe p ms Any (file l set e position owner)
  file_safe l set e position owner h k q =
      safe_then {P = HasMode_is Integer} (safe_look l (member_value set e) (member_value_fine p typed ms b set e (set_of_owner p typed ms b set owner q) h)) (λ x g.
      safe_then {P = FilingOk p typed ms} (safe_look l (filing set position) (filing_fine p typed ms b set position (set_of_owner p typed ms b set owner q) k)) (λ w r.
      safe_then {P = OwnerOk p typed ms set} (safe_look l (owner_value owner) (owner_value_fine p typed ms b set owner q)) (λ o y.
      safe_change l (filed_in w set x o) (λ s f. filed_in_fine p typed ms w set x o s r g y f))))

  remove_safe : (l : Line) (set : ℕ) (e : Expression) (owner : SetOwner) → HasMode here e Integer → IsTypedOwner here set owner → Safe p ms Any (remove l set e owner)
  remove_safe l set e owner h q =
      safe_then {P = HasMode_is Integer} (safe_look l (member_value set e) (member_value_fine p typed ms b set e (set_of_owner p typed ms b set owner q) h)) (λ x g.
      safe_then {P = OwnerOk p typed ms set} (safe_look l (owner_value owner) (owner_value_fine p typed ms b set owner q)) (λ o y.
      safe_change l (removed_from set x o) (λ s f. removed_from_fine p typed ms set x o s g y f)))

  remove_end_safe : (l : Line) (end : End) (set : ℕ) (owner : SetOwner) → IsTypedOwner here set owner → Safe p ms (HasMode_is Integer) (remove_end l end set owner)
  remove_end_safe l end set owner q =
      safe_then {P = OwnerOk p typed ms set} (safe_look l (owner_value owner) (owner_value_fine p typed ms b set owner q)) (λ o y.
      safe_get l (removed_at end set o) Integer (λ s f. removed_at_fine p typed ms end set o s y f))

  given_fields : (c : ℕ) (given : List Expression) (g : AreTypedGiven here c given) → FieldsAre p typed ms c 0 (take (length given) g.1.0)
  given_fields c given g = fields_are p typed ms c (length given) g.1.0 g.1.1

  schedule_new_safe : (l : Line) (c : ℕ) (t : Place) (given : List Expression) (when : When) → AreTypedGiven here c given → CanTakeMode here t Integer → IsTypedWhen here when → Safe p ms Any (schedule_new l c t given when)
  schedule_new_safe l c t given when g h k =
      safe_then {P = λ x. SpotTakes p typed ms b x Integer} (safe_look l (spot t) (spot_fine p typed ms b t Integer h)) (λ x q.
      safe_then {P = λ vs. AreOfModes vs (take (length given) g.1.0)} (safe_look l (values given) (values_fine p typed ms b given (take (length given) g.1.0) g.1.2)) (λ vs y.
      safe_then {P = Any} (safe_look l (time_value when) (time_value_fine p typed ms b when k)) (λ time u.
      safe_then {P = HasMode_is Integer} (safe_get l (made_notice c vs time) Integer (λ s f. made_notice_fine p typed ms c vs (take (length given) g.1.0) time s g.0 y (given_fields c given g) f)) (λ n m.
      safe_then {P = Any} (safe_write typed b l x Integer n q m) (λ u v.
      safe_change l (filed_notice c n time) (λ s f. filed_notice_fine p typed ms c n time s g.0 m f))))))

  schedule_safe : (l : Line) (c : ℕ) (e : Expression) (given : List Expression) (when : When) → AreTypedGiven here c given → HasMode here e Integer → IsTypedWhen here when → Safe p ms Any (schedule l c e given when)
  schedule_safe l c e given when g h k =
      let cl = Rattle.ss_meaning.proofs.Entities.class_said p c Notice g.0 in
      safe_then {P = HasMode_is Integer} (safe_look l (entity_value c e) (entity_value_fine p typed ms b c cl.0 e cl.1 h)) (λ x m.
      safe_then {P = λ vs. AreOfModes vs (take (length given) g.1.0)} (safe_look l (values given) (values_fine p typed ms b given (take (length given) g.1.0) g.1.2)) (λ vs y.
      safe_then {P = Any} (safe_look l (time_value when) (time_value_fine p typed ms b when k)) (λ time u.
      safe_change l (rescheduled c x vs time) (λ s f. rescheduled_fine p typed ms c x vs (take (length given) g.1.0) time s g.0 y (given_fields c given g) m f))))

  restart_of : (k : ℕ) (e : Option Expression) → IsTypedRestart here k e → (s : Store) → IsFittingStore p ms s → Fine (AskedStatistic p typed ms k) (value_if_any e s)
  restart_of k None g s f = asked_alone p typed ms b k g
  restart_of k (Some e) g s f = fine_turned (AskedStatistic p typed ms k) Some (value e s) (value_fine p typed ms b e Integer g.1 s f) (λ v m. asked_of p typed ms b k v g.0 m)

  restarts_safe : (l : Line) (rs : List Restart) → Every (λ (r : Restart). IsTypedRestart here r.statistic r.of) rs → Safe p ms Any (restart_each l rs)
  restarts_safe l [] g = record { by = λ w fits. (tt, fits) }
  restarts_safe l (r ∷ rs) g =
      safe_then {P = Any} (safe_then {P = AskedStatistic p typed ms r.statistic} (safe_look l (value_if_any r.of) (restart_of r.statistic r.of g.0)) (λ x a.
      safe_change l (reset r.statistic x) (λ s f. reset_fine p typed ms r.statistic x s a f))) (λ u v. restarts_safe l rs g.1)

  -- ## Events

  -- what is claimed of at most n more events
  abbrev EventsKept : Calls → ℕ → Type 0
  EventsKept h n = (w : RunState) → IsFittingStore p ms w.store → is_awaited w.store ≡ true → Kept p ms Any (loop n (event_turn h.event) tt w)

  over_or_on : (h : Calls) (n : ℕ) → EventsKept h n → (w : RunState) → IsFittingStore p ms w.store → (c : Bool) → is_awaited w.store ≡ c → Kept p ms Any (outcome_then (choose c (WentOn (Again tt)) (WentOn (Over tt)) w) (go_on (loop n (event_turn h.event))))
  over_or_on h n more w fits true q = more w fits q
  over_or_on h n more w fits false q = (tt, fits)

  event_went : (h : Calls) (n : ℕ) → EventsKept h n → (o : Outcome (Unit {0})) → Kept p ms Any o → Kept p ms Any (outcome_then (outcome_then o (λ u. next_due)) (go_on (loop n (event_turn h.event))))
  event_went h n more (WentOn u w) k = over_or_on h n more w k.1 (is_awaited w.store) refl
  event_went h n more (Left Returned w) k = k
  event_went h n more (Left Stopped w) k = k
  event_went h n more (Left (Faulted kind line) w) k = k
  event_went h n more (Left OutOfTicks w) k = k
  event_went h n more (Left Wrong w) k = absurd k

  event_ticked : (h : Calls) (n : ℕ) → CallsSafe p h → EventsKept h n → (w : RunState) → IsFittingStore p ms w.store → is_awaited w.store ≡ true → (t : ℕ) → Kept p ms Any (tick_from t (λ w. outcome_then (event_turn h.event tt w) (go_on (loop n (event_turn h.event)))) w)
  event_ticked h n ok more w fits a zero = fits.sound
  event_ticked h n ok more w fits a (suc t) = event_went h n more (h.event (record w { ticks = t })) (ok.event ms (record w { ticks = t }) fits a)

  events_kept : (h : Calls) → CallsSafe p h → (n : ℕ) → EventsKept h n
  events_kept h ok zero w fits a = fits.sound
  events_kept h ok (suc n) w fits a = event_ticked h n ok (events_kept h ok n) w fits a w.ticks

  simulate_safe : (h : Calls) → CallsSafe p h → (n : ℕ) → Safe p ms Any (simulate n h.event)
  simulate_safe h ok n = record { by = λ w fits. by w fits (is_awaited w.store) refl }
    where
      by : (w : RunState) → IsFittingStore p ms w.store → (c : Bool) → is_awaited w.store ≡ c → Kept p ms Any (choose c (loop n (event_turn h.event) tt) (WentOn tt) w)
      by w fits true q = events_kept h ok n w fits q
      by w fits false q = (tt, fits)

  -- ## Statements

  module _ (h : Calls) (ok : CallsSafe p h) (n : ℕ) where
    mutual
      pub statement_safe : (s : Statement) → IsTypedStatement here s → Safe p ms Any (effect h n s)
      statement_safe (Let l t e) g = give_safe l t g.0 (look l (value e)) g.1 (safe_look l (value e) (value_fine p typed ms b e g.0 g.2))
      statement_safe (Change l sign t e) g = change_safe l sign t e g.0 g.1
      statement_safe (Call l k given yielding) g =
          safe_then {P = λ vs. AreOfModes vs g.0.given} (safe_look l (values given) (values_fine p typed ms b given g.0.given g.2)) (λ vs q.
          safe_then {P = λ us. AreOfModes us g.0.yielding} (ok.call ms k g.0 vs (length yielding) g.1 q (as_many yielding g.0.yielding g.3)) (λ us r. gives_safe l yielding g.0.yielding us g.3 r))
      statement_safe Return g = record { by = λ w fits. fits }
      statement_safe Stop g = record { by = λ w fits. fits.sound }
      statement_safe (Read l targets) g = reads_safe l targets g
      statement_safe Simulate g = simulate_safe h ok n
      statement_safe (If l c x y) g = safe_then {P = Any} (safe_look l (holds c) (holds_fine p typed ms b c g.0)) (λ t u. safe_choose t (block_safe x g.1) (block_safe y g.2))
      statement_safe (Loop l guards x) g = guarded_safe n l guards (effects h n x) g.0 (block_safe x g.1)
      statement_safe (For l head ps x) g =
          safe_then {P = Any} (over_safe n l head (phrases l ps (λ w. outcome_then (effects h n x w) (λ _. WentOn GoesOn))) g.0
          (phrases_safe l ps (λ w. outcome_then (effects h n x w) (λ _. WentOn GoesOn)) g.1 (safe_then {P = Any} (block_safe x g.2) (λ u v. safe_went GoesOn tt)))) (λ u v. safe_went tt tt)
      statement_safe (Find l head ps x y) g =
          safe_then {P = Any} (over_safe n l head (phrases l ps (WentOn IsFound)) g.0 (phrases_safe l ps (WentOn IsFound) g.1 (safe_went IsFound tt))) (λ t u. safe_choose t (block_safe x g.2) (block_safe y g.3))
      statement_safe (Create l c t) g = give_safe l t Integer (get l (made_one c)) g.1 (safe_get l (made_one c) Integer (λ s f. made_one_fine p typed ms c s g.0 f))
      statement_safe (CreateEvery l cs) g = every_safe l cs g
      statement_safe (Destroy l c e) g =
          safe_then {P = HasMode_is Integer} (safe_look l (value e) (value_fine p typed ms b e Integer g.1)) (λ x m. safe_change l (without c x) (λ s f. without_fine p typed ms c x s g.0 m f))
      statement_safe (File l set e position owner) g = file_safe l set e position owner g.0 g.1 g.2
      statement_safe (RemoveEnd l end set t owner) g = give_safe l t Integer (remove_end l end set owner) g.0 (remove_end_safe l end set owner g.1)
      statement_safe (Remove l set e owner) g = remove_safe l set e owner g.0 g.1
      statement_safe (ScheduleNew l c t given when) g = schedule_new_safe l c t given when g.0 g.1 g.2
      statement_safe (Schedule l c e given when) g = schedule_safe l c e given when g.0 g.1 g.2
      statement_safe (Cancel l c e) g =
          safe_then {P = HasMode_is Integer} (safe_look l (value e) (value_fine p typed ms b e Integer g.1)) (λ x m. safe_change l (unscheduled c x) (λ s f. unscheduled_fine p typed ms c x s g.0 m f))
      statement_safe (Reset l rs) g = restarts_safe l rs g
      statement_safe (Print l xs pictures) g = print_safe l xs pictures g
      statement_safe (Skip l e) g =
          safe_then {P = Any} (safe_look l (λ s. if_ok (value e s) empty_lines) (λ s f. fine_then Any (value e s) empty_lines (value_fine p typed ms b e Integer g s f) (λ v m. empty_fine v m))) (λ bytes u. safe_send bytes)

      pub block_safe : (x : Block) → IsTypedBlock here x → Safe p ms Any (effects h n x)
      block_safe Done g = safe_went tt tt
      block_safe (Then s rest) g = safe_then {P = Any} (statement_safe s g.0) (λ u v. block_safe rest g.1)
