-- An event begins in the definition as it does in the machine.
use Rattle.std.proofs.Common.{◌≡◌, ℕ, zero, suc, ◌+◌, ◌<◌, ℤ, Bool, true, false, List, [], ◌∷◌, length, Option, Some, None, Ok, Err, refl, sym, ap, ◌∙◌, subst, arith, if◌then◌else◌}
use Rattle.ss_machine_notices.proofs.Common.{AnEvent, AreRead, at_height, Breaks, class_of_record, Compiled, Core, did, eq-eqb, FaultKind, fine_right, fit, gone, HasChanged, HasLetGo, Here, Integer, IsNextEvent, IsRight, living, mode_of, noted, OfVariable, Rest, Seen, State, Value, Whole, with_seen, WrongClass}
use Rattle.std.specs.Prelude.{◌==◌, pos, negsuc, IfSome, is_some, slice_get, slice_set, slice_index_or, Result as OkOr}
use Rattle.ss_base.specs.declared.layout.ClassKind.TheVariants.{Notice, Permanent, Temporary}
use Rattle.ss_code_instructions.specs.Machine.{act, enter, take_event, take_next}
use Rattle.ss_meaning.specs.Store.{Notices, Store}
use Rattle.ss_meaning.specs.Values.{due, Fails, Failure, if_ok, turned}
use Rattle.ss_world.specs.State.{and_then, kind_of, modes_of, value_in, State as Heap, Record, numbered_record, of_class, issued_record, entity_of_kind, entity_in}
use Rattle.ss_base.specs.declared.layout.ClassKind.{ClassKind}
use Rattle.ss_meaning.specs.Events.{Beginning, attributes_given, saved_or_gone, event_begun}
use Rattle.ss_meaning.proofs.Events.{BegunAs, begun_fine}
use Rattle.ss_machine_frames.proofs.Writing.{put_is}
use Rattle.ss_machine_world.proofs.Reading.{value_once}
use Rattle.ss_program.specs.declared.expression.Variable.TheVariants.{Global}
use Rattle.ss_machine_notices.proofs.Begun.{known, event, said_is}

-- ## The attributes of a living notice can be read

entity_lives : (h : Heap) (class : ℕ) (x : ℤ) → living h x ≡ Some class → kind_of h.layout class ≡ Notice → (r : Record) × (entity_in h class x ≡ Ok r)
entity_lives h class x lives kind = by (kind_of h.layout class) kind
  where
    same_class : (r : Record) → r.class ≡ class → (b : Bool) → (r.class == class) ≡ b → (if b then Ok r else Err WrongClass) ≡ Ok r
    same_class r e true q = refl
    same_class r e false q = let on : (r.class == class) ≡ true = eq-eqb r.class class e in absurd (let wrong : true ≡ false = sym on ∙ q in cc)

    from_record : (o : Option (Option Record)) → class_of_record o ≡ Some class → (r : Record) × (and_then (issued_record o) (of_class class) ≡ Ok r)
    from_record None e = absurd cc
    from_record (Some None) e = absurd cc
    from_record (Some (Some r)) e = let q : r.class ≡ class = cc in (r, same_class r q (r.class == class) refl)

    numbered_lives : (x : ℤ) → living h x ≡ Some class → (r : Record) × (and_then (numbered_record h x) (of_class class) ≡ Ok r)
    numbered_lives (pos zero) e = absurd cc
    numbered_lives (pos (suc i)) e = from_record (slice_get h.records i) e
    numbered_lives (negsuc k) e = absurd cc

    by : (k : ClassKind) → k ≡ Notice → (r : Record) × (entity_of_kind h k class x ≡ Ok r)
    by Permanent e = absurd cc
    by Temporary e = numbered_lives x lives
    by Notice e = numbered_lives x lives

pub value_lives : (h : Heap) (class field : ℕ) (x : ℤ) → living h x ≡ Some class → kind_of h.layout class ≡ Notice → (v : Value) × (value_in h class field x ≡ Ok v)
value_lives h class field x lives kind =
    let r = entity_lives h class x lives kind in
    (slice_index_or r.0.values field (Whole (pos 0)), ap (λ q. and_then {B = Value} q (λ r. Ok (slice_index_or r.values field (Whole (pos 0))))) r.1)

-- so many of them
pub all_lives : (h : Heap) (class field count : ℕ) (x : ℤ) → living h x ≡ Some class → kind_of h.layout class ≡ Notice → (vs : List Value) × (length vs ≡ count) × AreRead h class field x vs
all_lives h class field zero x lives kind = ([], refl, tt)
all_lives h class field (suc k) x lives kind =
    let v = value_lives h class field x lives kind in
    let rest = all_lives h class (field + 1) k x lives kind in
    (v.0 ∷ rest.0, ap suc rest.1, (v.1, rest.2))

-- the definition reads them
pub read_is : (e : Seen) (class field : ℕ) (x : ℤ) (vs : List Value) (s : Store) → ((i : ℕ) → i < length vs → is_some (slice_get (modes_of e.heap.layout class) (field + i)) ≡ true) → AreRead e.heap class field x vs → attributes_given class field (length vs) (Whole x) (with_seen s e) ≡ Ok vs
read_is e class field x [] s there read = refl
read_is e class field x (v ∷ vs) s there read =
    let none_on : field + 0 ≡ field = omega arith in
    let here : is_some (slice_get (modes_of e.heap.layout class) field) ≡ true = subst (λ j. is_some (slice_get (modes_of e.heap.layout class) j) ≡ true) none_on (there 0 (omega arith)) in
    ap (λ q. if_ok q (λ v. turned (λ ws. v ∷ ws) (attributes_given class (field + 1) (length vs) (Whole x) (with_seen s e)))) (value_once e class field x s here ∙ ap due read.0)
    ∙ ap (turned (λ ws. v ∷ ws)) (read_is e class (field + 1) x vs s (λ i lt. let one : field + suc i ≡ field + 1 + i = omega arith in subst (λ j. is_some (slice_get (modes_of e.heap.layout class) j) ≡ true) one (there (suc i) (omega (arith, lt)))) read.1)

module _ (w : Compiled) (c : Core) (here : Here) (s : State) (cell : ℕ) (x : ℤ) (class : ℕ) (n : IsNextEvent w c here s cell x class) where
  -- ## Letting the notice go

  -- the store once it is let go, and the world is as seen
  abbrev pub left_store : Option ℕ → Seen → Store
  left_store None e = with_seen c.store e
  left_store (Some k) e = record (with_seen c.store e) { globals = slice_set c.store.globals k (Whole x) }

  abbrev pub GoesAs : Option ℕ → Seen → OkOr (Unit {0}) FaultKind → Type 0
  GoesAs saved e (Ok u) = saved_or_gone saved class (Whole x) (with_seen c.store s.world) ≡ Ok (left_store saved e)
  GoesAs saved e (Err kind) = saved_or_gone saved class (Whole x) (with_seen c.store s.world) ≡ Err (Fails kind)

  -- a saving variable holds a number
  abbrev pub IsSaving : Option ℕ → Type 0
  IsSaving saved = IfSome saved (λ k. (old : Value) × (slice_get c.store.globals k ≡ Some old) × (mode_of old ≡ Integer))

  pub goes_as : (saved : Option ℕ) (mid new : State) (q : OkOr (Unit {0}) FaultKind) → mid.world ≡ s.world → IsSaving saved → IsRight (saved_or_gone saved class (Whole x) (with_seen c.store s.world)) → HasLetGo saved class x mid new q → GoesAs saved new.world q
  goes_as None mid new q same saving right d = by q (subst (λ (e : Seen). HasChanged (gone class (Whole x)) e new.world q) same d.0)
    where
      by : (q : OkOr (Unit {0}) FaultKind) → HasChanged (gone class (Whole x)) s.world new.world q → GoesAs None new.world q
      by (Ok u) d = d c.store right
      by (Err kind) d = d.0 c.store right
  goes_as (Some k) mid new q same saving right d = saved_as k new q saving right (subst (λ (e : Seen). HasChanged (noted (OfVariable k) (pos 0) (Whole x)) e new.world q) same d.0)
    where
      saved_as : (k : ℕ) (new : State) (q : OkOr (Unit {0}) FaultKind) → IsSaving (Some k) → IsRight (saved_or_gone (Some k) class (Whole x) (with_seen c.store s.world)) → HasChanged (noted (OfVariable k) (pos 0) (Whole x)) s.world new.world q → GoesAs (Some k) new.world q
      saved_as k new q saving right d = by q d
        where
          put_then : saved_or_gone (Some k) class (Whole x) (with_seen c.store s.world) ≡ noted (OfVariable k) (pos 0) (Whole x) (with_seen (record c.store { globals = slice_set c.store.globals k (Whole x) }) s.world)
          put_then = ap (λ (q : OkOr Store Failure). if_ok q (noted (OfVariable k) (pos 0) (Whole x))) (put_is (Global k) (Whole x) saving.0 (with_seen c.store s.world) saving.1 (sym saving.2))

          by : (q : OkOr (Unit {0}) FaultKind) → HasChanged (noted (OfVariable k) (pos 0) (Whole x)) s.world new.world q → GoesAs (Some k) new.world q
          by (Ok u) d = put_then ∙ d (record c.store { globals = slice_set c.store.globals k (Whole x) }) (λ wrong. right (put_then ∙ wrong))
          by (Err kind) d = put_then ∙ d.0 (record c.store { globals = slice_set c.store.globals k (Whole x) }) (λ wrong. right (put_then ∙ wrong))

  -- ## The event begins

  abbrev begun_by : (cl count : ℕ) → Value → Store → OkOr Beginning Failure
  begun_by cl count v t = if_ok (attributes_given cl 0 count v t) (λ vs. turned (λ t. record { rank = n.coming.ranked.rank; given = vs; store = t }) (saved_or_gone n.coming.ranked.said.saved cl v t))

  begun_is : event_begun n.coming ≡ begun_by class (length (event w c here s cell x class n).given) (Whole x) (with_seen c.store s.world)
  begun_is =
      ap (λ cl. begun_by cl n.coming.ranked.said.given n.coming.notice n.coming.store) n.of
      ∙ ap (λ v. begun_by class n.coming.ranked.said.given v n.coming.store) n.number
      ∙ ap (begun_by class n.coming.ranked.said.given (Whole x)) n.store
      ∙ ap (λ k. begun_by class k (Whole x) (with_seen c.store s.world)) (ap (λ (m : Notices). m.given) (said_is w c here s cell x class n))

  -- with these attributes
  module _ (vs : List Value) (given : attributes_given class 0 (length (event w c here s cell x class n).given) (Whole x) (with_seen c.store s.world) ≡ Ok vs) where
    pub begun_then : event_begun n.coming ≡ turned (λ t. record { rank = n.coming.ranked.rank; given = vs; store = t }) (saved_or_gone n.coming.ranked.said.saved class (Whole x) (with_seen c.store s.world))
    begun_then = begun_is ∙ ap (λ q. if_ok q (λ vs. turned (λ t. record { rank = n.coming.ranked.rank; given = vs; store = t }) (saved_or_gone n.coming.ranked.said.saved class (Whole x) (with_seen c.store s.world)))) given

    pub goes_right : IsRight (saved_or_gone n.coming.ranked.said.saved class (Whole x) (with_seen c.store s.world))
    goes_right = λ wrong.
        fine_right (BegunAs w.program n.ready.compiled.typed n.ready.placed.locals) (event_begun n.coming) (begun_fine w.program n.ready.compiled.typed n.ready.placed.locals n.coming (known w c here s cell x class n))
        (begun_then ∙ ap (turned (λ t. record { rank = n.coming.ranked.rank; given = vs; store = t })) wrong)

    -- what TakeEvent does then
    pub take_is : act w.code n.ready.placed.line n.ready.placed.instruction c ≡ take_event w.code n.ready.runs.carries.0 n.coming c
    take_is = ap (λ i. act w.code n.ready.placed.line i c) n.ready.runs.carries.2 ∙ ap (λ o. take_next w.code n.ready.runs.carries.0 o c) n.next

    -- a fault as the notice is let go has the line of the routine
    pub begins_not : (e : Seen) (kind : FaultKind) → GoesAs n.coming.ranked.said.saved e (Err kind) → act w.code n.ready.placed.line n.ready.placed.instruction c ≡ Rest (Breaks kind n.coming.ranked.said.line)
    begins_not e kind goes =
        take_is
        ∙ ap (λ q. did n.coming.ranked.said.line q (λ b. fit (slice_get w.code.events b.rank) (λ e. at_height n.ready.runs.carries.0 c.cells (enter e (AnEvent b.rank) b.given c.cells c b.store)))) (begun_then ∙ ap (turned (λ t. record { rank = n.coming.ranked.rank; given = vs; store = t })) goes)
