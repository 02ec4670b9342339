-- What is asked of sets, filing and removing: what the running instructions do is what the definition does.
use Rattle.std.proofs.Common.{◌≡◌, ℕ, ◌+◌, ◌<◌, ◌≤◌, Bool, false, List, length, Option, Some, None, Ok, Err, refl, sym, ap, ◌∙◌, subst, arith}
use Rattle.ss_machine_instructions.proofs.Common.{act, Address, AreCellsAt, AreOfModes, as_value, bearer_within, Compiled, done_unless_fault, due, End, Fails, Failure, faulted, faulted_by, FaultKind, Fine, HasNoTick, HasPerformed, Here, if_ok, Integer, is_due, IsDelivering, IsFittingStore, IsReadyFor, IsRight, IsWellTyped, Layout, MemberQuery, Mode, mode_of, OfCount, on_after, only_number, place_at, Program, read_within, reads, reads_bearer, Refers, Seen, SetLayout, SetQuery, shorter, slice_get_within, State, Store, turned, Value, watch, where_fit, Whole, with_seen}
use Rattle.std.specs.Prelude.{ℤ, pos, is_some, slice_get, Result as OkOr}
use Rattle.ss_code_instructions.specs.Carried.{HasBearer, HasOperand, HasTarget, Is, IsFilingMember, IsOperandAt, IsBearerAt}
use Rattle.ss_code_instructions.specs.Instructions.{Bearer, Operand, Target, FilingPlace, First, Last, Ranked, Before, After}
use Rattle.ss_code_instructions.specs.Shape.{typed_scope, IsSetBearer, IsGivingMode, IsGivingBearer, IsGivingPosition}
use Rattle.ss_code_instructions.specs.States.{Core, deliver, deliver_with, did, Moved, onward, with_operand_value, with_position}
use Rattle.ss_machine_instructions.specs.Worldly.{HasFiled, HasRemoved, HasTaken, IsSettledGiving, IsSettling, IsOwner, IsRuled, one_of, member_answer}
use Rattle.ss_meaning.specs.Sets.{ByRule, Foremost, Hindmost, JustAfter, JustBefore, member, owner_as, set_at, owner_by_layout, set_answer, of_set, is_one, of_member, Filing as Position, filed_in, removed_from, removed_at}
use Rattle.ss_world.specs.Sets.{joiner, owner_in, companions, precursor, follower, as_number, previous_in, next_in, owner_of_member}
use Rattle.ss_world.specs.State.{and_then, owner_of}
use Rattle.ss_program.specs.declared.expression.MemberQuery.TheVariants.{Predecessor, Successor, Membership}
use Rattle.ss_meaning.proofs.Sets.{OwnerOk, FilingOk, filed_in_fine, removed_from_fine, removed_at_fine}
use Rattle.ss_code_instructions.specs.declared.instruction.Instruction.{Instruction as Running}
use Rattle.ss_code_instructions.specs.Instructions as i
use Rattle.ss_machine_instructions.proofs.Placing.{site, located, suits_as, small, deep_at, deep_here, calm}
use Rattle.ss_machine_instructions.proofs.Delivering.{delivers, deliver_is, number_right}
use Rattle.ss_machine_instructions.proofs.Asking.{owner_is, set_there, set_within, bearer_shorter}
use Rattle.ss_machine_instructions.proofs.Programs.{ruled_in}
use Rattle.ss_machine_instructions.proofs.Seeing.{seen_is, heap_is, layout_is}
use Rattle.ss_machine_instructions.proofs.Settling.{fine_right, fine_is, disciplines_seen, world_holds, is_noted_right, settles, fails_on}

-- ## A member is looked at first

module _ (set : ℕ) (n : ℤ) (s : Store) (t : SetLayout) (there : set_at set s ≡ Some t) where
  -- an operation that has the fault of its member itself
  looked : (go : ℤ → OkOr Value Failure) → ((kind : FaultKind) → joiner s.world.heap set n ≡ Err kind → go n ≡ Err (Fails kind)) → if_ok (member set (Whole n) s) go ≡ go n
  looked go fails =
      ap (λ so. if_ok (where_fit (is_some so) (turned (λ _. n) (due (joiner s.world.heap set n)))) go) there
      ∙ by (joiner s.world.heap set n) refl
    where
      by : (j : OkOr ℕ FaultKind) → joiner s.world.heap set n ≡ j → if_ok (turned (λ _. n) (due j)) go ≡ go n
      by (Ok k) q = refl
      by (Err kind) q = sym (fails kind q)

  ones : (r : OkOr (Option ℤ) FaultKind) → turned (λ o. Whole (is_one o)) (due r) ≡ turned Whole (due (one_of r))
  ones (Ok o) = refl
  ones (Err kind) = refl

  member_is : (query : MemberQuery) → of_member query set (Whole n) s ≡ turned Whole (due (member_answer query s.world.heap set n))
  member_is Predecessor =
      looked (λ n. turned Whole (due (previous_in s.world.heap set n)))
      (λ kind q. ap (λ j. turned Whole (due (and_then {B = ℤ} j (λ k. Ok (pos (precursor 0 k (companions s.world.heap.lists set k))))))) q)
  member_is Successor =
      looked (λ n. turned Whole (due (next_in s.world.heap set n)))
      (λ kind q. ap (λ j. turned Whole (due (and_then {B = ℤ} j (λ k. Ok (pos (follower k (companions s.world.heap.lists set k))))))) q)
  member_is Membership =
      looked (λ n. turned (λ o. Whole (is_one o)) (due (owner_of_member s.world.heap set n)))
      (λ kind q. ap (λ j. turned (λ o. Whole (is_one o)) (due (and_then {B = Option ℤ} j (λ k. Ok (as_number (owner_of s.world.heap.lists set k)))))) q)
      ∙ ones (owner_of_member s.world.heap set n)

-- ## Owners

-- what a bearer refers to is an owner, as the program has it
owner_ok : (p : Program) (typed : IsWellTyped p) (ms : List Mode) (set : ℕ) (x : Bearer) (o : Option Value) (z : ℤ) → IsSetBearer p set x → Refers x o z → OwnerOk p typed ms set o
owner_ok p typed ms set None o z fits refers = subst (λ o. OwnerOk p typed ms set o) (sym refers.0) fits
owner_ok p typed ms set (Some x) o z fits refers = subst (λ o. OwnerOk p typed ms set o) (sym refers) (fits, refl)

module _ (w : Compiled) (c : Core) (here : Here) (s : State) (run : Running) (r : IsReadyFor w c here s run) where
  abbrev Low : ℕ
  Low = here.frame + length c.store.locals

  -- the number that is read is that of the owner, as the machine's world has it
  is_owner : (set : ℕ) (x : Bearer) (o : Option Value) (z : ℤ) → IsSetBearer w.program set x → Refers x o z → IsOwner s.world set o z
  is_owner set x o z fits refers =
      let t = set_there w.program set x fits in
      let there : slice_get s.world.heap.layout.sets set ≡ Some t.0 = ap (λ l. slice_get l.sets set) (layout_is w c here s run r) ∙ t.1 in
      let known : set_at set c.store ≡ Some t.0 = ap (λ (l : Layout). slice_get l.sets set) r.fits.store.sound.world.layout ∙ t.1 in
      ap (λ so. owner_as (owner_in so) o) there
      ∙ sym (ap (λ so. owner_by_layout so o) known)
      ∙ owner_is w.program set x o z c.store r.fits.store.sound.world.layout fits refers

  pub ruled_here : (set : ℕ) (x : Bearer) → IsSetBearer w.program set x → IsRuled s.world set
  ruled_here set x fits =
      let t = set_there w.program set x fits in
      ruled_in w.program r.compiled.typed s.world set t.0 t.1 (disciplines_seen w c here s run r) (layout_is w c here s run r)

  -- ## F., L. and N. of a set

  abbrev pub AsksSet : SetQuery → (set : ℕ) → (owner to : Address) → Type 0
  AsksSet query set owner to = HasBearer w.code w.run.constants r.placed owner (λ o. HasTarget w.code w.run.constants r.placed to (λ t. Is w.code w.run.constants r.placed (i.OfSet query set o t)))

  pub asks_set_in : (query : SetQuery) (set : ℕ) (owner to : Address) → AsksSet query set owner to → (place_at here.frame owner < length s.rows.numbers) × (set < length s.world.heap.layout.sets)
  asks_set_in query set owner to z =
      let y = suits_as w c here s run r z.2.2 in (
        bearer_within (site w c here s run r) (located w c here s run r) z.0 r.placed.cells y.1.0 owner y.1.1 z.1 (deep_here w c here s run r),
        set_within w c here s run r set z.0 y.0,
      )

  pub asks_set : (query : SetQuery) (set : ℕ) (owner to : Address) (number : ℤ) (answer : OkOr ℤ FaultKind) → AsksSet query set owner to → slice_get s.rows.numbers (place_at here.frame owner) ≡ Some number → answer ≡ set_answer query s.world.heap set number → IsDelivering w c r.placed.line (act w.code r.placed.line r.placed.instruction c) here s to (as_value answer)
  asks_set query set owner to number answer z at e =
      let is = z.2.2 in
      let y = suits_as w c here s run r is in
      let b = reads_bearer (site w c here s run r) (located w c here s run r) z.0 r.placed.cells y.1.0 owner c.cells number y.1.1 z.1 r.holds.held.cells r.fits.cells at in
      let who = owner_is w.program set z.0 b.value number c.store r.fits.store.sound.world.layout y.0 b.refers in
      let target = z.2.0 in
      let l = r.placed.line in
      delivers w c here s run r (as_value answer) to target Integer y.1.0 y.1.2.0 b.below
      (ap (λ x. act w.code l x c) is
      ∙ b.is (λ o below. deliver l target (of_set query set o c.store) below c)
      ∙ ap (λ q. deliver l target (if_ok q (λ n. turned Whole (due (set_answer query c.store.world.heap set n)))) b.below c) who
      ∙ ap (λ h. deliver l target (turned Whole (due (set_answer query h set number))) b.below c) (heap_is w c here s run r)
      ∙ ap (λ a. deliver l target (turned Whole (due a)) b.below c) (sym e)
      ∙ deliver_is l target answer b.below c)
      y.1.2.1 z.2.1 (deep_at w c here s run r (c.place + 1) r.placed.locals y.1.2.0 y.1.2.2) (number_right answer) b.modes b.cells

  -- ## P., S. and M. of a member

  abbrev pub AsksMember : MemberQuery → (set : ℕ) → (member to : Address) → Type 0
  AsksMember query set member to = HasOperand w.code w.run.constants r.placed member (λ y. HasTarget w.code w.run.constants r.placed to (λ t. Is w.code w.run.constants r.placed (i.OfMember query set y t)))

  pub asks_member_in : (query : MemberQuery) (set : ℕ) (member to : Address) → AsksMember query set member to → (place_at here.frame member < length s.rows.numbers) × (set < length s.world.heap.layout.sets)
  asks_member_in query set member to z =
      let y = suits_as w c here s run r z.2.2 in (
        read_within (site w c here s run r) (located w c here s run r) z.0 Integer r.placed.cells y.1.0 member y.1.1 z.1 (deep_here w c here s run r),
        slice_get_within s.world.heap.layout.sets set y.0.0 (ap (λ l. slice_get l.sets set) (layout_is w c here s run r) ∙ y.0.1),
      )

  pub asks_member : (query : MemberQuery) (set : ℕ) (member to : Address) (number : ℤ) (answer : OkOr ℤ FaultKind) → AsksMember query set member to → slice_get s.rows.numbers (place_at here.frame member) ≡ Some number → answer ≡ member_answer query s.world.heap set number → IsDelivering w c r.placed.line (act w.code r.placed.line r.placed.instruction c) here s to (as_value answer)
  asks_member query set member to number answer z at e =
      let is = z.2.2 in
      let y = suits_as w c here s run r is in
      let one = reads (site w c here s run r) (located w c here s run r) z.0 Integer r.placed.cells y.1.0 member c.cells (Whole number) y.1.1 z.1 r.holds.held.cells r.fits.cells (only_number s.rows (place_at here.frame member) number at) in
      let known : set_at set c.store ≡ Some y.0.0 = ap (λ (l : Layout). slice_get l.sets set) r.fits.store.sound.world.layout ∙ y.0.1 in
      let target = z.2.0 in
      let l = r.placed.line in
      delivers w c here s run r (as_value answer) to target Integer y.1.0 y.1.2.0 one.below
      (ap (λ x. act w.code l x c) is
      ∙ one.is (λ x below. deliver l target (of_member query set x c.store) below c)
      ∙ ap (λ q. deliver l target q one.below c) (member_is set number c.store y.0.0 known query)
      ∙ ap (λ h. deliver l target (turned Whole (due (member_answer query h set number))) one.below c) (heap_is w c here s run r)
      ∙ ap (λ a. deliver l target (turned Whole (due a)) one.below c) (sym e)
      ∙ deliver_is l target answer one.below c)
      y.1.2.1 z.2.1 (deep_at w c here s run r (c.place + 1) r.placed.locals y.1.2.0 y.1.2.2) (number_right answer) one.modes one.cells

  -- ## Where a member is filed

  -- the position that a filing names, once it is read
  pub record Positioned (filing : FilingPlace) (at : Position) (cells : List Value) (rest : List Mode) : Type 0 where
    below : List Value
    is : (go : Position → List Value → Moved) → with_position filing c.store cells go ≡ go at below
    cells_at : AreCellsAt s.rows Low below
    modes : AreOfModes below rest

  abbrev pub Positions : FilingPlace → Position → Type 0
  Positions filing at = (over above : List Mode) (cells : List Value) → IsGivingPosition (typed_scope w.program w.code r.placed.locals) filing over above → AreCellsAt s.rows Low cells → AreOfModes cells over → Positioned filing at cells above

  -- and it leaves no more cells than there were
  shortens : (filing : FilingPlace) (over above : List Mode) → IsGivingPosition (typed_scope w.program w.code r.placed.locals) filing over above → length over ≤ w.run.depth → length above ≤ w.run.depth
  shortens First over above g le = omega (arith, ap length g, le)
  shortens Last over above g le = omega (arith, ap length g, le)
  shortens Ranked over above g le = omega (arith, ap length g, le)
  shortens (Before y) over above g le = shorter (site w c here s run r) (located w c here s run r) y Integer over above w.run.depth g le
  shortens (After y) over above g le = shorter (site w c here s run r) (located w c here s run r) y Integer over above w.run.depth g le

  pub first_positions : Positions First Foremost
  first_positions over above cells g lie q = record { below = cells; is = λ go. refl; cells_at = lie; modes = q ∙ sym g }

  pub last_positions : Positions Last Hindmost
  last_positions over above cells g lie q = record { below = cells; is = λ go. refl; cells_at = lie; modes = q ∙ sym g }

  pub rank_positions : Positions Ranked ByRule
  rank_positions over above cells g lie q = record { below = cells; is = λ go. refl; cells_at = lie; modes = q ∙ sym g }

  pub before_positions : (y : Operand) (beside : Address) (b : ℤ) → IsOperandAt w.code w.run.constants r.placed y beside → slice_get s.rows.numbers (place_at here.frame beside) ≡ Some b → Positions (Before y) (JustBefore (Whole b))
  before_positions y beside b at e over above cells g lie q =
      let x = reads (site w c here s run r) (located w c here s run r) y Integer over above beside cells (Whole b) g at lie q (only_number s.rows (place_at here.frame beside) b e) in
      record { below = x.below; is = λ go. x.is (λ v below. go (JustBefore v) below); cells_at = x.cells; modes = x.modes }

  pub after_positions : (y : Operand) (beside : Address) (b : ℤ) → IsOperandAt w.code w.run.constants r.placed y beside → slice_get s.rows.numbers (place_at here.frame beside) ≡ Some b → Positions (After y) (JustAfter (Whole b))
  after_positions y beside b at e over above cells g lie q =
      let x = reads (site w c here s run r) (located w c here s run r) y Integer over above beside cells (Whole b) g at lie q (only_number s.rows (place_at here.frame beside) b e) in
      record { below = x.below; is = λ go. x.is (λ v below. go (JustAfter v) below); cells_at = x.cells; modes = x.modes }

  -- ## Filing

  -- the places that are read, and the set, are there
  pub record FileWithin (member owner : Address) (set : ℕ) : Type 0 where
    pub member_place : place_at here.frame member < length s.rows.numbers
    pub owner_place : place_at here.frame owner < length s.rows.numbers
    pub set_place : set < length s.world.heap.layout.sets
    pub ruled_set : IsRuled s.world set

  abbrev pub FilesBy : FilingPlace → (set : ℕ) → (member owner : Address) → Type 0
  FilesBy filing set member owner = IsFilingMember w.code w.run.constants r.placed filing set member owner

  pub file_within : (filing : FilingPlace) (set : ℕ) (member owner : Address) → FilesBy filing set member owner → FileWithin member owner set
  file_within filing set member owner f =
      let t = site w c here s run r in
      let st = located w c here s run r in
      let z = suits_as w c here s run r f.2.2 in
      record {
        member_place = read_within t st f.0 Integer z.1.2.0 z.1.2.2.0 member z.1.2.2.1 f.1 (shortens filing z.1.0 z.1.2.0 z.1.2.1 (bearer_shorter w c here s run r f.2.0 z.1.0 z.1.1));
        owner_place = bearer_within t st f.2.0 r.placed.cells z.1.0 owner z.1.1 f.2.1 (deep_here w c here s run r);
        set_place = set_within w c here s run r set f.2.0 z.0;
        ruled_set = ruled_here set f.2.0 z.0;
      }

  -- the place of the member beside which it is filed is there as well
  pub beside_within : (filing : FilingPlace) (k : Operand) (set : ℕ) (beside member owner : Address) → ((over above : List Mode) → IsGivingPosition (typed_scope w.program w.code r.placed.locals) filing over above → IsGivingMode (typed_scope w.program w.code r.placed.locals) k Integer over above) → IsOperandAt w.code w.run.constants r.placed k beside → FilesBy filing set member owner → place_at here.frame beside < length s.rows.numbers
  beside_within filing k set beside member owner gives at_k f =
      let z = suits_as w c here s run r f.2.2 in
      read_within (site w c here s run r) (located w c here s run r) k Integer z.1.0 z.1.2.0 beside (gives z.1.0 z.1.2.0 z.1.2.1) at_k (bearer_shorter w c here s run r f.2.0 z.1.0 z.1.1)

  abbrev pub IsQuiet : (notes : Bool) → (set : ℕ) → Type 0
  IsQuiet notes set = notes ≡ false → watch w.code.setting.statistics (OfCount set) ≡ false

  -- what the machine did, for an operation that a function carried out
  abbrev pub IsDone : (e : Seen) → OkOr (Unit {0}) FaultKind → (new : State) → Option Here → Type 0
  IsDone e answer new result = (new ≡ faulted_by answer (record s { world = e })) × (result ≡ on_after here (done_unless_fault answer))

  pub files_by : (filing : FilingPlace) (at : Position) (set : ℕ) (member owner : Address) (n m : ℤ) (notes : Bool) (e : Seen) (answer : OkOr (Unit {0}) FaultKind) (new : State) (result : Option Here) → Positions filing at → FilingOk w.program r.compiled.typed r.placed.locals at → IsQuiet notes set → FilesBy filing set member owner → slice_get s.rows.numbers (place_at here.frame member) ≡ Some n → slice_get s.rows.numbers (place_at here.frame owner) ≡ Some m → HasFiled at set notes s.world e answer m n → IsDone e answer new result → HasPerformed (is_due r.placed.instruction) w r.placed.line (act w.code r.placed.line r.placed.instruction c) s new result
  files_by filing at set member owner n m notes e answer new result position good reported files at_member at_owner filed done =
      let y = files.0 in
      let o = files.2.0 in
      let is = files.2.2 in
      let t = site w c here s run r in
      let st = located w c here s run r in
      let l = r.placed.line in
      let z = suits_as w c here s run r is in
      let b = reads_bearer t st o r.placed.cells z.1.0 owner c.cells m z.1.1 files.2.1 r.holds.held.cells r.fits.cells at_owner in
      let f = position z.1.0 z.1.2.0 b.below z.1.2.1 b.cells b.modes in
      let x = reads t st y Integer z.1.2.0 z.1.2.2.0 member f.below (Whole n) z.1.2.2.1 files.1 f.cells_at f.modes (only_number s.rows (place_at here.frame member) n at_member) in
      let op : Store → OkOr Store Failure = filed_in at set (Whole n) b.value in
      let right : IsRight (op c.store) = fine_right (IsFittingStore w.program r.placed.locals) (op c.store) (filed_in_fine w.program r.compiled.typed r.placed.locals at set (Whole n) b.value c.store good refl (owner_ok w.program r.compiled.typed r.placed.locals set o b.value m z.0 b.refers) r.fits.store) in
      let acts : act w.code l r.placed.instruction c ≡ did l (op c.store) (λ t. onward x.below c t) =
      ap (λ v. act w.code l v c) is
      ∙ b.is (λ o over. with_position filing c.store over (λ f above. with_operand_value y c.store above (λ x below. did l (filed_in f set x o c.store) (λ t. onward below c t))))
      ∙ f.is (λ f above. with_operand_value y c.store above (λ x below. did l (filed_in f set x b.value c.store) (λ t. onward below c t)))
      ∙ x.is (λ x below. did l (filed_in at set x b.value c.store) (λ t. onward below c t)) in
      let left : IsSettling c l (act w.code l r.placed.instruction c) here s op = record { below = x.below; acts = acts; right = right; at = x.cells } in
      settles w c here s run r op e answer new result (ap is_due is) left
      (filed b.value (is_owner set o b.value m z.0 b.refers) (is_noted_right w c here s run r notes (OfCount set) reported)) done.0 done.1

  -- ## Removing

  abbrev pub RemovesHere : (set : ℕ) → (member owner : Address) → Type 0
  RemovesHere set member owner = HasOperand w.code w.run.constants r.placed member (λ y. HasBearer w.code w.run.constants r.placed owner (λ o. Is w.code w.run.constants r.placed (i.Remove set y o)))

  pub removes_in : (set : ℕ) (member owner : Address) → RemovesHere set member owner → FileWithin member owner set
  removes_in set member owner z =
      let t = site w c here s run r in
      let st = located w c here s run r in
      let y = suits_as w c here s run r z.2.2 in
      record {
        member_place = read_within t st z.0 Integer y.1.0 y.1.2.0 member y.1.2.1 z.1 (bearer_shorter w c here s run r z.2.0 y.1.0 y.1.1);
        owner_place = bearer_within t st z.2.0 r.placed.cells y.1.0 owner y.1.1 z.2.1 (deep_here w c here s run r);
        set_place = set_within w c here s run r set z.2.0 y.0;
        ruled_set = ruled_here set z.2.0 y.0;
      }

  pub removes : (set : ℕ) (member owner : Address) (n m : ℤ) (notes : Bool) (e : Seen) (answer : OkOr (Unit {0}) FaultKind) (new : State) (result : Option Here) → IsQuiet notes set → RemovesHere set member owner → slice_get s.rows.numbers (place_at here.frame member) ≡ Some n → slice_get s.rows.numbers (place_at here.frame owner) ≡ Some m → HasRemoved set notes s.world e answer m n → IsDone e answer new result → HasPerformed (is_due r.placed.instruction) w r.placed.line (act w.code r.placed.line r.placed.instruction c) s new result
  removes set member owner n m notes e answer new result reported z at_member at_owner removed done =
      let t = site w c here s run r in
      let st = located w c here s run r in
      let l = r.placed.line in
      let is = z.2.2 in
      let y = suits_as w c here s run r is in
      let b = reads_bearer t st z.2.0 r.placed.cells y.1.0 owner c.cells m y.1.1 z.2.1 r.holds.held.cells r.fits.cells at_owner in
      let x = reads t st z.0 Integer y.1.0 y.1.2.0 member b.below (Whole n) y.1.2.1 z.1 b.cells b.modes (only_number s.rows (place_at here.frame member) n at_member) in
      let op : Store → OkOr Store Failure = removed_from set (Whole n) b.value in
      let right : IsRight (op c.store) = fine_right (IsFittingStore w.program r.placed.locals) (op c.store) (removed_from_fine w.program r.compiled.typed r.placed.locals set (Whole n) b.value c.store refl (owner_ok w.program r.compiled.typed r.placed.locals set z.2.0 b.value m y.0 b.refers) r.fits.store) in
      let acts : act w.code l r.placed.instruction c ≡ did l (op c.store) (λ t. onward x.below c t) =
      ap (λ v. act w.code l v c) is
      ∙ b.is (λ o above. with_operand_value z.0 c.store above (λ x below. did l (removed_from set x o c.store) (λ t. onward below c t)))
      ∙ x.is (λ x below. did l (removed_from set x b.value c.store) (λ t. onward below c t)) in
      let left : IsSettling c l (act w.code l r.placed.instruction c) here s op = record { below = x.below; acts = acts; right = right; at = x.cells } in
      settles w c here s run r op e answer new result (ap is_due is) left
      (removed b.value (is_owner set z.2.0 b.value m y.0 b.refers) (is_noted_right w c here s run r notes (OfCount set) reported)) done.0 done.1

  -- ## The first or the last is removed

  abbrev pub TakesHere : End → (set : ℕ) → (owner to : Address) → Type 0
  TakesHere end set owner to = HasBearer w.code w.run.constants r.placed owner (λ o. HasTarget w.code w.run.constants r.placed to (λ t. Is w.code w.run.constants r.placed (i.RemoveEnd end set o t)))

  pub takes_in : (end : End) (set : ℕ) (owner to : Address) → TakesHere end set owner to → (place_at here.frame owner < length s.rows.numbers) × (set < length s.world.heap.layout.sets)
  takes_in end set owner to z =
      let y = suits_as w c here s run r z.2.2 in (
        bearer_within (site w c here s run r) (located w c here s run r) z.0 r.placed.cells y.1.0 owner y.1.1 z.1 (deep_here w c here s run r),
        set_within w c here s run r set z.0 y.0,
      )

  -- a value and a store that fit
  abbrev IsFitting : Value × Store → Type 0
  IsFitting b = (mode_of b.0 ≡ Integer) × IsFittingStore w.program r.placed.locals b.1

  -- the operation of the definition, with the owner that was read
  record TakesAs (end : End) (set : ℕ) (rest : List Mode) (target : Target) (m : ℤ) : Type 0 where
    of : Option Value
    below : List Value
    acts : act w.code r.placed.line r.placed.instruction c ≡ deliver_with r.placed.line target (removed_at end set of c.store) below c
    refers : IsOwner s.world set of m
    fine : Fine IsFitting (removed_at end set of c.store)
    cells_at : AreCellsAt s.rows Low below
    modes : AreOfModes below rest

  takes_as : (end : End) (set : ℕ) (z : Bearer) (owner : Address) (target : Target) (rest : List Mode) (m : ℤ) → IsSetBearer w.program set z → IsGivingBearer (typed_scope w.program w.code r.placed.locals) z r.placed.cells rest → IsBearerAt w.code w.run.constants r.placed z owner → r.placed.instruction ≡ i.RemoveEnd end set z target → slice_get s.rows.numbers (place_at here.frame owner) ≡ Some m → TakesAs end set rest target m
  takes_as end set z owner target rest m fits gives at_z is at_owner =
      let b = reads_bearer (site w c here s run r) (located w c here s run r) z r.placed.cells rest owner c.cells m gives at_z r.holds.held.cells r.fits.cells at_owner in
      record {
        of = b.value;
        below = b.below;
        acts = ap (λ v. act w.code r.placed.line v c) is ∙ b.is (λ o below. deliver_with r.placed.line target (removed_at end set o c.store) below c);
        refers = is_owner set z b.value m fits b.refers;
        fine = removed_at_fine w.program r.compiled.typed r.placed.locals end set b.value c.store (owner_ok w.program r.compiled.typed r.placed.locals set z b.value m fits b.refers) r.fits.store;
        cells_at = b.cells;
        modes = b.modes;
      }

  -- what the operation gives, by what the machine's did
  given_is : (f : Store → OkOr (Value × Store) Failure) (e : Seen) (x : ℤ) → IsRight (f c.store) → IsSettledGiving f s.world e (Ok x) → f c.store ≡ Ok (Whole x, with_seen c.store e)
  given_is f e x right d = ap f (seen_is w c here s run r) ∙ d c.store (λ wrong. right (ap f (seen_is w c here s run r) ∙ wrong))

  given_not : (f : Store → OkOr (Value × Store) Failure) (e : Seen) (kind : FaultKind) → IsRight (f c.store) → IsSettledGiving f s.world e (Err kind) → f c.store ≡ Err (Fails kind)
  given_not f e kind right d = ap f (seen_is w c here s run r) ∙ d c.store (λ wrong. right (ap f (seen_is w c here s run r) ∙ wrong))

  pub takes_delivers : (end : End) (set : ℕ) (owner to : Address) (m x : ℤ) (notes : Bool) (e : Seen) → IsQuiet notes set → TakesHere end set owner to → slice_get s.rows.numbers (place_at here.frame owner) ≡ Some m → HasTaken end set notes s.world e (Ok x) m → IsDelivering w c r.placed.line (act w.code r.placed.line r.placed.instruction c) here (record s { world = e }) to (as_value (Ok x))
  takes_delivers end set owner to m x notes e reported z at_owner taken =
      let is = z.2.2 in
      let y = suits_as w c here s run r is in
      let target = z.2.0 in
      let a = takes_as end set z.0 owner target y.1.0 m y.0 y.1.1 z.1 is at_owner in
      let right : IsRight (removed_at end set a.of c.store) = fine_right IsFitting (removed_at end set a.of c.store) a.fine in
      let gives = given_is (removed_at end set a.of) e x right (taken a.of a.refers (is_noted_right w c here s run r notes (OfCount set) reported)) in
      record {
        compiled = r.compiled;
        placed = r.placed;
        store = with_seen c.store e;
        cells = a.below;
        target = target;
        mode = Integer;
        modes = y.1.0;
        after = y.1.2.0;
        small = small w c here s run r;
        acts = a.acts ∙ ap (λ q. deliver_with r.placed.line target q a.below c) gives;
        accepts = y.1.2.1;
        to_at = z.2.1;
        deep = deep_at w c here s run r (c.place + 1) r.placed.locals y.1.2.0 y.1.2.2;
        right = refl;
        hold = a.modes;
        at = a.cells_at;
        fits = (fine_is IsFitting (removed_at end set a.of c.store) (Whole x, with_seen c.store e) a.fine gives).1;
        holds = world_holds w c here s run r e;
      }

  -- the member is at its place
  pub takes : (e : Seen) (new : State) (result : Option Here) → is_due r.placed.instruction ≡ false → HasNoTick w r.placed.line (act w.code r.placed.line r.placed.instruction c) (record s { world = e }) new result → HasPerformed (is_due r.placed.instruction) w r.placed.line (act w.code r.placed.line r.placed.instruction c) s new result
  takes e new result calmly h = calm w c here s run r new result calmly (record { leads = h.leads; ticks = h.ticks; steps = h.steps })

  -- or there is a fault
  pub takes_not : (end : End) (set : ℕ) (owner to : Address) (m : ℤ) (kind : FaultKind) (notes : Bool) (e : Seen) (new : State) (result : Option Here) → IsQuiet notes set → TakesHere end set owner to → slice_get s.rows.numbers (place_at here.frame owner) ≡ Some m → HasTaken end set notes s.world e (Err kind) m → new ≡ faulted kind (record s { world = e }) → result ≡ None → HasPerformed (is_due r.placed.instruction) w r.placed.line (act w.code r.placed.line r.placed.instruction c) s new result
  takes_not end set owner to m kind notes e new result reported z at_owner taken same none =
      let is = z.2.2 in
      let y = suits_as w c here s run r is in
      let target = z.2.0 in
      let a = takes_as end set z.0 owner target y.1.0 m y.0 y.1.1 z.1 is at_owner in
      let right = fine_right IsFitting (removed_at end set a.of c.store) a.fine in
      fails_on w c here s run r kind e new result (ap is_due is)
      (a.acts ∙ ap (λ q. deliver_with r.placed.line target q a.below c) (given_not (removed_at end set a.of) e kind right (taken a.of a.refers (is_noted_right w c here s run r notes (OfCount set) reported))))
      same none
