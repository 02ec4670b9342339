-- An operation of the world is done, and the machine goes on, or there is a fault.
use Rattle.std.proofs.Common.{◌≡◌, Bool, false, List, Option, None, Ok, Err, refl, sym, ap, ◌∙◌, subst}
use Rattle.std.specs.Prelude.{Result as OkOr}
use Rattle.ss_machine_instructions.proofs.Common.{act, Breaks, Compiled, Core, done_unless_fault, Failure, faulted, faulted_by, FaultKind, Fine, HasPerformed, Here, is_due, IsHeld, IsNotedRight, IsReadyFor, IsRight, IsSettled, IsSettling, on_after, Rest, Seen, Setting, State, Statistic, Store, Subject, watch, with_seen, World}
use Rattle.ss_code_instructions.specs.declared.instruction.Instruction.{Instruction as Running}
use Rattle.ss_machine_instructions.proofs.Placing.{calm}
use Rattle.ss_machine_instructions.proofs.Seeing.{Gives, seen_is, statistics_are, code_statistics_are, breaks_seeing, settles as settles_by}

-- ## Operations that do not go wrong

pub fine_right : {A : Type 0} (P : A → Type 0) (r : OkOr A Failure) → Fine P r → IsRight r
fine_right P r f = λ wrong. subst (λ q. Fine P q) wrong f

pub fine_is : {A : Type 0} (P : A → Type 0) (r : OkOr A Failure) (a : A) → Fine P r → r ≡ Ok a → P a
fine_is P r a f e = subst (λ q. Fine P q) e f

module _ (w : Compiled) (c : Core) (here : Here) (s : State) (run : Running) (r : IsReadyFor w c here s run) where
  -- ## The store of the definition has what is seen

  pub disciplines_seen : s.world.disciplines ≡ w.program.disciplines
  disciplines_seen = sym (ap (λ (x : World). x.setting.disciplines) r.holds.world) ∙ ap (λ (x : Setting). x.disciplines) r.fits.store.sound.world.setting

  pub notices_seen : c.store.world.setting.notices ≡ s.world.notices
  notices_seen = ap (λ (x : World). x.setting.notices) r.holds.world

  pub statistics_seen : s.world.statistics ≡ w.code.setting.statistics
  statistics_seen = statistics_are w c here s run r ∙ sym (code_statistics_are w c here s run r)

  -- what the running instruction does not note no statistic watches
  pub is_noted_right : (notes : Bool) (subject : Subject) → (notes ≡ false → watch w.code.setting.statistics subject ≡ false) → IsNotedRight notes subject s.world
  is_noted_right notes subject reported none = ap (λ (ss : List Statistic). watch ss subject) statistics_seen ∙ reported none

  -- ## What is held once more is seen

  pub world_holds : (e : Seen) → IsHeld w (record c { store = with_seen c.store e }) here (record s { world = e })
  world_holds e =
      let h = r.holds.held in
      record {
        place = r.holds.place;
        held = record {
          globals = h.globals;
          fixed = h.fixed;
          locals = h.locals;
          cells = h.cells;
          open_calls = h.open_calls;
          room = h.room;
          small = h.small;
        };
        world = refl;
        even = r.holds.even;
        line = r.holds.line;
      }

  -- ## It goes on

  -- a fault of the definition, whatever the machine has done to what is seen
  pub fails_on : (kind : FaultKind) (e : Seen) (new : State) (result : Option Here) → is_due r.placed.instruction ≡ false → act w.code r.placed.line r.placed.instruction c ≡ Rest (Breaks kind r.placed.line) → new ≡ faulted kind (record s { world = e }) → result ≡ None → HasPerformed (is_due r.placed.instruction) w r.placed.line (act w.code r.placed.line r.placed.instruction c) s new result
  fails_on kind e new result calmly acts same none =
      calm w c here s run r new result calmly (breaks_seeing w c here s run r kind e new result acts same none)

  -- by the answer
  pub settles : (f : Store → OkOr Store Failure) (e : Seen) (answer : OkOr (Unit {0}) FaultKind) (new : State) (result : Option Here) → is_due r.placed.instruction ≡ false → IsSettling c r.placed.line (act w.code r.placed.line r.placed.instruction c) here s f → IsSettled f s.world e answer → new ≡ faulted_by answer (record s { world = e }) → result ≡ on_after here (done_unless_fault answer) → HasPerformed (is_due r.placed.instruction) w r.placed.line (act w.code r.placed.line r.placed.instruction c) s new result
  settles f e answer new result calmly z d same way =
      settles_by w c here s run r (f c.store) z.below e answer new result calmly z.acts z.at (gives answer d) same way
    where
      gives : (answer : OkOr (Unit {0}) FaultKind) → IsSettled f s.world e answer → Gives c.store (f c.store) e answer
      gives (Ok u) d = ap f (seen_is w c here s run r) ∙ d c.store (λ wrong. z.right (ap f (seen_is w c here s run r) ∙ wrong))
      gives (Err kind) d = ap f (seen_is w c here s run r) ∙ d c.store (λ wrong. z.right (ap f (seen_is w c here s run r) ∙ wrong))
