use Rattle.std.proofs.Common.{Option, rules, ◌≡◌, ℤ, Some, None, true, ap, sym, ◌∙◌, subst, to_z, of_z, w64}
use Rattle.ss_machine_notices.proofs.Common.{act, frame_small, HasOneTick, Here, is_due, IsNextEvent, IsNextNotice, least_event, living, Seen, State}
use Rattle.ss_code_instructions.specs.declared.instruction.Instruction.TheVariants.{TakeEvent as Runs}
use Rattle.ss_machine_instructions.specs.Ways.{led, begun_event_at, led_to}
use Rattle.ss_machine_instructions.proofs.Leading.{led_stopped, begun_is}
use Rattle.ss_machine_instructions.proofs.Ticking.{pauses, ticks}
use Rattle.ss_machine_notices.proofs.Beginning.{goes_past, lives_as, next_taken}
use Rattle.ss_machine_notices.proofs.events.take_event.Goals as goal

pub returns-then-not-has_taken_tick : goal.returns-then-not-has_taken_tick
returns-then-not-has_taken_tick c = λ w core all r.
    let kept = c.has_taken_tick.ensures.none (search rules) in
    pauses w core c.args.here c.args.state.now (Runs c.args.cell) r c.stop.new.self (led c.after.result) (ap is_due r.runs.carries.2) kept.0 (search rules) (led_stopped c.on-on.result c.after.result c.stop.result c.after.ensures c.stop.ensures.none)

-- no notice is pending
pub returns-in_default : goal.returns-in_default
returns-in_default c = λ w core all r.
    let s = c.args.state.now in let e = c.next_event.new.world in
    let took = c.has_taken_tick.ensures.taken (search rules) in
    let kept : e ≡ s.world = c.in_default.ensures.1 ∙ ap (λ (t : State). t.world) took.2 in
    let none : least_event s.world.pending ≡ None = sym (ap (λ (t : State). least_event t.world.pending) took.2) ∙ c.in_default.ensures.0 in
    let same : record c.has_taken_tick.new.self { world = e } ≡ record s { ticks = took.0 } = ap (λ (t : State). record t { world = e }) took.2 ∙ ap (λ (v : Seen). record s { ticks = took.0; world = v }) kept in
    ticks w core c.args.here s (Runs c.args.cell) r took.0 (record c.has_taken_tick.new.self { world = e }) (led c.on-on.result) (ap is_due r.runs.carries.2) took.1
    (goes_past w core c.args.here s c.args.cell r took.0 (record c.has_taken_tick.new.self { world = e }) (led c.on-on.result) none same (ap led c.on-on.ensures))

-- the one that comes next is not gone
pub returns-in-None : goal.returns-in-None
returns-in-None c = λ w core all r.
    let x = c.in-Some.notice in let e = c.next_event.new.world in
    let took = c.has_taken_tick.ensures.taken (search rules) in
    let same : to_z w64 (of_z w64 x) ≡ x = search rules in
    let comes = subst (λ (t : State). IsNextNotice t.world e (Some x)) took.2 c.in-Some.ensures in
    let gone = subst (λ (y : ℤ). living e.heap y ≡ None) same (sym c.in-None.ensures) in
    absurd (lives_as w core c.args.here c.args.state.now c.args.cell r e x comes gone)

pub begin_event-place-requires : goal.begin_event-place-requires
begin_event-place-requires c =
    let z = c.requires in let s = c.args.state.now in let x = c.in-Some.notice in let class = c.in-Some-class_of.class in let e = c.next_event.new.world in
    let some : c.has_taken_tick.result ≡ true = search rules in
    let took = c.has_taken_tick.ensures.taken some in
    let same : to_z w64 (of_z w64 x) ≡ x = search rules in
    let comes = subst (λ (t : State). IsNextNotice t.world e (Some x)) took.2 c.in-Some.ensures in
    let lives = subst (λ (y : ℤ). living e.heap y ≡ Some class) same (sym c.in-Some-class_of.ensures) in
    let n = next_taken z.0 z.1 c.args.here s c.args.cell z.3 took.0 e x class took.1 (c.has_taken_tick.ensures.few some) comes lives in
    let taken : record c.has_taken_tick.new.self { world = e } ≡ record s { ticks = took.0; world = e } = ap (λ (t : State). record t { world = e }) took.2 in (
      z.0,
      z.1,
      z.2,
      subst (λ (y : ℤ). IsNextEvent z.0 z.1 c.args.here (record c.has_taken_tick.new.self { world = e }) c.args.cell y class) (sym same)
          (subst (λ (t : State). IsNextEvent z.0 z.1 c.args.here t c.args.cell x class) (sym taken) n),
    )

pub cell-requires : goal.cell-requires
cell-requires c = let z = c.requires in frame_small z.0 z.1 c.args.here c.args.state.now (Runs c.args.cell) z.3

pub returns-in-Some-class_of : goal.returns-in-Some-class_of
returns-in-Some-class_of c = λ w core all r.
    let s = c.args.state.now in let x = c.in-Some.notice in let class = c.in-Some-class_of.class in let e = c.next_event.new.world in
    let new = c.begin_event-place.new.state in let result = begun_event_at c.args.here c.args.cell c.begin_event-place.result in
    let some : c.has_taken_tick.result ≡ true = search rules in
    let took = c.has_taken_tick.ensures.taken some in
    let same : to_z w64 (of_z w64 x) ≡ x = search rules in
    let comes = subst (λ (t : State). IsNextNotice t.world e (Some x)) took.2 c.in-Some.ensures in
    let lives = subst (λ (y : ℤ). living e.heap y ≡ Some class) same (sym c.in-Some-class_of.ensures) in
    let taken : record c.has_taken_tick.new.self { world = e } ≡ record s { ticks = took.0; world = e } = ap (λ (t : State). record t { world = e }) took.2 in
    let begun =
    subst (λ (t : State). (n : IsNextEvent w core c.args.here t c.args.cell x class) → HasOneTick t.ticks w n.ready.placed.line (act w.code n.ready.placed.line n.ready.placed.instruction core) n.before new result) taken
    (subst (λ (y : ℤ). (n : IsNextEvent w core c.args.here (record c.has_taken_tick.new.self { world = e }) c.args.cell y class) → HasOneTick c.has_taken_tick.new.self.ticks w n.ready.placed.line (act w.code n.ready.placed.line n.ready.placed.instruction core) n.before new result) same (c.begin_event-place.ensures w core all)) in
    let way : led c.begun.result ≡ result = c.begun.ensures ∙ ap (led_to c.begin_event-place.result) c.cell.ensures ∙ begun_is c.args.here c.args.cell c.begin_event-place.result in
    ticks w core c.args.here s (Runs c.args.cell) r took.0 new (led c.begun.result) (ap is_due r.runs.carries.2) took.1 (subst (λ (o : Option Here). HasOneTick took.0 w r.placed.line (act w.code r.placed.line r.placed.instruction core) s new o) (sym way) (begun (next_taken w core c.args.here s c.args.cell r took.0 e x class took.1 (c.has_taken_tick.ensures.few some) comes lives)))
