use Rattle.std.proofs.Common.{◌≡◌, ◌<◌, length, get_or, subst}
use Rattle.ss_program.specs.View.{view_event}
use Rattle.ss_code_pieces.proofs.Steps.{next_taken}
use Rattle.ss_code.proofs.Sections.{no_events_put, events_put}
use Rattle.ss_code.proofs.generating.put_events.Goals as goal

pub loop-event-init : goal.loop-event-init
loop-event-init c = rw c.new-entries.ensures.items no_events_put

pub loop-event-preserved : goal.loop-event-preserved
loop-event-preserved c =
    let l = c.loop-event in
    let item = c.event-item.result in
    let same = c.deref-event-items.ensures.value in
    let below = subst (λ ys. l.event-index < length ys) same c.loop-event-test.true in
    let is = subst (λ ys. item ≡ get_or ys l.event-index item) same c.event-item.is in
    rw (next_taken view_event c.args.generator.now.program.now.events.items l.event-index item below is, c.in_ok-put_entry.ensures) (events_put (view_event item) l.invariant c.in_ok-entry.ensures)
