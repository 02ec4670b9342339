use Rattle.std.proofs.Common.{◌≡◌, ◌<◌, length, get_or, subst}
use Rattle.ss_program.specs.View.{view_routine}
use Rattle.ss_code_pieces.proofs.Steps.{next_taken}
use Rattle.ss_code.proofs.Sections.{no_routines_put, routines_put}
use Rattle.ss_code.proofs.generating.put_routines.Goals as goal

pub loop-routine-init : goal.loop-routine-init
loop-routine-init c = rw c.new-entries.ensures.items no_routines_put

pub loop-routine-preserved : goal.loop-routine-preserved
loop-routine-preserved c =
    let l = c.loop-routine in
    let item = c.routine-item.result in
    let same = c.deref-routine-items.ensures.value in
    let below = subst (λ ys. l.routine-index < length ys) same c.loop-routine-test.true in
    let is = subst (λ ys. item ≡ get_or ys l.routine-index item) same c.routine-item.is in
    rw (next_taken view_routine c.args.generator.now.program.now.routines.items l.routine-index item below is, c.in_ok-put_entry.ensures) (routines_put (view_routine item) l.invariant c.in_ok-entry.ensures)
