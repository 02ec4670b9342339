use Rattle.std.proofs.Common.{rules, Err, sym, ap, ◌∙◌, subst}
use Rattle.ss_code_instructions.specs.declared.instruction.Instruction.TheVariants.{Print as Runs}
use Rattle.ss_machine.proofs.Common.{CanShow, CanTakeAll, HasSentAll, HasSentLess, HasSentPart, on_after}
use Rattle.ss_machine.proofs.Written.{can_show, take_given, unsent}
use Rattle.ss_machine.proofs.Sending.{Hands, all_sent, part_sent, less_sent}
use Rattle.ss_machine.proofs.printing.print.Goals as goal

pub print_from-requires : goal.print_from-requires
print_from-requires g c =
    let z = c.requires in
    let s = c.args.state.now in
    let l = c.args.lines.now in
    let from = sym c.cell-from.ensures in
    record {
      can = subst (λ k. CanShow s.world s.rows k l.items) from (can_show z.1.0 z.1.1 c.args.here s z.0 c.args.cell z.1.3 l z.1.2);
      small = z.1.3.holds.held.small;
      fields = subst (λ k. CanTakeAll s.world s.rows k l) from (take_given z.1.0 z.1.1 c.args.here s z.0 c.args.cell z.1.3 l z.1.2);
    }

pub returns-in-Ok-clause-written : goal.returns-in-Ok-clause-written
returns-in-Ok-clause-written g c = λ number.
    let s = c.args.state.now in
    let l = c.args.lines.now in
    let before = g.W.FaultyWrite.contents c.args.sink.now.writer in
    let after = g.W.FaultyWrite.contents c.print_from.new.sink.writer in
    let sent : HasSentAll s.world s.rows c.cell-from.result l before after = search rules in
    all_sent c.args.here s number c.args.cell l before after (subst (λ k. HasSentAll s.world s.rows k l before after) c.cell-from.ensures sent)

pub returns-in-Err-clause-written : goal.returns-in-Err-clause-written
returns-in-Err-clause-written g c = λ number.
    let s = c.args.state.now in
    let l = c.args.lines.now in
    let before = g.W.FaultyWrite.contents c.args.sink.now.writer in
    let after = g.W.FaultyWrite.contents c.print_from.new.sink.writer in
    let sent : HasSentPart s.world s.rows c.cell-from.result l before after = search rules in
    unsent (Hands c.args.here s number c.args.cell l before after) c.args.here s (Runs number c.args.cell) before after c.in-Err.ending c.stop.new.self (on_after c.args.here c.stop.result)
    (c.print_from.ensures.unsent c.in-Err.ending c.in-Err.is)
    (part_sent c.args.here s number c.args.cell l before after (subst (λ k. HasSentPart s.world s.rows k l before after) c.cell-from.ensures sent))
    (λ failed. less_sent c.args.here s number c.args.cell l before after (subst (λ k. HasSentLess s.world s.rows k l before after) c.cell-from.ensures (c.print_from.ensures.less (c.in-Err.is ∙ ap Err failed))))
    c.stop.ensures.stopped (ap (on_after c.args.here) c.stop.ensures.none)
