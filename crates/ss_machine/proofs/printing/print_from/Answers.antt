use Rattle.std.proofs.Common.{rules, ◌≡◌}
use Rattle.ss_machine.proofs.Common.{AllByRecursion, AreShown, flat_map, IsPrintable, lines_with, picture_fields}
use Rattle.ss_machine.proofs.Fields.{each_suits}
use Rattle.ss_machine.proofs.Sending.{sent_part}
use Rattle.ss_machine.proofs.printing.print_from.Goals as goal

pub print_lines-requires : goal.print_lines-requires
print_lines-requires g c =
    let s = c.args.state.now in
    let l = c.args.lines.now in
    let items = c.show.new.items.items in
    let shown : AreShown s.world s.rows c.args.from l.items items = search rules in
    let printable : AllByRecursion IsPrintable items = search rules in
    record { suited = rw (c.pictures.ensures, c.deref.ensures.value) (each_suits (flat_map picture_fields l.pictures) items (c.requires.fields items shown) printable) }

pub returns-clause-err : goal.returns-clause-err
returns-clause-err g c =
    let s = c.args.state.now in
    let l = c.args.lines.now in
    let items = c.show.new.items.items in
    let shown : AreShown s.world s.rows c.args.from l.items items = search rules in
    let lines : lines_with c.pictures.result.now c.deref.result.now ≡ lines_with l.pictures items = λ t. lines_with (c.pictures.ensures t) (c.deref.ensures.value t) in
    sent_part s.world s.rows c.args.from l items shown (g.W.FaultyWrite.contents c.args.sink.now.writer) (g.W.FaultyWrite.contents c.print_lines.new.sink.writer) c.print_lines.result _ lines c.print_lines.ensures.err
