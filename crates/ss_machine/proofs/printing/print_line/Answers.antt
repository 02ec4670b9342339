use Rattle.std.proofs.Common.{rules, ◌≡◌, ◌++◌, [], ◌∷◌}
use Rattle.ss_machine.proofs.Common.{filled, line_end}
use Rattle.ss_machine.proofs.Known.{first_of, less_of}
use Rattle.ss_machine.proofs.printing.print_line.Goals as goal

pub returns-in-Err-clause-err : goal.returns-in-Err-clause-err
returns-in-Err-clause-err g c =
    let line : c.deref.result.now ≡ filled c.args.picture.now c.args.items.now ++ line_end ∷ [] = search rules in
    first_of g.W.FaultyWrite.contents c.args.sink.now c.write.new.self c.deref.result.now (filled c.args.picture.now c.args.items.now ++ line_end ∷ []) line c.in-Err.ensures.err

pub returns-in-Err-clause-less : goal.returns-in-Err-clause-less
returns-in-Err-clause-less g c failed =
    let line : c.deref.result.now ≡ filled c.args.picture.now c.args.items.now ++ line_end ∷ [] = search rules in
    less_of g.W.FaultyWrite.contents c.args.sink.now c.write.new.self c.deref.result.now (filled c.args.picture.now c.args.items.now ++ line_end ∷ []) line c.in-Err.ensures.err
