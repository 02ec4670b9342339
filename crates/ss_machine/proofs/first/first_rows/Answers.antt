use Rattle.std.proofs.Common.{rules, ◌≡◌, ◌+◌, ◌<◌, ◌≤◌, ◌^◌, length}
use Rattle.ss_machine.proofs.Common.{cleared, firsts_laid, none_laid, values_laid}
use Rattle.ss_machine.proofs.Starting.{laid}
use Rattle.ss_machine.proofs.first.first_rows.Goals as goal

pub returns : goal.returns
returns c =
    let code = c.args.code.now in
    let all = c.put_constants.new.rows in
    let grown = c.lengthen.new.self in
    let is : all ≡ values_laid (firsts_laid none_laid code.globals) code.run.constants = search rules in
    let room : length all.numbers + code.run.main.room ≤ length grown.numbers = search rules in
    let small : length grown.numbers < 2 ^ 63 = search rules in
    let made : c.clear.new.self ≡ cleared grown (length all.numbers) code.run.main.others.items = search rules in
    laid code all grown c.clear.new.self is c.in_ok-lengthen.ensures.grown c.in_ok-lengthen.ensures.even room small made
