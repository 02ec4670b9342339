use Rattle.std.proofs.Common.{◌∷◌, [], ◌++◌, drop, ◌+◌, ap, ◌∙◌, arith}
use Rattle.ss_records.proofs.Common.{after_commands, command_answers, State}
use Rattle.ss_records.proofs.OneCall.{same_layout}
use Rattle.ss_records.proofs.Running.{given_next, rest_next, made_next, on_err}
use Rattle.ss_records.proofs.commands.run.Goals as goal

pub loop-command-preserved : goal.loop-command-preserved
loop-command-preserved c =
    let xs = c.args.commands.now in
    let i = c.loop-command.command-index in
    let s = c.loop-command.heap.state in
    let x = c.command-item.result in
    let given = given_next xs i x c.loop-command-test.true c.command-item.is s c.loop-command.answers.items in
    let rest = rest_next xs i x c.loop-command-test.true c.command-item.is s in
    let a = c.in_ok-make.ensures.answer in
    let t = c.in_ok-make.ensures.ok in
    let p = c.in_ok-push.ensures.items in
    let same = same_layout x s in
    let u = c.make.new.heap.state in
    record {
      given = ap (λ zs. zs ++ command_answers (drop (i + 1) xs) u) p ∙ (λ j. (c.loop-command.answers.items ++ a j ∷ []) ++ command_answers (drop (i + 1) xs) (t j)) ∙ given ∙ c.loop-command.invariant.given;
      rest = ap (after_commands (drop (i + 1) xs)) t ∙ rest ∙ c.loop-command.invariant.rest;
      layout = ap (λ (v : State). v.layout) t ∙ same ∙ c.loop-command.invariant.layout;
      made = t ∙ made_next xs i x c.loop-command-test.true c.command-item.is s c.args.heap.now.state c.loop-command.invariant.made;
      rising = omega (arith, c.make.ensures.touches, c.loop-command.invariant.rising);
    }

pub returns-in_err-push-clause-refused : goal.returns-in_err-push-clause-refused
returns-in_err-push-clause-refused c =
    let xs = c.args.commands.now in
    let i = c.loop-command.command-index in
    let s = c.loop-command.heap.state in
    let x = c.command-item.result in
    let made = made_next xs i x c.loop-command-test.true c.command-item.is s c.args.heap.now.state c.loop-command.invariant.made in
    on_err c.from_residual-in_err-push.result (i + 1, c.in_ok-make.ensures.ok ∙ made)

pub returns-in_err-make-clause-touches : goal.returns-in_err-make-clause-touches
returns-in_err-make-clause-touches c = omega (arith, c.make.ensures.touches, c.loop-command.invariant.rising)

pub returns-in_err-push-clause-touches : goal.returns-in_err-push-clause-touches
returns-in_err-push-clause-touches c = omega (arith, c.make.ensures.touches, c.loop-command.invariant.rising)

pub returns-clause-touches : goal.returns-clause-touches
returns-clause-touches c = c.loop-command.invariant.rising
