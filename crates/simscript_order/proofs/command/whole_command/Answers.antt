use Rattle.std.proofs.Common.{◌≡◌, ◌∙◌, ap}
use Rattle.std.proofs.lemmas.Result.{IfOk-weaker}
use Rattle.clap.specs.Words.{App, with_subcommand}
use Rattle.simscript_order.specs.CommandLine.{bare_words, check_words, list_words, run_words}
use Rattle.simscript_order.proofs.command.whole_command.Goals as goal

-- a command line with one more command in it, by what it was before
with_added : (a old new : App) (words : App) → a ≡ with_subcommand old words.top → old ≡ new → a ≡ with_subcommand new words.top
with_added a old new words added same = added ∙ ap (λ (o : App). with_subcommand o words.top) same

pub returns : goal.returns
returns c =
    let one = with_added _ _ bare_words run_words
    (c.in_ok-line.ensures run_words c.run_command.ensures.words c.run_command.ensures.own) c.bare_line.ensures in
    let two = with_added _ _ _ check_words
    (c.in_ok-line-2.ensures check_words c.check_command.ensures.words c.check_command.ensures.own) one in
    IfOk-weaker c.added-3.result _ _ (λ whole h. with_added _ _ _ list_words
    (h list_words c.list_command.ensures.words c.list_command.ensures.own) two) c.added-3.ensures
