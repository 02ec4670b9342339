use Rattle.std.proofs.Common.{sym, ◌∙◌}
use Rattle.ss_tree.specs.View.{view_program_tree}
use Rattle.ss_check.specs.Checking.{refusal_of}
use Rattle.ss_check.proofs.Kept.{reports}
use Rattle.ss_check.proofs.checking.keep_rules.Goals as goal

pub returns-in-Some-clause-refused : goal.returns-in-Some-clause-refused
returns-in-Some-clause-refused c =
    reports c.in-Some.error (refusal_of (view_program_tree c.args.program.now)) (sym c.in_ok-broken.ensures.refusal ∙ c.in-Some.is)
