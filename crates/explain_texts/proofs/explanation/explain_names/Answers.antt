use Rattle.ss_tree.specs.View.{view_program_tree}
use Rattle.explain_texts.proofs.Judging.{names_refused}
use Rattle.explain_texts.proofs.explanation.explain_names.Goals as goal

pub returns : goal.returns
returns c =
    names_refused (view_program_tree c.args.program.now) c.explain_rules.result c.in_ok-broken.broken c.requires.declared c.in_ok-broken.ensures.refusal c.explain_rules.ensures
