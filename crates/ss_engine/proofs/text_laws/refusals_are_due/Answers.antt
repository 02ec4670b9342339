use Rattle.ss_engine.proofs.Meanings.{refused_is_ill_formed}
use Rattle.ss_engine.proofs.text_laws.refusals_are_due.Goals as goal

pub returns : goal.returns
returns c = record { refused = refused_is_ill_formed c.one_list.ensures c.one_answer.ensures c.one_tree.ensures }
