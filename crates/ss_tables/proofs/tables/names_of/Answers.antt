use Rattle.ss_tree.specs.View.{view_program_tree}
use Rattle.ss_tables_rules.specs.Broken.{refusal_of_declarations}
use Rattle.ss_tables.proofs.Made.{unless_made, unless_refused}
use Rattle.ss_tables.proofs.tables.names_of.Goals as goal

pub returns-clause-made : goal.returns-clause-made
returns-clause-made c =
    unless_made (view_program_tree c.args.program.now) c.args.declarations.now c.in_ok-names.names c.refusal_of-broken.result c.names_unless.result
    c.requires c.in_ok-names.ensures.names c.names_unless.ensures c.refusal_of-broken.ensures

pub returns-clause-refused : goal.returns-clause-refused
returns-clause-refused c =
    unless_refused c.in_ok-names.names c.refusal_of-broken.result (refusal_of_declarations (view_program_tree c.args.program.now)) c.names_unless.result
    c.names_unless.ensures c.refusal_of-broken.ensures
