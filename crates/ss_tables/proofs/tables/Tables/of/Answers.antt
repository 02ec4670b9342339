use Rattle.std.proofs.Common.{refl, ◌∙◌}
use Rattle.ss_tree.specs.View.{view_program_tree}
use Rattle.ss_tables.specs.Tables.{IsReportedError}
use Rattle.ss_tables.proofs.Refused.{refused_so}
use Rattle.ss_tables.proofs.tables.Tables.of.Goals as goal

pub names_of-requires : goal.names_of-requires
names_of-requires c = c.deref.ensures.value ∙ c.in_ok-declarations.ensures

pub returns-in_err-names-clause-refused : goal.returns-in_err-names-clause-refused
returns-in_err-names-clause-refused c =
    refused_so IsReportedError c.from_residual-in_err-names.result c.in_err-names.field-0.0 _ _ c.from_residual-in_err-names.ensures.1 c.in_err-names.ensures.refused refl

pub returns-clause-made : goal.returns-clause-made
returns-clause-made c = c.in_ok-names.ensures.made

pub invariant_of-result : goal.invariant_of-result
invariant_of-result c = (view_program_tree c.args.program.now, c.in_ok-names.ensures.made)
