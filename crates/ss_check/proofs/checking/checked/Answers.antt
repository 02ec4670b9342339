use Rattle.std.proofs.Common.{refl}
use Rattle.ss_tree.specs.View.{view_program_tree}
use Rattle.ss_tables.proofs.Refused.{refused_so}
use Rattle.ss_check.specs.Checking.{IsReportedBreach}
use Rattle.ss_check.proofs.Kept.{becomes, not_missing, small, typed}
use Rattle.ss_check.proofs.checking.checked.Goals as goal

pub returns-in_err-locals-clause-refused : goal.returns-in_err-locals-clause-refused
returns-in_err-locals-clause-refused c =
    refused_so IsReportedBreach c.from_residual.result c.in_err-locals.field-0.0 _ _ c.from_residual.ensures.1 c.in_err-locals.ensures.refused refl

pub new-requires : goal.new-requires
new-requires c =
    typed c.programs_resolve.ensures (view_program_tree c.args.program.now) c.in_ok-resolved.field-0 c.in-Some.resolved c.requires.declared c.in_ok-locals.ensures.kept c.in_ok-resolved.ensures c.in-Some.is

pub unreachable-requires : goal.unreachable-requires
unreachable-requires c =
    not_missing c.programs_resolve.ensures (view_program_tree c.args.program.now) c.in_ok-resolved.field-0 c.requires.declared c.in_ok-locals.ensures.kept c.in_ok-resolved.ensures c.in-None.is

pub returns-clause-nodes : goal.returns-clause-nodes
returns-clause-nodes c =
    small c.laws_of_sizes.ensures.programs (view_program_tree c.args.program.now) c.in_ok-resolved.field-0 c.in-Some.resolved _ c.in_ok-resolved.ensures c.in-Some.is c.new.ensures

pub returns-clause-checked : goal.returns-clause-checked
returns-clause-checked c =
    becomes (view_program_tree c.args.program.now) c.in_ok-resolved.field-0 c.in-Some.resolved _ c.in_ok-locals.ensures.kept c.in_ok-resolved.ensures c.in-Some.is c.new.ensures
