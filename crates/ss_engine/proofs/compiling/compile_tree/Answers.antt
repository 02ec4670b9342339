use Rattle.std.proofs.Common.{ap, sym, ◌∙◌, ◌≤◌, Err, subst}
use Rattle.std.specs.Prelude.{IfOk, IfErr}
use Rattle.ss_tree.specs.Nodes.{tree_nodes}
use Rattle.ss_tree.specs.View.{view_program_tree as tree_seen}
use Rattle.ss_program.specs.Nodes.{nodes}
use Rattle.ss_program.specs.View.{view_program}
use Rattle.ss_check.specs.Checking.{HasProgram, IsReportedBreach, refusal_of}
use Rattle.ss_engine.proofs.Common.{code_of, coded, IsFaithful, IsFor, used}
use Rattle.ss_engine.specs.Refusals.{table_refusal}
use Rattle.ss_engine.specs.Accepting.{IsKeptBy, IsProgramOf, IsTreeCompiledTo, IsTreeRefusedWith}
use Rattle.ss_engine.proofs.Fronts.{tables_refused, checker_refused, generator_refused, refused_so}
use Rattle.ss_engine.proofs.compiling.compile_tree.Goals as goal

pub returns-in_err-outcome-clause-refused : goal.returns-in_err-outcome-clause-refused
returns-in_err-outcome-clause-refused c =
    let tree = tree_seen c.args.program in
    refused_so (IsTreeRefusedWith tree) c.from_residual.result (table_refusal c.in_err-outcome.field-0.0) c.from_residual.ensures.1
    (λ text read. tables_refused text tree read c.in_err-outcome.field-0.0 c.in_err-outcome.ensures.misdeclared)

pub returns-in_err-resolved-clause-refused : goal.returns-in_err-resolved-clause-refused
returns-in_err-resolved-clause-refused c =
    let tree = tree_seen c.args.program in
    let breach = subst (λ r. IfErr r (λ e. IsReportedBreach e (refusal_of tree))) c.in_err-resolved.was c.in_ok-outcome.ensures.refused in
    refused_so (IsTreeRefusedWith tree) c.from_residual-in_err-resolved.result (used c.in_err-resolved.field-0.0) c.from_residual-in_err-resolved.ensures.1
    (λ text read. checker_refused text tree read c.in_ok-outcome.ensures.declared c.in_err-resolved.field-0.0 breach)

pub returns-in_err-code-clause-refused : goal.returns-in_err-code-clause-refused
returns-in_err-code-clause-refused c =
    let tree = tree_seen c.args.program in
    let p = view_program c.in_ok-resolved.resolved in
    let becomes : HasProgram tree c.in_ok-resolved.resolved = subst (λ r. IfOk r (λ d. HasProgram tree d)) c.in_ok-resolved.was c.in_ok-outcome.ensures.checked in
    refused_so (IsTreeRefusedWith tree) c.from_residual-in_err-code.result (coded c.in_err-code.field-0.0) c.from_residual-in_err-code.ensures.1
    (λ text read.
    let keeps : IsKeptBy text tree = record { read = read; declared = c.in_ok-outcome.ensures.declared; kept = becomes.kept } in
    let meant : IsProgramOf text p = record { tree = tree; keeps = keeps; resolved = becomes.resolved } in
    generator_refused text p meant (subst (λ r. IfOk r (λ d. nodes (view_program d) ≤ tree_nodes tree)) c.in_ok-resolved.was c.in_ok-outcome.ensures.nodes) c.in_err-code.field-0.0
    (λ small e. c.generate-made.ensures.small small (c.in_err-code.was ∙ ap Err e))
    (λ e. c.generate-made.ensures.too_long (c.in_err-code.was ∙ ap Err e))
    (c.laws_of_code.ensures.has_size p))

pub returns-clause-accepted : goal.returns-clause-accepted
returns-clause-accepted c =
    let tree = tree_seen c.args.program in
    let p = view_program c.in_ok-resolved.resolved in
    let becomes : HasProgram tree c.in_ok-resolved.resolved = subst (λ r. IfOk r (λ d. HasProgram tree d)) c.in_ok-resolved.was c.in_ok-outcome.ensures.checked in
    let code_is : IsFor p c.in_ok-code.code = subst (λ r. IfOk r (λ code. IsFor p code)) c.in_ok-code.was c.generate-made.ensures.code in
    let behaves : IsFaithful p (code_of p) = subst (λ r. IfOk r (λ code. IsFaithful p (code_of p))) c.in_ok-code.was c.generate-made.ensures.behaves in
    subst (IsTreeCompiledTo tree) (sym c.new.ensures)
    (λ text read.
    let keeps : IsKeptBy text tree = record { read = read; declared = c.in_ok-outcome.ensures.declared; kept = becomes.kept } in
    let meant : IsProgramOf text p = record { tree = tree; keeps = keeps; resolved = becomes.resolved } in
    record { program = p; meant = meant; code_is = code_is; behaves = behaves })
