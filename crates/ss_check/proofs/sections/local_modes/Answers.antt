use Rattle.std.proofs.Common.{length, subst, ◌<◌}
use Rattle.ss_names_meaning.proofs.Steps.{failed}
use Rattle.ss_names_meaning.proofs.Numbers.{numbers_fail, no_plain_numbers, plain_numbers_next}
use Rattle.ss_names_scopes.specs.Scopes.{local_mode}
use Rattle.ss_check.proofs.sections.local_modes.Goals as goal

pub loop-number-init : goal.loop-number-init
loop-number-init c = no_plain_numbers (local_mode c.args.locals.now) c.new-resolved.result.items c.new-resolved.ensures.items

pub returns-in_err-one : goal.returns-in_err-one
returns-in_err-one c =
    failed _ c.from_residual.result c.in_err-one.field-0.0 _ c.from_residual.ensures.1
    (numbers_fail (local_mode c.args.locals.now) (length c.args.locals.now) c.loop-number.number c.in_err-one.field-0.0 (subst (λ n. c.loop-number.number < n) c.len-number-end.ensures c.loop-number-test.true) c.in_err-one.ensures)

pub loop-number-preserved : goal.loop-number-preserved
loop-number-preserved c =
    plain_numbers_next (local_mode c.args.locals.now) c.loop-number.number c.loop-number.resolved.items c.push.new.self.items c.in_ok-one.one c.in_ok-push.ensures.items c.loop-number.invariant c.in_ok-one.ensures
