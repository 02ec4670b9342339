use Rattle.ss_names_meaning.specs.Layouts.{resolved_statistic}
use Rattle.ss_names_meaning.proofs.Steps.{failed}
use Rattle.ss_names_meaning.proofs.Numbers.{numbers_fail, no_plain_numbers, plain_numbers_next}
use Rattle.ss_names_meaning.proofs.globals.statistics_upto.Goals as goal

pub loop-number-init : goal.loop-number-init
loop-number-init c = no_plain_numbers (resolved_statistic c.args.names.now) c.new-resolved.result.items c.new-resolved.ensures.items

pub returns-in_err-one : goal.returns-in_err-one
returns-in_err-one c =
    failed _ c.from_residual.result c.in_err-one.field-0.0 _ c.from_residual.ensures.1
    (numbers_fail (resolved_statistic c.args.names.now) c.args.count c.loop-number.number c.in_err-one.field-0.0 c.loop-number-test.true c.in_err-one.ensures)

pub loop-number-preserved : goal.loop-number-preserved
loop-number-preserved c =
    plain_numbers_next (resolved_statistic c.args.names.now) c.loop-number.number c.loop-number.resolved.items c.push.new.self.items c.in_ok-one.one c.in_ok-push.ensures.items c.loop-number.invariant c.in_ok-one.ensures
