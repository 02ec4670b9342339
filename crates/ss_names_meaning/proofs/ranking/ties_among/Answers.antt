use Rattle.std.proofs.Common.{◌≡◌, ◌+◌, ◌∙◌, ap, subst, sym, take, Some}
use Rattle.std.specs.List.{filter}
use Rattle.ss_names_declarations.specs.NameTable.{same_name}
use Rattle.ss_names_meaning.specs.Answers.{each}
use Rattle.ss_names_meaning.specs.Layouts.{tied_by}
use Rattle.ss_names_meaning.proofs.Each.{no_plain_items}
use Rattle.ss_names_meaning.proofs.Steps.{failed}
use Rattle.ss_names_meaning.proofs.EachThat.{passed_fail, passed_next, passed_over}
use Rattle.ss_names_meaning.proofs.ranking.ties_among.Goals as goal
use Rattle.ss_names_meaning.proofs.ranking.ties_among.Goals.{then-eq+in_ok-one+in_ok-push, else-eq}

pub loop-tie-init : goal.loop-tie-init
loop-tie-init c = no_plain_items (tied_by c.args.names.now c.args.class) c.new-resolved.result.items c.new-resolved.ensures.items

pub returns-in_err-one : goal.returns-in_err-one
returns-in_err-one c =
    failed _ c.from_residual.result c.in_err-one.field-0.0 _ c.from_residual.ensures.1
    (passed_fail (tied_by c.args.names.now c.args.class) (λ k. same_name k.class c.args.name) c.args.keys.now c.loop-tie.tie-index c.tie-item.result c.in_err-one.field-0.0 c.loop-tie-test.true c.tie-item.is (sym c.eq.ensures ∙ c.if-eq.true) c.in_err-one.ensures)

pub loop-tie-preserved : goal.loop-tie-preserved
loop-tie-preserved c = elim c.if-eq.branch [
  | then-eq+in_ok-one+in_ok-push w ↦ passed_next (tied_by c.args.names.now c.args.class) (λ k. same_name k.class c.args.name) c.args.keys.now c.loop-tie.tie-index c.tie-item.result c.loop-tie.resolved.items c.if-eq.resolved.items w.in_ok-one.one c.loop-tie-test.true c.tie-item.is (sym c.eq.ensures ∙ w.if-eq.true) (ap (λ v. v.items) w.resolved-is ∙ w.in_ok-push.ensures.items) c.loop-tie.invariant w.in_ok-one.ensures
  | else-eq w ↦ subst (λ v. each (tied_by c.args.names.now c.args.class) (filter (λ k. same_name k.class c.args.name) (take (c.loop-tie.tie-index + 1) c.args.keys.now)) ≡ Some v.items) (sym w.resolved-is) (passed_over (tied_by c.args.names.now c.args.class) (λ k. same_name k.class c.args.name) c.args.keys.now c.loop-tie.tie-index c.tie-item.result c.loop-tie.resolved.items c.loop-tie-test.true c.tie-item.is (sym c.eq.ensures ∙ w.if-eq.false) c.loop-tie.invariant)
]
