use Rattle.std.proofs.Common.{◌≡◌, ◌==◌, ◌+◌, ◌∙◌, ap, subst, sym, take, Some}
use Rattle.std.specs.List.{filter}
use Rattle.std.proofs.lemmas.Bool.{eq-eqb, ne_eqb}
use Rattle.ss_names_meaning.specs.Answers.{each}
use Rattle.ss_names_meaning.specs.Layouts.{ranked_by}
use Rattle.ss_names_meaning.proofs.Each.{no_plain_items}
use Rattle.ss_names_meaning.proofs.Steps.{failed}
use Rattle.ss_names_meaning.proofs.EachThat.{passed_fail, passed_next, passed_over}
use Rattle.ss_names_meaning.proofs.ranking.rank_keys_among.Goals as goal
use Rattle.ss_names_meaning.proofs.ranking.rank_keys_among.Goals.{then-key-statement+in_ok-one+in_ok-push, else-key-statement}

pub loop-key-init : goal.loop-key-init
loop-key-init c = no_plain_items (ranked_by c.args.names.now c.args.class) c.new-resolved.result.items c.new-resolved.ensures.items

pub returns-in_err-one : goal.returns-in_err-one
returns-in_err-one c =
    failed _ c.from_residual.result c.in_err-one.field-0.0 _ c.from_residual.ensures.1
    (passed_fail (ranked_by c.args.names.now c.args.class) (λ k. k.statement == c.args.statement) c.args.keys.now c.loop-key.key-index c.key-item.result c.in_err-one.field-0.0 c.loop-key-test.true c.key-item.is (eq-eqb _ _ c.if-key-statement.true) c.in_err-one.ensures)

pub loop-key-preserved : goal.loop-key-preserved
loop-key-preserved c = elim c.if-key-statement.branch [
  | then-key-statement+in_ok-one+in_ok-push w ↦ passed_next (ranked_by c.args.names.now c.args.class) (λ k. k.statement == c.args.statement) c.args.keys.now c.loop-key.key-index c.key-item.result c.loop-key.resolved.items c.if-key-statement.resolved.items w.in_ok-one.one c.loop-key-test.true c.key-item.is (eq-eqb _ _ w.if-key-statement.true) (ap (λ v. v.items) w.resolved-is ∙ w.in_ok-push.ensures.items) c.loop-key.invariant w.in_ok-one.ensures
  | else-key-statement w ↦ subst (λ v. each (ranked_by c.args.names.now c.args.class) (filter (λ k. k.statement == c.args.statement) (take (c.loop-key.key-index + 1) c.args.keys.now)) ≡ Some v.items) (sym w.resolved-is) (passed_over (ranked_by c.args.names.now c.args.class) (λ k. k.statement == c.args.statement) c.args.keys.now c.loop-key.key-index c.key-item.result c.loop-key.resolved.items c.loop-key-test.true c.key-item.is (ne_eqb _ _ w.if-key-statement.false) c.loop-key.invariant)
]
