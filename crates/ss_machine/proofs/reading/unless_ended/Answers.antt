use Rattle.std.proofs.Common.{◌≡◌, ◌+◌, Bool, true, false, Ok, Err, refl, sym, ap, ◌∙◌, subst}
use Rattle.std.specs.Prelude.{not}
use mathlib.Core.Bool.{beq}
use Rattle.ss_machine.proofs.Common.{HasRead, is_ended, not_if, on_if_at, past, tested_at}
use Rattle.ss_code_instructions.specs.declared.instruction.Instruction.TheVariants.{UnlessEnded as Runs}
use Rattle.ss_machine_instructions.proofs.Placing.{on_if_is}
use Rattle.ss_machine.proofs.Inputs.{reads_so, finds_so}
use Rattle.ss_machine.proofs.Worded.{test_on, test_fails, test_unsettled, lost_in_gap, missed_did, moved_to}
use Rattle.ss_machine.proofs.reading.unless_ended.Goals as goal

-- whether one differs from the other
differs : (b n : Bool) → not (beq b n) ≡ not_if n b
differs true true = refl
differs true false = refl
differs false true = refl
differs false false = refl

pub returns-in-Err-clause-read : goal.returns-in-Err-clause-read
returns-in-Err-clause-read g c = λ skip.
    let e = c.is_ended.ensures in
    missed_did g.R.FaultyRead.remaining c.args.here c.args.state.now (Runs skip c.args.negated) c.args.source.now c.is_ended.new.source c.in-Err.missed c.unread.new.state (tested_at c.args.here c.unread.result skip)
    (λ kind q. finds_so g.R.FaultyRead.remaining c.args.source.now c.is_ended.new.source _ _
    (λ input h w core same r. test_fails w core c.args.here c.args.state.now (Runs skip c.args.negated) r c.args.negated skip r.runs.carries kind (subst (λ l. is_ended l ≡ Err kind) (sym same) h))
    (e.fault kind (c.in-Err.is ∙ ap Err q)))
    (λ q. lost_in_gap g.R.FaultyRead.remaining c.args.here c.args.state.now (Runs skip c.args.negated) c.args.source.now c.is_ended.new.source
    (λ w core r. test_unsettled w core c.args.here c.args.state.now (Runs skip c.args.negated) r c.args.negated skip r.runs.carries)
    (e.wants (c.in-Err.is ∙ ap Err q)))
    c.unread.ensures.state (ap (λ o. tested_at c.args.here o skip) c.unread.ensures.none)

pub returns-in-Ok-clause-read : goal.returns-in-Ok-clause-read
returns-in-Ok-clause-read g c = λ skip.
    let b = c.in-Ok.ended in
    let s = c.args.state.now in
    let z = c.requires.can in
    subst (λ o. HasRead g.R.FaultyRead.remaining c.args.here s (Runs skip c.args.negated) c.args.source.now c.is_ended.new.source s o)
    (sym (ap (λ (x : Bool). on_if_at c.args.here x skip) (differs b c.args.negated) ∙ on_if_is z.1.0 z.1.1 c.args.here s (Runs z.0 c.args.negated) z.1.2 (not_if c.args.negated b) skip))
    (reads_so g.R.FaultyRead.remaining c.args.source.now c.is_ended.new.source _ _
    (λ input rest h w core same r. moved_to w core c.args.here s (Runs skip c.args.negated) r rest s (past skip (not_if c.args.negated b) (core.place + 1)) (past skip (not_if c.args.negated b) (z.1.1.place + 1))
    (ap (λ p. past skip (not_if c.args.negated b) (p + 1)) (sym r.holds.place ∙ z.1.2.holds.place))
    (test_on w core c.args.here s (Runs skip c.args.negated) r c.args.negated skip r.runs.carries b rest (h.0 ∙ sym same) (subst (λ l. is_ended l ≡ Ok b) (sym same) h.1)))
    (c.is_ended.ensures.read b c.in-Ok.is))
