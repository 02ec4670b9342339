use Rattle.std.proofs.Common.{None, IfOk, refl, sym, subst}
use Rattle.ss_machine.proofs.Common.{IsAtStart, IsFirstState, IsGenerated, IsReady, situated, State}
use Rattle.ss_machine.proofs.Readiness.{first_ready}
use Rattle.ss_machine.proofs.machine.Machine.new.Goals as goal

pub stands_first-requires : goal.stands_first-requires
stands_first-requires c =
    let e = c.in_ok-code.ensures in
    let first = subst (λ r. IfOk r (λ (s : State). IsFirstState c.args.code s)) e.1 c.first_state-first.ensures in
    subst (λ k. IsFirstState k c.in_ok-code.state) (sym e.0) first

pub invariant_of-result : goal.invariant_of-result
invariant_of-result c =
    let e = c.in_ok-code.ensures in
    let code = c.in_ok-code.code in
    let s = c.in_ok-code.state in
    let first = subst (λ k. IsFirstState k s) (sym e.0) (subst (λ r. IfOk r (λ (s : State). IsFirstState c.args.code s)) e.1 c.first_state-first.ensures) in
    let made = subst IsGenerated (sym e.0) c.len-made.ensures.made in
    subst (λ h. IsReady (record { code = code; at = situated h s; used = 0; steps = s.steps; stopped = None })) (sym c.first_place-place.ensures)
    (first_ready c.laws_of_code.ensures.has_shape code made s first c.stands_first.ensures)

pub returns : goal.returns
returns c =
    let e = c.in_ok-code.ensures in
    let s = c.in_ok-code.state in
    let code = c.in_ok-code.code in
    let first = subst (λ k. IsFirstState k s) (sym e.0) (subst (λ r. IfOk r (λ (s : State). IsFirstState c.args.code s)) e.1 c.first_state-first.ensures) in
    let state = subst (λ h. IsAtStart code (situated h s)) (sym c.first_place-place.ensures) c.stands_first.ensures in
    record {
      code_is = e.0;
      state = subst (λ k. IsAtStart k (situated (record { place = c.first_place-place.result.0; frame = c.first_place-place.result.1 }) s)) e.0 state;
      used = refl;
      steps = first.steps;
      stopped = refl;
    }
