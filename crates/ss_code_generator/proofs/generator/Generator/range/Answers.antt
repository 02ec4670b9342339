use Rattle.std.proofs.Common.{Some, None}
use Rattle.ss_code_generator.proofs.Common.{Integer, IsTyped, on_ok_weaker, view_expression}
use Rattle.ss_code_generator.proofs.Rounds.{ranged}
use Rattle.ss_code_generator.proofs.generator.Generator.range.Goals as goal

pub returns-in-None : goal.returns-in-None
returns-in-None c =
    rw c.in-None.is (on_ok_weaker c.push_one.result (λ o. ranged (view_expression c.args.first.now) (view_expression c.args.limit.now) None (λ k. Unit {0}) c.in_ok-push.ensures.code c.in_ok-push-2.ensures.code o c.above.ensures.line c.above-third.ensures.line c.above.ensures.height c.above-third.ensures.height
    c.in_ok-push.ensures.room c.in_ok-push-2.ensures.room (λ k h. tt)) c.push_one.ensures.code)

pub returns-in-Some : goal.returns-in-Some
returns-in-Some c =
    let e = view_expression c.in-Some.e in
    rw c.in-Some.is (on_ok_weaker c.push-in-Some.result (λ o. ranged (view_expression c.args.first.now) (view_expression c.args.limit.now) (Some e) (IsTyped e) c.in_ok-push.ensures.code c.in_ok-push-2.ensures.code o c.above.ensures.line c.above-third.ensures.line c.above.ensures.height c.above-third.ensures.height
    c.in_ok-push.ensures.room c.in_ok-push-2.ensures.room (λ k h. (Integer, h))) c.push-in-Some.ensures.code)
