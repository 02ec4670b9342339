use Rattle.std.proofs.Common.{◌∙◌, arith}
use Rattle.ss_code_generator.proofs.Common.{MemberLoop, on_ok_weaker}
use Rattle.ss_program.specs.View.{view_owner, view_start}
use Rattle.ss_code_generator.proofs.Rounds.{members_walked}
use Rattle.ss_code_generator.proofs.generator.Generator.members.Goals as goal

pub returns : goal.returns
returns c =
    let w : MemberLoop = record { variable = c.in_ok-variable_spot.field-0; set = c.in_ok-as_index.field-0; owner = c.in_ok-kept.kept.address; cell = c.in_ok-place_of.field-0; reverse = c.args.of.reverse } in
    on_ok_weaker c.forget.result
    (members_walked w c.in_ok-kept.kept.cells (view_owner c.args.of.owner.now) (view_start c.args.of.start.now) c.in_ok-kept.ensures c.above-below.ensures.line c.above-below.ensures.height c.in_ok-place_of.ensures c.in_ok-variable_spot.ensures c.in_ok-as_index.ensures c.in_ok-start.ensures c.above-above.ensures.line
    c.above-above.ensures.height c.reach.ensures.grows c.reach.ensures.room c.in_ok-members.ensures (c.in_ok-skip.ensures ∙ c.len.ensures.value) (rw c.begin.ensures at c.in_ok-put.ensures) c.in_ok-append.ensures (λ few. omega (arith, few, c.saturating_add.ensures))) c.forget.ensures
