use Rattle.std.proofs.Common.{◌+◌, map, ap, ◌∙◌}
use Rattle.ss_code_generator.proofs.Common.{on_ok_weaker, view_head, view_phrase}
use Rattle.ss_code_generator.proofs.Rounds.{found_or_not}
use Rattle.ss_code_generator.proofs.generator.Generator.find.Goals as goal

pub returns : goal.returns
returns c =
    on_ok_weaker c.append_copy-2.result (found_or_not (view_head c.args.cases.head.now) (map view_phrase c.args.cases.phrases.now) c.cells_of-cells.ensures c.above-above.ensures.line c.above-above.ensures.height c.reach.ensures.grows c.reach.ensures.room (c.in_ok-as_index.ensures ∙ ap (λ k. k + 3) c.len.ensures.value)
    c.in_ok-case.ensures c.in_ok-turn.ensures c.in_ok-for_loop.ensures c.in_ok-append_copy.ensures (c.in_ok-skip.ensures ∙ ap (λ k. k + 1) c.len-2.ensures.value) c.in_ok-put.ensures c.in_ok-forget.ensures) c.append_copy-2.ensures
