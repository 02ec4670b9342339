use Rattle.std.proofs.Common.{◌∙◌, map}
use Rattle.ss_code_generator.proofs.Common.{on_ok_weaker, view_guard}
use Rattle.ss_code_generator.proofs.Rounds.{looped}
use Rattle.ss_code_generator.proofs.generator.Generator.guarded_loop.Goals as goal

pub returns : goal.returns
returns c =
    on_ok_weaker c.append-2.result (looped (map view_guard c.args.guards.now) (rw c.new.ensures at c.in_ok-again.ensures) (rw c.new-turn.ensures at c.in_ok-put.ensures) c.in_ok-append_copy.ensures c.in_ok-append.ensures (c.in_ok-back.ensures ∙ c.len.ensures.value) c.in_ok-put-2.ensures c.in_ok-guards.ensures) c.append-2.ensures
