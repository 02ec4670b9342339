use Rattle.std.proofs.Common.{ℕ, Some, ap}
use Rattle.ss_code_generator.proofs.Common.{item_loop_code, on_ok_weaker, option_map, view_expression}
use Rattle.ss_code_generator.proofs.Testing.{emits_where}
use Rattle.ss_code_generator.proofs.Rounds.{range_looped}
use Rattle.ss_code_generator.proofs.generator.Generator.for_loop.Goals as goal

pub returns-in-Numbers : goal.returns-in-Numbers
returns-in-Numbers c =
    let head = c.in-Numbers in
    rw head.is (on_ok_weaker c.item_loop.result (range_looped head.variable (view_expression head.first) (view_expression head.limit) (option_map view_expression head.step) c.in_ok-range-in-Numbers.ensures) c.item_loop.ensures)

pub returns : goal.returns
returns c =
    rw c.in-Each.is (on_ok_weaker c.item_loop-in-Each.result (emits_where (λ f t b h. (h.0, tt)) (λ f t b around located. ap (λ (k : ℕ). item_loop_code t (Some k) c.in-Each.variable b) c.in_ok-class-in-Each.ensures)) c.item_loop-in-Each.ensures)
