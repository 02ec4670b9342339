use Rattle.std.proofs.Common.{ap, ◌∙◌}
use Rattle.ss_records_entities.proofs.Common.{and_then, joiner, owner, state, to_z-of_z}
use Rattle.ss_records_entities.proofs.records.Records.triple.Goals as goal

pub returns-in-Err-pair : goal.returns-in-Err-pair
returns-in-Err-pair c =
    let fo = c.ranges.o in let fx = c.ranges.x in let fy = c.ranges.y in
    let j = simp to_z-of_z at c.in-Ok.ensures.found in let f = simp to_z-of_z at c.in-Err-pair.ensures.found in
    let st = state c.args.self.now in
    record { found = λ g. ap (λ v. and_then v (λ n. and_then (joiner st c.args.s c.args.y) (λ k. and_then (owner st c.args.s c.args.o) (g n k)))) j.1 ∙ f (g c.in-Ok.x.number) }
