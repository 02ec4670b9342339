use Rattle.std.proofs.lemmas.Result.{on_ok_weaker}
use Rattle.ss_code_generator.specs.declared.targets.Spot.TheVariants as spots
use Rattle.ss_code_generator.proofs.Spotted.{taken}
use Rattle.ss_code_generator.proofs.generator.Generator.take.Goals as goal

pub returns-in-Some : goal.returns-in-Some
returns-in-Some c =
    rw c.in-Variable.is (on_ok_weaker c.assign.result (λ m. taken c.args.from (spots.Variable c.in-Variable.variable) c.above.ensures.line c.above.ensures.height m (c.in-Some.field-0, c.in-Some.is)) c.assign.ensures)

pub returns-in-Attribute : goal.returns-in-Attribute
returns-in-Attribute c =
    rw c.in-Attribute.is (on_ok_weaker c.assign-in-Attribute.result (λ m. taken c.args.from (spots.Attribute c.in-Attribute.field-0) c.above-in-Attribute.ensures.line c.above-in-Attribute.ensures.height m tt) (rw c.in-Attribute.is at c.assign-in-Attribute.ensures))

pub returns-in-Count : goal.returns-in-Count
returns-in-Count c =
    rw c.in-Count.is (on_ok_weaker c.assign-in-Count.result (λ m. taken c.args.from (spots.Count c.in-Count.field-0 c.in-Count.field-1) c.above-in-Count.ensures.line c.above-in-Count.ensures.height m tt) (rw c.in-Count.is at c.assign-in-Count.ensures))
