use Rattle.std.proofs.Common.{arith}
use Rattle.ss_records_entities.proofs.Living.{numbers_are}
use Rattle.ss_records_entities.proofs.records.Records.pages.Goals as goal

pub returns-clause-bound : goal.returns-clause-bound
returns-clause-bound c = let r = c.args.self.now in omega (arith, c.pages.ensures.bound, numbers_are r.layout r.blocks.cells r.directory.places)
