use Rattle.ss_records_entities.specs.Parts.{places}
use Rattle.ss_records_entities.proofs.Apart.{sets_apart}
use Rattle.ss_records_entities.proofs.records.Records.law.Goals as goal

pub returns : goal.returns
returns c = let r = c.args.self.now in sets_apart r.layout r.blocks.cells r.system.at (places r) r.notes.lists c.requires.kept
