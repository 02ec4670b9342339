use Rattle.std.proofs.Common.{◌∙◌}
use Rattle.ss_records_entities.specs.Parts.{places}
use Rattle.ss_records_entities.proofs.Living.{living_is}
use Rattle.ss_records_entities.proofs.records.Records.placed.Goals as goal

pub returns : goal.returns
returns c = let r = c.args.self.now in c.placed.ensures ∙ c.requires.kept.counted ∙ living_is r.layout r.blocks.cells (places r) r.notes.lists
