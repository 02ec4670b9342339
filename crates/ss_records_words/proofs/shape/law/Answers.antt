use Rattle.ss_records_words.proofs.Planning.{small_law}
use Rattle.ss_records_words.proofs.shape.law.Goals as goal

pub returns : goal.returns
returns c = small_law c.args.layout.now c.law.ensures
