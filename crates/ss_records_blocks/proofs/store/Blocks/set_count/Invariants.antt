use Rattle.std.proofs.Common.{true}
use Rattle.ss_records_blocks.proofs.store.Blocks.set_count.Given as goal

abbrev pub ghost-set_value : goal.ghost-set_value
ghost-set_value a = true
