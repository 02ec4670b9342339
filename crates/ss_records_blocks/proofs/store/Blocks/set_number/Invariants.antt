use Rattle.std.proofs.Common.{false}
use Rattle.ss_records_blocks.proofs.store.Blocks.set_number.Given as goal

abbrev pub ghost-set_value : goal.ghost-set_value
ghost-set_value a = false
