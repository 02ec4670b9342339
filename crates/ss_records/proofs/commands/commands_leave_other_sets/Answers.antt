use Rattle.ss_records.proofs.OneCall.{commands_leave}
use Rattle.ss_records.proofs.commands.commands_leave_other_sets.Goals as goal

pub returns : goal.returns
returns c = commands_leave
