use Rattle.ss_events_entries.proofs.EntryOrder.{entries_total}
use Rattle.ss_events.proofs.laws.order_is_total.Goals as goal

pub returns-clause-total : goal.returns-clause-total
returns-clause-total c = entries_total
