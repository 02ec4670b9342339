use Rattle.ss_events_entries.proofs.Seen.{after_heads_read}
use Rattle.ss_events_entries.proofs.entry.places.Places.are_after_heads.Goals as goal

pub returns : goal.returns
returns c =
    after_heads_read c.self.inside.count c.self.inside.free c.self.inside.slots.items c.self.inside.entries.items c.self.inside.nodes.items c.self.inside.directory c.self.invariant c.args.self.now c.self.view_is
