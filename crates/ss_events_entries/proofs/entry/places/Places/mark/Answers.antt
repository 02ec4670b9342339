use Rattle.ss_events_entries.proofs.Seen.{mark_read}
use Rattle.ss_events_entries.proofs.entry.places.Places.mark.Goals as goal

pub returns : goal.returns
returns c = λ d.
    mark_read c.self.inside.count c.self.inside.free c.self.inside.slots.items c.self.inside.entries.items c.self.inside.nodes.items c.self.inside.directory c.self.invariant c.args.self.now c.self.view_is
    c.args.place c.requires c.index.result.now c.index.ensures d
