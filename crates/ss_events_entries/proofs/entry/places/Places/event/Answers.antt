use Rattle.std.proofs.Common.{rules, to_z, of_z, w64, ◌≡◌, ◌∙◌}
use Rattle.ss_events_entries.proofs.Seen.{event_read}
use Rattle.ss_events_entries.proofs.entry.places.Places.event.Goals as goal

pub returns : goal.returns
returns c = λ d.
    let time : to_z w64 (of_z w64 c.index-node.result.now.mark.time) ≡ c.index-node.result.now.mark.time = search rules in
    let notice : to_z w64 (of_z w64 c.index.result.now.notice) ≡ c.index.result.now.notice = search rules in
    (λ i. (time i, notice i))
    ∙ event_read c.self.inside.count c.self.inside.free c.self.inside.slots.items c.self.inside.entries.items c.self.inside.nodes.items c.self.inside.directory c.self.invariant c.args.self.now c.self.view_is
    c.args.place c.requires c.index-node.result.now c.index-node.ensures c.index.result.now c.index.ensures d
