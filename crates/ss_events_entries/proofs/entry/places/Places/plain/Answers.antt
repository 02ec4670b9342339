use Rattle.std.proofs.Common.{pos, get_or, subst, sym}
use Rattle.ss_events_entries.proofs.Common.{Entry, IsBut}
use Rattle.ss_events_entries.proofs.Seen.{small_read, plain_read}
use Rattle.ss_events_entries.proofs.entry.places.Places.plain.Goals as goal

pub plain_entry-requires : goal.plain_entry-requires
plain_entry-requires c =
    small_read c.self.inside.count c.self.inside.free c.self.inside.slots.items c.self.inside.entries.items c.self.inside.nodes.items c.self.inside.directory c.self.invariant c.args.self.now c.self.view_is
    c.args.place c.requires.within c.index.result.now c.index.ensures c.requires.plain

pub returns : goal.returns
returns c = λ d.
    subst (λ (x : Entry). IsBut x (get_or c.args.self.now.heads c.args.place d)) (sym c.plain_entry.ensures)
    (plain_read c.self.inside.count c.self.inside.free c.self.inside.slots.items c.self.inside.entries.items c.self.inside.nodes.items c.self.inside.directory c.self.invariant c.args.self.now c.self.view_is
    c.args.place c.requires.within c.index.result.now c.index.ensures c.requires.plain (pos 0) d)
