use Rattle.std.proofs.Common.{arith}
use Rattle.ss_events_entries.proofs.Seen.{whole_in, whole_read}
use Rattle.ss_events_entries.proofs.entry.places.Places.whole.Goals as goal

pub index-requires-2 : goal.index-requires-2
index-requires-2 c =
    omega (
      arith,
      whole_in c.self.inside.count c.self.inside.free c.self.inside.slots.items c.self.inside.entries.items c.self.inside.nodes.items c.self.inside.directory c.self.invariant c.args.self.now c.self.view_is
          c.args.place c.requires.within c.index.result.now c.index.ensures c.requires.not_plain,
      c.self.inside.entries.ok.0,
    )

pub returns : goal.returns
returns c = λ d.
    whole_read c.self.inside.count c.self.inside.free c.self.inside.slots.items c.self.inside.entries.items c.self.inside.nodes.items c.self.inside.directory c.self.invariant c.args.self.now c.self.view_is
    c.args.place c.requires.within c.index.result.now c.index.ensures c.requires.not_plain c.index-2.result.now c.index-2.ensures d
