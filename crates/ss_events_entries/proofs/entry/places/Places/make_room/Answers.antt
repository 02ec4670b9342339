use Rattle.std.proofs.Common.{◌∙◌, subst, refl}
use Rattle.ss_events_entries.specs.Slots.{AreLed}
use Rattle.ss_events_entries.proofs.Grown.{held-led, same_held, made_room}
use Rattle.ss_events_entries.proofs.entry.places.Places.make_room.Goals as goal

pub invariant_of-self-in_err-self-inside : goal.invariant_of-self-in_err-self-inside
invariant_of-self-in_err-self-inside c =
    same_held c.self.inside.count c.self.inside.free c.self.inside.free c.self.inside.slots.items c.some_free.new.slots.items c.self.inside.entries.items c.self.inside.nodes.items c.some_free.new.nodes.items c.make_cells.new.directory
    refl c.in_err-self-inside.ensures.err_slots c.in_err-self-inside.ensures.err_nodes
    (held-led c.self.inside.count c.self.inside.free c.self.inside.slots.items c.self.inside.entries.items c.self.inside.nodes.items c.self.inside.directory c.make_cells.new.directory c.self.invariant
    (subst (AreLed c.make_cells.new.directory c.self.inside.count) c.deref.ensures.value c.make_cells.ensures))

pub invariant_of-self-2 : goal.invariant_of-self-2
invariant_of-self-2 c =
    let made = c.in_ok-self-inside.ensures in
    (made_room c.self.inside.count c.self.inside.free c.in_ok-self-inside.field-0 c.self.inside.slots.len c.self.inside.slots.items c.deref.result.now c.some_free.new.slots.items c.self.inside.entries.items c.self.inside.nodes.items c.some_free.new.nodes.items
    c.self.inside.directory c.make_cells.new.directory c.self.invariant c.make_cells.ensures c.deref.ensures.value c.self.inside.slots.ok.0 made.many made.slots made.nodes made.small).held

pub returns : goal.returns
returns c =
    let made = c.in_ok-self-inside.ensures in
    let room =
    made_room c.self.inside.count c.self.inside.free c.in_ok-self-inside.field-0 c.self.inside.slots.len c.self.inside.slots.items c.deref.result.now c.some_free.new.slots.items c.self.inside.entries.items c.self.inside.nodes.items c.some_free.new.nodes.items
    c.self.inside.directory c.make_cells.new.directory c.self.invariant c.make_cells.ensures c.deref.ensures.value c.self.inside.slots.ok.0 made.many made.slots made.nodes made.small in
    (λ i. record { heads = room.heads i; followers = room.followers i }) ∙ c.self.view_is
