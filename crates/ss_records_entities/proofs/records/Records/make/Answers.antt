use Rattle.std.proofs.Common.{◌≡◌, ◌≤◌, ◌*◌, ◌^◌, length, ap, subst, ◌∙◌, arith}
use Rattle.ss_records_entities.proofs.Common.{AreLaidTo, Class, places, set_places}
use Rattle.ss_records_entities.proofs.Made.{kept_unchanged, state_unchanged, room_for_all, kept_made, state_made}
use Rattle.ss_records_entities.proofs.records.Records.make.Goals as goal

pub place_all-requires-clause-room : goal.place_all-requires-clause-room
place_all-requires-clause-room c = let r = c.args.self.now in room_for_all r.layout r.blocks.cells r.system.at (places r) r.notes.lists c.requires.kept c.args.count c.requires.few

pub returns-in_default-clause-kept : goal.returns-in_default-clause-kept
returns-in_default-clause-kept c = let r = c.args.self.now in kept_unchanged r.layout r.blocks.cells r.system.at (places r) r.notes.lists c.requires.kept c.place_all.new.blocks.cells c.in_default.ensures.placed

pub returns-in_default-clause-done : goal.returns-in_default-clause-done
returns-in_default-clause-done c = let r = c.args.self.now in state_unchanged r.layout r.blocks.cells r.system.at (places r) r.notes.lists c.requires.kept c.place_all.new.blocks.cells c.in_default.ensures.placed

pub returns-clause-kept : goal.returns-clause-kept
returns-clause-kept c =
    let r = c.args.self.now in let ps = c.in-Ok.places.items in let few : length ps ≤ 2 ^ 20 = omega (arith, c.in-Ok.ensures.placed.0, c.requires.few) in
    let laid = subst (λ us. AreLaidTo r.layout c.place_all.new.blocks.cells c.lay_all.new.blocks.cells r.system.at us c.args.class (length us)) c.deref.ensures.value c.lay_all.ensures.laid in
    rw c.of.ensures (kept_made r.layout r.blocks.cells r.system.at (places r) r.notes.lists c.requires.kept c.args.class c.requires.kind c.requires.class c.requires.free c.place_all.new.blocks.cells c.lay_all.new.blocks.cells c.block_words-words.result ps c.in-Ok.ensures.placed.1 laid few)

pub returns-clause-done : goal.returns-clause-done
returns-clause-done c =
    let r = c.args.self.now in let ps = c.in-Ok.places.items in let few : length ps ≤ 2 ^ 20 = omega (arith, c.in-Ok.ensures.placed.0, c.requires.few) in
    let laid = subst (λ us. AreLaidTo r.layout c.place_all.new.blocks.cells c.lay_all.new.blocks.cells r.system.at us c.args.class (length us)) c.deref.ensures.value c.lay_all.ensures.laid in
    rw c.of.ensures (state_made r.layout r.blocks.cells r.system.at (places r) r.notes.lists c.requires.kept c.args.class c.requires.kind c.requires.class c.requires.free c.place_all.new.blocks.cells c.lay_all.new.blocks.cells c.block_words-words.result ps c.in-Ok.ensures.placed.1 laid few c.args.count c.in-Ok.ensures.placed.0)

pub returns-clause-links : goal.returns-clause-links
returns-clause-links c =
    let w = 3 * set_places c.args.self.now.layout (Class c.args.class) in
    subst (λ us. c.lay_all.new.blocks.touches ≡ length us * w) c.deref.ensures.value c.lay_all.ensures.links ∙ ap (λ n. n * w) c.in-Ok.ensures.placed.0

pub returns-in_default-clause-links : goal.returns-in_default-clause-links
returns-in_default-clause-links c = c.in_default.ensures.touches.0 ∙ c.requires.touches
