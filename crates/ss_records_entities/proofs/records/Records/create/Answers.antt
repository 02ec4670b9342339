use Rattle.std.proofs.Common.{◌≡◌, sym, ◌∷◌, ◌+◌, ◌<◌, length, ap, subst, ◌∙◌, arith}
use Rattle.ss_records_entities.proofs.Common.{ArePartsKept, blanks, cast_signed, ints, IsLaid, LAST_NUMBER, length-blanks, places, pos, state_of, word_blank, words_new}
use mir.Syntax.{w64}
use Rattle.ss_records_entities.proofs.Creates.{room_for_one, kept_created, is_created}
use Rattle.ss_records_entities.proofs.Issuing.{block_fits, at_rest, rests, one_left}
use Rattle.ss_records_entities.proofs.records.Records.create.Goals as goal

pub place-requires-clause-room : goal.place-requires-clause-room
place-requires-clause-room c = let r = c.args.self.now in room_for_one r.layout r.blocks.cells r.system.at (places r) r.notes.lists c.requires.kept

pub lay-requires-clause-small : goal.lay-requires-clause-small
lay-requires-clause-small c = c.requires.kept.small

pub lay-requires-clause-class : goal.lay-requires-clause-class
lay-requires-clause-class c = c.requires.class

pub lay-requires-clause-room : goal.lay-requires-clause-room
lay-requires-clause-room c =
    rw (c.in-Ok.ensures.placed.1, words_new c.args.self.now.blocks.cells c.in-Ok.place.at (blanks c.block_words-words.result)) (length-blanks c.block_words-words.result ∙ c.block_words-words.ensures.size)

pub lay-requires-clause-blank : goal.lay-requires-clause-blank
lay-requires-clause-blank c = λ k. rw (c.in-Ok.ensures.placed.1, words_new c.args.self.now.blocks.cells c.in-Ok.place.at (blanks c.block_words-words.result)) (word_blank c.block_words-words.result k)

pub returns-in-Ok-push-clause-kept : goal.returns-in-Ok-push-clause-kept
returns-in-Ok-push-clause-kept c =
    let r = c.args.self.now in let l = r.layout in let cs = r.blocks.cells in let q = c.in-Ok.place in let w = c.block_words-words.result in let ds = c.lay.new.blocks.cells in
    let n : c.len-i.result + 1 ≡ length r.directory.places + 1 = ap (λ k. k + 1) c.len-i.ensures in
    let laid = subst (λ k. IsLaid l ((q.at, blanks w) ∷ cs) ds r.system.at q.at c.args.class k) n (subst (λ bs. IsLaid l bs ds r.system.at q.at c.args.class (c.len-i.result + 1)) c.in-Ok.ensures.placed.1 c.lay.ensures.laid) in
    let room : length r.directory.places < LAST_NUMBER = omega (arith, c.len-i.ensures, c.if-i-ge-LAST_NUMBER.false) in
    rw c.in-Ok-push.ensures (kept_created l cs r.system.at (places r) r.notes.lists c.requires.kept q c.in-Ok.ensures.placed.0 w c.args.class c.block_words-words.ensures.size ds laid c.requires.kind c.requires.class room)

pub returns-in-Ok-push-clause-done : goal.returns-in-Ok-push-clause-done
returns-in-Ok-push-clause-done c =
    let r = c.args.self.now in let l = r.layout in let cs = r.blocks.cells in let q = c.in-Ok.place in let w = c.block_words-words.result in let ds = c.lay.new.blocks.cells in
    let n : c.len-i.result + 1 ≡ length r.directory.places + 1 = ap (λ k. k + 1) c.len-i.ensures in
    let laid = subst (λ k. IsLaid l ((q.at, blanks w) ∷ cs) ds r.system.at q.at c.args.class k) n (subst (λ bs. IsLaid l bs ds r.system.at q.at c.args.class (c.len-i.result + 1)) c.in-Ok.ensures.placed.1 c.lay.ensures.laid) in
    let room : length r.directory.places < LAST_NUMBER = omega (arith, c.len-i.ensures, c.if-i-ge-LAST_NUMBER.false) in
    let z : cast_signed w64 (c.len-i.result + 1) ≡ pos (length r.directory.places + 1) = omega (arith, ints, n, room) in
    rw c.in-Ok-push.ensures (is_created l cs r.system.at (places r) r.notes.lists c.requires.kept q c.in-Ok.ensures.placed.0 w c.args.class c.block_words-words.ensures.size ds laid c.requires.kind c.requires.class room _ z)

pub returns-in-Ok-push-clause-links : goal.returns-in-Ok-push-clause-links
returns-in-Ok-push-clause-links c = omega (arith, c.lay.ensures.links, c.in-Ok.ensures.touches.0, c.requires.touches)

pub give_back-requires : goal.give_back-requires
give_back-requires c = record {
  size = (
    rw (c.in-Ok.ensures.placed.1, words_new c.args.self.now.blocks.cells c.in-Ok.place.at (blanks c.block_words-words.result)) (length-blanks c.block_words-words.result),
    omega (arith, c.block_words-words.ensures.bound.0),
  );
}

pub place-requires-clause-size : goal.place-requires-clause-size
place-requires-clause-size c = block_fits c.block_words-words.result c.block_words-words.ensures.bound

pub returns-then-i-ge-LAST_NUMBER-clause-kept : goal.returns-then-i-ge-LAST_NUMBER-clause-kept
returns-then-i-ge-LAST_NUMBER-clause-kept c = c.requires.kept

pub returns-then-i-ge-LAST_NUMBER-clause-touches : goal.returns-then-i-ge-LAST_NUMBER-clause-touches
returns-then-i-ge-LAST_NUMBER-clause-touches c = let r = c.args.self.now in at_rest r.blocks.touches r.blocks.total c.requires.touches

pub returns-in_default : goal.returns-in_default
returns-in_default c =
    let r = c.args.self.now in
    record {
      kept = subst (λ bs. ArePartsKept r.layout bs r.system.at (places r) r.notes.lists) (sym c.in_default.ensures.placed) c.requires.kept;
      done = (ap (λ bs. state_of r.layout bs (places r) r.notes.lists) c.in_default.ensures.placed, one_left r.layout r.blocks.cells (places r) r.notes.lists c.args.class c.len-i.result c.len-i.ensures c.if-i-ge-LAST_NUMBER.false);
      touches = let b = c.place.new.self in rests r.blocks.touches r.blocks.total b.touches b.total c.requires.touches c.in_default.ensures.touches;
      links = c.in_default.ensures.touches.0 ∙ c.requires.touches;
    }

pub push-requires : goal.push-requires
push-requires c = record { room = c.requires.kept.issued }

pub returns-in-Err-clause-touches : goal.returns-in-Err-clause-touches
returns-in-Err-clause-touches c =
    let r = c.args.self.now in let b = c.give_back.new.self in let placed = c.in-Ok.ensures.touches in let back = c.give_back.ensures.touches in
    rests r.blocks.touches r.blocks.total b.touches b.total c.requires.touches (back.0 ∙ placed.0, back.1 ∙ placed.1)

pub returns-then-i-ge-LAST_NUMBER-clause-links : goal.returns-then-i-ge-LAST_NUMBER-clause-links
returns-then-i-ge-LAST_NUMBER-clause-links c = c.requires.touches

pub returns-in-Err-clause-links : goal.returns-in-Err-clause-links
returns-in-Err-clause-links c = c.give_back.ensures.touches.0 ∙ c.in-Ok.ensures.touches.0 ∙ c.requires.touches
