use Rattle.std.proofs.Common.{◌≡◌, ℕ, ◌+◌, List, ◌++◌, true, false, sym, ap, ◌∙◌, arith}
use Rattle.ss_records_entities.proofs.Common.{counter, HasNeighbours, less, link, members_of, number, state, with_list_of, word_at}
use Rattle.ss_records_entities.proofs.Looks.{counts, how_many}
use Rattle.ss_records_entities.proofs.Files.{owner_words, member_words', before_word', after_word', kept_out, state_out, some_members}
use Rattle.ss_records_entities.proofs.Cuts.{parts, beside_found, around_it, list_less}
use Rattle.ss_records_entities.proofs.records.Records.cut_out.Goals as goal
use Rattle.ss_records_entities.proofs.records.Records.cut_out.Goals.{After-follow-after}

-- the members around it, which are left
around : (c : After-follow-after) → (xs : List ℕ) × (ys : List ℕ) × (HasNeighbours c.args.self.now c.args.s c.args.owner.number c.args.x.number c.follow-before.result c.follow-after.result xs ys) × (xs ++ ys ≡ less c.args.x.number (members_of c.args.self.now.notes.lists c.args.s c.args.owner.number))
around c =
    let r = c.args.self.now in let k = c.requires.kept in let x = c.args.x in let j = c.requires.joins in let mem = c.member_base-member in let o = c.args.owner.number in let z = c.follow-after.result in let cells = c.follow-before.ensures.cells in
    let w : word_at r.blocks.cells x.place.at mem.result ≡ link z.place.at = (λ i. word_at (sym cells i) x.place.at mem.result) ∙ c.follow-after.ensures.word in
    let v : word_at r.blocks.cells z.place.at 1 ≡ number z.number = (λ i. word_at (sym cells i) z.place.at 1) ∙ c.follow-after.ensures.there in
    let cut = parts r k c.args.s c.requires.set x j mem.result mem.ensures.at o c.requires.there in
    (cut.0, cut.1, around_it r k c.args.s c.requires.set x j mem.result mem.ensures.at o c.requires.there c.follow-before.result c.follow-before.ensures.word c.follow-before.ensures.there z w v, list_less r k c.args.s c.requires.set x j mem.result mem.ensures.at o c.requires.there)

pub follow-before-requires-clause-leads : goal.follow-before-requires-clause-leads
follow-before-requires-clause-leads c =
    beside_found c.args.self.now c.requires.kept c.args.s c.requires.set c.args.x c.requires.joins c.member_base-member.result c.member_base-member.ensures.at c.args.owner.number c.requires.there true

pub follow-before-requires-clause-room : goal.follow-before-requires-clause-room
follow-before-requires-clause-room c = omega (arith, c.requires.touches)

pub follow-after-requires : goal.follow-after-requires
follow-after-requires c =
    record {
      leads = rw c.follow-before.ensures.cells (beside_found c.args.self.now c.requires.kept c.args.s c.requires.set c.args.x c.requires.joins c.member_base-member.result c.member_base-member.ensures.at c.args.owner.number c.requires.there false);
      room = omega (arith, c.requires.touches, c.follow-before.ensures.touches.0);
    }

pub count-count-requires : goal.count-count-requires
count-count-requires c =
    record {
      word = rw (c.follow-after.ensures.cells, c.follow-before.ensures.cells) (counts c.args.self.now c.requires.kept c.args.s c.requires.set c.args.owner c.requires.owns c.owner_base-set.result c.owner_base-set.ensures.at);
      room = omega (arith, c.requires.touches, c.follow-before.ensures.touches.0, c.follow-after.ensures.touches.0);
    }

pub unlink-requires : goal.unlink-requires
unlink-requires c =
    let r = c.args.self.now in let k = c.requires.kept in let e = c.args.owner in let own = c.requires.owns in let set = c.owner_base-set in let mem = c.member_base-member in let x = c.args.x in let a = c.follow-before.result in let z = c.follow-after.result in
    let w = around (goal.at.unlink-requires c).After-follow-after in let both = c.follow-after.ensures.cells ∙ c.follow-before.ensures.cells in
    let n : word_at r.blocks.cells e.place.at (set.result + 2) ≡ counter c.count-count.result = (λ i. word_at (sym both i) e.place.at (set.result + 2)) ∙ c.count-count.ensures.word in
    let many = how_many r k c.args.s c.requires.set e own set.result set.ensures.at c.count-count.result n in
    record {
      member = rw (c.count-count.ensures.cells, c.follow-after.ensures.cells, c.follow-before.ensures.cells) (member_words' r k c.args.s c.requires.set e x own mem.result set.result mem.ensures.at set.ensures.at c.requires.joins a z w.0 w.1 w.2);
      owner = rw (c.count-count.ensures.cells, c.follow-after.ensures.cells, c.follow-before.ensures.cells) (owner_words r k c.args.s c.requires.set e x own mem.result set.result mem.ensures.at set.ensures.at);
      before = λ no. rw (c.count-count.ensures.cells, c.follow-after.ensures.cells, c.follow-before.ensures.cells) (before_word' r k c.args.s c.requires.set e x own mem.result set.result mem.ensures.at set.ensures.at c.requires.joins a z w.0 w.1 w.2 no);
      after = λ no. rw (c.count-count.ensures.cells, c.follow-after.ensures.cells, c.follow-before.ensures.cells) (after_word' r k c.args.s c.requires.set e x own mem.result set.result mem.ensures.at set.ensures.at c.requires.joins a z w.0 w.1 w.2 no);
      words = (omega (arith, mem.ensures.bound), omega (arith, set.ensures.bound));
      counts = some_members r k c.args.s c.requires.set e x own mem.result set.result mem.ensures.at set.ensures.at c.requires.joins a z w.0 w.1 w.2 c.count-count.result many;
      room = omega (arith, c.requires.touches, c.follow-before.ensures.touches.0, c.follow-after.ensures.touches.0, c.count-count.ensures.touches.0);
    }

pub returns : goal.returns
returns c =
    let r = c.args.self.now in let k = c.requires.kept in let e = c.args.owner in let own = c.requires.owns in let set = c.owner_base-set in let mem = c.member_base-member in let x = c.args.x in let a = c.follow-before.result in let z = c.follow-after.result in
    let w = around (goal.at.returns c).After-follow-after in let both = c.follow-after.ensures.cells ∙ c.follow-before.ensures.cells in
    let n : word_at r.blocks.cells e.place.at (set.result + 2) ≡ counter c.count-count.result = (λ i. word_at (sym both i) e.place.at (set.result + 2)) ∙ c.count-count.ensures.word in
    let many = how_many r k c.args.s c.requires.set e own set.result set.ensures.at c.count-count.result n in
    record {
      kept = rw (c.unlink.ensures.cells, c.count-count.ensures.cells, c.follow-after.ensures.cells, c.follow-before.ensures.cells, c.take_out.ensures) (kept_out r k c.args.s c.requires.set e x own mem.result set.result mem.ensures.at set.ensures.at c.requires.joins a z w.0 w.1 w.2 c.count-count.result many);
      done =
          let new = record r { blocks = c.unlink.new.self; notes = c.take_out.new.self } in
          let out : (xs ys : List ℕ) → HasNeighbours r c.args.s e.number x.number a z xs ys → state new ≡ with_list_of (state r) c.args.s e.number (xs ++ ys) = λ xs ys near. rw (c.unlink.ensures.cells, c.count-count.ensures.cells, c.follow-after.ensures.cells, c.follow-before.ensures.cells, c.take_out.ensures) (state_out r k c.args.s c.requires.set e x own mem.result set.result mem.ensures.at set.ensures.at c.requires.joins a z xs ys near c.count-count.result many) in
          out w.0 w.1 w.2 ∙ ap (with_list_of (state r) c.args.s e.number) w.3;
      touches =
          let first = c.follow-before.ensures.touches in let second = c.follow-after.ensures.touches in let third = c.count-count.ensures.touches in let out = c.unlink.ensures.touches in
          (omega (arith, first.0, second.0, third.0, out.0), omega (arith, first.1, second.1, third.1, out.1));
    }
