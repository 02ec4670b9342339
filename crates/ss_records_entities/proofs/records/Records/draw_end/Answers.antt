use Rattle.std.proofs.Common.{◌≡◌, ℕ, ◌+◌, List, ◌++◌, refl, sym, ap, subst, ◌∙◌, arith}
use Rattle.std.specs.Prelude.{if◌then◌else◌}
use Rattle.ss_records_entities.proofs.Common.{CanJoin, cast_signed, counter, HasLink, HasNeighbours, ints, less, link, members_of, number, state, with_list_of, word_at}
use mir.Syntax.{w64}
use Rattle.ss_records_entities.proofs.Looks.{as_whole, beside_leads, end_leads, end_small, end_value, counts, how_many}
use Rattle.ss_records_entities.proofs.Files.{owner_words, member_words', before_word', after_word', kept_out, state_out, some_members}
use Rattle.ss_records_entities.proofs.Cuts.{IsAtEnd, end_is, parts, around_end, list_less}
use Rattle.ss_records_entities.proofs.Ends.{joins_it, has_it, end_taken, none_at_end}
use Rattle.ss_records_entities.proofs.Remembered.{numbered_entry}
use Rattle.ss_records_entities.proofs.Still.{kept_still, unmoved}
use Rattle.ss_records_entities.proofs.records.Records.draw_end.Goals as goal
use Rattle.ss_records_entities.proofs.records.Records.draw_end.Goals.{After-look-end, After-gap_beside-gap}

-- where the end leads
led : (c : After-look-end) → word_at c.args.self.now.blocks.cells c.args.home.place.at (if c.args.is_last then c.owner_base-set.result + 1 else c.owner_base-set.result) ≡ link c.look-end.result.place.at
led c = subst (λ k. word_at c.args.self.now.blocks.cells c.args.home.place.at k ≡ link c.look-end.result.place.at) c.beside-word.ensures c.look-end.ensures.word

-- the member there, if there is one
its : (c : After-look-end) → (c.look-end.result.number ≡ 0 → ⊥) → IsAtEnd c.args.self.now c.args.s c.args.home.number c.args.is_last c.look-end.result
its c some = end_is c.args.self.now c.requires.kept c.args.s c.requires.set c.args.home c.requires.owns c.owner_base-set.result c.owner_base-set.ensures.at c.look-end.result c.args.is_last (led c) c.look-end.ensures.there some

joins : (c : After-look-end) → (c.look-end.result.number ≡ 0 → ⊥) → CanJoin c.args.self.now c.args.s c.look-end.result
joins c some = let m = its c some in joins_it c.args.self.now c.requires.kept c.args.s c.requires.set c.args.home.number c.look-end.result m.lies m.inn

-- the members around it, which are left
around : (c : After-gap_beside-gap) → IsAtEnd c.args.self.now c.args.s c.args.home.number c.args.is_last c.look-end.result
    → (xs : List ℕ) × (ys : List ℕ) × (HasNeighbours c.args.self.now c.args.s c.args.home.number c.look-end.result.number c.gap_beside-gap.result.before c.gap_beside-gap.result.after xs ys) × (xs ++ ys ≡ less c.look-end.result.number (members_of c.args.self.now.notes.lists c.args.s c.args.home.number))
around c m =
    let r = c.args.self.now in let k = c.requires.kept in let o = c.args.home.number in let q = c.look-end.result in let mem = c.member_base-member in let z = c.look-next.result in let cells = c.look-end.ensures.cells in
    let j = joins_it r k c.args.s c.requires.set o q m.lies m.inn in let there = has_it r k c.args.s c.requires.set o q m.lies m.inn in
    let w : word_at r.blocks.cells q.place.at (if c.args.is_last then mem.result + 1 else mem.result) ≡ link z.place.at = (λ i. word_at (sym cells i) q.place.at (sym c.beside-link.ensures i)) ∙ c.look-next.ensures.word in
    let v : word_at r.blocks.cells z.place.at 1 ≡ number z.number = (λ i. word_at (sym cells i) z.place.at 1) ∙ c.look-next.ensures.there in
    let cut = parts r k c.args.s c.requires.set q j mem.result mem.ensures.at o there in
    (cut.0, cut.1, rw (c.gap_beside-gap.ensures.before, c.gap_beside-gap.ensures.after) (around_end r k c.args.s c.requires.set q j mem.result mem.ensures.at o there c.args.is_last m.is z w v), list_less r k c.args.s c.requires.set q j mem.result mem.ensures.at o there)

pub look-end-requires : goal.look-end-requires
look-end-requires c =
    let r = c.args.self.now in let e = c.args.home in let set = c.owner_base-set in
    record { leads = subst (λ k. HasLink r.blocks.cells e.place.at k) (sym c.beside-word.ensures) (end_leads r c.requires.kept c.args.s c.requires.set e c.requires.owns set.result set.ensures.at c.args.is_last) }

-- there is none
pub returns-then-end-eq0 : goal.returns-then-end-eq0
returns-then-end-eq0 c =
    let r = c.args.self.now in let k = c.requires.kept in let e = c.args.home in let own = c.requires.owns in let set = c.owner_base-set in let q = c.look-end.result in let b = record r { blocks = c.start_at.new.self } in
    let h = unmoved r b refl (c.start_at.ensures.cells ∙ c.look-end.ensures.cells) in let w = led (goal.at.returns-then-end-eq0 c).After-look-end in
    let is = as_whole q.number q.number refl (end_small r k c.args.s c.requires.set e own set.result set.ensures.at q c.look-end.ensures.there c.args.is_last w) in
    record {
      kept = kept_still r b h k;
      done = (
        λ o om.
            let found = sym (end_value r k c.args.s c.requires.set e own set.result set.ensures.at q c.look-end.ensures.there c.args.is_last w o om) in
            none_at_end c.args.is_last (state r) c.args.s q.number o (cast_signed w64 q.number) found is c.if-end-eq0.true,
        ap state h,
      );
      touches = let f = c.start_at.ensures.touches in (omega (arith, f.0), omega (arith, c.look-end.ensures.touches.1, f.0, f.1));
    }

pub keep-requires-clause-entry : goal.keep-requires-clause-entry
keep-requires-clause-entry c = numbered_entry c.args.self.now c.requires.kept c.args.s c.look-end.result (joins (goal.at.keep-requires-clause-entry c).After-look-end c.if-end-eq0.false)

pub look-next-requires : goal.look-next-requires
look-next-requires c =
    let r = c.args.self.now in let q = c.look-end.result in let mem = c.member_base-member in let j = joins (goal.at.look-next-requires c).After-look-end c.if-end-eq0.false in
    record { leads = rw c.look-end.ensures.cells (subst (λ k. HasLink r.blocks.cells q.place.at k) (sym c.beside-link.ensures) (beside_leads r c.requires.kept c.args.s c.requires.set q j mem.result mem.ensures.at c.args.is_last)) }

pub peek_count-count-requires : goal.peek_count-count-requires
peek_count-count-requires c = record { word = rw (c.look-next.ensures.cells, c.look-end.ensures.cells) (counts c.args.self.now c.requires.kept c.args.s c.requires.set c.args.home c.requires.owns c.owner_base-set.result c.owner_base-set.ensures.at) }

pub unlink-requires : goal.unlink-requires
unlink-requires c =
    let r = c.args.self.now in let k = c.requires.kept in let e = c.args.home in let own = c.requires.owns in let set = c.owner_base-set in let mem = c.member_base-member in let q = c.look-end.result in let gap = c.gap_beside-gap.result in
    let m = its (goal.at.unlink-requires c).After-look-end c.if-end-eq0.false in let w = around (goal.at.unlink-requires c).After-gap_beside-gap m in let j = joins_it r k c.args.s c.requires.set e.number q m.lies m.inn in
    let both = c.look-next.ensures.cells ∙ c.look-end.ensures.cells in
    let n : word_at r.blocks.cells e.place.at (set.result + 2) ≡ counter c.peek_count-count.result = (λ i. word_at (sym both i) e.place.at (set.result + 2)) ∙ c.peek_count-count.ensures.word in
    let many = how_many r k c.args.s c.requires.set e own set.result set.ensures.at c.peek_count-count.result n in
    record {
      member = rw (c.start_at-2.ensures.cells, c.peek_count-count.ensures.cells, c.look-next.ensures.cells, c.look-end.ensures.cells) (member_words' r k c.args.s c.requires.set e q own mem.result set.result mem.ensures.at set.ensures.at j gap.before gap.after w.0 w.1 w.2);
      owner = rw (c.start_at-2.ensures.cells, c.peek_count-count.ensures.cells, c.look-next.ensures.cells, c.look-end.ensures.cells) (owner_words r k c.args.s c.requires.set e q own mem.result set.result mem.ensures.at set.ensures.at);
      before = λ no. rw (c.start_at-2.ensures.cells, c.peek_count-count.ensures.cells, c.look-next.ensures.cells, c.look-end.ensures.cells) (before_word' r k c.args.s c.requires.set e q own mem.result set.result mem.ensures.at set.ensures.at j gap.before gap.after w.0 w.1 w.2 no);
      after = λ no. rw (c.start_at-2.ensures.cells, c.peek_count-count.ensures.cells, c.look-next.ensures.cells, c.look-end.ensures.cells) (after_word' r k c.args.s c.requires.set e q own mem.result set.result mem.ensures.at set.ensures.at j gap.before gap.after w.0 w.1 w.2 no);
      words = (omega (arith, c.member_base-member.ensures.bound), omega (arith, c.owner_base-set.ensures.bound));
      counts = some_members r k c.args.s c.requires.set e q own mem.result set.result mem.ensures.at set.ensures.at j gap.before gap.after w.0 w.1 w.2 c.peek_count-count.result many;
      room = omega (arith, c.start_at-2.ensures.touches.0);
    }

pub overflow_cast-result : goal.overflow_cast-result
overflow_cast-result c =
    let small = end_small c.args.self.now c.requires.kept c.args.s c.requires.set c.args.home c.requires.owns c.owner_base-set.result c.owner_base-set.ensures.at c.look-end.result c.look-end.ensures.there c.args.is_last (led (goal.at.overflow_cast-result c).After-look-end) in
    omega (arith, ints, small)

pub returns : goal.returns
returns c =
    let r = c.args.self.now in let k = c.requires.kept in let e = c.args.home in let own = c.requires.owns in let set = c.owner_base-set in let mem = c.member_base-member in let q = c.look-end.result in let gap = c.gap_beside-gap.result in
    let a = (goal.at.returns c).After-look-end in let m = its a c.if-end-eq0.false in let w = around (goal.at.returns c).After-gap_beside-gap m in let j = joins_it r k c.args.s c.requires.set e.number q m.lies m.inn in
    let both = c.look-next.ensures.cells ∙ c.look-end.ensures.cells in
    let n : word_at r.blocks.cells e.place.at (set.result + 2) ≡ counter c.peek_count-count.result = (λ i. word_at (sym both i) e.place.at (set.result + 2)) ∙ c.peek_count-count.ensures.word in
    let many = how_many r k c.args.s c.requires.set e own set.result set.ensures.at c.peek_count-count.result n in
    record {
      kept = rw (c.unlink.ensures.cells, c.start_at-2.ensures.cells, c.peek_count-count.ensures.cells, c.look-next.ensures.cells, c.look-end.ensures.cells, c.take_out.ensures, c.keep.ensures) (kept_out r k c.args.s c.requires.set e q own mem.result set.result mem.ensures.at set.ensures.at j gap.before gap.after w.0 w.1 w.2 c.peek_count-count.result many);
      done = λ o om.
          let new = record r { blocks = c.unlink.new.self; notes = c.take_out.new.self; directory = c.keep.new.directory } in
          let out : (xs ys : List ℕ) → HasNeighbours r c.args.s e.number q.number gap.before gap.after xs ys → state new ≡ with_list_of (state r) c.args.s e.number (xs ++ ys) = λ xs ys near. rw (c.unlink.ensures.cells, c.start_at-2.ensures.cells, c.peek_count-count.ensures.cells, c.look-next.ensures.cells, c.look-end.ensures.cells, c.take_out.ensures, c.keep.ensures) (state_out r k c.args.s c.requires.set e q own mem.result set.result mem.ensures.at set.ensures.at j gap.before gap.after xs ys near c.peek_count-count.result many) in
          let found = sym (end_value r k c.args.s c.requires.set e own set.result set.ensures.at q c.look-end.ensures.there c.args.is_last (led a) o om) in
          let is = as_whole q.number q.number refl (end_small r k c.args.s c.requires.set e own set.result set.ensures.at q c.look-end.ensures.there c.args.is_last (led a)) in
          end_taken r k c.args.s c.requires.set e.number q m.lies m.inn c.args.is_last o (cast_signed w64 q.number) (state new) om found is
          (out w.0 w.1 w.2 ∙ ap (with_list_of (state r) c.args.s e.number) w.3);
      touches =
          let first = c.look-end.ensures.touches in let second = c.look-next.ensures.touches in let third = c.peek_count-count.ensures.touches in let at = c.start_at-2.ensures.touches in
          let out = c.unlink.ensures.touches in
          (omega (arith, at.0, out.0), omega (arith, first.1, second.1, third.1, at.0, at.1, out.0, out.1));
    }
