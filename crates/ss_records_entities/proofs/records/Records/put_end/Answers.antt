use Rattle.std.proofs.Common.{◌≡◌, ◌+◌, false, refl, sym, ap, subst, ◌∙◌, arith}
use Rattle.std.specs.Prelude.{if◌then◌else◌}
use Rattle.ss_records_entities.specs.Parts.{before_end, after_end}
use Rattle.ss_records_entities.proofs.Common.{AreNeighbours, counter, false_is_not_true, HasLink, is_filed, link, members_of, number, state, word_at}
use Rattle.ss_records_entities.proofs.Looks.{beside_leads, beside_free, beside_filed, end_leads, counts, how_many, how_many_small}
use Rattle.ss_records_entities.proofs.Files.{owner_words, member_words, before_word, after_word, kept_in, state_in}
use Rattle.ss_records_entities.proofs.Cuts.{at_end}
use Rattle.ss_records_entities.proofs.Still.{kept_still, unmoved}
use Rattle.ss_records_entities.proofs.records.Records.put_end.Goals as goal
use Rattle.ss_records_entities.proofs.records.Records.put_end.Goals.{After-gap_beside-gap}

-- it is in no set of the name
free : (c : After-gap_beside-gap) → is_filed c.args.self.now.notes.lists c.args.s c.args.x.number ≡ false
free c =
    beside_free c.args.self.now c.requires.kept c.args.s c.requires.set c.args.x c.requires.joins c.member_base-member.result c.member_base-member.ensures.at c.look-next.result c.look-next.ensures.there false c.look-next.ensures.word c.if-next-x.false

-- where it goes
between : (c : After-gap_beside-gap) → AreNeighbours c.args.self.now c.args.s c.args.owner.number c.gap_beside-gap.result.before c.gap_beside-gap.result.after (before_end c.args.is_last (members_of c.args.self.now.notes.lists c.args.s c.args.owner.number)) (after_end c.args.is_last (members_of c.args.self.now.notes.lists c.args.s c.args.owner.number))
between c =
    let r = c.args.self.now in let e = c.args.owner in let set = c.owner_base-set in let q = c.look-end.result in let cells = c.look-next.ensures.cells in
    let w : word_at r.blocks.cells e.place.at (if c.args.is_last then set.result + 1 else set.result) ≡ link q.place.at = (λ i. word_at (sym cells i) e.place.at (sym c.beside-word.ensures i)) ∙ c.look-end.ensures.word in
    let v : word_at r.blocks.cells q.place.at 1 ≡ number q.number = (λ i. word_at (sym cells i) q.place.at 1) ∙ c.look-end.ensures.there in
    rw (c.gap_beside-gap.ensures.before, c.gap_beside-gap.ensures.after) (at_end r c.requires.kept c.args.s c.requires.set e c.requires.owns set.result set.ensures.at q c.args.is_last w v)

pub look-next-requires : goal.look-next-requires
look-next-requires c = record { leads = beside_leads c.args.self.now c.requires.kept c.args.s c.requires.set c.args.x c.requires.joins c.member_base-member.result c.member_base-member.ensures.at false }

pub returns-then-next-x : goal.returns-then-next-x
returns-then-next-x c =
    let r = c.args.self.now in let q = record r { blocks = c.start_at.new.self } in let f = c.start_at.ensures in let look = c.look-next.ensures in
    let h = unmoved r q refl (f.cells ∙ look.cells) in
    let filed = beside_filed r c.requires.kept c.args.s c.requires.set c.args.x c.requires.joins c.member_base-member.result c.member_base-member.ensures.at c.look-next.result look.there c.if-next-x.true false look.word in
    record {
      kept = kept_still r q h c.requires.kept;
      done = (refl, filed, ap state h);
      touches = (omega (arith, f.touches.0), λ e. absurd (false_is_not_true e), omega (arith, look.touches.1, f.touches.0, f.touches.1));
    }

pub look-end-requires : goal.look-end-requires
look-end-requires c =
    let r = c.args.self.now in let e = c.args.owner in let set = c.owner_base-set in
    record { leads = rw c.look-next.ensures.cells (subst (λ k. HasLink r.blocks.cells e.place.at k) (sym c.beside-word.ensures) (end_leads r c.requires.kept c.args.s c.requires.set e c.requires.owns set.result set.ensures.at c.args.is_last)) }

pub peek_count-count-requires : goal.peek_count-count-requires
peek_count-count-requires c = record { word = rw (c.look-end.ensures.cells, c.look-next.ensures.cells) (counts c.args.self.now c.requires.kept c.args.s c.requires.set c.args.owner c.requires.owns c.owner_base-set.result c.owner_base-set.ensures.at) }

pub link_between-requires : goal.link_between-requires
link_between-requires c =
    let r = c.args.self.now in let g = (goal.at.link_between-requires c).After-gap_beside-gap in let gap = c.gap_beside-gap.result in let ms = members_of r.notes.lists c.args.s c.args.owner.number in
    record {
      member = rw (c.start_at-2.ensures.cells, c.peek_count-count.ensures.cells, c.look-end.ensures.cells, c.look-next.ensures.cells) (member_words r c.requires.kept c.args.s c.requires.set c.args.owner c.args.x c.requires.owns c.member_base-member.result c.owner_base-set.result c.member_base-member.ensures.at c.owner_base-set.ensures.at c.requires.joins (free g));
      owner = rw (c.start_at-2.ensures.cells, c.peek_count-count.ensures.cells, c.look-end.ensures.cells, c.look-next.ensures.cells) (owner_words r c.requires.kept c.args.s c.requires.set c.args.owner c.args.x c.requires.owns c.member_base-member.result c.owner_base-set.result c.member_base-member.ensures.at c.owner_base-set.ensures.at);
      before = λ e. rw (c.start_at-2.ensures.cells, c.peek_count-count.ensures.cells, c.look-end.ensures.cells, c.look-next.ensures.cells) (before_word r c.requires.kept c.args.s c.requires.set c.args.owner c.args.x c.requires.owns c.member_base-member.result c.owner_base-set.result c.member_base-member.ensures.at c.owner_base-set.ensures.at c.requires.joins (free g) gap.before gap.after (before_end c.args.is_last ms) (after_end c.args.is_last ms) (between g) e);
      after = λ e. rw (c.start_at-2.ensures.cells, c.peek_count-count.ensures.cells, c.look-end.ensures.cells, c.look-next.ensures.cells) (after_word r c.requires.kept c.args.s c.requires.set c.args.owner c.args.x c.requires.owns c.member_base-member.result c.owner_base-set.result c.member_base-member.ensures.at c.owner_base-set.ensures.at c.requires.joins (free g) gap.before gap.after (before_end c.args.is_last ms) (after_end c.args.is_last ms) (between g) e);
      words = (omega (arith, c.member_base-member.ensures.bound), omega (arith, c.owner_base-set.ensures.bound));
      counts =
          let cells = c.look-end.ensures.cells ∙ c.look-next.ensures.cells in
          let w : word_at r.blocks.cells c.args.owner.place.at (c.owner_base-set.result + 2) ≡ counter c.peek_count-count.result = (λ i. word_at (sym cells i) c.args.owner.place.at (c.owner_base-set.result + 2)) ∙ c.peek_count-count.ensures.word in
          let h = how_many_small r c.requires.kept c.args.s c.requires.set c.args.owner c.requires.owns c.owner_base-set.result c.owner_base-set.ensures.at c.peek_count-count.result w in
          omega (arith, h);
      room = omega (arith, c.start_at-2.ensures.touches.0);
    }

pub returns : goal.returns
returns c =
    let r = c.args.self.now in let g = (goal.at.returns c).After-gap_beside-gap in let gap = c.gap_beside-gap.result in let ms = members_of r.notes.lists c.args.s c.args.owner.number in let both = c.look-end.ensures.cells ∙ c.look-next.ensures.cells in
    let n : word_at r.blocks.cells c.args.owner.place.at (c.owner_base-set.result + 2) ≡ counter c.peek_count-count.result = (λ i. word_at (sym both i) c.args.owner.place.at (c.owner_base-set.result + 2)) ∙ c.peek_count-count.ensures.word in
    let many = how_many r c.requires.kept c.args.s c.requires.set c.args.owner c.requires.owns c.owner_base-set.result c.owner_base-set.ensures.at c.peek_count-count.result n in
    record {
      kept = rw (c.link_between.ensures.cells, c.start_at-2.ensures.cells, c.peek_count-count.ensures.cells, c.look-end.ensures.cells, c.look-next.ensures.cells, c.put_before.ensures) (kept_in r c.requires.kept c.args.s c.requires.set c.args.owner c.args.x c.requires.owns c.member_base-member.result c.owner_base-set.result c.member_base-member.ensures.at c.owner_base-set.ensures.at c.requires.joins (free g) gap.before gap.after (before_end c.args.is_last ms) (after_end c.args.is_last ms) (between g) c.peek_count-count.result many);
      done = (free g, rw (c.link_between.ensures.cells, c.start_at-2.ensures.cells, c.peek_count-count.ensures.cells, c.look-end.ensures.cells, c.look-next.ensures.cells, c.put_before.ensures) (state_in r c.requires.kept c.args.s c.requires.set c.args.owner c.args.x c.requires.owns c.member_base-member.result c.owner_base-set.result c.member_base-member.ensures.at c.owner_base-set.ensures.at c.requires.joins (free g) gap.before gap.after (before_end c.args.is_last ms) (after_end c.args.is_last ms) (between g) c.peek_count-count.result many));
      touches =
          let first = c.look-next.ensures.touches in let second = c.look-end.ensures.touches in let third = c.peek_count-count.ensures.touches in let at = c.start_at-2.ensures.touches in
          let linked = c.link_between.ensures.touches in
          (omega (arith, at.0, linked.0), λ e. omega (arith, at.0, linked.0), omega (arith, first.1, second.1, third.1, at.0, at.1, linked.0, linked.1));
    }
