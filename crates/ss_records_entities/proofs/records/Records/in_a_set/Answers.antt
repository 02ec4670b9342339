use Rattle.std.proofs.Common.{◌≡◌, ℕ, refl, ◌<◌, ◌+◌, ◌*◌, inl, length, sym, ap, subst, ◌∙◌, arith}
use Rattle.ss_records_entities.proofs.Common.{Class, HasLink, link, links_start, number, Records, word_at}
use Rattle.ss_records_entities.proofs.Linked.{Here, here, at_first, room, found, after, at_last, few_touched}
use Rattle.ss_records_entities.proofs.OwnLinks.{leads_on, filed_there, filed_nowhere}
use Rattle.ss_records_entities.proofs.records.Records.in_a_set.Goals as goal
use Rattle.ss_records_entities.proofs.records.Records.in_a_set.Goals.{In-links}

class_is : {m n : ℕ} → Class m ≡ Class n → m ≡ n
class_is e = cc

-- the set whose links come next
links_here : (c : In-links) → Here c.args.self.now.layout c.args.class c.args.number c.args.self.now.notes.lists c.links.k
links_here c = let r = c.args.self.now in here r.layout c.args.class c.args.number r.notes.lists c.links.k c.links.invariant.left (subst (λ n. c.links.k < n) c.owned_start-end.ensures.at c.links-test.true)

pub owned_start-end-requires : goal.owned_start-end-requires
owned_start-end-requires c = λ k is. let e = c.requires.entry in subst (λ n. n < length c.args.self.now.layout.classes) (c.requires.class ∙ class_is is) (c.requires.kept.classes e.0 c.args.place (inl e.1))

pub links_start-k-requires : goal.links_start-k-requires
links_start-k-requires c = let e = c.requires.entry in subst (λ k. k < length c.args.self.now.layout.classes) c.requires.class (c.requires.kept.classes e.0 c.args.place (inl e.1))

pub links-init : goal.links-init
links-init c = record {
  same = refl;
  cells = refl;
  left = let r = c.args.self.now in rw c.links_start-k.ensures.at (at_first r.layout c.args.class c.args.number r.notes.lists);
  touches = (omega (arith, c.links_start-k.ensures.at), refl);
}

pub follow-next-requires-clause-leads : goal.follow-next-requires-clause-leads
follow-next-requires-clause-leads c =
    let r = c.args.self.now in let e = c.requires.entry in let h = links_here (goal.at.follow-next-requires-clause-leads c).In-links in
    subst (λ cs. HasLink cs c.args.place.at c.links.k) (sym c.links.invariant.cells)
    (leads_on r c.requires.kept h.at h.set h.there e.0 c.args.place e.1 (c.requires.class ∙ sym h.joined) c.links.k h.base)

pub follow-next-requires-clause-room : goal.follow-next-requires-clause-room
follow-next-requires-clause-room c =
    let r = c.args.self.now in
    let few = few_touched r.layout c.args.class c.args.number r.notes.lists c.links.k c.links.self.blocks.touches r.blocks.touches c.requires.kept.small.sets (omega (arith, c.links-test.true, c.owned_start-end.ensures.at)) c.links.invariant.touches.0 in
    omega (arith, few, c.requires.touches)

pub returns-then-next-number : goal.returns-then-next-number
returns-then-next-number c =
    let r = c.args.self.now in
    record {
      value =
          let e = c.requires.entry in let h = links_here (goal.at.returns-then-next-number c).In-links in let q = c.follow-next.result in let cells = c.links.invariant.cells in
          let w : word_at r.blocks.cells c.args.place.at c.links.k ≡ link q.place.at = (λ z. word_at (sym cells z) c.args.place.at c.links.k) ∙ c.follow-next.ensures.word in
          let v : word_at r.blocks.cells q.place.at 1 ≡ number q.number = (λ z. word_at (sym cells z) q.place.at 1) ∙ c.follow-next.ensures.there in
          sym (found r.layout c.args.class c.args.number r.notes.lists c.links.k h
          (filed_there r c.requires.kept h.at h.set h.there e.0 c.args.place e.1 (c.requires.class ∙ sym h.joined) c.links.k h.base c.args.number e.2 q w v c.if-next-number.true));
      same = ap (λ (z : Records). record z { blocks = c.follow-next.new.self }) c.links.invariant.same;
      cells = c.follow-next.ensures.cells ∙ c.links.invariant.cells;
      touches =
          let l = r.layout in let x = c.args.number in let ms = r.notes.lists in let h = links_here (goal.at.returns-then-next-number c).In-links in let t = c.follow-next.ensures.touches in
          let j = c.links.invariant.touches in let touches_known : 3 * c.follow-next.new.self.touches + links_start l c.args.class ≡ 3 * r.blocks.touches + (c.links.k + 3) = omega (arith, t.0, j.0) in
          (few_touched l c.args.class x ms (c.links.k + 3) c.follow-next.new.self.touches r.blocks.touches c.requires.kept.small.sets (room l c.args.class x ms c.links.k h) touches_known, omega (arith, t.0, t.1, j.1));
      looked = let h = links_here (goal.at.returns-then-next-number c).In-links in omega (arith, c.follow-next.ensures.touches.0, c.links.invariant.touches.0, room r.layout c.args.class c.args.number r.notes.lists c.links.k h);
    }

pub overflow_add-k : goal.overflow_add-k
overflow_add-k c = omega (arith, c.links-test.true, c.owned_start-end.ensures.bound)

pub links-smaller : goal.links-smaller
links-smaller c = omega (arith, c.links-test.true)

pub links-preserved : goal.links-preserved
links-preserved c =
    let r = c.args.self.now in let e = c.requires.entry in let h = links_here (goal.at.links-preserved c).In-links in let q = c.follow-next.result in let cells = c.links.invariant.cells in
    let w : word_at r.blocks.cells c.args.place.at c.links.k ≡ link q.place.at = (λ z. word_at (sym cells z) c.args.place.at c.links.k) ∙ c.follow-next.ensures.word in
    let v : word_at r.blocks.cells q.place.at 1 ≡ number q.number = (λ z. word_at (sym cells z) q.place.at 1) ∙ c.follow-next.ensures.there in
    let t = c.follow-next.ensures.touches in let j = c.links.invariant.touches in
    record {
      same = ap (λ (z : Records). record z { blocks = c.follow-next.new.self }) c.links.invariant.same;
      cells = c.follow-next.ensures.cells ∙ cells;
      left = after r.layout c.args.class c.args.number r.notes.lists c.links.k h
          (filed_nowhere r c.requires.kept h.at h.set h.there e.0 c.args.place e.1 (c.requires.class ∙ sym h.joined) c.links.k h.base c.args.number e.2 q w v c.if-next-number.false);
      touches = (omega (arith, t.0, j.0), omega (arith, t.0, t.1, j.1));
    }

pub returns : goal.returns
returns c =
    let r = c.args.self.now in
    record {
      value = sym (at_last r.layout c.args.class c.args.number r.notes.lists c.links.k c.links.invariant.left (omega (arith, c.links-test.false, c.owned_start-end.ensures.at)));
      same = c.links.invariant.same;
      cells = c.links.invariant.cells;
      touches =
          let f = c.links.invariant.left in
          (few_touched r.layout c.args.class c.args.number r.notes.lists c.links.k c.links.self.blocks.touches r.blocks.touches c.requires.kept.small.sets (omega (arith, f.1)) c.links.invariant.touches.0, c.links.invariant.touches.1);
      looked = omega (arith, c.links.invariant.touches.0, c.links.invariant.left.1);
    }
