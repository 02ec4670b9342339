use Rattle.std.proofs.Common.{rules, ◌≡◌, ◌+◌, ◌≤◌, ◌<◌, ◌^◌, w64, to_z, of_z, refl, sym, ap, subst, ◌∙◌, arith}
use Rattle.std.proofs.lemmas.Int.{ints, of_z-to_z}
use Rattle.std.proofs.lemmas.Option.{none-some}
use Rattle.ss_records_entities.proofs.Common.{HasLink, IsKept, link, number, places, Records, state, state_of, word_at}
use Rattle.ss_records_entities.proofs.Looks.{beside_leads, beside_small, beside_free, beside_filed, beside_value, owner_leads, owner_small, owner_has}
use Rattle.ss_records_entities.proofs.Onward.{in_its, in_none, its_only}
use Rattle.ss_records_entities.proofs.Still.{kept_still, joins_still, base_room2, room_first, one_room, one_counted, two_counted, unmoved, reads_only}
use Rattle.ss_records_entities.proofs.Remembered.{beside_joins}
use Rattle.ss_records_entities.proofs.records.Records.neighbour.Goals as goal

pub member_base-base-requires : goal.member_base-base-requires
member_base-base-requires c = c.requires.set

pub beside-requires : goal.beside-requires
beside-requires c = omega (arith, c.member_base-base.ensures.bound)

pub follow-neighbour-requires-clause-leads : goal.follow-neighbour-requires-clause-leads
follow-neighbour-requires-clause-leads c =
    let r = c.args.self.now in let e = c.args.member in let b = c.member_base-base in
    let h = beside_leads r c.requires.kept c.args.s c.requires.set e c.requires.joins b.result b.ensures.at c.args.reverse in
    subst (λ k. HasLink r.blocks.cells e.place.at k) (sym c.beside.ensures) h

pub follow-neighbour-requires-clause-room : goal.follow-neighbour-requires-clause-room
follow-neighbour-requires-clause-room c = let b = c.args.self.now.blocks in room_first b.touches b.total 0 0 c.requires.touches

pub returns-then-neighbour-member : goal.returns-then-neighbour-member
returns-then-neighbour-member c =
    let r = c.args.self.now in let b = c.follow-neighbour.new.self in let f = c.follow-neighbour.ensures in
    let h = unmoved r (record r { blocks = b }) refl f.cells in
    let e = c.args.member in let base = c.member_base-base in let q = c.follow-neighbour.result in
    let w = subst (λ k. word_at r.blocks.cells e.place.at k ≡ link q.place.at) c.beside.ensures f.word in
    let free = beside_free r c.requires.kept c.args.s c.requires.set e c.requires.joins base.result base.ensures.at q f.there c.args.reverse w c.if-neighbour-member.true in
    record {
      found = tt;
      gone = λ zero none x j t. in_none r c.requires.kept c.args.s c.requires.set c.args.o x e.number free j t;
      kept = kept_still r (record r { blocks = b }) h c.requires.kept;
      same = ap state h;
      touches = one_counted r.blocks.touches r.blocks.total b.touches b.total c.requires.touches f.touches;
    }

pub overflow_add-base : goal.overflow_add-base
overflow_add-base c = base_room2 _ c.member_base-base.ensures.bound

pub follow-owner-requires : goal.follow-owner-requires
follow-owner-requires c =
    record {
      leads =
          let r = c.args.self.now in let e = c.args.member in let b = c.member_base-base in let q = c.follow-neighbour.result in
          let w = subst (λ k. word_at r.blocks.cells e.place.at k ≡ link q.place.at) c.beside.ensures c.follow-neighbour.ensures.word in let n = c.if-neighbour-member.false in
          let filed = beside_filed r c.requires.kept c.args.s c.requires.set e c.requires.joins b.result b.ensures.at q c.follow-neighbour.ensures.there n c.args.reverse w in
          rw c.follow-neighbour.ensures.cells (owner_leads r c.requires.kept c.args.s c.requires.set e c.requires.joins b.result b.ensures.at filed);
      room = let a = c.args.self.now.blocks in let b = c.follow-neighbour.new.self in one_room a.touches a.total b.touches b.total c.requires.touches c.follow-neighbour.ensures.touches;
    }

pub overflow_cast-owner : goal.overflow_cast-owner
overflow_cast-owner c =
    let r = c.args.self.now in let e = c.args.member in let b = c.member_base-base in let q = c.follow-neighbour.result in
    let w = subst (λ k. word_at r.blocks.cells e.place.at k ≡ link q.place.at) c.beside.ensures c.follow-neighbour.ensures.word in
    let n = c.if-neighbour-member.false in
    let filed = beside_filed r c.requires.kept c.args.s c.requires.set e c.requires.joins b.result b.ensures.at q c.follow-neighbour.ensures.there n c.args.reverse w in
    let cells = c.follow-neighbour.ensures.cells in let p = c.follow-owner.result in
    let u : word_at r.blocks.cells e.place.at (b.result + 2) ≡ link p.place.at = (λ i. word_at (sym cells i) e.place.at (b.result + 2)) ∙ c.follow-owner.ensures.word in
    let v : word_at r.blocks.cells p.place.at 1 ≡ number p.number = (λ i. word_at (sym cells i) p.place.at 1) ∙ c.follow-owner.ensures.there in
    let h = owner_small r c.requires.kept c.args.s c.requires.set e c.requires.joins b.result b.ensures.at filed p u v in
    omega (arith, ints, h)

pub returns-then-owner-o : goal.returns-then-owner-o
returns-then-owner-o c =
    let r = c.args.self.now in let b = c.follow-neighbour.new.self in let d = c.follow-owner.new.self in let f = c.follow-owner.ensures in
    let h = unmoved r (record r { blocks = d }) refl (f.cells ∙ c.follow-neighbour.ensures.cells) in
    let e = c.args.member in let base = c.member_base-base in let q = c.follow-neighbour.result in
    let w = subst (λ k. word_at r.blocks.cells e.place.at k ≡ link q.place.at) c.beside.ensures c.follow-neighbour.ensures.word in
    let filed = beside_filed r c.requires.kept c.args.s c.requires.set e c.requires.joins base.result base.ensures.at q c.follow-neighbour.ensures.there c.if-neighbour-member.false c.args.reverse w in
    let cells = c.follow-neighbour.ensures.cells in let p = c.follow-owner.result in
    let u : word_at r.blocks.cells e.place.at (base.result + 2) ≡ link p.place.at = (λ i. word_at (sym cells i) e.place.at (base.result + 2)) ∙ f.word in
    let v : word_at r.blocks.cells p.place.at 1 ≡ number p.number = (λ i. word_at (sym cells i) p.place.at 1) ∙ f.there in
    let small = owner_small r c.requires.kept c.args.s c.requires.set e c.requires.joins base.result base.ensures.at filed p u v in
    let fits : p.number < 2 ^ 64 = omega (arith, small) in
    record {
      found = tt;
      gone = λ zero none x j t.
          let is = its_only r c.requires.kept c.args.s c.requires.set e c.requires.joins base.result base.ensures.at filed p u v c.args.o x zero j t in
          c.if-owner-o.true (sym (of_z-to_z w64 p.number fits) ∙ ap (of_z w64) is);
      kept = kept_still r (record r { blocks = d }) h c.requires.kept;
      same = ap state h;
      touches = two_counted r.blocks.touches r.blocks.total b.touches b.total c.requires.touches c.follow-neighbour.ensures.touches d.touches d.total f.touches;
    }

pub pass-requires : goal.pass-requires
pass-requires c =
    let r = c.args.self.now in let q = record r { blocks = c.follow-owner.new.self } in
    record {
      kept = kept_still r q (unmoved r q refl (c.follow-owner.ensures.cells ∙ c.follow-neighbour.ensures.cells)) c.requires.kept;
      set = c.requires.set;
      joins = joins_still r q (unmoved r q refl (c.follow-owner.ensures.cells ∙ c.follow-neighbour.ensures.cells)) c.args.s c.args.member c.requires.joins;
      next =
          let e = c.args.member in let b = c.member_base-base in let q = c.follow-neighbour.result in let w = subst (λ k. word_at r.blocks.cells e.place.at k ≡ link q.place.at) c.beside.ensures c.follow-neighbour.ensures.word in
          let n = c.if-neighbour-member.false in let filed = beside_filed r c.requires.kept c.args.s c.requires.set e c.requires.joins b.result b.ensures.at q c.follow-neighbour.ensures.there n c.args.reverse w in
          let cells = c.follow-neighbour.ensures.cells in let p = c.follow-owner.result in let z = c.follow-owner.new.self in
          let u : word_at r.blocks.cells e.place.at (b.result + 2) ≡ link p.place.at = (λ i. word_at (sym cells i) e.place.at (b.result + 2)) ∙ c.follow-owner.ensures.word in
          let v : word_at r.blocks.cells p.place.at 1 ≡ number p.number = (λ i. word_at (sym cells i) p.place.at 1) ∙ c.follow-owner.ensures.there in
          let has = owner_has r c.requires.kept c.args.s c.requires.set e c.requires.joins b.result b.ensures.at filed p u v in
          let h = reads_only r z (c.follow-owner.ensures.cells ∙ cells) in
          λ some. joins_still r (record r { blocks = z }) h c.args.s q (beside_joins r c.requires.kept c.args.s c.requires.set e c.requires.joins b.result b.ensures.at p.number has.1 q c.follow-neighbour.ensures.there some c.args.reverse w);
    }

pub overflow_cast-result : goal.overflow_cast-result
overflow_cast-result c =
    let r = c.args.self.now in let e = c.args.member in let b = c.member_base-base in let q = c.follow-neighbour.result in
    let w = subst (λ k. word_at r.blocks.cells e.place.at k ≡ link q.place.at) c.beside.ensures c.follow-neighbour.ensures.word in
    let h = beside_small r c.requires.kept c.args.s c.requires.set e c.requires.joins b.result b.ensures.at q c.follow-neighbour.ensures.there c.args.reverse w in
    omega (arith, ints, h)

pub returns : goal.returns
returns c =
    let r = c.args.self.now in
    record {
      found =
          let e = c.args.member in let b = c.member_base-base in let q = c.follow-neighbour.result in let w = subst (λ k. word_at r.blocks.cells e.place.at k ≡ link q.place.at) c.beside.ensures c.follow-neighbour.ensures.word in
          let n = c.if-neighbour-member.false in let filed = beside_filed r c.requires.kept c.args.s c.requires.set e c.requires.joins b.result b.ensures.at q c.follow-neighbour.ensures.there n c.args.reverse w in
          let cells = c.follow-neighbour.ensures.cells in let p = c.follow-owner.result in
          let u : word_at r.blocks.cells e.place.at (b.result + 2) ≡ link p.place.at = (λ i. word_at (sym cells i) e.place.at (b.result + 2)) ∙ c.follow-owner.ensures.word in
          let v : word_at r.blocks.cells p.place.at 1 ≡ number p.number = (λ i. word_at (sym cells i) p.place.at 1) ∙ c.follow-owner.ensures.there in let fo = c.ranges.o in
          let back : to_z w64 (of_z w64 c.args.o) ≡ c.args.o = search rules in let is : to_z w64 p.number ≡ c.args.o = ap (to_z w64) c.if-owner-o.false ∙ back in
          λ x j. (
            in_its r c.requires.kept c.args.s c.requires.set e c.requires.joins b.result b.ensures.at filed p u v c.args.o x j is,
            beside_value r c.requires.kept c.args.s c.requires.set e c.requires.joins b.result b.ensures.at q c.follow-neighbour.ensures.there n c.args.reverse w x j,
          );
      gone = λ zero none. absurd (none-some _ (sym none));
      kept = let q = record r { blocks = c.follow-owner.new.self } in subst IsKept (sym c.pass.ensures) (kept_still r q (unmoved r q refl (c.follow-owner.ensures.cells ∙ c.follow-neighbour.ensures.cells)) c.requires.kept);
      same = ap (λ (z : Records). state z) c.pass.ensures ∙ ap (λ bs. state_of r.layout bs (places r) r.notes.lists) (c.follow-owner.ensures.cells ∙ c.follow-neighbour.ensures.cells);
      touches =
          let a = c.args.self.now.blocks in let b = c.follow-neighbour.new.self in let d = c.follow-owner.new.self in
          subst (λ (z : Records). (z.blocks.touches ≤ 2) × (z.blocks.total ≡ a.total + z.blocks.touches)) (sym c.pass.ensures)
          (two_counted a.touches a.total b.touches b.total c.requires.touches c.follow-neighbour.ensures.touches d.touches d.total c.follow-owner.ensures.touches);
    }
