use Rattle.std.proofs.Common.{◌≡◌, ◌+◌, ◌∷◌, ◌++◌, true, false, refl, sym, ap, subst, ◌∙◌}
use Rattle.std.specs.Prelude.{if◌then◌else◌}
use Rattle.ss_records_entities.proofs.Common.{HasLink, link, number, State, state, to_z-of_z, uncounted, with_list_of, word_at}
use Rattle.ss_records_entities.proofs.Files.{looked, still_between}
use Rattle.ss_records_entities.proofs.Cuts.{front, back, beside_found, beside_it, list_beside, beside_twice, not_beside, beside_done, beside_failed}
use Rattle.ss_records_entities.proofs.Still.{kept_still, set_still, owns_still, joins_still, free_still, listed_still, at_start, one_refused, one_few, then_refused, then_room, then_few, then_linked, no_touch, unmoved}
use Rattle.ss_records_entities.proofs.records.Records.file_beside.Goals as goal

pub triple-requires : goal.triple-requires
triple-requires c = record { kept = c.requires.kept; set = c.requires.set }

pub member_base-base-requires : goal.member_base-base-requires
member_base-base-requires c = c.requires.set

pub is_filed-requires : goal.is_filed-requires
is_filed-requires c =
    record {
      kept = c.requires.kept;
      set = c.requires.set;
      joins = c.in-Ok.ensures.found.1;
      touches = let r = c.args.self.now in at_start r.blocks.touches r.blocks.total 0 0 c.requires.touches;
    }

pub returns-then-is_filed : goal.returns-then-is_filed
returns-then-is_filed c =
    let r = c.args.self.now in let p1 = c.is_filed.new.self in let h1 : uncounted p1 ≡ uncounted r = unmoved r p1 c.is_filed.ensures.same c.is_filed.ensures.cells in
    record {
      kept = kept_still r p1 h1 c.requires.kept;
      done =
          let fo = c.ranges.o in let fx = c.ranges.x in let fy = c.ranges.y in let f = simp to_z-of_z at c.in-Ok.ensures.found in
          (beside_twice (state r) c.args.s c.args.o c.args.x _ _ f.3 f.5 c.args.y _ f.4 c.args.is_before (sym c.is_filed.ensures.value ∙ c.if-is_filed.true), ap state h1);
      touches = one_refused r.blocks.touches r.blocks.total p1.blocks.touches p1.blocks.total c.requires.touches c.is_filed.ensures.touches;
    }

pub is_in-requires : goal.is_in-requires
is_in-requires c =
    let r = c.args.self.now in let p1 = c.is_filed.new.self in let h1 : uncounted p1 ≡ uncounted r = unmoved r p1 c.is_filed.ensures.same c.is_filed.ensures.cells in
    record {
      kept = kept_still r p1 h1 c.requires.kept;
      set = set_still r p1 h1 c.args.s c.requires.set;
      owns = owns_still r p1 h1 c.args.s c.in-Ok.triple.owner c.in-Ok.ensures.found.0;
      joins = joins_still r p1 h1 c.args.s c.in-Ok.triple.y c.in-Ok.ensures.found.2;
      touches = one_few r.blocks.touches r.blocks.total p1.blocks.touches p1.blocks.total c.requires.touches c.is_filed.ensures.touches;
    }

pub returns-then-not-is_in : goal.returns-then-not-is_in
returns-then-not-is_in c =
    let r = c.args.self.now in let p1 = c.is_filed.new.self in let p = c.is_in.new.self in
    let h1 : uncounted p1 ≡ uncounted r = unmoved r p1 c.is_filed.ensures.same c.is_filed.ensures.cells in
    let h : uncounted p ≡ uncounted r = unmoved p1 p c.is_in.ensures.same c.is_in.ensures.cells ∙ h1 in
    record {
      kept = kept_still r p h c.requires.kept;
      done =
          let fo = c.ranges.o in let fx = c.ranges.x in let fy = c.ranges.y in let f = simp to_z-of_z at c.in-Ok.ensures.found in
          let triple = c.in-Ok.triple in let out = listed_still p1 r (sym h1) c.args.s triple.owner.number triple.y.number false (sym c.is_in.ensures.value ∙ c.if-not-is_in.true) in
          (not_beside (state r) c.args.s c.args.o c.args.x _ _ f.3 f.5 c.args.y _ f.4 c.args.is_before (sym c.is_filed.ensures.value ∙ c.if-is_filed.false) out, ap state h);
      touches = then_refused r.blocks.touches r.blocks.total p1.blocks.touches p1.blocks.total c.requires.touches c.is_filed.ensures.touches p.blocks.touches p.blocks.total c.is_in.ensures.touches;
    }

pub follow-neighbour-requires : goal.follow-neighbour-requires
follow-neighbour-requires c =
    let r = c.args.self.now in let triple = c.in-Ok.triple in let o = triple.owner.number in let y = triple.y in let j = c.in-Ok.ensures.found.2 in let base = c.member_base-base in
    let p1 = c.is_filed.new.self in let p = c.is_in.new.self in
    let h1 : uncounted p1 ≡ uncounted r = unmoved r p1 c.is_filed.ensures.same c.is_filed.ensures.cells in
    record {
      leads =
          let there = listed_still p1 r (sym h1) c.args.s o y.number true (sym c.is_in.ensures.value ∙ c.if-not-is_in.false) in let cells : p.blocks.cells ≡ r.blocks.cells = c.is_in.ensures.cells ∙ c.is_filed.ensures.cells in
          rw cells (subst (λ k. HasLink r.blocks.cells y.place.at k) (sym c.beside-word.ensures) (beside_found r c.requires.kept c.args.s c.requires.set y j base.result base.ensures.at o there c.args.is_before));
      room = then_room r.blocks.touches r.blocks.total p1.blocks.touches p1.blocks.total c.requires.touches c.is_filed.ensures.touches p.blocks.touches p.blocks.total c.is_in.ensures.touches;
    }

pub link_in-requires : goal.link_in-requires
link_in-requires c =
    let r = c.args.self.now in let triple = c.in-Ok.triple in let o = triple.owner.number in let y = triple.y in let j = c.in-Ok.ensures.found.2 in let base = c.member_base-base in
    let p1 = c.is_filed.new.self in let p = c.is_in.new.self in
    let h1 : uncounted p1 ≡ uncounted r = unmoved r p1 c.is_filed.ensures.same c.is_filed.ensures.cells in
    let b = c.follow-neighbour.new.self in let q = c.follow-neighbour.result in let gap = c.gap_beside-gap in
    let h : uncounted (record p { blocks = b }) ≡ uncounted r = looked p1 p b c.is_in.ensures.same c.is_in.ensures.cells c.follow-neighbour.ensures.cells ∙ h1 in
    record {
      kept = kept_still r (record p { blocks = b }) h c.requires.kept;
      set = set_still r (record p { blocks = b }) h c.args.s c.requires.set;
      owns = owns_still r (record p { blocks = b }) h c.args.s triple.owner c.in-Ok.ensures.found.0;
      joins = joins_still r (record p { blocks = b }) h c.args.s triple.x c.in-Ok.ensures.found.1;
      free = free_still r (record p { blocks = b }) h c.args.s triple.x.number (sym c.is_filed.ensures.value ∙ c.if-is_filed.false);
      between =
          let there = listed_still p1 r (sym h1) c.args.s o y.number true (sym c.is_in.ensures.value ∙ c.if-not-is_in.false) in let cells : p.blocks.cells ≡ r.blocks.cells = c.is_in.ensures.cells ∙ c.is_filed.ensures.cells in
          let xs = front r c.requires.kept c.args.s c.requires.set y j base.result base.ensures.at o there c.args.is_before in let ys = back r c.requires.kept c.args.s c.requires.set y j base.result base.ensures.at o there c.args.is_before in
          let w : word_at r.blocks.cells y.place.at (if c.args.is_before then base.result + 1 else base.result) ≡ link q.place.at = (λ i. word_at (sym cells i) y.place.at (sym c.beside-word.ensures i)) ∙ c.follow-neighbour.ensures.word in
          let v : word_at r.blocks.cells q.place.at 1 ≡ number q.number = (λ i. word_at (sym cells i) q.place.at 1) ∙ c.follow-neighbour.ensures.there in
          let between = still_between r (record p { blocks = b }) c.args.s o (if c.args.is_before then q else y) (if c.args.is_before then y else q) xs ys h (beside_it r c.requires.kept c.args.s c.requires.set y j base.result base.ensures.at o there c.args.is_before q w v) in
          (xs, ys, rw (gap.ensures.before, gap.ensures.after) between);
      touches = then_few r.blocks.touches r.blocks.total p1.blocks.touches p1.blocks.total c.requires.touches c.is_filed.ensures.touches p.blocks.touches p.blocks.total c.is_in.ensures.touches b.touches b.total c.follow-neighbour.ensures.touches;
    }

pub returns-else-not-is_in : goal.returns-else-not-is_in
returns-else-not-is_in c =
    let r = c.args.self.now in let triple = c.in-Ok.triple in let o = triple.owner.number in let y = triple.y in let j = c.in-Ok.ensures.found.2 in let base = c.member_base-base in
    let p1 = c.is_filed.new.self in let p = c.is_in.new.self in
    let h1 : uncounted p1 ≡ uncounted r = unmoved r p1 c.is_filed.ensures.same c.is_filed.ensures.cells in
    let b = c.follow-neighbour.new.self in let q = c.follow-neighbour.result in let gap = c.gap_beside-gap in
    let h : uncounted (record p { blocks = b }) ≡ uncounted r = looked p1 p b c.is_in.ensures.same c.is_in.ensures.cells c.follow-neighbour.ensures.cells ∙ h1 in
    record {
      kept = c.link_in.ensures.kept;
      done =
          let fo = c.ranges.o in let fx = c.ranges.x in let fy = c.ranges.y in let f = simp to_z-of_z at c.in-Ok.ensures.found in
          let there = listed_still p1 r (sym h1) c.args.s o y.number true (sym c.is_in.ensures.value ∙ c.if-not-is_in.false) in let cells : p.blocks.cells ≡ r.blocks.cells = c.is_in.ensures.cells ∙ c.is_filed.ensures.cells in
          let xs = front r c.requires.kept c.args.s c.requires.set y j base.result base.ensures.at o there c.args.is_before in let ys = back r c.requires.kept c.args.s c.requires.set y j base.result base.ensures.at o there c.args.is_before in
          let w : word_at r.blocks.cells y.place.at (if c.args.is_before then base.result + 1 else base.result) ≡ link q.place.at = (λ i. word_at (sym cells i) y.place.at (sym c.beside-word.ensures i)) ∙ c.follow-neighbour.ensures.word in
          let v : word_at r.blocks.cells q.place.at 1 ≡ number q.number = (λ i. word_at (sym cells i) q.place.at 1) ∙ c.follow-neighbour.ensures.there in
          let between = still_between r (record p { blocks = b }) c.args.s o (if c.args.is_before then q else y) (if c.args.is_before then y else q) xs ys h (beside_it r c.requires.kept c.args.s c.requires.set y j base.result base.ensures.at o there c.args.is_before q w v) in
          let done = c.link_in.ensures.done xs ys (rw (gap.ensures.before, gap.ensures.after) between) in
          beside_done (state r) c.args.s c.args.o c.args.x _ _ f.3 f.5 c.args.y _ f.4 c.args.is_before (state c.link_in.new.self) (sym c.is_filed.ensures.value ∙ c.if-is_filed.false) there
          (done ∙ ap (λ (z : State). with_list_of z c.args.s o (xs ++ triple.x.number ∷ ys)) (ap state h) ∙ ap (with_list_of (state r) c.args.s o) (list_beside r c.requires.kept c.args.s c.requires.set y j base.result base.ensures.at o there c.args.is_before triple.x.number));
      touches =
          let z = c.link_in.new.self in
          then_linked r.blocks.touches r.blocks.total p1.blocks.touches p1.blocks.total c.requires.touches c.is_filed.ensures.touches p.blocks.touches p.blocks.total c.is_in.ensures.touches b.touches b.total z.blocks.touches z.blocks.total c.follow-neighbour.ensures.touches c.link_in.ensures.touches;
    }

pub returns-in-Err : goal.returns-in-Err
returns-in-Err c =
    record {
      kept = c.requires.kept;
      done =
          let fo = c.ranges.o in let fx = c.ranges.x in let fy = c.ranges.y in let f = simp to_z-of_z at c.in-Err.ensures.found in
          (beside_failed c.args.is_before (state c.args.self.now) c.args.s c.args.o c.args.x c.args.y c.in-Err.fault f, refl);
      touches = let r = c.args.self.now in no_touch r.blocks.touches r.blocks.total 0 0 c.requires.touches 12 4;
    }
