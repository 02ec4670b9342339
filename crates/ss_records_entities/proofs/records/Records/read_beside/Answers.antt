use Rattle.std.proofs.Common.{◌≡◌, arith, refl, sym, subst}
use Rattle.ss_records_entities.proofs.Common.{HasLink, ints, link, state, to_z-of_z, word_at}
use Rattle.ss_records_entities.proofs.Looks.{none_beside, beside_leads, beside_fits, beside_is}
use Rattle.ss_records_entities.proofs.Still.{room_first, one_touch, no_touch}
use Rattle.ss_records_entities.proofs.records.Records.read_beside.Goals as goal

pub joiner-requires : goal.joiner-requires
joiner-requires c = record { kept = c.requires.kept; set = c.requires.set }

pub member_base-base-requires : goal.member_base-base-requires
member_base-base-requires c = c.requires.set

pub follow-next-requires : goal.follow-next-requires
follow-next-requires c =
    let r = c.args.self.now in let e = c.in-Ok.member in let base = c.member_base-base in
    record {
      leads = subst (λ k. HasLink r.blocks.cells e.place.at k) (sym c.beside.ensures) (beside_leads r c.requires.kept c.args.s c.requires.set e c.in-Ok.ensures.found.0 base.result base.ensures.at c.args.reverse);
      room = room_first r.blocks.touches r.blocks.total 0 0 c.requires.touches;
    }

pub overflow_cast-result : goal.overflow_cast-result
overflow_cast-result c =
    let r = c.args.self.now in let e = c.in-Ok.member in let base = c.member_base-base in let q = c.follow-next.result in let other = c.other_than in
    let w = subst (λ k. word_at r.blocks.cells e.place.at k ≡ link q.place.at) c.beside.ensures c.follow-next.ensures.word in
    let h = beside_fits r c.requires.kept c.args.s c.requires.set e c.in-Ok.ensures.found.0 base.result base.ensures.at q c.follow-next.ensures.there c.args.reverse w other.result other.ensures.same other.ensures.other in
    omega (arith, ints, h)

pub returns-in-Ok : goal.returns-in-Ok
returns-in-Ok c =
    let r = c.args.self.now in let b = c.follow-next.new.self in
    record {
      found =
          let fits = c.ranges.x in let f = simp to_z-of_z at c.in-Ok.ensures.found in let e = c.in-Ok.member in let base = c.member_base-base in let q = c.follow-next.result in let other = c.other_than in
          let w = subst (λ k. word_at r.blocks.cells e.place.at k ≡ link q.place.at) c.beside.ensures c.follow-next.ensures.word in
          (f.0, f.1, sym (beside_is r c.requires.kept c.args.s c.requires.set e f.0 base.result base.ensures.at q c.follow-next.ensures.there c.args.reverse w c.args.x other.result f.1 other.ensures.same other.ensures.other));
      same = refl;
      cells = c.follow-next.ensures.cells;
      touches = one_touch r.blocks.touches r.blocks.total b.touches b.total c.requires.touches c.follow-next.ensures.touches;
    }

pub returns-in-Err : goal.returns-in-Err
returns-in-Err c =
    let r = c.args.self.now in
    record {
      found = let fits = c.ranges.x in let f = simp to_z-of_z at c.in-Err.ensures.found in none_beside c.args.reverse (state r) c.args.s c.args.x c.in-Err.fault f;
      same = refl;
      cells = refl;
      touches = no_touch r.blocks.touches r.blocks.total 0 0 c.requires.touches 1 1;
    }
