use Rattle.std.proofs.Common.{◌≡◌, arith, refl, sym, ap, subst}
use Rattle.ss_records_entities.proofs.Common.{HasLink, ints, link, state, to_z-of_z, word_at}
use Rattle.ss_records_entities.proofs.Looks.{end_leads, end_small, end_value, no_end}
use Rattle.ss_records_entities.proofs.Still.{reads_only, kept_still, room_first, one_touch, no_touch}
use Rattle.ss_records_entities.proofs.records.Records.end.Goals as goal

pub owner-requires : goal.owner-requires
owner-requires c = record { kept = c.requires.kept; set = c.requires.set }

pub owner_base-base-requires : goal.owner_base-base-requires
owner_base-base-requires c = c.requires.set

pub follow-end-requires : goal.follow-end-requires
follow-end-requires c =
    let r = c.args.self.now in let e = c.in-Ok.owner in let base = c.owner_base-base in
    record {
      leads = subst (λ k. HasLink r.blocks.cells e.place.at k) (sym c.beside.ensures) (end_leads r c.requires.kept c.args.s c.requires.set e c.in-Ok.ensures.found.0 base.result base.ensures.at c.args.is_last);
      room = room_first r.blocks.touches r.blocks.total 0 0 c.requires.touches;
    }

pub overflow_cast-result : goal.overflow_cast-result
overflow_cast-result c =
    let r = c.args.self.now in let e = c.in-Ok.owner in let base = c.owner_base-base in let q = c.follow-end.result in
    let w = subst (λ k. word_at r.blocks.cells e.place.at k ≡ link q.place.at) c.beside.ensures c.follow-end.ensures.word in
    let h = end_small r c.requires.kept c.args.s c.requires.set e c.in-Ok.ensures.found.0 base.result base.ensures.at q c.follow-end.ensures.there c.args.is_last w in
    omega (arith, ints, h)

pub returns-in-Ok : goal.returns-in-Ok
returns-in-Ok c =
    let r = c.args.self.now in let b = c.follow-end.new.self in let h = reads_only r b c.follow-end.ensures.cells in
    record {
      value =
          let fits = c.ranges.o in let f = simp to_z-of_z at c.in-Ok.ensures.found in let e = c.in-Ok.owner in let base = c.owner_base-base in let q = c.follow-end.result in
          let w = subst (λ k. word_at r.blocks.cells e.place.at k ≡ link q.place.at) c.beside.ensures c.follow-end.ensures.word in
          end_value r c.requires.kept c.args.s c.requires.set e f.0 base.result base.ensures.at q c.follow-end.ensures.there c.args.is_last w c.args.o f.1;
      kept = kept_still r (record r { blocks = b }) h c.requires.kept;
      same = ap state h;
      touches = one_touch r.blocks.touches r.blocks.total b.touches b.total c.requires.touches c.follow-end.ensures.touches;
    }

pub returns-in-Err : goal.returns-in-Err
returns-in-Err c =
    let r = c.args.self.now in
    record {
      value = let fits = c.ranges.o in let f = simp to_z-of_z at c.in-Err.ensures.found in no_end c.args.is_last (state r) c.args.s c.args.o c.in-Err.fault f;
      kept = c.requires.kept;
      same = refl;
      touches = no_touch r.blocks.touches r.blocks.total 0 0 c.requires.touches 1 1;
    }
