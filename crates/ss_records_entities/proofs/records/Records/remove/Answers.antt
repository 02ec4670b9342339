use Rattle.std.proofs.Common.{◌≡◌, true, refl, sym, ap, ◌∙◌}
use Rattle.ss_records_entities.proofs.Common.{less, members_of, Records, state, taken_out, to_z-of_z, uncounted, with_list_of}
use Rattle.ss_records_entities.proofs.Cuts.{not_out, out_done}
use Rattle.ss_records_entities.proofs.Still.{kept_still, set_still, owns_still, joins_still, listed_still, at_first, two_refused, two_few, two_then_nine, no_touch, unmoved}
use Rattle.ss_records_entities.proofs.records.Records.remove.Goals as goal

pub pair-requires : goal.pair-requires
pair-requires c = record { kept = c.requires.kept; set = c.requires.set }

pub is_in-requires : goal.is_in-requires
is_in-requires c =
    record {
      kept = c.requires.kept;
      set = c.requires.set;
      owns = c.in-Ok.ensures.found.0;
      joins = c.in-Ok.ensures.found.1;
      touches = let r = c.args.self.now in at_first r.blocks.touches r.blocks.total 0 0 c.requires.touches;
    }

pub returns-then-not-is_in : goal.returns-then-not-is_in
returns-then-not-is_in c =
    let r = c.args.self.now in let p = c.is_in.new.self in let h : uncounted p ≡ uncounted r = unmoved r p c.is_in.ensures.same c.is_in.ensures.cells in
    record {
      kept = kept_still r p h c.requires.kept;
      done =
          let fo = c.ranges.o in let fx = c.ranges.x in let f = simp to_z-of_z at c.in-Ok.ensures.found in
          (not_out (state r) c.args.s c.args.o c.args.x _ _ f.2 f.3 (sym c.is_in.ensures.value ∙ c.if-not-is_in.true), ap state h);
      touches = two_refused r.blocks.touches r.blocks.total p.blocks.touches p.blocks.total c.requires.touches c.is_in.ensures.touches;
    }

pub cut_out-requires : goal.cut_out-requires
cut_out-requires c =
    let r = c.args.self.now in let p = c.is_in.new.self in let pair = c.in-Ok.pair in let h : uncounted p ≡ uncounted r = unmoved r p c.is_in.ensures.same c.is_in.ensures.cells in
    record {
      kept = kept_still r p h c.requires.kept;
      set = set_still r p h c.args.s c.requires.set;
      owns = owns_still r p h c.args.s pair.owner c.in-Ok.ensures.found.0;
      joins = joins_still r p h c.args.s pair.x c.in-Ok.ensures.found.1;
      there = listed_still r p h c.args.s pair.owner.number pair.x.number true (sym c.is_in.ensures.value ∙ c.if-not-is_in.false);
      touches = two_few r.blocks.touches r.blocks.total p.blocks.touches p.blocks.total c.requires.touches c.is_in.ensures.touches;
    }

pub returns-else-not-is_in : goal.returns-else-not-is_in
returns-else-not-is_in c =
    let r = c.args.self.now in let p = c.is_in.new.self in let new = c.cut_out.new.self in
    record {
      kept = c.cut_out.ensures.kept;
      done =
          let fo = c.ranges.o in let fx = c.ranges.x in let f = simp to_z-of_z at c.in-Ok.ensures.found in let o = c.in-Ok.pair.owner.number in let x = c.in-Ok.pair.x.number in
          let h : uncounted p ≡ uncounted r = unmoved r p c.is_in.ensures.same c.is_in.ensures.cells in
          out_done (state r) c.args.s c.args.o c.args.x _ _ f.2 f.3 (state new) (sym c.is_in.ensures.value ∙ c.if-not-is_in.false)
          (c.cut_out.ensures.done ∙ ap (λ (z : Records). with_list_of (state z) c.args.s o (less x (members_of z.notes.lists c.args.s o))) h);
      touches = two_then_nine r.blocks.touches r.blocks.total p.blocks.touches p.blocks.total c.requires.touches c.is_in.ensures.touches new.blocks.touches new.blocks.total c.cut_out.ensures.touches;
    }

pub returns-in-Err : goal.returns-in-Err
returns-in-Err c =
    record {
      kept = c.requires.kept;
      done = let fo = c.ranges.o in let fx = c.ranges.x in let f = simp to_z-of_z at c.in-Err.ensures.found in (f (λ n m. taken_out (state c.args.self.now) c.args.s m n), refl);
      touches = let r = c.args.self.now in no_touch r.blocks.touches r.blocks.total 0 0 c.requires.touches 12 4;
    }
