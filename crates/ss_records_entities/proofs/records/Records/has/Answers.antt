use Rattle.std.proofs.Common.{refl, ap}
use Rattle.ss_records_entities.proofs.Common.{state, to_z-of_z}
use Rattle.ss_records_entities.proofs.Still.{kept_still, at_first, unmoved}
use Rattle.ss_records_entities.proofs.Ends.{tested, untested, untouched, two_at_most}
use Rattle.ss_records_entities.proofs.records.Records.has.Goals as goal

pub pair-requires : goal.pair-requires
pair-requires c = record { kept = c.requires.kept; set = c.requires.set }

pub is_in-requires : goal.is_in-requires
is_in-requires c =
    record {
      kept = c.requires.kept;
      set = c.requires.set;
      owns = c.in-Ok.ensures.found.0;
      joins = c.in-Ok.ensures.found.1;
      touches = let r = c.args.self.now in at_first r.blocks.touches r.blocks.total 0 0 c.requires.touches;
    }

pub returns-in-Ok : goal.returns-in-Ok
returns-in-Ok c =
    let r = c.args.self.now in
    record {
      value = let fo = c.ranges.o in let fx = c.ranges.x in let f = simp to_z-of_z at c.in-Ok.ensures.found in tested (state r) c.args.s c.args.o c.args.x _ _ c.is_in.result f.2 f.3 c.is_in.ensures.value;
      kept = kept_still r c.is_in.new.self (unmoved r c.is_in.new.self c.is_in.ensures.same c.is_in.ensures.cells) c.requires.kept;
      same = ap state (unmoved c.args.self.now c.is_in.new.self c.is_in.ensures.same c.is_in.ensures.cells);
      touches = let p = c.is_in.new.self in two_at_most r.blocks.touches r.blocks.total c.requires.touches p.blocks.touches p.blocks.total c.is_in.ensures.touches;
    }

pub returns-in-Err : goal.returns-in-Err
returns-in-Err c =
    record {
      value = let fo = c.ranges.o in let fx = c.ranges.x in let f = simp to_z-of_z at c.in-Err.ensures.found in untested (state c.args.self.now) c.args.s c.args.o c.args.x c.in-Err.fault f;
      kept = c.requires.kept;
      same = refl;
      touches = let r = c.args.self.now in untouched r.blocks.touches r.blocks.total c.requires.touches 2;
    }
