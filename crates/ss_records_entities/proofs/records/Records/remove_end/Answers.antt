use Rattle.std.proofs.Common.{refl, ap, arith}
use Rattle.ss_records_entities.proofs.Common.{state, to_z-of_z}
use Rattle.ss_records_entities.proofs.Ends.{drawn, end_refused}
use Rattle.ss_records_entities.proofs.Still.{kept_still, unmoved}
use Rattle.ss_records_entities.proofs.records.Records.remove_end.Goals as goal

pub owner-requires : goal.owner-requires
owner-requires c = record { kept = c.requires.kept; set = c.requires.set }

pub draw_end-requires : goal.draw_end-requires
draw_end-requires c = record { kept = c.requires.kept; set = c.requires.set; owns = c.in-Ok.ensures.found.0 }

pub returns-in-Ok-clause-done : goal.returns-in-Ok-clause-done
returns-in-Ok-clause-done c =
    let fo = c.ranges.o in let f = simp to_z-of_z at c.in-Ok.ensures.found in
    drawn c.args.is_last (state c.args.self.now) (state c.draw_end.new.self) c.args.s _ c.args.o f.1 c.draw_end.result c.draw_end.ensures.done

pub returns-in-Err : goal.returns-in-Err
returns-in-Err c =
    let r = c.args.self.now in
    record {
      kept = let q = record r { blocks = c.start.new.self } in kept_still r q (unmoved r q refl c.start.ensures.cells) c.requires.kept;
      done = let fits = c.ranges.o in let t = simp to_z-of_z at c.in-Err.ensures.found in (end_refused c.args.is_last (state r) c.args.s c.args.o c.in-Err.fault t, ap state (unmoved r (record r { blocks = c.start.new.self }) refl c.start.ensures.cells));
      touches = let f = c.start.ensures.touches in (omega (arith, f.0), omega (arith, f.0, f.1));
    }
