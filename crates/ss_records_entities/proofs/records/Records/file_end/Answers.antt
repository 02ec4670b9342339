use Rattle.std.proofs.Common.{refl, ap, arith}
use Rattle.ss_records_entities.proofs.Common.{false_is_not_true, state, to_z-of_z}
use Rattle.ss_records_entities.proofs.Cuts.{end_tried, end_failed}
use Rattle.ss_records_entities.proofs.Still.{kept_still, unmoved}
use Rattle.ss_records_entities.proofs.records.Records.file_end.Goals as goal

pub pair-requires : goal.pair-requires
pair-requires c = record { kept = c.requires.kept; set = c.requires.set }

pub put_end-requires : goal.put_end-requires
put_end-requires c = record { kept = c.requires.kept; set = c.requires.set; owns = c.in-Ok.ensures.found.0; joins = c.in-Ok.ensures.found.1 }

pub returns-in-Ok-clause-done : goal.returns-in-Ok-clause-done
returns-in-Ok-clause-done c =
    let fo = c.ranges.o in let fx = c.ranges.x in let f = simp to_z-of_z at c.in-Ok.ensures.found in
    end_tried (state c.args.self.now) c.args.s c.args.o c.args.x _ _ f.2 f.3 c.args.is_last (state c.put_end.new.self) c.put_end.result c.put_end.ensures.done

pub returns-in-Err : goal.returns-in-Err
returns-in-Err c =
    let r = c.args.self.now in
    record {
      kept = let q = record r { blocks = c.start.new.self } in kept_still r q (unmoved r q refl c.start.ensures.cells) c.requires.kept;
      done =
          let fo = c.ranges.o in let fx = c.ranges.x in let f = simp to_z-of_z at c.in-Err.ensures.found in
          (end_failed c.args.is_last (state r) c.args.s c.args.o c.args.x c.in-Err.fault f, ap state (unmoved r (record r { blocks = c.start.new.self }) refl c.start.ensures.cells));
      touches = let f = c.start.ensures.touches in (omega (arith, f.0), λ e. absurd (false_is_not_true e), omega (arith, f.0, f.1));
    }
