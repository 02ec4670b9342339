use Rattle.std.proofs.lemmas.Int.{to_z-of_z}
use Rattle.ss_records_entities.proofs.Assigns.{found_first, found_second, found_kept, found_length, found_assigned}
use Rattle.std.proofs.Common.{refl, arith}
use Rattle.ss_records_entities.proofs.Still.{few_fields}
use Rattle.ss_records_entities.proofs.records.Records.set_value.Goals as goal

pub value_start-k-requires : goal.value_start-k-requires
value_start-k-requires c = let r = c.args.self.now in few_fields r.layout c.args.class c.args.field _ c.requires.kept.small c.requires.mode

pub set_value-requires : goal.set_value-requires
set_value-requires c =
    let r = c.args.self.now in let f = c.in-Ok.ensures.found in
    record {
      first = found_first r c.requires.kept c.args.class _ c.in-Ok.place f c.args.field c.value_start-k.result c.value_start-k.ensures.at _ c.requires.mode;
      second = found_second r c.requires.kept c.args.class _ c.in-Ok.place f c.args.field c.value_start-k.result c.value_start-k.ensures.at _ c.requires.mode;
      room = omega (arith, c.value_start-k.ensures.bound);
    }

pub returns-in-Ok : goal.returns-in-Ok
returns-in-Ok c =
    let r = c.args.self.now in let f = c.in-Ok.ensures.found in
    record {
      kept = found_kept r c.requires.kept c.args.class _ c.in-Ok.place f c.args.field c.value_start-k.result c.value_start-k.ensures.at c.args.value c.requires.mode c.set_value.new.blocks.cells c.set_value.ensures.written;
      done =
          let fits = c.ranges.r in let f = simp to_z-of_z at c.in-Ok.ensures.found in
          found_assigned r c.requires.kept c.args.class c.args.r c.in-Ok.place f c.args.field c.value_start-k.result c.value_start-k.ensures.at c.args.value c.requires.mode c.set_value.new.blocks.cells c.set_value.ensures.written;
      touches = c.set_value.ensures.touches;
      blocks = found_length r c.requires.kept c.args.class _ c.in-Ok.place f c.args.field c.value_start-k.result c.value_start-k.ensures.at c.args.value c.requires.mode c.set_value.new.blocks.cells c.set_value.ensures.written;
    }

pub find-requires : goal.find-requires
find-requires c = record { kept = c.requires.kept; class = c.requires.class }

pub returns-in-Err-clause-kept : goal.returns-in-Err-clause-kept
returns-in-Err-clause-kept c = c.requires.kept

pub returns-in-Err-clause-touches : goal.returns-in-Err-clause-touches
returns-in-Err-clause-touches c = (refl, refl)

pub returns-in-Err-clause-blocks : goal.returns-in-Err-clause-blocks
returns-in-Err-clause-blocks c = refl
