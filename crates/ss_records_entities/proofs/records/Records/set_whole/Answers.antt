use Rattle.ss_records_entities.proofs.Common.{Integer, to_z-of_z, Whole}
use Rattle.ss_records_entities.proofs.Assigns.{found_first, found_second, found_kept, found_length, found_assigned, found_reads}
use Rattle.ss_records_entities.proofs.Still.{few_fields}
use Rattle.ss_records_entities.proofs.records.Records.set_whole.Goals as goal

pub value_start-k-requires : goal.value_start-k-requires
value_start-k-requires c = let r = c.args.self.now in few_fields r.layout c.args.class c.args.field _ c.requires.kept.small c.requires.mode

pub set_whole-requires : goal.set_whole-requires
set_whole-requires c =
    let r = c.args.self.now in let f = c.in-Ok.ensures.found in
    record {
      first = found_first r c.requires.kept c.args.class _ c.in-Ok.place f c.args.field c.value_start-k.result c.value_start-k.ensures.at Integer c.requires.mode;
      second = found_second r c.requires.kept c.args.class _ c.in-Ok.place f c.args.field c.value_start-k.result c.value_start-k.ensures.at Integer c.requires.mode;
    }

pub returns-in-Ok-clause-kept : goal.returns-in-Ok-clause-kept
returns-in-Ok-clause-kept c =
    let r = c.args.self.now in let f = c.in-Ok.ensures.found in
    found_kept r c.requires.kept c.args.class _ c.in-Ok.place f c.args.field c.value_start-k.result c.value_start-k.ensures.at _ c.requires.mode c.set_whole.new.blocks.cells c.set_whole.ensures.written

pub returns-in-Ok-clause-done : goal.returns-in-Ok-clause-done
returns-in-Ok-clause-done c =
    let r = c.args.self.now in let f = c.in-Ok.ensures.found in let fits = c.ranges.r in let few = c.ranges.n in let f = simp to_z-of_z at c.in-Ok.ensures.found in let w = simp to_z-of_z at c.set_whole.ensures.written in
    record { gives = found_assigned r c.requires.kept c.args.class c.args.r c.in-Ok.place f c.args.field c.value_start-k.result c.value_start-k.ensures.at (Whole c.args.n) c.requires.mode c.set_whole.new.blocks.cells w; reads = found_reads r c.requires.kept c.args.class c.args.r c.in-Ok.place f c.args.field c.value_start-k.result c.value_start-k.ensures.at (Whole c.args.n) c.requires.mode c.set_whole.new.blocks.cells w }

pub returns-in-Ok-clause-blocks : goal.returns-in-Ok-clause-blocks
returns-in-Ok-clause-blocks c =
    let r = c.args.self.now in let f = c.in-Ok.ensures.found in
    found_length r c.requires.kept c.args.class _ c.in-Ok.place f c.args.field c.value_start-k.result c.value_start-k.ensures.at _ c.requires.mode c.set_whole.new.blocks.cells c.set_whole.ensures.written
