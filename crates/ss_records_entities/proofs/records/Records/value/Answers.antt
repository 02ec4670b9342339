use Rattle.std.proofs.Common.{sym, ap, ◌∙◌, Ok, arith}
use Rattle.std.proofs.lemmas.Int.{to_z-of_z}
use Rattle.ss_records_entities.proofs.Assigns.{found_first, found_second, found_value}
use Rattle.ss_records_entities.proofs.Still.{few_fields}
use Rattle.ss_records_entities.proofs.records.Records.value.Goals as goal

pub value_start-k-requires : goal.value_start-k-requires
value_start-k-requires c = let r = c.args.self.now in few_fields r.layout c.args.class c.args.field c.mode-mode.result c.requires.kept.small c.mode-mode.ensures

pub value-requires : goal.value-requires
value-requires c =
    let r = c.args.self.now in let f = c.in-Ok.ensures.found in
    record {
      first = found_first r c.requires.kept c.args.class _ c.in-Ok.place f c.args.field c.value_start-k.result c.value_start-k.ensures.at c.mode-mode.result c.mode-mode.ensures;
      second = found_second r c.requires.kept c.args.class _ c.in-Ok.place f c.args.field c.value_start-k.result c.value_start-k.ensures.at c.mode-mode.result c.mode-mode.ensures;
      room = omega (arith, c.value_start-k.ensures.bound);
    }

pub returns-in-Ok : goal.returns-in-Ok
returns-in-Ok c =
    let r = c.args.self.now in let fits = c.ranges.r in let f = simp to_z-of_z at c.in-Ok.ensures.found in
    ap Ok c.value.ensures ∙ sym (found_value r c.requires.kept c.args.class c.args.r c.in-Ok.place f c.args.field c.value_start-k.result c.value_start-k.ensures.at c.mode-mode.result c.mode-mode.ensures)
