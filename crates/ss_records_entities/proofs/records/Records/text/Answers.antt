use Rattle.std.proofs.Common.{sym, ap, ◌∙◌, Ok, arith}
use Rattle.ss_records_entities.proofs.Common.{Alpha, to_z-of_z}
use Rattle.ss_records_entities.proofs.Assigns.{found_first, found_second, found_value}
use Rattle.ss_records_entities.proofs.Still.{few_fields}
use Rattle.ss_records_entities.proofs.records.Records.text.Goals as goal

pub value_start-k-requires : goal.value_start-k-requires
value_start-k-requires c = let r = c.args.self.now in few_fields r.layout c.args.class c.args.field Alpha c.requires.kept.small c.requires.mode

pub text-requires : goal.text-requires
text-requires c =
    let r = c.args.self.now in let f = c.in-Ok.ensures.found in
    record {
      first = found_first r c.requires.kept c.args.class _ c.in-Ok.place f c.args.field c.value_start-k.result c.value_start-k.ensures.at Alpha c.requires.mode;
      second = found_second r c.requires.kept c.args.class _ c.in-Ok.place f c.args.field c.value_start-k.result c.value_start-k.ensures.at Alpha c.requires.mode;
      room = omega (arith, c.value_start-k.ensures.bound);
    }

pub returns-in-Ok : goal.returns-in-Ok
returns-in-Ok c =
    let r = c.args.self.now in let fits = c.ranges.r in let f = simp to_z-of_z at c.in-Ok.ensures.found in
    found_value r c.requires.kept c.args.class c.args.r c.in-Ok.place f c.args.field c.value_start-k.result c.value_start-k.ensures.at Alpha c.requires.mode
    ∙ ap Ok (sym c.text.ensures)
