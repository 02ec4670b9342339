use Rattle.std.proofs.Common.{rules, ◌≡◌, w64, to_z, of_z, refl, sym, ap, subst, ◌∙◌, Ok}
use Rattle.std.specs.Prelude.{pos, if◌then◌else◌, slice_index_or}
use Rattle.ss_records_entities.proofs.Common.{and_then, Integer, IsValuePut, to_z-of_z, Whole}
use Rattle.ss_base.specs.Arithmetic.{plus_of, minus_of}
use Rattle.ss_records_entities.specs.Attributes.{changed_number}
use Rattle.ss_records_entities.proofs.Assigns.{found_first, found_second, found_value, found_kept, found_length, found_assigned, found_reads}
use Rattle.ss_records_entities.proofs.Still.{few_fields}
use Rattle.ss_records_entities.proofs.records.Records.change_whole.Goals as goal

pub value_start-k-requires : goal.value_start-k-requires
value_start-k-requires c = let r = c.args.self.now in few_fields r.layout c.args.class c.args.field Integer c.requires.kept.small c.requires.mode

pub whole-requires : goal.whole-requires
whole-requires c =
    let r = c.args.self.now in let f = c.in-Ok.ensures.found in
    found_first r c.requires.kept c.args.class _ c.in-Ok.place f c.args.field c.value_start-k.result c.value_start-k.ensures.at Integer c.requires.mode

pub set_whole-requires : goal.set_whole-requires
set_whole-requires c =
    let r = c.args.self.now in let f = c.in-Ok.ensures.found in
    record {
      first = found_first r c.requires.kept c.args.class _ c.in-Ok.place f c.args.field c.value_start-k.result c.value_start-k.ensures.at Integer c.requires.mode;
      second = found_second r c.requires.kept c.args.class _ c.in-Ok.place f c.args.field c.value_start-k.result c.value_start-k.ensures.at Integer c.requires.mode;
    }

pub returns-in-Ok-changed-clause-kept : goal.returns-in-Ok-changed-clause-kept
returns-in-Ok-changed-clause-kept c =
    let r = c.args.self.now in let f = c.in-Ok.ensures.found in
    found_kept r c.requires.kept c.args.class _ c.in-Ok.place f c.args.field c.value_start-k.result c.value_start-k.ensures.at _ c.requires.mode c.set_whole.new.blocks.cells c.set_whole.ensures.written

pub returns-in-Ok-changed-clause-done : goal.returns-in-Ok-changed-clause-done
returns-in-Ok-changed-clause-done c =
    let r = c.args.self.now in let f = c.in-Ok.ensures.found in let fits = c.ranges.r in let f = simp to_z-of_z at c.in-Ok.ensures.found in let before : to_z w64 (of_z w64 c.whole.result) ≡ c.whole.result = search rules in
    let change = if c.args.subtract then minus_of else plus_of in let by : to_z w64 (of_z w64 c.args.n) ≡ c.args.n = search rules in
    let changed : to_z w64 (of_z w64 c.in-Ok-changed.number) ≡ c.in-Ok-changed.number = search rules in
    let written = subst (λ z. IsValuePut r.blocks.cells c.set_whole.new.blocks.cells c.in-Ok.place.at c.value_start-k.result (Whole z)) changed c.set_whole.ensures.written in
    let read = found_value r c.requires.kept c.args.class c.args.r c.in-Ok.place f c.args.field c.value_start-k.result c.value_start-k.ensures.at Integer c.requires.mode ∙ ap Ok (sym c.whole.ensures) in
    record {
      number = c.in-Ok-changed.number;
      makes = ap (changed_number (λ z. change z c.args.n)) read ∙ (λ i. change (sym before i) (sym by i)) ∙ sym c.in-Ok-changed.ensures;
      is = record {
        gives = found_assigned r c.requires.kept c.args.class c.args.r c.in-Ok.place f c.args.field c.value_start-k.result c.value_start-k.ensures.at (Whole c.in-Ok-changed.number) c.requires.mode c.set_whole.new.blocks.cells written;
        reads = found_reads r c.requires.kept c.args.class c.args.r c.in-Ok.place f c.args.field c.value_start-k.result c.value_start-k.ensures.at (Whole c.in-Ok-changed.number) c.requires.mode c.set_whole.new.blocks.cells written;
      };
    }

pub returns-in-Ok-changed-clause-blocks : goal.returns-in-Ok-changed-clause-blocks
returns-in-Ok-changed-clause-blocks c =
    let r = c.args.self.now in let f = c.in-Ok.ensures.found in
    found_length r c.requires.kept c.args.class _ c.in-Ok.place f c.args.field c.value_start-k.result c.value_start-k.ensures.at _ c.requires.mode c.set_whole.new.blocks.cells c.set_whole.ensures.written

-- the number does not fit
pub returns-in-Err-changed-clause-done : goal.returns-in-Err-changed-clause-done
returns-in-Err-changed-clause-done c =
    let r = c.args.self.now in let fits = c.ranges.r in let f = simp to_z-of_z at c.in-Ok.ensures.found in
    let before : to_z w64 (of_z w64 c.whole.result) ≡ c.whole.result = search rules in
    let change = if c.args.subtract then minus_of else plus_of in let by : to_z w64 (of_z w64 c.args.n) ≡ c.args.n = search rules in
    let read = found_value r c.requires.kept c.args.class c.args.r c.in-Ok.place f c.args.field c.value_start-k.result c.value_start-k.ensures.at Integer c.requires.mode ∙ ap Ok (sym c.whole.ensures) in
    (ap (changed_number (λ z. change z c.args.n)) read ∙ (λ i. change (sym before i) (sym by i)) ∙ sym c.in-Err-changed.ensures, refl)

-- there is no such entity
pub returns-in-Err-clause-done : goal.returns-in-Err-clause-done
returns-in-Err-clause-done c =
    let fits = c.ranges.r in let f = simp to_z-of_z at c.in-Err.ensures.found in
    (ap (λ q. changed_number (λ z. (if c.args.subtract then minus_of else plus_of) z c.args.n) (and_then q (λ q. Ok (slice_index_or q.values c.args.field (Whole (pos 0)))))) f, refl)
