use Rattle.std.proofs.Common.{◌≡◌, ap, ◌∙◌, refl}
use Rattle.ss_records_entities.proofs.Common.{cast_signed, to_z-of_z}
use mir.Syntax.{w64}
use Rattle.ss_records_entities.proofs.Assigns.{notice_may, notice_kept, notice_length, notice_timed}
use Rattle.ss_records_entities.proofs.records.Records.set_time_apart.Goals as goal

pub set_number-requires : goal.set_number-requires
set_number-requires c =
    let r = c.args.self.now in let f = c.in-Ok.ensures.found in let fits = c.ranges.t in let e = simp to_z-of_z at c.cast_unsigned.ensures in
    let v : cast_signed w64 c.cast_unsigned.result ≡ c.args.t = ap (cast_signed w64) e ∙ to_z-of_z w64 c.args.t fits in
    rw c.time_word-k.ensures (notice_may r c.requires.kept _ c.in-Ok.place f c.cast_unsigned.result c.args.t v)

pub returns-in-Ok : goal.returns-in-Ok
returns-in-Ok c =
    let r = c.args.self.now in let f = c.in-Ok.ensures.found in let fits = c.ranges.t in let e = simp to_z-of_z at c.cast_unsigned.ensures in
    let v : cast_signed w64 c.cast_unsigned.result ≡ c.args.t = ap (cast_signed w64) e ∙ to_z-of_z w64 c.args.t fits in
    record {
      kept = rw (c.set_number.ensures.cells, c.time_word-k.ensures) (notice_kept r c.requires.kept _ c.in-Ok.place f c.cast_unsigned.result c.args.t v);
      done =
          let fit = c.ranges.r in let f = simp to_z-of_z at c.in-Ok.ensures.found in
          rw (c.set_number.ensures.cells, c.time_word-k.ensures) (notice_timed r c.requires.kept c.args.r c.in-Ok.place f c.cast_unsigned.result c.args.t v);
      touches = c.set_number.ensures.touches;
      blocks = rw (c.set_number.ensures.cells, c.time_word-k.ensures) (notice_length r c.requires.kept _ c.in-Ok.place f c.cast_unsigned.result c.args.t v);
    }

pub find_notice-requires : goal.find_notice-requires
find_notice-requires c = record { kept = c.requires.kept }

pub returns-in-Err-clause-kept : goal.returns-in-Err-clause-kept
returns-in-Err-clause-kept c = c.requires.kept

pub returns-in-Err-clause-touches : goal.returns-in-Err-clause-touches
returns-in-Err-clause-touches c = (refl, refl)

pub returns-in-Err-clause-blocks : goal.returns-in-Err-clause-blocks
returns-in-Err-clause-blocks c = refl
