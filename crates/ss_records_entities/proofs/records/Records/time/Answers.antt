use Rattle.std.proofs.Common.{◌≡◌, ℕ, inl, Ok, w64, sym, ap, subst, ◌∙◌}
use Rattle.ss_records_entities.proofs.Common.{number, places, state, time_in, to_z-of_z, word_at, ℤ}
use Rattle.ss_records_entities.proofs.Assigns.{time_number, is_timed, is_time}
use Rattle.ss_records_entities.proofs.records.Records.time.Goals as goal

pub number-requires : goal.number-requires
number-requires c =
    let r = c.args.self.now in let f = c.in-Ok.ensures.found in
    rw c.time_word-k.ensures (time_number r c.requires.kept _ c.in-Ok.place f)

pub time_word-k-requires : goal.time_word-k-requires
time_word-k-requires c =
    let f = c.in-Ok.ensures.found in
    record {
      kept = c.requires.kept;
      entry = (f.index, f.entry);
      notice = let r = c.args.self.now in is_timed r c.requires.kept _ c.in-Ok.place f;
    }

pub returns-in-Ok : goal.returns-in-Ok
returns-in-Ok c =
    let r = c.args.self.now in let f = c.in-Ok.ensures.found in
    let word = subst (λ (k : ℕ). word_at r.blocks.cells c.in-Ok.place.at k ≡ number c.number.result) c.time_word-k.ensures c.number.ensures in
    ap (λ (z : ℤ). Ok z) (to_z-of_z w64 c.cast_signed.result (record { sfits = c.cast_signed.type_inv }) ∙ c.cast_signed.ensures)
    ∙ sym (is_time r c.requires.kept _ c.in-Ok.place f c.number.result word)
    ∙ ap (λ (z : ℤ). time_in (state r) z) (to_z-of_z w64 c.args.r c.ranges.r)
