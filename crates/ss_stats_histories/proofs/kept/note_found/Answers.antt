use Rattle.std.proofs.Common.{◌≡◌, int_eq, arith, to_z, of_z, w64, sym, ap, ◌∙◌}
use Rattle.std.proofs.lemmas.Int.{ints}
use Rattle.std.proofs.lemmas.Map.Steps.{set_value_same}
use Rattle.std.specs.Map.{set_value}
use Rattle.ss_stats_histories.proofs.kept.note_found.Goals as goal

pub note-requires : goal.note-requires
note-requires c =
    let n : to_z w64 (of_z w64 c.args.now) ≡ c.args.now = omega (arith, ints) in
    let x : to_z w64 (of_z w64 c.args.entity) ≡ c.args.entity = omega (arith, ints) in
    let e = rw x at c.in-Some.ensures.value in
    rw n (c.requires _ (sym e))

pub returns-else-note-clause-same : goal.returns-else-note-clause-same
returns-else-note-clause-same c =
    let h = c.get_mut.follows.holds c.note.new.self in
    let es = c.args.others.now.entries in
    let x = to_z w64 (of_z w64 c.args.entity) in
    h.0 ∙ ap (set_value (int_eq x) es) (c.note.ensures.same c.if-note.false) ∙ set_value_same (int_eq x) es c.in-Some.watched.now (sym c.in-Some.ensures.value)
