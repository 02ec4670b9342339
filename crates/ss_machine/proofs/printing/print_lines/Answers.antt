use Rattle.std.proofs.Common.{rules, ◌≡◌, ◌+◌, ◌++◌, [], ◌∷◌, min, length, drop, refl, sym, ap, ◌∙◌, arith}
use Rattle.ss_machine.proofs.Common.{append_assoc, filled, line_end, lines_with, picture_fields}
use Rattle.std.proofs.lemmas.Result.{err_from_is_err_and}
use Rattle.std.proofs.KnownBytes.{Appends-trans}
use Rattle.ss_machine.proofs.Known.{turn, part_after, less_after}
use Rattle.ss_machine.proofs.Fields.{now_suits, later_suits}
use Rattle.ss_machine.proofs.printing.print_lines.Goals as goal

pub returns-in_err-print_line-clause-err : goal.returns-in_err-print_line-clause-err
returns-in_err-print_line-clause-err g c =
    let i = c.loop-picture.invariant in
    let p = c.picture-item.result in
    let xs = c.loop-picture.rest.now in
    let count : c.min-count.result ≡ min (length (picture_fields p)) (length xs) = search rules in
    let one = turn c.args.pictures.now c.loop-picture.picture-index p xs c.min-count.result c.loop-picture-test.true c.picture-item.is count in
    let line = filled p c.split_at.result.0.now ++ line_end ∷ [] in
    let more = lines_with (drop (c.loop-picture.picture-index + 1) c.args.pictures.now) c.split_at.result.1.now in
    let whole : lines_with c.args.pictures.now c.args.items.now ≡ i.done ++ (line ++ more) =
    i.so_far ∙ ap (λ l. i.done ++ l) (one ∙ rw (c.split_at.ensures.front, c.split_at.ensures.back) refl) in
    let e = err_from_is_err_and c.from_residual.result c.from_residual.ensures.1 in
    rw e.1 (part_after _ _ _ i.done line (lines_with c.args.pictures.now c.args.items.now) more i.took whole c.in_err-print_line.ensures.err)

pub returns-in_err-print_line-clause-less : goal.returns-in_err-print_line-clause-less
returns-in_err-print_line-clause-less g c failed =
    let i = c.loop-picture.invariant in
    let p = c.picture-item.result in
    let xs = c.loop-picture.rest.now in
    let count : c.min-count.result ≡ min (length (picture_fields p)) (length xs) = search rules in
    let one = turn c.args.pictures.now c.loop-picture.picture-index p xs c.min-count.result c.loop-picture-test.true c.picture-item.is count in
    let line = filled p c.split_at.result.0.now ++ line_end ∷ [] in
    let more = lines_with (drop (c.loop-picture.picture-index + 1) c.args.pictures.now) c.split_at.result.1.now in
    let whole : lines_with c.args.pictures.now c.args.items.now ≡ i.done ++ (line ++ more) =
    i.so_far ∙ ap (λ l. i.done ++ l) (one ∙ rw (c.split_at.ensures.front, c.split_at.ensures.back) refl) in
    let e = err_from_is_err_and c.from_residual.result c.from_residual.ensures.1 in
    let same : c.print_line.result ≡ c.from_residual.result = rw (e.1, e.2) c.in_err-print_line.was in
    less_after _ _ _ i.done line (lines_with c.args.pictures.now c.args.items.now) more i.took whole (c.print_line.ensures.less (same ∙ failed))

pub print_line-requires-clause-suited : goal.print_line-requires-clause-suited
print_line-requires-clause-suited g c =
    let p = c.picture-item.result in
    let xs = c.loop-picture.rest.now in
    let count : c.min-count.result ≡ min (length (picture_fields p)) (length xs) = search rules in
    rw c.split_at.ensures.front (now_suits c.args.pictures.now c.loop-picture.picture-index p xs c.min-count.result c.loop-picture-test.true c.picture-item.is count c.loop-picture.invariant.suited)

pub loop-picture-preserved : goal.loop-picture-preserved
loop-picture-preserved g c =
    let i = c.loop-picture.invariant in
    let p = c.picture-item.result in
    let xs = c.loop-picture.rest.now in
    let count : c.min-count.result ≡ min (length (picture_fields p)) (length xs) = search rules in
    let one = turn c.args.pictures.now c.loop-picture.picture-index p xs c.min-count.result c.loop-picture-test.true c.picture-item.is count in
    let line = filled p c.split_at.result.0.now ++ line_end ∷ [] in
    record {
      done = i.done ++ line;
      so_far = i.so_far ∙ ap (λ l. i.done ++ l) (one ∙ rw (c.split_at.ensures.front, c.split_at.ensures.back) refl) ∙ sym (append_assoc i.done line (lines_with (drop (c.loop-picture.picture-index + 1) c.args.pictures.now) c.split_at.result.1.now));
      suited = rw c.split_at.ensures.back (later_suits c.args.pictures.now c.loop-picture.picture-index p xs c.min-count.result c.loop-picture-test.true c.picture-item.is count i.suited);
      took = Appends-trans _ _ _ i.done line i.took c.in_ok-print_line.ensures.ok;
      risen = omega (arith, i.risen, c.in_ok-print_line.ensures.never_falls);
    }
