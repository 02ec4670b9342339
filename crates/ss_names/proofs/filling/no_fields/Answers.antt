use Rattle.std.proofs.Common.{◌++◌, [], ◌∷◌, map, sym, ap, ◌∙◌, arith}
use Rattle.ss_names.proofs.Common.{attributes_of_class, map_push, row_of}
use Rattle.std.proofs.lemmas.List.FromFn.{map-range_with_len_more}
use Rattle.ss_names.proofs.filling.no_fields.Goals as goal

pub loop-number-preserved : goal.loop-number-preserved
loop-number-preserved c =
    ap (map row_of) c.in_ok-push.ensures.items ∙ map_push row_of c.loop-number.rows.items c.new.result
    ∙ (λ i. c.loop-number.invariant i ++ c.new.ensures.items i ∷ [])
    ∙ sym (map-range_with_len_more (attributes_of_class []) 0 c.loop-number.number c.loop-number.number (omega arith))
