use Rattle.std.proofs.Common.{◌≡◌, ◌++◌, [], ◌∷◌, get_or, map, slice_set, sym, ap, ◌∙◌}
use Rattle.std.proofs.lemmas.List.{map-set, get_or-map}
use Rattle.ss_names.specs.Entries.{row_of}
use Rattle.ss_names.proofs.filling.push_field.Goals as goal

pub returns : goal.returns
returns c =
    let rows = c.args.rows.now.items in
    let row : row_of c.index_mut.result.now ≡ get_or (map row_of rows) c.args.class [] =
    ap row_of c.index_mut.ensures.value ∙ sym (get_or-map row_of rows c.args.class c.index_mut.result.now [] c.requires) in
    map-set row_of rows c.args.class c.push.new.self
    ∙ ap (slice_set (map row_of rows) c.args.class) (c.in_ok-push.ensures.items ∙ ap (λ r. r ++ c.args.name ∷ []) row)
