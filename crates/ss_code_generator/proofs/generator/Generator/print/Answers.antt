use Rattle.std.proofs.Common.{◌≡◌, List, length, map, ap, ◌∙◌, arith}
use Rattle.ss_code_generator.proofs.Common.{ItemKind, on_ok_weaker, view_item}
use Rattle.ss_code_generator.proofs.Emitting.{grows_same}
use Rattle.ss_code_generator.proofs.Itemed.{printed}
use Rattle.ss_code_generator.proofs.generator.Generator.print.Goals as goal

pub returns : goal.returns
returns c =
    let count : c.in_ok-lines.lines ≡ length c.args.prints.now.items = omega (arith, c.args.prints.now.ok.0) in
    let pictures = map (λ line. line.items) c.args.pictures.now in
    let is_made = c.in_ok-made.ensures ∙ ap (λ (ks : List ItemKind). record { pictures = pictures; items = ks }) c.in_ok-kinds.ensures in
    on_ok_weaker c.put.result (printed (map view_item c.args.items.now) pictures grows_same c.in_ok-items.ensures is_made c.in_ok-push.ensures.items count c.in_ok-cell.ensures) c.put.ensures
