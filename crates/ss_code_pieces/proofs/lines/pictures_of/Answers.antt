use Rattle.std.proofs.Common.{◌≡◌, ◌∷◌, [], ◌+◌, ◌++◌, drop, map, ap, sym, ◌∙◌}
use Rattle.std.proofs.lemmas.List.{drop_more}
use Rattle.ss_code_pieces.proofs.Steps.{moved}
use Rattle.ss_code_pieces.proofs.lines.pictures_of.Goals as goal

pub loop-line-preserved : goal.loop-line-preserved
loop-line-preserved c =
    let l = c.loop-line in
    let item = c.line-item.result in
    let left : drop l.line-index c.args.lines.now ≡ item ∷ drop (l.line-index + 1) c.args.lines.now = drop_more c.args.lines.now l.line-index item c.loop-line-test.true ∙ ap (λ e. e ∷ drop (l.line-index + 1) c.args.lines.now) (sym c.line-item.is) in
    moved l.pictures.items _ (item.items ∷ []) (map (λ line. line.items) (drop (l.line-index + 1) c.args.lines.now)) (map (λ line. line.items) (drop l.line-index c.args.lines.now)) _ l.invariant (ap (λ ls. map (λ line. line.items) ls) left) (c.in_ok-push.ensures.items ∙ ap (λ x. l.pictures.items ++ x ∷ []) (c.in_ok-picture.ensures ∙ c.deref.ensures.value))
