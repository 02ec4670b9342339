use Rattle.std.proofs.Common.{◌≡◌, ◌+◌, ◌++◌, ◌∷◌, [], length, Some, sym, ap, subst, ◌∙◌}
use Rattle.ss_records_blocks.specs.Pages.{Page, Pages, Spots, AreRising, pages_held}
use Rattle.ss_records_blocks.proofs.Rising.{rises_push}
use Rattle.ss_records_blocks.proofs.Holding.{held_pushed, count_pushed}
use Rattle.ss_records_blocks.proofs.pages.PageMap.push.Goals as goal

-- the row with the new page
pushed : (c : goal.After-push_reserved) → c.push_reserved.new.self.items ≡ c.tidy-self-inside.new.spots.items ++ (c.args.number, Some c.replace-full.result) ∷ []
pushed c = c.push_reserved.ensures.items ∙ ap (λ (ss : Spots). ss ++ (c.args.number, Some c.replace-full.result) ∷ []) c.reserve.ensures.items

pub invariant_of-self-2 : goal.invariant_of-self-2
invariant_of-self-2 c =
    let ss : Spots = c.tidy-self-inside.new.spots.items in let e = c.tidy-self-inside.ensures in
    subst (λ (rs : Spots). AreRising rs × (c.tidy-self-inside.result + length (pages_held rs) ≡ length rs)) (sym (pushed c))
    (rises_push ss c.args.number (Some c.replace-full.result) e.rises e.above, count_pushed c.tidy-self-inside.result ss c.args.number c.replace-full.result e.count)

pub returns : goal.returns
returns c =
    let ss : Spots = c.tidy-self-inside.new.spots.items in let was = c.tidy-self-inside.ensures.pages_held ∙ c.self.view_is in
    (ap pages_held (pushed c) ∙ held_pushed ss c.args.number c.replace-full.result ∙ ap (λ (ps : Pages). ps ++ (c.args.number, c.replace-full.result) ∷ []) was ∙ ap (λ (p : Page). c.args.self.now ++ (c.args.number, p) ∷ []) c.replace-full.ensures.value, c.replace-full.ensures.after)
