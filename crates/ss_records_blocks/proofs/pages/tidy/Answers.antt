use Rattle.std.proofs.Common.{◌≡◌, ℕ, ◌+◌, ◌<◌, length, slice_get, Option, Some, sym, ap, subst, ◌∙◌, rules, arith}
use Rattle.std.proofs.lemmas.List.Elements.{filter_from_retain}
use Rattle.std.specs.List.{filter}
use Rattle.ss_records_blocks.specs.Pages.{Page, Spots, AreRising, pages_held}
use Rattle.ss_records_blocks.proofs.Holding.{has_page, held_cut, all_held, rises_cut, all_below}
use Rattle.ss_records_blocks.proofs.pages.tidy.Goals as goal

-- what is left
left : (c : goal.After-shrink) → c.shrink.new.spots.items ≡ filter has_page c.args.spots.now.items
left c = c.shrink.ensures ∙ filter_from_retain _ has_page (λ f s kept g called. search rules) _ _ _ c.retain.ensures.filtered

pub returns : goal.returns
returns c =
    record {
      rises = subst AreRising (sym (left c)) (rises_cut c.args.spots.now.items c.requires.rises);
      count = subst (λ (ss : Spots). 0 + length (pages_held ss) ≡ length ss) (sym (left c)) (omega (arith, all_held c.args.spots.now.items));
      pages_held = ap pages_held (left c) ∙ held_cut c.args.spots.now.items;
      above = subst (λ (ss : Spots). (k q : ℕ) (o : Option Page) → slice_get ss k ≡ Some (q, o) → q < c.args.number) (sym (left c)) (all_below c.args.spots.now.items c.requires.rises c.args.number c.requires.above);
    }
