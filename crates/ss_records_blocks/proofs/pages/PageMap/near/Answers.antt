use Rattle.std.proofs.Common.{slice_get, sym, ap, ◌∙◌}
use Rattle.std.specs.Prelude.{option_copied}
use Rattle.ss_records_blocks.specs.Pages.{Pages, Spots, page_of}
use Rattle.ss_records_blocks.proofs.Rising.{read_is}
use Rattle.ss_records_blocks.proofs.Holding.{page_in, if_held}
use Rattle.ss_records_blocks.proofs.pages.PageMap.near.Goals as goal

pub returns-in-Some : goal.returns-in-Some
returns-in-Some c =
    let ss = c.self.inside.spots.items in let there = ap (λ (x : Spots). slice_get x c.in-Some.k) (sym c.deref.ensures.value) ∙ c.in-Some.ensures.1 in
    let read = read_is ss c.in-Some.k (c.args.number, c.in-Some.ensures.0) c.index.result.now there c.index.ensures in
    if_held (option_copied c.as_ref.result) (page_of c.args.self.now c.args.number) (c.as_ref.ensures.value ∙ ap (λ e. e.1) read ∙ sym (page_in ss c.self.invariant.0 c.in-Some.k c.args.number c.in-Some.ensures.0 there) ∙ ap (λ (ps : Pages). page_of ps c.args.number) c.self.view_is)
