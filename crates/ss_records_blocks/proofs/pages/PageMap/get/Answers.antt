use Rattle.std.proofs.Common.{slice_get, sym, ap, ◌∙◌}
use Rattle.ss_records_blocks.specs.Pages.{Pages, Spots, under, page_of}
use Rattle.ss_records_blocks.proofs.Rising.{read_is}
use Rattle.ss_records_blocks.proofs.Holding.{page_in, no_page}
use Rattle.ss_records_blocks.proofs.pages.PageMap.get.Goals as goal

pub returns-in-Some : goal.returns-in-Some
returns-in-Some c =
    let ss = c.self.inside.spots.items in let there = ap (λ (x : Spots). slice_get x c.in-Some.k) (sym c.deref.ensures.value) ∙ c.in-Some.ensures.1 in
    let read = read_is ss c.in-Some.k (c.args.number, c.in-Some.ensures.0) c.index.result.now there c.index.ensures in
    c.as_ref.ensures.value ∙ ap (λ e. e.1) read ∙ sym (page_in ss c.self.invariant.0 c.in-Some.k c.args.number c.in-Some.ensures.0 there) ∙ ap (λ (ps : Pages). page_of ps c.args.number) c.self.view_is

pub returns-in-None : goal.returns-in-None
returns-in-None c =
    let ss = c.self.inside.spots.items in
    sym (no_page ss c.self.invariant.0 c.args.number (ap (λ (x : Spots). under x c.args.number) (sym c.deref.ensures.value) ∙ c.in-None.ensures)) ∙ ap (λ (ps : Pages). page_of ps c.args.number) c.self.view_is
