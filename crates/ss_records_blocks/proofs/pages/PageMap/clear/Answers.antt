use Rattle.std.proofs.Common.{◌≡◌, ◌+◌, length, slice_get, slice_set, cond, Some, None, sym, ap, subst, ◌∙◌}
use Rattle.std.specs.Ordering.{nat_cmp}
use Rattle.std.specs.BTreeMap.{is_at}
use Rattle.std.specs.Map.{set_value}
use Rattle.std.proofs.lemmas.Option.{none-some}
use Rattle.ss_records_blocks.specs.Pages.{Page, Pages, Spots, AreRising, under, page_of, pages_held}
use Rattle.ss_records_blocks.proofs.Rising.{read_is, rises_written}
use Rattle.ss_records_blocks.proofs.Holding.{page_in, no_page, page_written, written_updates, written_count}
use Rattle.ss_records_blocks.proofs.pages.PageMap.clear.Goals as goal

pub clear_in-requires : goal.clear_in-requires
clear_in-requires c =
    let ss = c.self.inside.spots.items in let there = ap (λ (x : Spots). slice_get x c.in-Some.at) (sym c.deref.ensures.value) ∙ c.in-Some.ensures.1 in
    let is = sym (page_in ss c.self.invariant.0 c.in-Some.at c.args.number c.in-Some.ensures.0 there) ∙ ap (λ (ps : Pages). page_of ps c.args.number) c.self.view_is ∙ c.requires.there.2 in
    let read = read_is ss c.in-Some.at (c.args.number, c.in-Some.ensures.0) c.index_mut.result.now there c.index_mut.ensures.value in
    (c.requires.there.0, c.requires.there.1, ap (λ e. e.1) read ∙ is, c.requires.there.3)

-- the spot, what was read there, and what is written
had : (c : goal.After-self-1) (page : Page) → page_of c.args.self.now c.args.number ≡ Some page → slice_get c.self.inside.spots.items c.in-Some.at ≡ Some (c.args.number, Some page)
had c page was =
    let ss = c.self.inside.spots.items in let there = ap (λ (x : Spots). slice_get x c.in-Some.at) (sym c.deref.ensures.value) ∙ c.in-Some.ensures.1 in
    let is = sym (page_in ss c.self.invariant.0 c.in-Some.at c.args.number c.in-Some.ensures.0 there) ∙ ap (λ (ps : Pages). page_of ps c.args.number) c.self.view_is ∙ was in
    there ∙ ap (λ o. Some (c.args.number, o)) is

read : (c : goal.After-self-1) (page : Page) → page_of c.args.self.now c.args.number ≡ Some page → c.index_mut.result.now ≡ (c.args.number, Some page)
read c page was = read_is c.self.inside.spots.items c.in-Some.at (c.args.number, Some page) c.index_mut.result.now (had c page was) c.index_mut.ensures.value

put : (c : goal.After-self-1) (page : Page) → page_of c.args.self.now c.args.number ≡ Some page → slice_set c.self.inside.spots.items c.in-Some.at (c.index_mut.result.now.0, c.clear_in.new.page) ≡ slice_set c.self.inside.spots.items c.in-Some.at (c.args.number, Some (slice_set page c.args.k None))
put c page was = let e = read c page was in λ z. slice_set c.self.inside.spots.items c.in-Some.at ((e z).0, c.clear_in.ensures.cleared page (ap (λ x. x.1) e) z)

pub invariant_of-self : goal.invariant_of-self
invariant_of-self c =
    let ss = c.self.inside.spots.items in let page = c.requires.there.0 in let was = c.requires.there.2 in
    subst (λ (rs : Spots). AreRising rs × (c.self.inside.empty + length (pages_held rs) ≡ length rs)) (sym (put c page was))
    (rises_written ss c.self.invariant.0 c.in-Some.at c.args.number (Some page) (had c page was) (Some (slice_set page c.args.k None)), written_count ss c.self.invariant.0 c.in-Some.at c.args.number page (had c page was) (slice_set page c.args.k None) c.self.inside.empty c.self.invariant.1)

pub returns-in-Some-clause-cleared : goal.returns-in-Some-clause-cleared
returns-in-Some-clause-cleared c page was =
    let ss = c.self.inside.spots.items in let new = slice_set page c.args.k None in (
      ap pages_held (put c page was) ∙ page_written ss c.self.invariant.0 c.in-Some.at c.args.number page (had c page was) new ∙ ap (λ (ps : Pages). set_value (is_at (nat_cmp c.args.number)) ps new) c.self.view_is,
      λ q. ap (λ (rs : Spots). page_of (pages_held rs) q) (put c page was) ∙ written_updates ss c.self.invariant.0 c.in-Some.at c.args.number page (had c page was) new q ∙ ap (λ (ps : Pages). cond (is_at (nat_cmp c.args.number) q) (Some new) (page_of ps q)) c.self.view_is,
    )

pub returns-in-Some-clause-empty : goal.returns-in-Some-clause-empty
returns-in-Some-clause-empty c page was = c.clear_in.ensures.empty page (ap (λ x. x.1) (read c page was))

pub returns-in-None : goal.returns-in-None
returns-in-None c =
    record {
      cleared = λ page was. absurd (none-some page (sym (no_page c.self.inside.spots.items c.self.invariant.0 c.args.number (ap (λ (x : Spots). under x c.args.number) (sym c.deref.ensures.value) ∙ c.in-None.ensures)) ∙ ap (λ (ps : Pages). page_of ps c.args.number) c.self.view_is ∙ was));
      empty = λ page was. absurd (none-some page (sym (no_page c.self.inside.spots.items c.self.invariant.0 c.args.number (ap (λ (x : Spots). under x c.args.number) (sym c.deref.ensures.value) ∙ c.in-None.ensures)) ∙ ap (λ (ps : Pages). page_of ps c.args.number) c.self.view_is ∙ was));
    }
