use Rattle.std.proofs.Common.{◌≡◌, ◌+◌, length, slice_get, slice_set, cond, Option, Some, None, sym, ap, subst, ◌∙◌}
use Rattle.std.specs.Ordering.{nat_cmp}
use Rattle.std.specs.BTreeMap.{is_at}
use Rattle.std.specs.Map.{remove_entry}
use Rattle.ss_records_blocks.specs.Pages.{Page, Pages, Spots, AreRising, under, page_of, pages_held}
use Rattle.ss_records_blocks.proofs.Rising.{read_is, rises_written}
use Rattle.ss_records_blocks.proofs.Holding.{page_in, no_page, page_gone, gone_count, gone_updates, same_again, none_gone}
use Rattle.ss_records_blocks.proofs.pages.PageMap.remove.Goals as goal

-- the spot, and what is written there
had : (c : goal.After-drop-page-inside) → slice_get c.self.inside.spots.items c.in-Some.at ≡ Some (c.args.number, Some c.in-Some-take._page)
had c =
    let ss = c.self.inside.spots.items in let there = ap (λ (x : Spots). slice_get x c.in-Some.at) (sym c.deref.ensures.value) ∙ c.in-Some.ensures.1 in
    let read = read_is ss c.in-Some.at (c.args.number, c.in-Some.ensures.0) c.index_mut.result.now there c.index_mut.ensures.value in
    there ∙ ap (λ (o : Option Page). Some (c.args.number, o)) (sym (ap (λ e. e.1) read) ∙ sym c.take.ensures.value ∙ c.in-Some-take.is)

put : (c : goal.After-drop-page-inside) → slice_set c.self.inside.spots.items c.in-Some.at (c.index_mut.result.now.0, c.take.new.self) ≡ slice_set c.self.inside.spots.items c.in-Some.at (c.args.number, None)
put c =
    let ss = c.self.inside.spots.items in let there = ap (λ (x : Spots). slice_get x c.in-Some.at) (sym c.deref.ensures.value) ∙ c.in-Some.ensures.1 in
    let read = read_is ss c.in-Some.at (c.args.number, c.in-Some.ensures.0) c.index_mut.result.now there c.index_mut.ensures.value in
    λ z. slice_set ss c.in-Some.at ((read z).0, c.take.ensures.after z)

left : (c : goal.After-drop-page-inside) → pages_held (slice_set c.self.inside.spots.items c.in-Some.at (c.index_mut.result.now.0, c.take.new.self)) ≡ remove_entry (is_at (nat_cmp c.args.number)) (pages_held c.self.inside.spots.items)
left c = ap pages_held (put c) ∙ page_gone c.self.inside.spots.items c.self.invariant.0 c.in-Some.at c.args.number c.in-Some-take._page (had c)

-- the spot is empty already
empty : (c : goal.In_default-take) → slice_get c.self.inside.spots.items c.in-Some.at ≡ Some (c.args.number, None)
empty c =
    let ss = c.self.inside.spots.items in let there = ap (λ (x : Spots). slice_get x c.in-Some.at) (sym c.deref.ensures.value) ∙ c.in-Some.ensures.1 in
    let read = read_is ss c.in-Some.at (c.args.number, c.in-Some.ensures.0) c.index_mut.result.now there c.index_mut.ensures.value in
    there ∙ ap (λ (o : Option Page). Some (c.args.number, o)) (sym (ap (λ e. e.1) read) ∙ sym c.take.ensures.value ∙ c.in_default-take.is)

still : (c : goal.In_default-take) → pages_held (slice_set c.self.inside.spots.items c.in-Some.at (c.index_mut.result.now.0, c.take.new.self)) ≡ remove_entry (is_at (nat_cmp c.args.number)) (pages_held c.self.inside.spots.items)
still c =
    let ss = c.self.inside.spots.items in let there = ap (λ (x : Spots). slice_get x c.in-Some.at) (sym c.deref.ensures.value) ∙ c.in-Some.ensures.1 in
    let read = read_is ss c.in-Some.at (c.args.number, c.in-Some.ensures.0) c.index_mut.result.now there c.index_mut.ensures.value in
    let again : slice_set ss c.in-Some.at (c.index_mut.result.now.0, c.take.new.self) ≡ slice_set ss c.in-Some.at (c.args.number, None) = λ z. slice_set ss c.in-Some.at ((read z).0, c.take.ensures.after z) in
    ap pages_held (again ∙ same_again ss c.in-Some.at (c.args.number, None) (empty c)) ∙ none_gone ss c.args.number (page_in ss c.self.invariant.0 c.in-Some.at c.args.number None (empty c))

-- no spot has the number
none : (c : goal.In_default) → pages_held c.self.inside.spots.items ≡ remove_entry (is_at (nat_cmp c.args.number)) (pages_held c.self.inside.spots.items)
none c =
    let ss = c.self.inside.spots.items in
    none_gone ss c.args.number (no_page ss c.self.invariant.0 c.args.number (ap (λ (x : Spots). under x c.args.number) (sym c.deref.ensures.value) ∙ c.in_default.ensures))

pub invariant_of-self : goal.invariant_of-self
invariant_of-self c =
    let ss = c.self.inside.spots.items in
    subst (λ (rs : Spots). AreRising rs × (c.self.inside.empty + 1 + length (pages_held rs) ≡ length rs)) (sym (put c))
    (rises_written ss c.self.invariant.0 c.in-Some.at c.args.number (Some c.in-Some-take._page) (had c) None, gone_count ss c.self.invariant.0 c.in-Some.at c.args.number c.in-Some-take._page (had c) c.self.inside.empty c.self.invariant.1)

pub returns-in-Some-take-clause-entries : goal.returns-in-Some-take-clause-entries
returns-in-Some-take-clause-entries c = left c ∙ ap (remove_entry (is_at (nat_cmp c.args.number))) c.self.view_is

pub returns-in-Some-take-clause-updates : goal.returns-in-Some-take-clause-updates
returns-in-Some-take-clause-updates c q =
    gone_updates c.self.inside.spots.items c.self.invariant.0 c.args.number q _ (left c) ∙ ap (λ (ps : Pages). cond (is_at (nat_cmp c.args.number) q) None (page_of ps q)) c.self.view_is

pub returns-in_default-take-clause-entries : goal.returns-in_default-take-clause-entries
returns-in_default-take-clause-entries c = still c ∙ ap (remove_entry (is_at (nat_cmp c.args.number))) c.self.view_is

pub returns-in_default-take-clause-updates : goal.returns-in_default-take-clause-updates
returns-in_default-take-clause-updates c q =
    gone_updates c.self.inside.spots.items c.self.invariant.0 c.args.number q _ (still c) ∙ ap (λ (ps : Pages). cond (is_at (nat_cmp c.args.number) q) None (page_of ps q)) c.self.view_is

pub returns-in_default-clause-entries : goal.returns-in_default-clause-entries
returns-in_default-clause-entries c = subst (λ (ps : Pages). ps ≡ remove_entry (is_at (nat_cmp c.args.number)) ps) c.self.view_is (none c)

pub returns-in_default-clause-updates : goal.returns-in_default-clause-updates
returns-in_default-clause-updates c q =
    subst (λ (ps : Pages). page_of ps q ≡ cond (is_at (nat_cmp c.args.number) q) None (page_of ps q)) c.self.view_is (gone_updates c.self.inside.spots.items c.self.invariant.0 c.args.number q _ (none c))
