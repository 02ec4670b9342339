use Rattle.std.proofs.Common.{◌≡◌, slice_get, Option, Some, None, MatchResult, subst, rules}
use Rattle.std.proofs.lemmas.List.Sorted.{answers_always}
use Rattle.ss_records_blocks.specs.Pages.{Page, under}
use Rattle.ss_records_blocks.proofs.Rising.{ended}
use Rattle.ss_records_blocks.proofs.pages.searched.Goals as goal

pub returns-in-Ok : goal.returns-in-Ok
returns-in-Ok c =
    let facts = c.binary_search_by_key.ensures in
    let by_number = facts.position (λ e. e.0) (answers_always _ _ _ (λ f a r g called. search rules)) in
    let all = ended c.args.spots.now c.requires c.args.number None c.binary_search_by_key.result facts.bound by_number in
    subst (λ f. MatchResult f (λ k. (p : Option Page) × (slice_get c.args.spots.now k ≡ Some (c.args.number, p))) (λ _. under c.args.spots.now c.args.number ≡ None)) c.in-Ok.is all

pub returns-in-Err : goal.returns-in-Err
returns-in-Err c =
    let facts = c.binary_search_by_key.ensures in
    let by_number = facts.position (λ e. e.0) (answers_always _ _ _ (λ f a r g called. search rules)) in
    let all = ended c.args.spots.now c.requires c.args.number None c.binary_search_by_key.result facts.bound by_number in
    subst (λ f. MatchResult f (λ k. (p : Option Page) × (slice_get c.args.spots.now k ≡ Some (c.args.number, p))) (λ _. under c.args.spots.now c.args.number ≡ None)) c.in-Err.is all
