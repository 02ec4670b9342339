use Rattle.std.proofs.Common.{◌≡◌, ℕ, slice_get, Some, subst}
use Rattle.ss_records_blocks.specs.Pages.{Page, Pages, page_of, pages_held}
use Rattle.ss_records_blocks.proofs.Rising.{held_at}
use Rattle.ss_records_blocks.proofs.Holding.{rises_held}
use Rattle.ss_records_blocks.proofs.pages.PageMap.len.Goals as goal

pub returns-clause-found : goal.returns-clause-found
returns-clause-found c = subst (λ (ps : Pages). (k q : ℕ) (page : Page) → slice_get ps k ≡ Some (q, page) → page_of ps q ≡ Some page) c.self.view_is (held_at (pages_held c.self.inside.spots.items) (rises_held c.self.inside.spots.items c.self.invariant.0))
