use Rattle.ss_code_listing.specs.Listing.{AreLines}
use Rattle.ss_code_listing.proofs.listing.listing.Given as goal

abbrev pub invariant-loop-place : goal.invariant-loop-place
invariant-loop-place l = AreLines l.place l.text.items
