use Rattle.std.proofs.Common.{◌≡◌, ◌+◌, suc, subst, arith}
use Rattle.ss_code_listing.specs.Listing.{AreLines}
use Rattle.ss_code_listing.proofs.listing.listing.Goals as goal

-- one line more
pub loop-place-preserved : goal.loop-place-preserved
loop-place-preserved c =
    let more : suc c.loop-place.place ≡ c.loop-place.place + 1 = omega arith in
    subst (λ n. AreLines n c.add_line.new.text.items) more (c.loop-place.text.items, c.loop-place.invariant, c.in_ok-add_line.ensures)
