use Rattle.std.proofs.Common.{◌≡◌, ◌<◌, ℕ, List, drop, ap, ◌∙◌, arith}
use Rattle.std.proofs.lemmas.List.{length-drop, take_rest}
use Rattle.ss_picture.specs.Pictures.{decimals_at}
use Rattle.ss_picture.proofs.Stars.{stars_within, decimals_within}
use Rattle.ss_picture.proofs.field.first_field.Goals as goal

pub slice_bounds-decimals_at-count : goal.slice_bounds-decimals_at-count
slice_bounds-decimals_at-count c = omega (arith, stars_within c.args.bytes.now)

pub slice_bounds-decimals_at-start : goal.slice_bounds-decimals_at-start
slice_bounds-decimals_at-start c = omega (arith, stars_within c.args.bytes.now)

pub overflow_add-result-else-decimals-eq0 : goal.overflow_add-result-else-decimals-eq0
overflow_add-result-else-decimals-eq0 c =
    let bytes : List ℕ = c.args.bytes.now in
    let whole : ℕ = c.stars-whole.result in
    let found : c.decimals_at-decimals.result ≡ decimals_at (drop whole bytes) = c.decimals_at-decimals.ensures ∙ ap decimals_at (take_rest bytes whole) in
    let some : 0 < decimals_at (drop whole bytes) = omega arith in
    let within = decimals_within (drop whole bytes) some in
    omega (arith, length-drop whole bytes, stars_within bytes)
