-- Rounding gives the nearest number, and that alone is the nearest.
use Rattle.std.proofs.Common.{◌≡◌, ℕ, ◌+◌, ◌*◌, ◌/◌, ◌%◌, ◌^◌, ◌<◌, ◌≤◌, sym, ap, ◌∙◌, arith}
use Rattle.std.proofs.Math.Nat.{mul_comm, mul_assoc, mul_left_comm, add-mul, div-add-mod, div-eq_of_lt-le}
use Rattle.std.proofs.lemmas.Nat.{mod_below}
use Rattle.ss_picture.specs.Nearest.{RoundsToNearest, OnlyNearest}

-- twice a product, with the two at another place
twice : (units number : ℕ) → 2 * units * number ≡ units * (2 * number)
twice units number = mul_assoc 2 units number ∙ sym (mul_left_comm units 2 number)

pub rounds_to_nearest : RoundsToNearest
rounds_to_nearest decimals size number some =
    let scaled : ℕ = 2 * size * 10 ^ decimals in
    let units : ℕ = (scaled + number) / (2 * number) in
    let rest : ℕ = (scaled + number) % (2 * number) in
    let parts : 2 * number * units + rest ≡ scaled + number = div-add-mod (scaled + number) (2 * number) in
    let less : rest < 2 * number = mod_below (scaled + number) (2 * number) (omega arith) in
    let product : 2 * number * units ≡ 2 * units * number = mul_assoc 2 number units ∙ ap (λ n. 2 * n) (mul_comm number units) ∙ sym (mul_assoc 2 units number) in
    record { above = omega arith; below = omega arith }

pub only_nearest : OnlyNearest
only_nearest decimals size number units some is =
    let scaled : ℕ = 2 * size * 10 ^ decimals in
    let product = twice units number in
    let above : 2 * units * number ≤ scaled + number = is.above in
    let below : scaled < 2 * units * number + number = is.below in
    let next : (units + 1) * (2 * number) ≡ units * (2 * number) + 1 * (2 * number) = add-mul units 1 (2 * number) in
    sym (div-eq_of_lt-le {k = units} (2 * number) {m = scaled + number} (omega arith) (omega arith))
