use Rattle.std.proofs.Common.{◌≡◌, ◌/◌, ℕ, ℤ, sym, ap, ◌∙◌, to_z, of_z, w64, arith}
use Rattle.std.specs.Int.{w128}
use Rattle.std.specs.Prelude.{unsigned_abs}
use Rattle.std.proofs.lemmas.Int.{ints}
use Rattle.ss_picture.specs.Numerals.{numeral, sign_of, with_sign, mean_units}
use Rattle.ss_picture.proofs.Decimal.{numeral_is_decimal}
use Rattle.ss_picture.proofs.Rounding.{part_small, with_its_sign}
use Rattle.ss_picture.proofs.Digits.{mean_written}
use Rattle.ss_picture.proofs.means.fill_mean.Goals as goal

pub returns : goal.returns
returns c =
    let decimals : ℕ = c.args.decimals in
    let sum : ℤ = c.args.sum in
    let number : ℤ = c.args.number in
    let units : ℕ = c.units_of-units.result in
    let scale : ℕ = c.scale_of-scale.result in
    let same_sum : to_z w128 (of_z w128 sum) ≡ sum = omega (arith, ints) in
    let same_number : to_z w64 (of_z w64 number) ≡ number = omega (arith, ints) in
    let units_is : units ≡ unsigned_abs (mean_units decimals sum number) = rw (same_sum, same_number) at c.units_of-units.ensures in
    let its_sign : c.sign.result.now ≡ sign_of (with_sign sum units) = rw same_sum at c.sign.ensures.value in
    let sign_is : c.sign.result.now ≡ sign_of (mean_units decimals sum number) =
    its_sign ∙ ap (λ (n : ℕ). sign_of (with_sign sum n)) units_is ∙ ap sign_of (with_its_sign decimals sum number)
    in
    let whole_is : c.as_bytes-whole.result.now ≡ numeral (units / scale) =
    c.as_bytes-whole.ensures.value ∙ c.format.ensures.text ∙ sym (numeral_is_decimal (units / scale) (omega (arith, part_small units scale)))
    in
    c.fill_decimal.ensures
    ∙ mean_written c.args.field.now decimals sum number c.sign.result.now c.as_bytes-whole.result.now units scale units_is c.scale_of-scale.ensures.value sign_is whole_is
