use Rattle.std.proofs.Common.{rules, ◌≡◌, ◌≤◌, ◌<◌, ◌+◌, ◌-◌, ◌*◌, true, length, slice_index_or, ap, ◌∙◌, arith}
use Rattle.ss_input.specs.Words.{is_digit}
use Rattle.ss_input.proofs.Digits.{one_more, value_more, digit_small}
use Rattle.ss_input.proofs.number.leading_number.Goals as goal

pub loop-count-preserved : goal.loop-count-preserved
loop-count-preserved c =
    let l = c.loop-count in
    let xs = c.args.bytes.now in
    let b = slice_index_or xs l.count 0 in
    let lt : l.count < length xs = search rules in
    let digit : is_digit b ≡ true = search rules in
    let is : c.from.result ≡ b - 48 = search rules in
    let low : b - 48 ≤ 9 = digit_small b digit in
    let few : l.value ≤ 99999999999999999 = search rules in
    record {
      long = omega (arith, lt);
      digits = one_more xs l.count lt l.invariant.digits digit;
      value = ap (λ d. l.value * 10 + d) is ∙ value_more xs l.count l.value lt l.invariant.value;
      small = omega (arith, is, low, few);
    }
