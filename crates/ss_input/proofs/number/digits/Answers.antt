use Rattle.std.proofs.Common.{rules, ◌≡◌, ◌+◌, ◌-◌, ◌*◌, min, true, ◌∙◌, slice_index_or}
use Rattle.ss_input.proofs.Common.{cap, is_digit}
use Rattle.ss_input.proofs.Digits.{one_more, capped_more}
use Rattle.ss_input.proofs.number.digits.Goals as goal

pub loop-byte-preserved : goal.loop-byte-preserved
loop-byte-preserved c =
    let xs = c.args.bytes.now in
    let b = slice_index_or c.args.bytes.now c.loop-byte.byte-index 0 in
    let digit : is_digit b ≡ true = search rules in
    let result : c.min-value.result ≡ min (c.loop-byte.value * 10 + (b - 48)) cap = search rules in
    record {
      all = one_more xs c.loop-byte.byte-index c.loop-byte-test.true c.loop-byte.invariant.all digit;
      value = result ∙ capped_more xs c.loop-byte.byte-index c.loop-byte.value c.loop-byte-test.true c.loop-byte.invariant.value;
    }
