use Rattle.std.proofs.Common.{◌≡◌, drop, Ok, pos, to_z, w64, ◌∙◌, sym, subst, arith}
use Rattle.ss_input.proofs.Common.{HasReadInput, Integer, source_block, value_given, Whole}
use Rattle.std.proofs.lemmas.Int.{to_z_pos}
use Rattle.ss_input.specs.Numbers.{HasLeadingNumber}
use Rattle.ss_input.proofs.source.Source.integer.Goals as goal

pub returns-in-Some-buffered_number-clause-read : goal.returns-in-Some-buffered_number-clause-read
returns-in-Some-buffered_number-clause-read g c x e =
    let old = c.args.self.now in
    let n = c.in-Some-buffered_number.number in
    let begins : HasLeadingNumber n.value n.count (drop n.gap (source_block old).left) = c.in-Some-buffered_number.ensures.begins in
    let whole : to_z w64 n.value ≡ pos n.value = to_z_pos w64 n.value (omega (arith, begins.small)) in
    let same : to_z w64 n.value ≡ x = cc in
    subst (λ z. HasReadInput g.R.FaultyRead.remaining old c.pass_number.new.self (λ input rest. value_given Integer input ≡ Ok (record { value = Whole z; rest = rest }))) (sym whole ∙ same) c.pass_number.ensures.read
