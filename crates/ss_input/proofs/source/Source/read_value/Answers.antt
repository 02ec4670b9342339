use Rattle.std.proofs.Common.{rules, ◌≡◌, take, Ok, Err, Some, None, ap, ◌∙◌}
use Rattle.ss_input.proofs.Common.{BadData, Fault}
use Rattle.ss_input.specs.Words.{next_word, value_given, read_word, word_value, if_read}
use Rattle.ss_input.proofs.Reached.{finds_so, reads_so, reads_finds}
use Rattle.ss_input.proofs.source.Source.read_value.Goals as goal

pub returns-in_err-count-clause-fault : goal.returns-in_err-count-clause-fault
returns-in_err-count-clause-fault g c kind e =
    let mode = g.V.WordValue.mode in
    let same : c.read_word.result ≡ Err (Fault kind) = search rules in
    finds_so g.R.FaultyRead.remaining c.args.self.now c.read_word.new.self (λ input. next_word input ≡ Err kind) (λ input. value_given mode input ≡ Err kind) (λ input q. ap (read_word mode) q) (c.read_word.ensures.fault kind same)

pub returns-in-Some-clause-read : goal.returns-in-Some-clause-read
returns-in-Some-clause-read g c x e =
    let mode = g.V.WordValue.mode in
    let word = take c.in_ok-count.count c.read_word.new.word in
    let found : c.of_word.result ≡ Some x = search rules in
    let value : word_value mode word ≡ g.V.WordValue.values c.of_word.result = search rules in
    let same : c.read_word.result ≡ Ok c.in_ok-count.count = search rules in
    reads_so g.R.FaultyRead.remaining c.args.self.now c.read_word.new.self (λ input rest. next_word input ≡ Ok (record { value = word; rest = rest })) (λ input rest. value_given mode input ≡ if_read (g.V.WordValue.values (Some x)) rest)
    (λ input rest q. ap (read_word mode) q ∙ ap (λ v. if_read v rest) (value ∙ ap g.V.WordValue.values found)) (c.read_word.ensures.read c.in_ok-count.count same)

pub returns-in-None-clause-fault : goal.returns-in-None-clause-fault
returns-in-None-clause-fault g c kind e =
    let mode = g.V.WordValue.mode in
    let word = take c.in_ok-count.count c.read_word.new.word in
    let bad : BadData ≡ kind = cc in
    let found : c.of_word.result ≡ None = search rules in
    let value : word_value mode word ≡ g.V.WordValue.values c.of_word.result = search rules in
    let same : c.read_word.result ≡ Ok c.in_ok-count.count = search rules in
    reads_finds g.R.FaultyRead.remaining c.args.self.now c.read_word.new.self (λ input rest. next_word input ≡ Ok (record { value = word; rest = rest })) (λ input. value_given mode input ≡ Err kind)
    (λ input rest q. ap (read_word mode) q ∙ ap (λ v. if_read v rest) (value ∙ ap g.V.WordValue.values found ∙ g.V.WordValue.none) ∙ ap Err bad) (c.read_word.ensures.read c.in_ok-count.count same)
