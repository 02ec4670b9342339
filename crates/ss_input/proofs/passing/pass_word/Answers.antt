use Rattle.std.proofs.Common.{rules, arith, length, take, ◌≡◌, ◌<◌, ◌∷◌, ◌++◌, [], true, refl, subst, ◌∙◌}
use Rattle.ss_input.proofs.Common.{HasPassed, is_separator, is_word_byte, IsNextWanted, IsWordPassed, length-append, list_all-append}
use Rattle.std.proofs.lemmas.Result.{err_from_is_err_and}
use Rattle.ss_input.proofs.Asked.{unasked_then}
use Rattle.ss_input.proofs.Passages.{word_more, word_stays, passes_then, gives_after, wants_after}
use Rattle.ss_input.proofs.passing.pass_word.Goals as goal

pub loop-count-preserved : goal.loop-count-preserved
loop-count-preserved g c =
    let one : HasPassed g.R.FaultyRead.remaining c.loop-count.block c.pass_word_byte.new.block (c.in-Some.byte ∷ []) × (is_word_byte c.in-Some.byte ≡ true) = search rules in
    let lt : c.loop-count.count < length c.loop-count.word = omega (arith, c.loop-count-test.true, c.loop-count.invariant.size) in
    record {
      passed = word_more g.R.FaultyRead.remaining c.args.block.now c.loop-count.block c.pass_word_byte.new.block c.loop-count.word c.loop-count.count c.in-Some.byte lt c.loop-count.invariant.passed one;
      size = search rules;
      end = λ h. c.pass_word_byte.ensures.end (c.loop-count.invariant.end h);
      unfailed = search rules;
      unasked = unasked_then is_word_byte c.args.block.now c.loop-count.block c.pass_word_byte.new.block c.loop-count.invariant.unasked c.pass_word_byte.ensures.unasked;
    }

pub returns-in-None-clause-passed : goal.returns-in-None-clause-passed
returns-in-None-clause-passed g c count e =
    let same : c.loop-count.count ≡ count = cc in
    let none : HasPassed g.R.FaultyRead.remaining c.loop-count.block c.pass_word_byte.new.block [] × IsNextWanted is_separator c.pass_word_byte.new.block = search rules in
    let passed = word_stays g.R.FaultyRead.remaining c.args.block.now c.loop-count.block c.pass_word_byte.new.block (take c.loop-count.count c.loop-count.word) c.loop-count.invariant.passed none.0 in
    (subst (λ n. IsWordPassed g.R.FaultyRead.remaining c.args.block.now c.pass_word_byte.new.block (take n c.loop-count.word)) same passed, omega (arith, same, c.loop-count-test.true), none.1)

pub returns-in-Some-2-clause-too_long : goal.returns-in-Some-2-clause-too_long
returns-in-Some-2-clause-too_long g c e =
    let at_end : c.loop-count.count ≡ 64 = omega (arith, c.loop-count.auto.count-end, c.loop-count-test.false) in
    let one : HasPassed g.R.FaultyRead.remaining c.loop-count.block c.pass_word_byte-2.new.block (c.in-Some-2.field-0 ∷ []) × (is_word_byte c.in-Some-2.field-0 ≡ true) = search rules in
    let so_far : IsWordPassed g.R.FaultyRead.remaining c.args.block.now c.loop-count.block (take 64 c.loop-count.word) = subst (λ n. IsWordPassed g.R.FaultyRead.remaining c.args.block.now c.loop-count.block (take n c.loop-count.word)) at_end c.loop-count.invariant.passed in
    record {
      bytes = take 64 c.loop-count.word ++ c.in-Some-2.field-0 ∷ [];
      passes = passes_then g.R.FaultyRead.remaining c.args.block.now c.loop-count.block c.pass_word_byte-2.new.block (take 64 c.loop-count.word) (c.in-Some-2.field-0 ∷ []) so_far.0 one.0;
      holds = (list_all-append is_word_byte (take 64 c.loop-count.word) (c.in-Some-2.field-0 ∷ []) ∙ rw (so_far.1, one.1) refl, length-append (take 64 c.loop-count.word) (c.in-Some-2.field-0 ∷ []) ∙ search rules);
    }

pub returns-in-None-2-clause-passed : goal.returns-in-None-2-clause-passed
returns-in-None-2-clause-passed g c count e =
    let at_end : c.loop-count.count ≡ 64 = omega (arith, c.loop-count.auto.count-end, c.loop-count-test.false) in
    let same : 64 ≡ count = cc in
    let none : HasPassed g.R.FaultyRead.remaining c.loop-count.block c.pass_word_byte-2.new.block [] × IsNextWanted is_separator c.pass_word_byte-2.new.block = search rules in
    let passed = word_stays g.R.FaultyRead.remaining c.args.block.now c.loop-count.block c.pass_word_byte-2.new.block (take c.loop-count.count c.loop-count.word) c.loop-count.invariant.passed none.0 in
    (subst (λ n. IsWordPassed g.R.FaultyRead.remaining c.args.block.now c.pass_word_byte-2.new.block (take n c.loop-count.word)) (at_end ∙ same) passed, omega (arith, same), none.1)

pub returns-in_err-pass_word_byte-clause-gives : goal.returns-in_err-pass_word_byte-clause-gives
returns-in_err-pass_word_byte-clause-gives g c =
    let e = err_from_is_err_and c.from_residual-in_err-pass_word_byte.result c.from_residual-in_err-pass_word_byte.ensures.1 in
    rw e.1 (gives_after g.R.FaultyRead.remaining c.args.block.now c.loop-count.block c.pass_word_byte-2.new.block (take c.loop-count.count c.loop-count.word) c.loop-count.invariant.passed.0 c.in_err-pass_word_byte.ensures.unread)

pub returns-in_err-pass_word_byte-clause-wants : goal.returns-in_err-pass_word_byte-clause-wants
returns-in_err-pass_word_byte-clause-wants g c =
    let e = err_from_is_err_and c.from_residual-in_err-pass_word_byte.result c.from_residual-in_err-pass_word_byte.ensures.1 in
    rw e.1 (wants_after g.R.FaultyRead.remaining is_word_byte c.args.block.now c.loop-count.block c.pass_word_byte-2.new.block (take c.loop-count.count c.loop-count.word) c.loop-count.invariant.passed.0 c.loop-count.invariant.passed.1 c.in_err-pass_word_byte.ensures.unread c.in_err-pass_word_byte.ensures.wanted)
