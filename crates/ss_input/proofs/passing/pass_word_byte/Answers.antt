use Rattle.std.proofs.Common.{◌≡◌, [], ◌∷◌, true, not, Some, None, sym, ap, subst}
use Rattle.ss_input.proofs.Common.{HasPassed, HasPeeked, is_separator, is_word_byte}
use Rattle.ss_input.proofs.Asked.{unasked_look, unasked_one}
use Rattle.ss_input.proofs.Passages.{passes_one, passes_look, next_is, next_is_end}
use Rattle.ss_input.proofs.passing.pass_word_byte.Goals as goal

pub returns-in-Some-clause-passed : goal.returns-in-Some-clause-passed
returns-in-Some-clause-passed g c b e =
    let same : c.in-Some.byte ≡ b = cc in
    let passes = passes_one g.R.FaultyRead.remaining c.args.block.now c.peek.new.self c.advance.new.self c.in-Some.byte (subst (HasPeeked g.R.FaultyRead.remaining c.args.block.now c.peek.new.self) c.in-Some.is c.in_ok-byte.ensures.ok) c.advance.ensures.left c.advance.ensures.reader c.advance.ensures.ended in
    (subst (λ x. HasPassed g.R.FaultyRead.remaining c.args.block.now c.advance.new.self (x ∷ [])) same passes, subst (λ x. is_word_byte x ≡ true) same (ap not (sym c.if-not-is_separator.ensures)))

pub returns-in_default-clause-none : goal.returns-in_default-clause-none
returns-in_default-clause-none g c e =
    let look = subst (HasPeeked g.R.FaultyRead.remaining c.args.block.now c.peek.new.self) c.in-Some.is c.in_ok-byte.ensures.ok in
    (passes_look g.R.FaultyRead.remaining c.args.block.now c.peek.new.self (Some c.in-Some.byte) look, next_is g.R.FaultyRead.remaining is_separator c.args.block.now c.peek.new.self c.in-Some.byte look (sym c.if-not-is_separator.ensures))

pub returns-in_default-2-clause-none : goal.returns-in_default-2-clause-none
returns-in_default-2-clause-none g c e =
    let look = subst (HasPeeked g.R.FaultyRead.remaining c.args.block.now c.peek.new.self) c.in_default.is c.in_ok-byte.ensures.ok in
    (passes_look g.R.FaultyRead.remaining c.args.block.now c.peek.new.self None look, next_is_end g.R.FaultyRead.remaining is_separator c.args.block.now c.peek.new.self look)

pub returns-in-Some-clause-unasked : goal.returns-in-Some-clause-unasked
returns-in-Some-clause-unasked g c =
    let look = subst (HasPeeked g.R.FaultyRead.remaining c.args.block.now c.peek.new.self) c.in-Some.is c.in_ok-byte.ensures.ok in
    unasked_one is_word_byte c.args.block.now c.peek.new.self c.advance.new.self c.in-Some.byte c.peek.ensures.buffered c.peek.ensures.after_end look.byte_is (ap not (sym c.if-not-is_separator.ensures)) c.advance.ensures.left c.advance.ensures.reader c.advance.ensures.ended

pub returns-in_default-clause-unasked : goal.returns-in_default-clause-unasked
returns-in_default-clause-unasked g c =
    unasked_look is_word_byte c.args.block.now c.peek.new.self c.peek.ensures.buffered c.peek.ensures.after_end

pub returns-in_default-2-clause-unasked : goal.returns-in_default-2-clause-unasked
returns-in_default-2-clause-unasked g c =
    unasked_look is_word_byte c.args.block.now c.peek.new.self c.peek.ensures.buffered c.peek.ensures.after_end
