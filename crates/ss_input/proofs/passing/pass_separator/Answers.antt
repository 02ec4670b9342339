use Rattle.std.proofs.Common.{rules, [], ◌∷◌, not, Some, None, refl, sym, ap, subst}
use Rattle.ss_input.proofs.Common.{HasPeeked, is_separator, is_word_byte}
use Rattle.ss_input.proofs.Asked.{unasked_look, unasked_one}
use Rattle.ss_input.proofs.Passages.{passes_one, passes_look, next_is, next_is_end}
use Rattle.ss_input.proofs.passing.pass_separator.Goals as goal

pub returns-in-Some-clause-passed : goal.returns-in-Some-clause-passed
returns-in-Some-clause-passed g c e = record {
  bytes = c.in-Some.byte ∷ [];
  passes = passes_one g.R.FaultyRead.remaining c.args.block.now c.peek.new.self c.advance.new.self c.in-Some.byte (subst (HasPeeked g.R.FaultyRead.remaining c.args.block.now c.peek.new.self) c.in-Some.is c.in_ok-byte.ensures.ok) c.advance.ensures.left c.advance.ensures.reader c.advance.ensures.ended;
  holds = (c.in-Some.byte, refl, search rules);
}

pub returns-in_default-clause-none : goal.returns-in_default-clause-none
returns-in_default-clause-none g c e =
    let look = subst (HasPeeked g.R.FaultyRead.remaining c.args.block.now c.peek.new.self) c.in-Some.is c.in_ok-byte.ensures.ok in
    (passes_look g.R.FaultyRead.remaining c.args.block.now c.peek.new.self (Some c.in-Some.byte) look, next_is g.R.FaultyRead.remaining is_word_byte c.args.block.now c.peek.new.self c.in-Some.byte look (ap not (sym c.if-is_separator.ensures)))

pub returns-in_default-2-clause-none : goal.returns-in_default-2-clause-none
returns-in_default-2-clause-none g c e =
    let look = subst (HasPeeked g.R.FaultyRead.remaining c.args.block.now c.peek.new.self) c.in_default.is c.in_ok-byte.ensures.ok in
    (passes_look g.R.FaultyRead.remaining c.args.block.now c.peek.new.self None look, next_is_end g.R.FaultyRead.remaining is_word_byte c.args.block.now c.peek.new.self look)

pub returns-in-Some-clause-unasked : goal.returns-in-Some-clause-unasked
returns-in-Some-clause-unasked g c =
    let look = subst (HasPeeked g.R.FaultyRead.remaining c.args.block.now c.peek.new.self) c.in-Some.is c.in_ok-byte.ensures.ok in
    unasked_one is_separator c.args.block.now c.peek.new.self c.advance.new.self c.in-Some.byte c.peek.ensures.buffered c.peek.ensures.after_end look.byte_is (sym c.if-is_separator.ensures) c.advance.ensures.left c.advance.ensures.reader c.advance.ensures.ended

pub returns-in_default-clause-unasked : goal.returns-in_default-clause-unasked
returns-in_default-clause-unasked g c =
    unasked_look is_separator c.args.block.now c.peek.new.self c.peek.ensures.buffered c.peek.ensures.after_end

pub returns-in_default-2-clause-unasked : goal.returns-in_default-2-clause-unasked
returns-in_default-2-clause-unasked g c =
    unasked_look is_separator c.args.block.now c.peek.new.self c.peek.ensures.buffered c.peek.ensures.after_end
