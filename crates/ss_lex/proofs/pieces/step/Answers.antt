use Rattle.std.proofs.Common.{sym, ap, ◌∙◌, rules}
use Rattle.ss_lex.specs.Reading.{comment_at}
use Rattle.ss_lex.proofs.Steps.{step_word, step_comment, step_quote}
use Rattle.ss_lex.proofs.pieces.step.Goals as goal

pub returns-then-is_word_part : goal.returns-then-is_word_part
returns-then-is_word_part c =
    ap (λ m. (m, c.split_at.result.1.now)) c.word_meaning.ensures
    ∙ step_word c.args.bytes.now _ _ _ c.split_at.result.1.now _ c.in-Some.ensures (sym c.is_blank_byte.ensures ∙ c.if-is_blank_byte.false) (sym c.is_word_part.ensures ∙ c.if-is_word_part.true) c.run_length.ensures.value c.split_at.ensures.front c.split_at.ensures.back

pub returns-then-opens_comment : goal.returns-then-opens_comment
returns-then-opens_comment c =
    step_comment c.args.bytes.now _ _ c.after_comment.result.now c.in-Some.ensures (sym c.is_blank_byte.ensures ∙ c.if-is_blank_byte.false) (sym c.is_word_part.ensures ∙ c.if-is_word_part.false) (sym c.opens_comment.ensures ∙ c.if-opens_comment.true) (c.after_comment.ensures ∙ ap (λ r. (comment_at r).1) c.tail.ensures)

pub returns-then-b-eq34 : goal.returns-then-b-eq34
returns-then-b-eq34 c =
    step_quote c.args.bytes.now _ _ _ c.in-Some.ensures (sym c.is_blank_byte.ensures ∙ c.if-is_blank_byte.false) (sym c.is_word_part.ensures ∙ c.if-is_word_part.false) (sym c.opens_comment.ensures ∙ c.if-opens_comment.false) (search rules) c.after_quote.ensures
