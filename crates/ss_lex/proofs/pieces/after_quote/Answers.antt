use Rattle.std.proofs.Common.{sym, ap, ◌∙◌}
use Rattle.ss_lex.proofs.Steps.{quote_closed, quote_open}
use Rattle.ss_lex.proofs.pieces.after_quote.Goals as goal

pub returns-then-begins_with : goal.returns-then-begins_with
returns-then-begins_with c =
    ap (λ m. (m, c.tail.result.now)) c.text_meaning.ensures
    ∙ quote_closed c.args.bytes.now _ _ c.tail.result.now _ c.quotable_length.ensures.value c.split_at.ensures.front c.split_at.ensures.back (sym c.begins_with.ensures ∙ c.if-begins_with.true) c.tail.ensures

pub returns-else-begins_with : goal.returns-else-begins_with
returns-else-begins_with c = quote_open c.args.bytes.now _ _ c.quotable_length.ensures.value c.split_at.ensures.back (sym c.begins_with.ensures ∙ c.if-begins_with.false)
