use Rattle.std.proofs.Common.{◌∷◌, sym, ap, ◌∙◌, drop}
use Rattle.ss_lex.specs.Lines.{lines_of}
use Rattle.ss_lex.proofs.LineEnds.{first_is}
use Rattle.ss_lex.proofs.lines.first_line.Goals as goal

pub returns-clause-lines : goal.returns-clause-lines
returns-clause-lines c =
    let after = c.tail.ensures ∙ ap (drop 1) c.split_at.ensures.back in
    first_is c.args.text.now _ c.requires c.line_length.ensures.value
    ∙ (λ i. sym c.split_at.ensures.front i ∷ lines_of (sym after i))
