use Rattle.std.proofs.Common.{length, ap, sym, subst, arith, ℕ}
use Rattle.ss_lex.proofs.Common.{eqb-true, IsLineRead}
use Rattle.ss_lex.proofs.Reading.{lines_fit, text_more, text_all}
use Rattle.ss_lex.proofs.text.read_lines.Goals as goal

pub overflow_add-line : goal.overflow_add-line
overflow_add-line c = omega (arith, lines_fit c.args.text.now, ap length c.first_line.ensures.lines)

pub lines-preserved : goal.lines-preserved
lines-preserved c = text_more _ _ _ _ _ _ _ _ _ _ _ c.lines.invariant c.first_line.ensures.lines c.first_line.ensures.place (subst (λ (left : ℕ). IsLineRead c.first_line.result.0.now c.lines.start c.lines.line left c.lines.due c.lines.tokens c.read_line.new.tokens c.in_ok-due.due) c.from-left.ensures c.in_ok-due.ensures.ok)

pub returns-clause-ok : goal.returns-clause-ok
returns-clause-ok c = text_all _ _ _ _ _ _ _ c.lines.invariant (eqb-true _ 0 (sym c.lines-test.ensures))
