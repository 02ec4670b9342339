use Rattle.std.proofs.Common.{sym, ap, subst, ◌∙◌, arith, List}
use Rattle.ss_lex.proofs.Common.{AreTokens, Token}
use Rattle.ss_lex.proofs.Whole.{found}
use Rattle.ss_lex.proofs.text.read_text.Goals as goal

pub returns-clause-found : goal.returns-clause-found
returns-clause-found c =
    subst (λ (ts : List Token). AreTokens c.args.text.now ts) (sym c.into_tokens.ensures ∙ ap (λ l. l.list) (sym c.new.ensures))
    (found _ _ (omega arith) c.in_ok-check_characters.ensures c.in_ok-collected.ensures.ok)
