use Rattle.std.proofs.Common.{ap, ◌∙◌, ◌++◌, ◌∷◌, []}
use Rattle.ss_lex.proofs.Due.{summary_push}
use Rattle.ss_lex.proofs.collected.Collected.push.Goals as goal

pub invariant_of-self-2 : goal.invariant_of-self-2
invariant_of-self-2 c =
    summary_push c.args.self.now _ c.args.token _ _ (c.in_ok-push.ensures.items ∙ ap (λ ts. ts ++ c.args.token ∷ []) c.self.view_is) c.is_print-print_last.ensures c.number_after-number.ensures
