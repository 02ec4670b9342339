use Rattle.std.proofs.Common.{Bool, not, sym, ap, ◌∙◌, cond}
use Rattle.ss_stats_histories.proofs.Common.{History, is_full, noted_value, with_noted_value}
use Rattle.ss_stats_histories.proofs.Fullness.{refused_is_full}
use Rattle.ss_stats_histories.proofs.watched.Watched.note.Goals as goal

pub returns-else-is_ok-clause-noted : goal.returns-else-is_ok-clause-noted
returns-else-is_ok-clause-noted c =
    let h = c.self.inside.ghost_history.history in
    let full = refused_is_full h c.note.result (c.note.ensures.outcome h c.self.invariant) (sym c.if-is_ok.ensures.value) in
    sym (ap (λ (b : Bool). cond b h (with_noted_value h c.args.now c.args.value)) full) ∙ ap (noted_value c.args.now c.args.value) c.self.view_is

pub returns-else-is_ok-clause-open : goal.returns-else-is_ok-clause-open
returns-else-is_ok-clause-open c =
    let h = c.self.inside.ghost_history.history in
    let full = refused_is_full h c.note.result (c.note.ensures.outcome h c.self.invariant) (sym c.if-is_ok.ensures.value) in
    sym (ap not full) ∙ ap (λ (h : History). not (is_full h)) c.self.view_is
