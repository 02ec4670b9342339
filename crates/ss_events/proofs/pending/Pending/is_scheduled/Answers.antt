use Rattle.std.proofs.Common.{◌≡◌, ◌∙◌, ℤ, false, ap, sym, subst, to_z-of_z, arith}
use Rattle.ss_events_entries.specs.CountedList.{CountedList}
use Rattle.ss_events.proofs.Common.{is_pending}
use Rattle.ss_events.proofs.Agendas.{is_held, pending-in_order, none_left}
use Rattle.ss_events.proofs.pending.Pending.is_scheduled.Goals as goal

pub returns-then-len-eq0 : goal.returns-then-len-eq0
returns-then-len-eq0 c =
    subst (λ (v : CountedList). false ≡ is_pending c.args.notice v.list.entries) c.self.view_is
    (sym (ap (is_pending c.args.notice) (none_left c.self.inside.heap c.are_after_heads.ensures (omega (arith, c.len.ensures, c.if-len-eq0.true)))))

pub returns : goal.returns
returns c =
    subst (λ (v : CountedList). c.holds.result ≡ is_pending c.args.notice v.list.entries) c.self.view_is
    (subst (λ (z : ℤ). c.holds.result ≡ is_held z c.self.inside.heap) (to_z-of_z c.ranges.notice) c.holds.ensures ∙ sym (pending-in_order c.args.notice c.self.inside.heap))
