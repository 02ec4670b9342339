use Rattle.std.proofs.Common.{◌∙◌, [], map, ap, subst, sym}
use Rattle.ss_events_entries.specs.CountedList.{no_work, with_work}
use Rattle.ss_events.proofs.Common.{all_of, HeapEntries, in_order, IsAgenda}
use Rattle.ss_events.proofs.Agendas.{agenda-none}
use Rattle.ss_events.proofs.pending.Pending.new.Goals as goal

pub invariant_of-result : goal.invariant_of-result
invariant_of-result c = subst (λ (h : HeapEntries). IsAgenda h.entries (all_of h) 0) (sym c.new.ensures) agenda-none

pub returns : goal.returns
unfolding in_order
returns c = ap (λ h. record { list = record { entries = in_order (all_of h); schedulings = 0; classes = map (λ shapes. shapes.items) c.in_ok-copied.field-0.items }; comparisons = h.comparisons; moves = h.moves; total = with_work h.before h.comparisons h.moves }) c.new.ensures
    ∙ ap (λ shapes. record { list = record { entries = []; schedulings = 0; classes = shapes }; comparisons = 0; moves = 0; total = no_work }) c.in_ok-copied.ensures
