use Rattle.std.proofs.Common.{◌≡◌, ◌+◌, ◌-◌, ◌<◌, ◌∙◌, length, get_or, drop, ap, arith}
use Rattle.std.proofs.lemmas.List.{get_or-take, get_or-drop, get_or_default}
use Rattle.ss_events_entries.specs.declared.entry.slots.HeapNode.{HeapNode}
use Rattle.ss_events_entries.proofs.Seen.{long_now, mark_read}
use Rattle.ss_events_entries.proofs.entry.places.Places.four.Goals as goal

pub returns-clause-marks : goal.returns-clause-marks
returns-clause-marks c = λ k k_in s d.
    let ss = c.self.inside.nodes.items in
    let from = c.args.from in
    let long : length c.args.self.now.heads ≡ c.self.inside.count =
    long_now c.self.inside.count c.self.inside.free c.self.inside.slots.items c.self.inside.entries.items ss c.self.inside.directory c.self.invariant c.args.self.now c.self.view_is in
    let within : from + k < length c.args.self.now.heads = omega (arith, c.requires.within, k_in) in
    let there : from + k < length ss = omega (arith, within, long, c.self.invariant.few) in
    ap (λ (t : HeapNode). t.mark) (get_or-take (from + 4 - from) (drop from c.deref.result.now) k s (omega (arith, k_in)) ∙ get_or-drop from c.deref.result.now k s ∙ ap (λ l. get_or l (from + k) s) c.deref.ensures.value)
    ∙ mark_read c.self.inside.count c.self.inside.free c.self.inside.slots.items c.self.inside.entries.items ss c.self.inside.directory c.self.invariant c.args.self.now c.self.view_is
    (from + k) within (get_or ss (from + k) s)
    (get_or_default ss (from + k) s (get_or ss (from + k) s) there) d
