use Rattle.std.proofs.Common.{to_z, of_z, w64, to_z-of_z, ◌≡◌, ◌≢◌, ◌<◌, ◌||◌, ◌∙◌, ℕ, ℤ, List, length, int_eq, subst, ap}
use Rattle.ss_events_entries.proofs.Common.{HeadsAndFollowers, IsTaken, list_any, MatchOption, notices_of, Slot, slot_at}
use Rattle.ss_events_entries.proofs.Seen.{holds_read}
use Rattle.ss_events_entries.proofs.entry.places.Places.holds.Goals as goal

pub returns : goal.returns
returns c =
    let Finds = λ (xs : List Slot) (n : ℤ). MatchOption c.slot_of.result ((s : ℕ) → s < length xs → IsTaken c.self.inside.count (slot_at xs s) → (slot_at xs s).notice ≢ n) (λ s. (s < length xs) × IsTaken c.self.inside.count (slot_at xs s) × ((slot_at xs s).notice ≡ n)) in
    c.is_some.ensures
    ∙ holds_read c.self.inside.count c.self.inside.free c.self.inside.slots.items c.self.inside.entries.items c.self.inside.nodes.items c.self.inside.directory c.self.invariant c.args.notice c.slot_of.result
    (subst (λ n. Finds c.self.inside.slots.items n) (to_z-of_z c.ranges.notice) (subst (λ xs. Finds xs (to_z w64 (of_z w64 c.args.notice))) c.deref.ensures.value c.slot_of.ensures))
    ∙ ap (λ (l : HeadsAndFollowers). list_any (int_eq c.args.notice) (notices_of l.heads) || list_any (int_eq c.args.notice) (notices_of l.followers)) c.self.view_is
