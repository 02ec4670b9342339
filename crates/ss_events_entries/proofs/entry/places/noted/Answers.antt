use Rattle.std.proofs.Common.{rules, w64, to_z, of_z, pos, ◌≡◌, ◌<◌, ◌∙◌, ⊎_elim, inl, inr, get_or, subst, sym, ap, arith}
use Rattle.ss_events_entries.proofs.Common.{blank_slot, cases_eq, get_or_default, IsGuess, IsTaken, no_slot, Slot, slot_at}
use Rattle.ss_events_entries.proofs.Grown.{led_more}
use Rattle.ss_events_entries.proofs.entry.places.noted.Goals as goal
use Rattle.ss_events_entries.proofs.entry.places.noted.Goals.{then-it-count+in_ok-note, then-it-count-via-then-it-count, then-it-count-via-else-it-count+then-it-ge-FOLLOWING, else-it-count+else-it-ge-FOLLOWING}

pub loop-slot-preserved : goal.loop-slot-preserved
loop-slot-preserved c =
    let slots = c.args.slots.now in
    let k = c.loop-slot.slot in
    let x : Slot = get_or slots k (record { notice = pos 0; mark = record { time = pos 0; order = 0 }; next = 0; at = 0 }) in
    let is : x ≡ slot_at slots k = get_or_default slots k (record { notice = pos 0; mark = record { time = pos 0; order = 0 }; next = 0; at = 0 }) blank_slot c.loop-slot-test.true in
    elim c.if-it-count.branch [
      | then-it-count+in_ok-note w ↦
          let small : k < no_slot = search rules in
          let fits : to_z w64 (of_z w64 x.notice) ≡ x.notice = search rules in
          let same : to_z w64 (of_z w64 x.notice) ≡ (slot_at slots k).notice = fits ∙ ap (λ (y : Slot). y.notice) is in
          let taken : IsTaken c.args.count (slot_at slots k) = elim w.then-it-count.branch [
            | then-it-count-via-then-it-count v ↦ inl (omega (arith, v.if-it-count.true, ap (λ (y : Slot). y.at) is))
            | then-it-count-via-else-it-count+then-it-ge-FOLLOWING v ↦ inr (omega (arith, v.if-it-ge-FOLLOWING.true, ap (λ (y : Slot). y.at) is))
          ] in
          λ s lt its. subst (λ d. IsGuess d (slot_at slots s).notice s) (sym w.directory-is)
          (led_more c.args.count slots c.loop-slot.directory w.note.new.self k c.requires c.loop-slot-test.true small c.loop-slot.invariant taken
          (subst (λ n. IsGuess w.note.new.self n k) same w.in_ok-note.ensures.noted)
          (λ n t other apart led. w.note.ensures.others n t (λ e. other (e ∙ same)) apart led)
          s lt its)
      | else-it-count+else-it-ge-FOLLOWING w ↦ λ s lt its. subst (λ d. IsGuess d (slot_at slots s).notice s) (sym w.directory-is)
          (⊎_elim
          (λ e. absurd (⊎_elim
          (λ less. omega (arith, less, w.if-it-count.false, ap (λ (y : Slot). y.at) is, ap (λ n. (slot_at slots n).at) e))
          (λ more. omega (arith, more, w.if-it-ge-FOLLOWING.false, ap (λ (y : Slot). y.at) is, ap (λ n. (slot_at slots n).at) e))
          its))
          (λ other. c.loop-slot.invariant s (omega (arith, lt, other)) its)
          (cases_eq s k))
    ]
