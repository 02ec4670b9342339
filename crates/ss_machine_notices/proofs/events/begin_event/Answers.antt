use Rattle.std.proofs.Common.{ℕ, rules, ◌≡◌, ◌+◌, ◌<◌, ℤ, List, Some, Ok, Err, length, ap, sym, ◌∙◌, subst, to_z, of_z, w64, arith}
use Rattle.ss_machine_notices.proofs.Common.{begun_event_at, cleared_long, HasEntered, HasReceived, Here, IsOutOfMemory, IsUnbegun, Mode, modes_of, Seen, slice_get, small, State, TakeEvent}
use Rattle.ss_machine_notices.proofs.Beginning.{receives_not}
use Rattle.ss_machine_notices.proofs.Begun.{begun_class, begun_rank, begun_said, begun_modes, begun_entry_within, begun_frame, frame_within, entry_read, can_let_go}
use Rattle.ss_machine_notices.proofs.Started.{entry_is, begins, begins_fault, unbegun_as}
use Rattle.ss_machine_notices.proofs.events.begin_event.Goals as goal

pub rank-rank-requires : goal.rank-rank-requires
rank-rank-requires c = let z = c.requires in record { class = begun_class z.0 z.1 c.args.here c.args.state.now c.args.cell c.args.notice c.args.class z.3 }

pub bounds-events-rank : goal.bounds-events-rank
bounds-events-rank c =
    let z = c.requires in
    let rank : c.rank-rank.result ≡ z.3.coming.ranked.rank = c.rank-rank.ensures z.3.coming.ranked z.3.place in
    omega (arith, rank, begun_entry_within z.0 z.1 c.args.here c.args.state.now c.args.cell c.args.notice c.args.class z.3, ap length z.2)

pub offset_bounds-events-rank : goal.offset_bounds-events-rank
offset_bounds-events-rank c =
    let z = c.requires in
    let rank : c.rank-rank.result ≡ z.3.coming.ranked.rank = c.rank-rank.ensures z.3.coming.ranked z.3.place in
    let within : c.rank-rank.result < length c.args.events.now = omega (arith, rank, begun_entry_within z.0 z.1 c.args.here c.args.state.now c.args.cell c.args.notice c.args.class z.3, ap length z.2) in
    search rules

pub enter-requires : goal.enter-requires
enter-requires c =
    let z = c.requires in
    let at = entry_read z.0 z.1 c.args.here c.args.state.now c.args.cell c.args.notice c.args.class z.3 c.args.events.now c.rank-rank.result c.index-events-rank.result z.2 (c.rank-rank.ensures z.3.coming.ranked z.3.place) c.index-events-rank.is in
    let lt = small z.0 z.1 c.args.here z.3.before (TakeEvent c.args.cell) z.3.ready in
    record {
      sized = (entry_is z.0 z.1 c.args.here c.args.state.now c.args.cell c.args.notice c.args.class z.3 c.index-events-rank.result at).sized;
      small = begun_frame z.0 z.1 c.args.here c.args.state.now c.args.cell c.args.notice c.args.class z.3;
      place = omega (arith, lt);
    }

pub unbegun-requires : goal.unbegun-requires
unbegun-requires c =
    let z = c.requires in
    let refused : IsOutOfMemory c.args.state.now c.enter.new.self = search rules in
    record {
      goes = can_let_go z.0 z.1 c.args.here c.args.state.now c.args.cell c.args.notice c.args.class z.3 c.enter.new.self.world c.rank-rank.result (length c.enter.new.self.rows.numbers) refused.world (c.rank-rank.ensures z.3.coming.ranked z.3.place) (omega (arith, frame_within z.0 z.1 c.args.here c.args.state.now c.args.cell c.args.notice c.args.class z.3, refused.longer));
      ticks = omega (arith, z.3.left, refused.ticks, z.3.few);
    }

pub returns-in_default : goal.returns-in_default
returns-in_default c = λ w core all n.
    let s = c.args.state.now in let x = c.args.notice in let class = c.args.class in let s1 = c.enter.new.self in let new = c.unbegun.new.state in
    let same : to_z w64 (of_z w64 x) ≡ x = search rules in
    let es = c.args.events.now in let d = c.index-events-rank.result in let k = c.rank-rank.result in
    let refused : IsOutOfMemory s s1 = search rules in
    let rank : k ≡ n.coming.ranked.rank = c.rank-rank.ensures n.coming.ranked n.place in
    let at = entry_read w core c.args.here s c.args.cell c.args.notice c.args.class n es k d all rank c.index-events-rank.is in
    let here : slice_get s1.world.notices k ≡ Some n.coming.ranked.said = ap (slice_get s1.world.notices) rank ∙ ap (λ (e : Seen). slice_get e.notices n.coming.ranked.rank) refused.world ∙ begun_said w core c.args.here s c.args.cell c.args.notice c.args.class n in
    let u = subst (λ (y : ℤ). IsUnbegun n.coming.ranked.said class y s1 new) same (c.unbegun.ensures.state n.coming.ranked.said here) in
    unbegun_as w core c.args.here s c.args.cell c.args.notice c.args.class n d at s1 new (begun_event_at c.args.here c.args.cell c.unbegun.result) refused u (ap (begun_event_at c.args.here c.args.cell) c.unbegun.ensures.none)

pub receive-requires : goal.receive-requires
receive-requires c =
    let z = c.requires in let d = c.index-events-rank.result in
    let enters : HasEntered c.args.here c.args.state.now c.enter.new.self d c.args.cell c.in-Ok.frame = search rules in
    let at = entry_read z.0 z.1 c.args.here c.args.state.now c.args.cell c.args.notice c.args.class z.3 c.args.events.now c.rank-rank.result c.index-events-rank.result z.2 (c.rank-rank.ensures z.3.coming.ranked z.3.place) c.index-events-rank.is in
    let entry = entry_is z.0 z.1 c.args.here c.args.state.now c.args.cell c.args.notice c.args.class z.3 d at in
    let long = cleared_long enters.grown (c.in-Ok.frame + length d.given.items) d.others.items in
    record {
      goes = can_let_go z.0 z.1 c.args.here c.args.state.now c.args.cell c.args.notice c.args.class z.3 c.enter.new.self.world c.rank-rank.result c.in-Ok.frame (ap (λ (t : State). t.world) enters.is) (c.rank-rank.ensures z.3.coming.ranked z.3.place) (omega (arith, enters.begin));
      modes = λ i m e.
          ap (λ (t : State). slice_get (modes_of t.world.heap.layout c.args.class) i) enters.is
          ∙ begun_modes z.0 z.1 c.args.here c.args.state.now c.args.cell c.args.notice c.args.class z.3 i m (ap (λ (ms : List Mode). slice_get ms i) (sym (c.deref.ensures.value ∙ entry.given)) ∙ e);
      places = omega (arith, enters.room, entry.sized.variables, ap length c.deref.ensures.value, long, ap (λ (t : State). length t.rows.numbers) enters.is);
      small = omega (arith, enters.room, enters.small, entry.sized.variables, ap length c.deref.ensures.value);
    }

pub fault_of_event-requires : goal.fault_of_event-requires
fault_of_event-requires c =
    let z = c.requires in
    let enters : HasEntered c.args.here c.args.state.now c.enter.new.self c.index-events-rank.result c.args.cell c.in-Ok.frame = search rules in
    let rank : c.rank-rank.result ≡ z.3.coming.ranked.rank = c.rank-rank.ensures z.3.coming.ranked z.3.place in
    let here : slice_get c.enter.new.self.world.notices c.rank-rank.result ≡ Some z.3.coming.ranked.said = ap (slice_get c.enter.new.self.world.notices) rank ∙ ap (λ (t : State). slice_get t.world.notices z.3.coming.ranked.rank) enters.is ∙ begun_said z.0 z.1 c.args.here c.args.state.now c.args.cell c.args.notice c.args.class z.3 in
    let kept = receives_not z.3.coming.ranked.said c.args.class (to_z w64 (of_z w64 c.args.notice)) c.deref.result.now c.in-Ok.frame c.enter.new.self c.receive.new.state c.in-Err.kind (c.in-Err.ensures z.3.coming.ranked.said here) in
    omega (arith, rank, begun_rank z.0 z.1 c.args.here c.args.state.now c.args.cell c.args.notice c.args.class z.3, ap (λ (e : Seen). length e.notices) kept, ap (λ (t : State). length t.world.notices) enters.is)

pub returns-in-Ok-receive : goal.returns-in-Ok-receive
returns-in-Ok-receive c = λ w core all n.
    let s = c.args.state.now in let x = c.args.notice in let class = c.args.class in let s1 = c.enter.new.self in let frame = c.in-Ok.frame in
    let es = c.args.events.now in let d = c.index-events-rank.result in let k = c.rank-rank.result in
    let enters : HasEntered c.args.here s s1 d c.args.cell frame = search rules in
    let rank : k ≡ n.coming.ranked.rank = c.rank-rank.ensures n.coming.ranked n.place in
    let at = entry_read w core c.args.here s c.args.cell c.args.notice c.args.class n es k d all rank c.index-events-rank.is in
    let here : slice_get s1.world.notices k ≡ Some n.coming.ranked.said = ap (slice_get s1.world.notices) rank ∙ ap (λ (t : State). slice_get t.world.notices n.coming.ranked.rank) enters.is ∙ begun_said w core c.args.here s c.args.cell c.args.notice c.args.class n in
    let same : to_z w64 (of_z w64 x) ≡ x = search rules in
    let got : HasReceived n.coming.ranked.said class x d.given.items frame s1 c.receive.new.state (Ok tt) = simp (same, c.deref.ensures.value) at (c.in-Ok-receive.ensures n.coming.ranked.said here) in
    begins w core c.args.here s c.args.cell c.args.notice c.args.class n d at s1 frame enters c.receive.new.state got (begun_event_at c.args.here c.args.cell (Some d.place)) (ap (λ (f : ℕ). let h : Here = record { place = d.place; frame = f } in Some h) (sym enters.begin)) (omega (arith, enters.begin))

pub returns-in-Err : goal.returns-in-Err
returns-in-Err c = λ w core all n.
    let s = c.args.state.now in let x = c.args.notice in let class = c.args.class in let s1 = c.enter.new.self in let frame = c.in-Ok.frame in
    let es = c.args.events.now in let d = c.index-events-rank.result in let k = c.rank-rank.result in
    let enters : HasEntered c.args.here s s1 d c.args.cell frame = search rules in
    let rank : k ≡ n.coming.ranked.rank = c.rank-rank.ensures n.coming.ranked n.place in
    let at = entry_read w core c.args.here s c.args.cell c.args.notice c.args.class n es k d all rank c.index-events-rank.is in
    let here : slice_get s1.world.notices k ≡ Some n.coming.ranked.said = ap (slice_get s1.world.notices) rank ∙ ap (λ (t : State). slice_get t.world.notices n.coming.ranked.rank) enters.is ∙ begun_said w core c.args.here s c.args.cell c.args.notice c.args.class n in
    let same : to_z w64 (of_z w64 x) ≡ x = search rules in
    let got : HasReceived n.coming.ranked.said class x d.given.items frame s1 c.receive.new.state (Err c.in-Err.kind) = simp (same, c.deref.ensures.value) at (c.in-Err.ensures n.coming.ranked.said here) in
    let kept = receives_not n.coming.ranked.said class x d.given.items frame s1 c.receive.new.state c.in-Err.kind got in
    let still : slice_get c.receive.new.state.world.notices k ≡ Some n.coming.ranked.said = ap (λ (e : Seen). slice_get e.notices k) kept ∙ here in
    begins_fault w core c.args.here s c.args.cell c.args.notice c.args.class n d at s1 frame enters c.receive.new.state c.in-Err.kind got c.fault_of_event.new.state (begun_event_at c.args.here c.args.cell c.fault_of_event.result) (c.fault_of_event.ensures.state n.coming.ranked.said still) (ap (begun_event_at c.args.here c.args.cell) c.fault_of_event.ensures.none)
