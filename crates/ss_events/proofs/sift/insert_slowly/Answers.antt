use Rattle.std.proofs.Common.{◌≡◌, ◌≢◌, ◌||◌, ◌∙◌, ℤ, Bool, true, false, int_eq, w64, to_z, of_z, sym, subst, to_z-of_z, arith}
use Rattle.ss_events.proofs.Common.{comes_before, Entry, HasGoneIn, HeadsAndFollowers, heap_lines, HeapEntries, IsHeap, IsInsertion, list_any, notices_of, scheduling_limit}
use Rattle.ss_events.proofs.Sifts.{retried, goes_in}
use Rattle.ss_events.proofs.sift.insert_slowly.Goals as goal

pub returns : goal.returns
returns c =
    let n = to_z w64 (of_z w64 c.args.notice) in
    let old = c.args.heap.now in let mid = c.insert_at_once.new.heap in let new = c.raise.new.heap in
    let its : ℤ → Entry = λ z. record { key = c.args.key; number = c.args.number; notice = z } in
    let attempt = subst (λ (h : HeapEntries). IsInsertion (its n) (heap_lines h) h.before mid c.insert_at_once.result) c.make_room.ensures c.insert_at_once.ensures in
    let s = subst (λ (b : Bool). IsInsertion (its n) (heap_lines old) old.before mid b) c.if-insert_at_once.false attempt in
    let free = subst (λ (l : HeadsAndFollowers). (list_any (int_eq n) (notices_of l.heads) || list_any (int_eq n) (notices_of l.followers)) ≡ false) (sym s.lines) (sym c.holds.ensures ∙ c.if-holds.false) in
    let ordered : IsHeap comes_before mid.entries = subst (λ (l : HeadsAndFollowers). IsHeap comes_before l.heads) (sym s.lines) c.requires.order in
    let room : c.args.number ≢ scheduling_limit = omega arith in
    subst (λ (z : ℤ). HasGoneIn (its z) (heap_lines old) old.before new) (to_z-of_z c.ranges.notice)
    (retried (its n) (heap_lines old) old.before mid new true s
    (goes_in (its n) mid c.push.new.self new c.len-place.result c.raise.result c.in-Ok-push.ensures.ok c.len-place.ensures c.raise.ensures.raises c.raise.ensures.cost c.raise.ensures.compared s.tried ordered free room))
