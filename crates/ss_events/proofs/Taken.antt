-- An entry that goes out of its place, where the next of its line comes, or the last head.
use Rattle.std.proofs.Common.{◌≡◌, ◌+◌, ◌<◌, ◌≤◌, [], ◌∷◌, ◌++◌, ℕ, ℤ, zero, suc, ap, get_or, set, length, List, IsPermutation, sym, subst, ⊎_elim, arith}
use Rattle.ss_events.proofs.Common.{comes_before, entries_rank, Entry, IsHeap, IsHeapBut, IsPermutation-append_left, IsPermutation-append_right, IsPermutation-cons, IsPermutation-middle, IsPermutation-trans}
use Rattle.ss_events_entries.specs.HeapEntries.{HeadsAndFollowers, HasAdvanced, HasRemovedEntry, HasLostFollower}
use Rattle.ss_events_entries.proofs.HeadsAndFollowers.{swap_two}
use Rattle.ss_events_entries.proofs.Heaps.{followed_but, removed_but, removed_last, long-swap_remove}
use Rattle.std.specs.List.{swap_remove}
use Rattle.std.proofs.lemmas.List.{length-set}
use Rattle.std.proofs.lemmas.List.Sorted.{IsPermutation-swap_remove}

-- one in the place of another
replaced : (xs : List Entry) (i : ℕ) (y e : Entry) → i < length xs → e ≡ get_or xs i e → IsPermutation (y ∷ xs) (e ∷ set xs i y)
replaced [] i y e within is = absurd (omega (arith, within))
replaced (x ∷ xs) zero y e within is = subst (λ z. IsPermutation (y ∷ x ∷ xs) (z ∷ y ∷ xs)) (sym is) (swap_two y x xs)
replaced (x ∷ xs) (suc i) y e within is =
    let rest = replaced xs i y e (omega (arith, within)) is in
    IsPermutation-trans (y ∷ x ∷ xs) (x ∷ y ∷ xs) (e ∷ x ∷ set xs i y) (swap_two y x xs)
    (IsPermutation-trans (x ∷ y ∷ xs) (x ∷ e ∷ set xs i y) (e ∷ x ∷ set xs i y) (IsPermutation-cons x (y ∷ xs) (e ∷ set xs i y) rest) (swap_two x e (set xs i y)))

module _ (old new : HeadsAndFollowers) (at : ℕ) (event : ℤ × ℤ) (within : at < length old.heads) (r : HasRemovedEntry old new at event) where
  pub removed_few : length new.heads ≤ length old.heads
  removed_few = ⊎_elim
      (λ is. omega (arith, ap (λ (l : HeadsAndFollowers). length l.heads) is, long-swap_remove comes_before old.heads at r.entry within))
      (λ (a : HasAdvanced old new at). omega (arith, ap length a.heads, length-set old.heads at a.next))
      r.rest

  pub removed_heap : IsHeap comes_before old.heads → IsHeapBut comes_before new.heads at
  removed_heap h = ⊎_elim
      (λ is. subst (λ (l : HeadsAndFollowers). IsHeapBut comes_before l.heads at) (sym is) (removed_but comes_before old.heads at r.entry within entries_rank h))
      (λ (a : HasAdvanced old new at). subst (λ es. IsHeapBut comes_before es at) (sym a.heads) (followed_but comes_before old.heads at a.next within entries_rank h))
      r.rest

  pub removed_end : length new.heads ≤ at → IsHeap comes_before old.heads → IsHeap comes_before new.heads
  removed_end past h = ⊎_elim
      (λ is.
      let last : at + 1 ≡ length old.heads = omega (arith, ap (λ (l : HeadsAndFollowers). length l.heads) is, long-swap_remove comes_before old.heads at r.entry within) in
      subst (λ (l : HeadsAndFollowers). IsHeap comes_before l.heads) (sym is) (removed_last comes_before old.heads at r.entry within last h))
      (λ (a : HasAdvanced old new at). absurd (omega (arith, ap length a.heads, length-set old.heads at a.next)))
      r.rest

  pub removed_all : IsPermutation (old.heads ++ old.followers) (r.entry ∷ (new.heads ++ new.followers))
  removed_all = ⊎_elim
      (λ is. subst (λ (l : HeadsAndFollowers). IsPermutation (old.heads ++ old.followers) (r.entry ∷ (l.heads ++ l.followers))) (sym is)
      (IsPermutation-append_left old.followers old.heads (r.entry ∷ swap_remove old.heads at r.entry) (IsPermutation-swap_remove old.heads at r.entry within r.there)))
      (λ (a : HasAdvanced old new at).
      let gs = new.followers in
      let heads : IsPermutation (a.next ∷ old.heads) (r.entry ∷ new.heads)
      = subst (λ hs. IsPermutation (a.next ∷ old.heads) (r.entry ∷ hs)) (sym a.heads) (replaced old.heads at a.next r.entry within r.there) in
      let front = IsPermutation-trans (old.heads ++ old.followers) (old.heads ++ a.next ∷ gs) (a.next ∷ (old.heads ++ gs)) (IsPermutation-append_right old.heads old.followers (a.next ∷ gs) a.followers) (IsPermutation-middle old.heads a.next gs) in
      IsPermutation-trans (old.heads ++ old.followers) (a.next ∷ (old.heads ++ gs)) (r.entry ∷ (new.heads ++ gs)) front
      (IsPermutation-append_left gs (a.next ∷ old.heads) (r.entry ∷ new.heads) heads))
      r.rest

-- a follower that went out
pub lost_all : (old new : HeadsAndFollowers) (notice : ℤ) (l : HasLostFollower old new notice) → IsPermutation (old.heads ++ old.followers) (l.entry ∷ (new.heads ++ new.followers))
lost_all old new notice l = subst (λ hs. IsPermutation (old.heads ++ old.followers) (l.entry ∷ (hs ++ new.followers))) (sym l.heads)
    (IsPermutation-trans (old.heads ++ old.followers) (old.heads ++ l.entry ∷ new.followers) (l.entry ∷ (old.heads ++ new.followers))
    (IsPermutation-append_right old.heads old.followers (l.entry ∷ new.followers) l.followers) (IsPermutation-middle old.heads l.entry new.followers))
