-- Which of two ranks after the other, by one key and those after it.
use Rattle.std.proofs.Common.{◌≡◌, ℕ, ◌+◌, ◌<◌, List, length, drop, not, ◌∙◌, sym, ℤ, Ordering, suc, arith}
use Rattle.ss_sets.proofs.Common.{match_ordering, RankKey, ranks_after, slice_index_or, State, value_cmp, value_of}
use Rattle.std.proofs.Math.Seq.{drop-cons}

pub by_key : (st : State) (c i : ℕ) (ks : List RankKey) (k : RankKey) (y x : ℤ) (order : Ordering) → i < length ks → value_cmp (value_of st c (slice_index_or ks i k).field y) (value_of st c (slice_index_or ks i k).field x) ≡ order → ranks_after st c (drop i ks) y x ≡ ranks_after st c ks y x → match_ordering order (slice_index_or ks i k).high (ranks_after st c (drop (i + 1) ks) y x) (not (slice_index_or ks i k).high) ≡ ranks_after st c ks y x
by_key st c i ks k y x order within is so =
    let next : suc i ≡ i + 1 = omega arith in let key = slice_index_or ks i k in
    (λ j. match_ordering (sym is j) key.high (ranks_after st c (drop (sym next j) ks) y x) (not key.high)) ∙ (λ j. ranks_after st c (sym (drop-cons ks i k within) j) y x) ∙ so
