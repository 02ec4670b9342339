-- Ticks that are given piece by piece.
use Rattle.std.proofs.Common.{◌≡◌, ℕ, suc, ◌+◌, ◌-◌, ◌^◌, ◌≤◌, ◌<◌, List, [], ◌∷◌, ◌++◌, length, take, drop, min, get_or, refl, sym, ap, subst, ◌∙◌, arith}
use Rattle.ss_engine.proofs.Common.{handed_out, runs_of, sum}
use Rattle.std.proofs.lemmas.List.{take_all, take-append-drop}
use Rattle.std.proofs.Math.Seq.{take-suc}
use Rattle.std.proofs.lemmas.List.Sums.{sum_by_more, sum_by-append, sum_by-take-le}

pub next_sum : (pieces : List ℕ) (i : ℕ) → i < length pieces → sum (take (i + 1) pieces) ≡ sum (take i pieces) + get_or pieces i 0
next_sum pieces i lt = sum_by_more (λ x. x) pieces i 0 lt

after_first : (first : ℕ) (rest : List ℕ) (i : ℕ) → get_or (first ∷ rest) (i + 1) 0 ≡ get_or rest i 0
after_first first rest i =
    let e : suc i ≡ i + 1 = omega arith in
    subst (λ n. get_or (first ∷ rest) n 0 ≡ get_or rest i 0) e refl

-- one piece more, of those after the first
pub next_piece : (pieces rest : List ℕ) (first i : ℕ) → pieces ≡ first ∷ rest → i < length rest → sum (take (i + 1 + 1) pieces) ≡ sum (take (i + 1) pieces) + get_or rest i 0
next_piece pieces rest first i e lt =
    let longer : i + 1 < length (first ∷ rest) = omega (arith, lt) in
    subst (λ l. sum (take (i + 1 + 1) l) ≡ sum (take (i + 1) l) + get_or rest i 0) (sym e) (next_sum (first ∷ rest) (i + 1) longer ∙ ap (λ n. sum (take (i + 1) (first ∷ rest)) + n) (after_first first rest i))

-- no piece at all
pub no_sum : (pieces : List ℕ) → length pieces ≡ 0 → sum pieces ≡ 0
no_sum [] e = refl
no_sum (p ∷ ps) e = absurd cc

-- pieces that were run are some of all
pub some_used : (pieces : List ℕ) (i used : ℕ) → used ≤ sum (take i pieces) → used ≤ sum pieces
some_used pieces i used h = let le : sum (take i pieces) ≤ sum pieces = sum_by-take-le (λ x. x) pieces i in omega (arith, h, le)

pub more_used : (s n u v t : ℕ) → n ≡ s + t → u ≤ s → v ≤ u + t → v ≤ n
more_used s n u v t e h g = omega (arith, e, h, g)

pub all_used : (s n u v t : ℕ) → n ≡ s + t → u ≡ min s (2 ^ 64 - 1) → v ≡ min (u + t) (2 ^ 64 - 1) → v ≡ min n (2 ^ 64 - 1)
all_used s n u v t e h g = omega (arith, e, h, g)

-- what was used and made since the start
pub used_since : (u v : ℕ) → u ≤ v → u + (v - u) ≡ v
used_since u v h = omega (arith, h)

-- one piece more
pub piece_more : (pieces : List ℕ) (ticks : ℕ) → sum (pieces ++ ticks ∷ []) ≡ sum pieces + ticks
piece_more pieces ticks =
    let one : sum (ticks ∷ []) ≡ ticks = omega arith in
    sum_by-append (λ x. x) pieces (ticks ∷ []) ∙ ap (λ n. sum pieces + n) one

pub used_more : (pieces : List ℕ) (ticks old new : ℕ) → old ≤ handed_out pieces → new ≤ old + ticks → new ≤ 2 ^ 64 - 1 → new ≤ handed_out (pieces ++ ticks ∷ [])
used_more pieces ticks old new h g small = omega (arith, h, g, small, piece_more pieces ticks)

pub still_used : (pieces : List ℕ) (ticks used : ℕ) → used ≤ handed_out pieces → used ≤ handed_out (pieces ++ ticks ∷ [])
still_used pieces ticks used h = omega (arith, h, piece_more pieces ticks)

pub used_all : (pieces : List ℕ) (ticks old new : ℕ) → old ≡ handed_out pieces → new ≡ min (old + ticks) (2 ^ 64 - 1) → new ≡ handed_out (pieces ++ ticks ∷ [])
used_all pieces ticks old new h g = omega (arith, h, g, piece_more pieces ticks)

-- the first and all after it are all
pub all_handed : (pieces rest : List ℕ) (first i : ℕ) → pieces ≡ first ∷ rest → length rest ≤ i → handed_out (take (i + 1) pieces) ≡ handed_out pieces
all_handed pieces rest first i e past = ap handed_out (take_all (i + 1) pieces (subst (λ ps. length ps ≤ i + 1) (sym e) (omega (arith, past))))

-- ## Runs

-- the pieces of one run more, of those after the first
pub next_run : (pieces rest : List ℕ) (first i : ℕ) → pieces ≡ first ∷ rest → i < length rest → take (i + 1 + 1) pieces ≡ take (i + 1) pieces ++ get_or rest i 0 ∷ []
next_run pieces rest first i e lt =
    let longer : i + 1 < length (first ∷ rest) = omega (arith, lt) in
    let more : i + 1 + 1 ≡ suc (i + 1) = omega arith in
    subst (λ l. take (i + 1 + 1) l ≡ take (i + 1) l ++ get_or rest i 0 ∷ []) (sym e)
    (ap (λ n. take n (first ∷ rest)) more ∙ take-suc (first ∷ rest) (i + 1) 0 longer ∙ ap (λ n. take (i + 1) (first ∷ rest) ++ n ∷ []) (after_first first rest i))

-- where there is no piece there is one run
pub no_runs : (pieces : List ℕ) → length pieces ≡ 0 → runs_of pieces ≡ 0 ∷ []
no_runs [] e = refl
no_runs (p ∷ ps) e = absurd cc

-- the pieces that were run, and those that were not
pub runs_so_far : (pieces rest : List ℕ) (first i : ℕ) → pieces ≡ first ∷ rest → runs_of pieces ≡ take i pieces ++ drop i pieces
runs_so_far pieces rest first i e =
    subst (λ l. runs_of l ≡ l) (sym e) refl ∙ sym (take-append-drop i pieces)
