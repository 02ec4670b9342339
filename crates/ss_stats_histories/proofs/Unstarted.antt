-- Statistics of which no history started yet.
use Rattle.std.proofs.Common.{◌≡◌, ℕ, ◌+◌, ◌<◌, List, [], ◌∷◌, ◌++◌, length, map, take, get_or, sym, ap, ◌∙◌}
use Rattle.ss_stats_histories.proofs.Common.{map-append, none_in, none_yet, Recorded, rows_of, Statistic, statistics_of, take_more}

pub statistic_more : (ks ns : List Recorded) (k : Recorded) (ss : List Statistic) (i : ℕ) (d : Statistic) → i < length ss → k.statistic ≡ get_or ss i d → ns ≡ ks ++ k ∷ [] →
    statistics_of ks ≡ take i ss → statistics_of ns ≡ take (i + 1) ss
statistic_more ks ns k ss i d lt s e h = ap statistics_of e ∙ map-append (λ (k : Recorded). k.statistic) ks (k ∷ []) ∙ (λ t. h t ++ s t ∷ []) ∙ sym (take_more ss i d lt)

pub row_more : (ks ns : List Recorded) (k : Recorded) (ss : List Statistic) (i : ℕ) (d : Statistic) → i < length ss → k.rows ≡ none_yet → ns ≡ ks ++ k ∷ [] →
    rows_of ks ≡ map none_in (take i ss) → rows_of ns ≡ map none_in (take (i + 1) ss)
row_more ks ns k ss i d lt r e h =
    ap rows_of e ∙ map-append (λ (k : Recorded). k.rows) ks (k ∷ []) ∙ (λ t. h t ++ r t ∷ []) ∙ sym (ap (map none_in) (take_more ss i d lt) ∙ map-append none_in (take i ss) (get_or ss i d ∷ []))
