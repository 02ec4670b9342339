-- The least of some entries.
use Rattle.std.proofs.Common.{◌≡◌, false, List, [], ◌∷◌, fold, get_or, Contains, IfSome, Some, ap, subst, ◌∙◌, arith}
use Rattle.ss_events.proofs.Common.{All, comes_before, earlier_notice, entries_rank, Entry, get_or_default, least}
use Rattle.std.proofs.lemmas.List.Elements.{All-contains}
use Rattle.std.proofs.lemmas.List.MinMax.{IsFirstBest-from_best_of}
use Rattle.ss_events_entries.proofs.EntryOrder.{tied_numbers}

pub least_one : (es : List Entry) → IfSome (least es) (Contains es)
least_one [] = tt
least_one (e ∷ es) = let b = IsFirstBest-from_best_of entries_rank e es in (b.0, b.1.0, get_or_default (e ∷ es) b.0 (fold earlier_notice e es) e b.1.0 ∙ b.2)

pub least_first : (es : List Entry) → IfSome (least es) (λ e. All (λ f. comes_before f e ≡ false) es)
least_first [] = tt
least_first (e ∷ es) = λ k d within.
    let b = IsFirstBest-from_best_of entries_rank e es in
    subst (λ x. comes_before (get_or (e ∷ es) k d) x ≡ false) (get_or_default (e ∷ es) b.0 d e b.1.0 ∙ b.2) (b.1.1 k d within)

-- it is the one that nothing comes before
pub least_is : (x : Entry) (es : List Entry) → Contains es x → All (λ y. comes_before y x ≡ false) es → ((y : Entry) → Contains es y → y.number ≡ x.number → y ≡ x) → least es ≡ Some x
least_is x [] m none one = absurd (omega (arith, m.1))
least_is x (e ∷ es) m none one =
    let y = fold earlier_notice e es in let found = least_one (e ∷ es) in
    ap Some (one y found (tied_numbers y x (All-contains (λ z. comes_before z x ≡ false) (e ∷ es) y none found) (All-contains (λ z. comes_before z y ≡ false) (e ∷ es) x (least_first (e ∷ es)) m)))
