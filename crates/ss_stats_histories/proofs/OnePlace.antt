-- What noting a number at one place changes.
use Rattle.std.proofs.Common.{◌≡◌, ℕ, ℤ, List, [], ◌∷◌, length, map, fold, get_or, Ok, Err, Some, None, Result, sym, ap, ◌∙◌, arith}
use Rattle.std.specs.Prelude.{MatchResult}
use Rattle.ss_stats_histories.proofs.Common.{changed_at, first_at, noted_by, noted_one, Recorded, refused_at, shown, stops_at, Unnoted, Whole}
use Rattle.ss_stats_histories.proofs.Fullness.{or_none}

pub the_one : (ps : List ℕ) (p : ℕ) → length ps ≡ 1 → p ≡ get_or ps 0 0 → ps ≡ p ∷ []
the_one [] p one at = absurd (omega (arith, one))
the_one (q ∷ []) p one at = ap (λ p. p ∷ []) (sym at)
the_one (q ∷ r ∷ rs) p one at = absurd (omega (arith, one))

pub at_one : (x now z : ℤ) (ks ns : List Recorded) (p : ℕ) (ps : List ℕ) (r : Result (Unit {0}) Unnoted) → ps ≡ p ∷ [] →
    MatchResult r (λ _. (refused_at x (map shown ks) p ≡ None) × (map shown ns ≡ changed_at (noted_one x now z) (map shown ks) p)) (λ e. (refused_at x (map shown ks) p ≡ Some e) × (ns ≡ ks)) →
    MatchResult r (λ _. (first_at (stops_at (Whole z) x (map shown ks)) ps ≡ None) × (map shown ns ≡ fold (changed_at (noted_by x now (Whole z))) (map shown ks) ps)) (λ e. (first_at (stops_at (Whole z) x (map shown ks)) ps ≡ Some e) × (ns ≡ ks))
at_one x now z ks ns p ps (Ok u) one h = (
  ap (first_at (stops_at (Whole z) x (map shown ks))) one ∙ or_none (refused_at x (map shown ks) p) ∙ h.0,
  h.1 ∙ sym (ap (fold (changed_at (noted_by x now (Whole z))) (map shown ks)) one),
)
at_one x now z ks ns p ps (Err e) one h = (
  ap (first_at (stops_at (Whole z) x (map shown ks))) one ∙ or_none (refused_at x (map shown ks) p) ∙ h.0,
  h.1,
)
