-- Where no statistic watches a subject, a note of it changes nothing.
use Rattle.std.proofs.Common.{◌≡◌, Bool, true, false, List, [], ◌∷◌, Ok, Err, ℤ, refl, ap, ◌⊎◌, inl, inr}
use Rattle.std.specs.Prelude.{Result as OkOr, if◌then◌else◌}
use Rattle.ss_code_instructions.proofs.Common.{Failure, if_ok, Statistic, Subject, turned, TypeError, Value, watch}
use Rattle.ss_meaning.specs.Histories.{all_noting, noted, same_subject, noting}
use Rattle.ss_meaning.specs.Store.{Store, with_histories, Column}

-- a note that leaves the store, or does not fit
abbrev pub Quiet : Store → OkOr Store Failure → Type 0
Quiet s r = (r ≡ Ok s) ⊎ (r ≡ Err TypeError)

columns_quiet : (subject : Subject) (x now : ℤ) (v : Value) (ss : List Statistic) (cs : List Column) → watch ss subject ≡ false → (all_noting subject x now v ss cs ≡ Ok cs) ⊎ (all_noting subject x now v ss cs ≡ Err TypeError)
columns_quiet subject x now v [] cs q = inl refl
columns_quiet subject x now v (s ∷ ss) [] q = inr refl
columns_quiet subject x now v (s ∷ ss) (c ∷ cs) q = by (λ q. columns_quiet subject x now v ss cs q) (same_subject s.subject subject) q
  where
    rest : (r : OkOr (List Column) Failure) → (r ≡ Ok cs) ⊎ (r ≡ Err TypeError) → (turned (λ ds. c ∷ ds) r ≡ Ok (c ∷ cs)) ⊎ (turned (λ ds. c ∷ ds) r ≡ Err TypeError)
    rest r (inl e) = inl (ap (turned (λ ds. c ∷ ds)) e)
    rest r (inr e) = inr (ap (turned (λ ds. c ∷ ds)) e)

    by : (watch ss subject ≡ false → (all_noting subject x now v ss cs ≡ Ok cs) ⊎ (all_noting subject x now v ss cs ≡ Err TypeError)) → (b : Bool) → (if b then true else watch ss subject) ≡ false → (if_ok (if b then noting x now v c else Ok c) (λ d. turned (λ ds. d ∷ ds) (all_noting subject x now v ss cs)) ≡ Ok (c ∷ cs)) ⊎ (if_ok (if b then noting x now v c else Ok c) (λ d. turned (λ ds. d ∷ ds) (all_noting subject x now v ss cs)) ≡ Err TypeError)
    by others true q = absurd cc
    by others false q = rest (all_noting subject x now v ss cs) (others q)

pub noted_quiet : (subject : Subject) (x : ℤ) (v : Value) (s : Store) → watch s.world.setting.statistics subject ≡ false → Quiet s (noted subject x v s)
noted_quiet subject x v s q = by (all_noting subject x s.world.time v s.world.setting.statistics s.world.histories) (columns_quiet subject x s.world.time v s.world.setting.statistics s.world.histories q)
  where
    by : (r : OkOr (List Column) Failure) → (r ≡ Ok s.world.histories) ⊎ (r ≡ Err TypeError) → Quiet s (turned (with_histories s) r)
    by r (inl e) = inl (ap (turned (with_histories s)) e)
    by r (inr e) = inr (ap (turned (with_histories s)) e)
