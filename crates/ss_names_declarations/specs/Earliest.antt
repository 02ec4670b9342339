-- The first breach of rules that a program is refused for. A breach has a place: the number of its rule in the order of the
-- rules, and then its line.
use Rattle.std.specs.Prelude.{◌≡◌, ℕ, Bool, true, false, ◌||◌, ◌&&◌, ◌==◌, nat_le, nat_lt, List, [], ◌∷◌, ◌++◌, Option, Some, None, if◌then◌else◌}
use Rattle.std.specs.List.{AllByRecursion, filter, find, fold, list_all}

-- the breach of a rule that doesn't hold
abbrev pub unless : {E : Type 0} → Bool → E → Option E
unless true breach = None
unless false breach = Some breach

abbrev pub precedes : ℕ × ℕ → ℕ × ℕ → Bool
precedes a b = nat_lt a.0 b.0 || ((a.0 == b.0) && nat_lt a.1 b.1)

-- what was found so far or, if it comes before that, one more
abbrev pub earlier : {E : Type 0} → (E → ℕ × ℕ) → Option E → E → Option E
earlier order None e = Some e
earlier order (Some found) e = if precedes (order e) (order found) then Some e else Some found

abbrev pub earlier_of : {E : Type 0} → (E → ℕ × ℕ) → Option E → Option E → Option E
earlier_of order found None = found
earlier_of order found (Some e) = earlier order found e

-- of some breaches the one that comes before all others; of equals the first
abbrev pub earliest : {E : Type 0} → (E → ℕ × ℕ) → List E → Option E
earliest order breaches = fold (earlier order) None breaches

-- ---- laws

-- no breach comes before the earliest
abbrev pub EarliestIsLeast : {E : Type 0} → (E → ℕ × ℕ) → Type 0
EarliestIsLeast {E} order =
    (breaches : List E) (b : E) → earliest order breaches ≡ Some b →
    AllByRecursion (λ c. precedes (order c) (order b) ≡ false) breaches

-- whether a breach is one of the same rule
abbrev pub is_of_rule : {E : Type 0} → (E → ℕ × ℕ) → E → E → Bool
is_of_rule order b c = (order c).0 == (order b).0

-- whether the lines of breaches come in the order of the text
abbrev pub is_in_order : {E : Type 0} → (E → ℕ × ℕ) → List E → Bool
is_in_order order [] = true
is_in_order order (b ∷ bs) = list_all (λ c. nat_le (order b).1 (order c).1) bs && is_in_order order bs

-- if the breaches of its rule come in the order of the text, the earliest is the first of them
abbrev pub EarliestIsFirst : {E : Type 0} → (E → ℕ × ℕ) → Type 0
EarliestIsFirst {E} order =
    (breaches : List E) (b : E) → is_in_order order (filter (is_of_rule order b) breaches) ≡ true →
    earliest order breaches ≡ Some b → find (is_of_rule order b) breaches ≡ Some b

-- the earliest of two lists is the earlier of that of each
abbrev pub EarliestOfParts : {E : Type 0} → (E → ℕ × ℕ) → Type 0
EarliestOfParts {E} order =
    (before after : List E) → earliest order (before ++ after) ≡ earlier_of order (earliest order before) (earliest order after)
