-- What one value more makes of a history's summary.
use Rattle.std.proofs.Common.{◌≡◌, List, [], ◌∷◌, ◌++◌, length, map, fold, ℤ, pos, ◌+ℤ◌, ◌-ℤ◌, ◌*ℤ◌, ◌<ℤ◌, int_le, false, Ok, ap, refl, ◌∙◌, arith, length-append}
use Rattle.std.specs.Int.{int_max, int_min}
use Rattle.std.proofs.Math.IntN.{*ℤ-zero}
use Rattle.std.proofs.lemmas.Int.{ints}
use Rattle.std.proofs.lemmas.List.{map-append}
use Rattle.std.proofs.lemmas.List.Sums.{fold-append}
use Rattle.ss_stats.specs.declared.totals.Weighing.{Weighing}
use Rattle.ss_stats.specs.declared.totals.Weighing.TheVariants.{Once, ByTime}
use Rattle.ss_stats.specs.History.{History, Tally, Accumulate, Change, tally_limit, last_of, last_moment, weighed_sum, exact_sum_of, maximum_of, minimum_of, note_outcome, with_noted_value, restarted}
use Rattle.ss_stats.specs.Summary.{Summary, IsSummaryOf, weighing_of, last_given}

-- ---- which kind of history

by_time_is : (a b c d e f : ℤ) → ByTime a b c ≡ ByTime d e f → (a ≡ d) × (b ≡ e) × (c ≡ f)
by_time_is a b c d e f p = (cc, cc, cc)

-- ---- lists with one element more

-- the last of the changes is the one added at the end
last_of-append : (start : Change) (changes : List Change) (c : Change) → last_of start (changes ++ (c ∷ [])) ≡ c
last_of-append start [] c = refl
last_of-append start (x ∷ xs) c = last_of-append x xs c

-- each value up to the last one's moment, and the last one after that
weighed_sum-append : (start : Change) (changes : List Change) (c : Change) (now : ℤ) → weighed_sum start (changes ++ (c ∷ [])) now ≡ weighed_sum start changes c.moment +ℤ c.value *ℤ (now -ℤ c.moment)
weighed_sum-append start [] c now = refl
weighed_sum-append start (x ∷ xs) c now = omega (arith, ints, weighed_sum-append x xs c now)

-- a value that lasted for no time
no_time : (value moment : ℤ) → value *ℤ (moment -ℤ moment) ≡ pos 0
no_time value moment = let z : moment -ℤ moment ≡ pos 0 = omega (arith, ints) in rw z (*ℤ-zero value)

-- the sum until the last moment, and the value since then
weighed_sum-until : (start : Change) (changes : List Change) (now : ℤ) → weighed_sum start changes now ≡ weighed_sum start changes (last_of start changes).moment +ℤ (last_of start changes).value *ℤ (now -ℤ (last_of start changes).moment)
weighed_sum-until start [] now = omega (arith, ints, no_time start.value start.moment)
weighed_sum-until start (x ∷ xs) now = omega (arith, ints, weighed_sum-until x xs now)

-- a change adds nothing at its own moment
weighed_sum-noted : (start : Change) (changes : List Change) (c : Change) → weighed_sum start (changes ++ (c ∷ [])) c.moment ≡ weighed_sum start changes c.moment
weighed_sum-noted start changes c = omega (arith, ints, weighed_sum-append start changes c c.moment, no_time c.value c.moment)

-- one value more after those of the changes
fold-noted : (f : ℤ → ℤ → ℤ) (start : Change) (changes : List Change) (c : Change) → fold f start.value (map (λ d. d.value) (changes ++ (c ∷ []))) ≡ f (fold f start.value (map (λ d. d.value) changes)) c.value
fold-noted f start changes c =
    ap (fold f start.value) (map-append (λ d. d.value) changes (c ∷ [])) ∙ fold-append f start.value (map (λ d. d.value) changes) (c.value ∷ [])

-- ---- a history that counts each value once

pub once_noted : (h : History) (number now value : ℤ) → weighing_of h ≡ Once number → weighing_of (with_noted_value h now value) ≡ Once (number +ℤ pos 1)
once_noted (Tally values) number now value e =
    let n : pos (length values) ≡ number = cc in
    let l : pos (length (values ++ (value ∷ []))) ≡ number +ℤ pos 1 = omega (arith, ints, length-append values (value ∷ [])) in ap Once l
once_noted (Accumulate start changes) number now value e = cc

pub once_sum_noted : (h : History) (number now value : ℤ) → weighing_of h ≡ Once number → exact_sum_of (with_noted_value h now value) (last_moment (with_noted_value h now value)) ≡ exact_sum_of h now +ℤ value
once_sum_noted (Tally values) number now value e = fold-append ◌+ℤ◌ (pos 0) values (value ∷ [])
once_sum_noted (Accumulate start changes) number now value e = cc

pub once_sum : (h : History) (number now : ℤ) → weighing_of h ≡ Once number → exact_sum_of h now ≡ exact_sum_of h (last_moment h)
once_sum (Tally values) number now e = refl
once_sum (Accumulate start changes) number now e = cc

pub once_outcome : (h : History) (number : ℤ) → weighing_of h ≡ Once number → number <ℤ pos tally_limit → note_outcome h ≡ Ok tt
once_outcome (Tally values) number e less =
    let n : pos (length values) ≡ number = cc in
    let f : int_le (pos tally_limit) (pos (length values)) ≡ false = grind (arith, ints) in rw f refl
once_outcome (Accumulate start changes) number e less = refl

pub once_restarted : (h : History) (number now value : ℤ) → weighing_of h ≡ Once number → restarted h now value ≡ Tally []
once_restarted (Tally values) number now value e = refl
once_restarted (Accumulate start changes) number now value e = cc

-- ---- a history that weighs each value by its time

pub by_time_noted : (h : History) (start last held now value : ℤ) → weighing_of h ≡ ByTime start last held → weighing_of (with_noted_value h now value) ≡ ByTime start now value
by_time_noted (Tally values) start last held now value e = cc
by_time_noted (Accumulate first changes) start last held now value e =
    let p = by_time_is _ _ _ _ _ _ e in
    let l = last_of-append first changes (record { moment = now; value = value }) in rw l (ap (λ m. ByTime m now value) p.0)

pub by_time_sum_noted : (h : History) (start last held now value : ℤ) → weighing_of h ≡ ByTime start last held → exact_sum_of (with_noted_value h now value) (last_moment (with_noted_value h now value)) ≡ exact_sum_of h now
by_time_sum_noted (Tally values) start last held now value e = cc
by_time_sum_noted (Accumulate first changes) start last held now value e =
    let c : Change = record { moment = now; value = value } in
    ap (λ m. weighed_sum first (changes ++ (c ∷ [])) m.moment) (last_of-append first changes c) ∙ weighed_sum-noted first changes c

pub by_time_sum : (h : History) (start last held now : ℤ) → weighing_of h ≡ ByTime start last held → exact_sum_of h now ≡ exact_sum_of h (last_moment h) +ℤ held *ℤ (now -ℤ last)
by_time_sum (Tally values) start last held now e = cc
by_time_sum (Accumulate first changes) start last held now e =
    let p = by_time_is _ _ _ _ _ _ e in rw (← p.1, ← p.2) (weighed_sum-until first changes now)

pub by_time_outcome : (h : History) (start last held : ℤ) → weighing_of h ≡ ByTime start last held → note_outcome h ≡ Ok tt
by_time_outcome (Tally values) start last held e = cc
by_time_outcome (Accumulate first changes) start last held e = refl

pub by_time_restarted : (h : History) (start last held now value : ℤ) → weighing_of h ≡ ByTime start last held → restarted h now value ≡ Accumulate (record { moment = now; value = value }) []
by_time_restarted (Tally values) start last held now value e = cc
by_time_restarted (Accumulate first changes) start last held now value e = refl

-- ---- the extremes

-- the first value of a tally
pub first_maximum : (h : History) (now value : ℤ) → weighing_of h ≡ Once (pos 0) → maximum_of (with_noted_value h now value) ≡ value
first_maximum (Tally []) now value e = refl
first_maximum (Tally (x ∷ xs)) now value e = cc
first_maximum (Accumulate start changes) now value e = cc

pub first_minimum : (h : History) (now value : ℤ) → weighing_of h ≡ Once (pos 0) → minimum_of (with_noted_value h now value) ≡ value
first_minimum (Tally []) now value e = refl
first_minimum (Tally (x ∷ xs)) now value e = cc
first_minimum (Accumulate start changes) now value e = cc

-- any other value
pub next_maximum : (h : History) (now value : ℤ) → (weighing_of h ≡ Once (pos 0) → ⊥) → maximum_of (with_noted_value h now value) ≡ int_max (maximum_of h) value
next_maximum (Tally []) now value some = absurd (some refl)
next_maximum (Tally (x ∷ xs)) now value some = fold-append int_max x xs (value ∷ [])
next_maximum (Accumulate start changes) now value some = fold-noted int_max start changes (record { moment = now; value = value })

pub next_minimum : (h : History) (now value : ℤ) → (weighing_of h ≡ Once (pos 0) → ⊥) → minimum_of (with_noted_value h now value) ≡ int_min (minimum_of h) value
next_minimum (Tally []) now value some = absurd (some refl)
next_minimum (Tally (x ∷ xs)) now value some = fold-append int_min x xs (value ∷ [])
next_minimum (Accumulate start changes) now value some = fold-noted int_min start changes (record { moment = now; value = value })

-- ---- the summary as a whole

-- the totals of these numbers
abbrev pub totals : Weighing → ℤ → ℤ → ℤ → Summary
totals weighing sum maximum minimum =
    record { weighing = weighing; last_moment = last_given weighing; sum = sum; maximum = maximum; minimum = minimum }

same_totals : (v w : Weighing) (a b c d e f : ℤ) → v ≡ w → a ≡ b → c ≡ d → e ≡ f → totals v a c e ≡ totals w b d f
same_totals v w a b c d e f p q r s = cc

-- totals that agree with a history in these four are its summary
pub agreeing : (h : History) (weighing : Weighing) (sum maximum minimum : ℤ) → weighing ≡ weighing_of h → sum ≡ exact_sum_of h (last_moment h) → maximum ≡ maximum_of h → minimum ≡ minimum_of h → IsSummaryOf (totals weighing sum maximum minimum) h
agreeing (Tally values) w s a b p q r t = same_totals _ _ _ _ _ _ _ _ p q r t
agreeing (Accumulate start changes) w s a b p q r t = same_totals _ _ _ _ _ _ _ _ p q r t
