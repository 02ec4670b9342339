-- Entities with their histories by rising numbers: lists that have the same histories are one list then.
use Rattle.std.proofs.Common.{◌≡◌, ℤ, Bool, true, false, List, [], ◌∷◌, ◌<ℤ◌, Some, None, cond, if◌then◌else◌, int_eq, refl, sym, ap, ◌∙◌, subst, arith}
use Rattle.std.specs.Prelude.{⊤, int_lt}
use Rattle.ss_stats_histories.proofs.Common.{Decides-int_eq, History, ints}
use Rattle.std.proofs.lemmas.Cmp.{int_eq_equiv}
use Rattle.std.proofs.lemmas.Option.{none-some, same_Some}
use Rattle.ss_stats_histories.specs.Records.{found_in, placed_in, by_number}

not_both : true ≡ false → ⊥
not_both e = cc

-- ---- what is found

found_placed : (x : ℤ) (h : History) (rows : List (ℤ × History)) (y : ℤ) → found_in (placed_in x h rows) y ≡ cond (int_eq y x) (Some h) (found_in rows y)
found_placed x h [] y = refl
found_placed x h (row ∷ rows) y = by (int_lt x row.0) (int_eq x row.0) refl (int_eq y x) (int_eq y row.0) refl refl (found_placed x h rows y) where
  met : int_eq x row.0 ≡ false → int_eq y x ≡ true → int_eq y row.0 ≡ true → ⊥
  met far p q =
      let a : y ≡ x = (Decides-int_eq y x).0 p in
      let b : y ≡ row.0 = (Decides-int_eq y row.0).0 q in
      not_both (sym ((Decides-int_eq x row.0).1 (sym a ∙ b)) ∙ far)

  lost : int_eq x row.0 ≡ true → int_eq y x ≡ false → int_eq y row.0 ≡ true → ⊥
  lost near p q =
      let a : x ≡ row.0 = (Decides-int_eq x row.0).0 near in
      let b : y ≡ row.0 = (Decides-int_eq y row.0).0 q in
      not_both (sym ((Decides-int_eq y x).1 (b ∙ sym a)) ∙ p)

  by : (b c : Bool) → int_eq x row.0 ≡ c → (d e : Bool) → int_eq y x ≡ d → int_eq y row.0 ≡ e → found_in (placed_in x h rows) y ≡ cond d (Some h) (found_in rows y) →
      found_in (if b then (x, h) ∷ row ∷ rows else (if c then (x, h) ∷ rows else row ∷ placed_in x h rows)) y ≡ cond d (Some h) (cond e (Some row.1) (found_in rows y))
  by true c n d e p q i = (λ j. cond (p j) (Some h) (cond (q j) (Some row.1) (found_in rows y)))
  by false true n true e p q i = ap (λ b. cond b (Some h) (found_in rows y)) p
  by false true n false true p q i = absurd (lost n p q)
  by false true n false false p q i = ap (λ b. cond b (Some h) (found_in rows y)) p
  by false false n d true p q i = ap (λ b. cond b (Some row.1) (found_in (placed_in x h rows) y)) q ∙ there d p where
    there : (d : Bool) → int_eq y x ≡ d → Some row.1 ≡ cond d (Some h) (Some row.1)
    there true p = absurd (met n p q)
    there false p = refl
  by false false n d false p q i = ap (λ b. cond b (Some row.1) (found_in (placed_in x h rows) y)) q ∙ i

pub found_by_number : (rows : List (ℤ × History)) (y : ℤ) → found_in (by_number rows) y ≡ found_in rows y
found_by_number [] y = refl
found_by_number (row ∷ rows) y = found_placed row.0 row.1 (by_number rows) y ∙ ap (cond (int_eq y row.0) (Some row.1)) (found_by_number rows y)

-- ---- they rise

abbrev AllPast : ℤ → List (ℤ × History) → Type 0
AllPast x [] = ⊤
AllPast x (row ∷ rows) = (x <ℤ row.0) × AllPast x rows

abbrev IsRising : List (ℤ × History) → Type 0
IsRising [] = ⊤
IsRising (row ∷ rows) = AllPast row.0 rows × IsRising rows

past_earlier : (x y : ℤ) (rows : List (ℤ × History)) → x <ℤ y → AllPast y rows → AllPast x rows
past_earlier x y [] less a = tt
past_earlier x y (row ∷ rows) less a = (omega (arith, ints, less, a.0), past_earlier x y rows less a.1)

placed_past : (z x : ℤ) (h : History) (rows : List (ℤ × History)) → z <ℤ x → AllPast z rows → AllPast z (placed_in x h rows)
placed_past z x h [] less a = (less, tt)
placed_past z x h (row ∷ rows) less a = by (placed_past z x h rows less a.1) (int_lt x row.0) (int_eq x row.0) where
  by : AllPast z (placed_in x h rows) → (b c : Bool) → AllPast z (if b then (x, h) ∷ row ∷ rows else (if c then (x, h) ∷ rows else row ∷ placed_in x h rows))
  by later true c = (less, a)
  by later false true = (less, a.1)
  by later false false = (a.0, later)

placed_rises : (x : ℤ) (h : History) (rows : List (ℤ × History)) → IsRising rows → IsRising (placed_in x h rows)
placed_rises x h [] r = (tt, tt)
placed_rises x h (row ∷ rows) r = by (placed_rises x h rows r.1) (int_lt x row.0) (int_eq x row.0) refl refl where
  by : IsRising (placed_in x h rows) → (b c : Bool) → int_lt x row.0 ≡ b → int_eq x row.0 ≡ c → IsRising (if b then (x, h) ∷ row ∷ rows else (if c then (x, h) ∷ rows else row ∷ placed_in x h rows))
  by later true c p q = let less : x <ℤ row.0 = grind (arith, ints) in ((less, past_earlier x row.0 rows less r.0), r)
  by later false true p q =
      let same : x ≡ row.0 = (Decides-int_eq x row.0).0 q in
      (subst (λ y. AllPast y rows) (sym same) r.0, r.1)
  by later false false p q =
      let apart : x ≡ row.0 → ⊥ = λ e. not_both (sym ((Decides-int_eq x row.0).1 e) ∙ q) in
      let more : row.0 <ℤ x = grind (arith, ints) in
      (placed_past row.0 x h rows more r.0, later)

rises : (rows : List (ℤ × History)) → IsRising (by_number rows)
rises [] = tt
rises (row ∷ rows) = placed_rises row.0 row.1 (by_number rows) (rises rows)

-- ---- lists that have the same histories are one list

here : (row : ℤ × History) (rows : List (ℤ × History)) → found_in (row ∷ rows) row.0 ≡ Some row.1
here row rows = ap (λ b. cond b (Some row.1) (found_in rows row.0)) (int_eq_equiv.refl row.0)

none_before : (x : ℤ) (rows : List (ℤ × History)) → AllPast x rows → found_in rows x ≡ None
none_before x [] a = refl
none_before x (row ∷ rows) a =
    let apart : int_eq x row.0 ≡ false = grind (arith, ints, a.0) in
    ap (λ b. cond b (Some row.1) (found_in rows x)) apart ∙ none_before x rows a.1

-- the first number of one can't be below that of the other
not_below : (row other : ℤ × History) (rows others : List (ℤ × History)) → AllPast other.0 others → ((x : ℤ) → found_in (row ∷ rows) x ≡ found_in (other ∷ others) x) → row.0 <ℤ other.0 → ⊥
not_below row other rows others a h less =
    none-some row.1 (sym (none_before row.0 (other ∷ others) (less, past_earlier row.0 other.0 others less a)) ∙ sym (h row.0) ∙ here row rows)

same_rows : (rows others : List (ℤ × History)) → IsRising rows → IsRising others → ((x : ℤ) → found_in rows x ≡ found_in others x) → rows ≡ others
same_rows [] [] r s h = refl
same_rows [] (other ∷ others) r s h = absurd (none-some other.1 (h other.0 ∙ here other others))
same_rows (row ∷ rows) [] r s h = absurd (none-some row.1 (sym (h row.0) ∙ here row rows))
same_rows (row ∷ rows) (other ∷ others) r s h =
    let low : row.0 <ℤ other.0 → ⊥ = not_below row other rows others s.0 h in
    let high : other.0 <ℤ row.0 → ⊥ = not_below other row others rows r.0 (λ x. sym (h x)) in
    let number : row.0 ≡ other.0 = grind (arith, ints) in
    let history : row.1 ≡ other.1 = same_Some row.1 other.1 (sym (here row rows) ∙ h row.0 ∙ ap (found_in (other ∷ others)) number ∙ here other others) in
    let rest = same_rows rows others r.1 s.1 (λ x. later x (int_eq x row.0) refl number history) in
    λ i. (number i, history i) ∷ rest i where
      later : (x : ℤ) (b : Bool) → int_eq x row.0 ≡ b → row.0 ≡ other.0 → row.1 ≡ other.1 → found_in rows x ≡ found_in others x
      later x true p e f =
          let at : x ≡ row.0 = (Decides-int_eq x row.0).0 p in
          none_before x rows (subst (λ y. AllPast y rows) (sym at) r.0) ∙ sym (none_before x others (subst (λ y. AllPast y others) (sym (at ∙ e)) s.0))
      later x false p e f =
          let q : int_eq x other.0 ≡ false = ap (int_eq x) (sym e) ∙ p in
          sym (ap (λ b. cond b (Some row.1) (found_in rows x)) p) ∙ h x ∙ ap (λ b. cond b (Some other.1) (found_in others x)) q

pub same_by_number : (rows others : List (ℤ × History)) → ((x : ℤ) → found_in rows x ≡ found_in others x) → by_number rows ≡ by_number others
same_by_number rows others h = same_rows (by_number rows) (by_number others) (rises rows) (rises others) (λ x. found_by_number rows x ∙ h x ∙ sym (found_by_number others x))
