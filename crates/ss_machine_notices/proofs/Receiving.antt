-- The attributes of a notice go where the frame of its event begins.
use Rattle.std.proofs.Common.{◌≡◌, inl, inr, ℕ, zero, suc, ◌+◌, ◌<◌, ℤ, List, [], ◌∷◌, ◌++◌, length, map, take, Some, Ok, refl, sym, ap, ◌∙◌, subst, arith, length-append}
use Rattle.std.proofs.lemmas.List.{map-append, take_all}
use Rattle.ss_machine_notices.proofs.Common.{AreRead, AreReceived, AreValuesAt, Mode, mode_of, slice_get, Value, value_long, value_texts}
use Rattle.ss_machine_frames.proofs.Places.{agree_out, all_agree, elsewhere_value, agree_within, agree_on, agree_same, value_same}
use Rattle.ss_machine_frames.specs.Rows.{TwoRows, IsValueAt, with_value, AreAlike}
use Rattle.ss_world.specs.State.{value_in, State}

-- ## One value more

read_more : (h : State) (class field : ℕ) (n : ℤ) (vs : List Value) (v : Value) → AreRead h class field n vs → value_in h class (field + length vs) n ≡ Ok v → AreRead h class field n (vs ++ v ∷ [])
read_more h class field n [] v all e = let none_on : field + 0 ≡ field = omega arith in (subst (λ k. value_in h class k n ≡ Ok v) none_on e, tt)
read_more h class field n (u ∷ vs) v all e =
    let one : field + suc (length vs) ≡ field + 1 + length vs = omega arith in
    (all.0, read_more h class (field + 1) n vs v all.1 (subst (λ k. value_in h class k n ≡ Ok v) one e))

all_more : (r : TwoRows) (i : ℕ) (vs : List Value) (v : Value) → AreValuesAt r i vs → IsValueAt r (i + length vs) v → AreValuesAt r i (vs ++ v ∷ [])
all_more r i [] v all at = let none_on : i + 0 ≡ i = omega arith in (subst (λ k. IsValueAt r k v) none_on at, tt)
all_more r i (u ∷ vs) v all at =
    let one : i + suc (length vs) ≡ i + 1 + length vs = omega arith in
    (all.0, all_more r (i + 1) vs v all.1 (subst (λ k. IsValueAt r k v) one at))

take_got : (ms : List Mode) (i : ℕ) (m : Mode) → slice_get ms i ≡ Some m → take (suc i) ms ≡ take i ms ++ m ∷ []
take_got [] i m e = absurd cc
take_got (k ∷ ms) zero m e = let same : k ≡ m = cc in ap (λ x. x ∷ []) same
take_got (k ∷ ms) (suc i) m e = ap (λ rest. k ∷ rest) (take_got ms i m e)

pub longer : (old new : TwoRows) (i : ℕ) (v : Value) → new ≡ with_value old i v → length new.numbers ≡ length old.numbers
longer old new i v same = ap (λ (r : TwoRows). length r.numbers) same ∙ value_long old i v

-- ## So many values

module _ (h : State) (class : ℕ) (n : ℤ) (modes : List Mode) (from : ℕ) (old : TwoRows) where
  pub record Receiving (i : ℕ) (now : TwoRows) : Type 0 where
    pub values : List Value
    pub read : AreRead h class 0 n values
    pub hold : map mode_of values ≡ take i modes
    pub many : length values ≡ i
    pub lie : AreValuesAt now from values
    pub below : AreAlike old now 0 from
    pub above : (to : ℕ) → AreAlike old now (from + i) to
    pub long : length now.numbers ≡ length old.numbers
    pub even : length now.texts ≡ length old.texts

  pub none_received : Receiving 0 old
  none_received = record {
    values = [];
    read = tt;
    hold = refl;
    many = refl;
    lie = tt;
    below = agree_same old 0 from;
    above = λ to. agree_same old (from + 0) to;
    long = refl;
    even = refl;
  }

  pub one_received : (i : ℕ) (now new : TwoRows) (m : Mode) (v : Value) → Receiving i now → slice_get modes i ≡ Some m → length old.texts ≡ length old.numbers → from + i < length old.numbers → value_in h class i n ≡ Ok v → mode_of v ≡ m → new ≡ with_value now (from + i) v → Receiving (i + 1) new
  one_received i now new m v d has even within is right same =
      let k = from + i in
      let ew = elsewhere_value now k v in
      let many = d.many in
      let here : IsValueAt (with_value now k v) k v = value_same now k v (d.even ∙ even ∙ sym d.long) (omega (arith, within, d.long)) in
      let at : k ≡ from + length d.values = omega (arith, many) in
      let next : suc i ≡ i + 1 = omega arith in
      let r : Receiving (i + 1) (with_value now k v) = record {
        values = d.values ++ v ∷ [];
        read = read_more h class 0 n d.values v d.read (subst (λ j. value_in h class j n ≡ Ok v) (omega (arith, many)) is);
        hold =
            map-append mode_of d.values (v ∷ [])
            ∙ ap (λ ms. ms ++ mode_of v ∷ []) d.hold
            ∙ ap (λ x. take i modes ++ x ∷ []) right
            ∙ sym (take_got modes i m has)
            ∙ ap (λ j. take j modes) next;
        many = omega (arith, length-append d.values (v ∷ []), many);
        lie = all_more (with_value now k v) from d.values v (all_agree now (with_value now k v) from d.values (agree_out now (with_value now k v) k from (from + length d.values) ew (inr (omega (arith, many)))) d.lie) (subst (λ j. IsValueAt (with_value now k v) j v) at here);
        below = agree_on old now (with_value now k v) 0 from d.below (agree_out now (with_value now k v) k 0 from ew (inr (omega arith)));
        above = λ to. agree_on old now (with_value now k v) (from + (i + 1)) to (agree_within old now (from + i) to (from + (i + 1)) to (omega arith) (omega arith) (d.above to)) (agree_out now (with_value now k v) k (from + (i + 1)) to ew (inl (omega arith)));
        long = value_long now k v ∙ d.long;
        even = value_texts now k v ∙ d.even;
      } in
      subst (λ (x : TwoRows). Receiving (i + 1) x) (sym same) r

  pub all_received : (i : ℕ) (now : TwoRows) → Receiving i now → i ≡ length modes → AreReceived h class n modes from old now
  all_received i now d all = record {
    values = d.values;
    read = d.read;
    hold = d.hold ∙ take_all i modes (omega (arith, all));
    lie = d.lie;
    below = d.below;
    above = λ to. subst (λ k. AreAlike old now (from + k) to) all (d.above to);
    long = d.long;
    even = d.even;
  }
