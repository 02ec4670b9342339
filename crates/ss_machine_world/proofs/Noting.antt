-- What histories note of what is so now.
use Rattle.std.proofs.Common.{◌≡◌, ℕ, ℤ, Some, Ok, Err, refl, ap, ◌∙◌, sym}
use Rattle.std.specs.Prelude.{is_some, slice_get, Result as OkOr}
use Rattle.ss_machine_world.proofs.Common.{attribute_noted, count_in, count_noted, due, FaultKind, HasChanged, if_ok, Integer, IsNoted, modes_of, noted, OfAttribute, OfCount, Seen, Store, Subject, Times, Value, value_in, Whole, with_seen}
use Rattle.ss_machine_time.specs.Unnoted.{Unnoted}
use Rattle.ss_machine_world.proofs.Changing.{changes_alike}
use Rattle.ss_machine_world.proofs.Reading.{value_once}

-- whatever is noted, the statistics are the same
pub noted_statistics : (subject : Subject) (x : ℤ) (v : Value) (t w : Times) (r : OkOr (Unit {0}) Unnoted) → IsNoted subject x v t w r → w.histories.statistics ≡ t.histories.statistics
noted_statistics subject x v t w (Ok u) d = d.1.2
noted_statistics subject x v t w (Err k) d = ap (λ (u : Times). u.histories.statistics) d.1

-- N. of the set of an owner
module _ (e : Seen) (set : ℕ) (o : ℤ) where
  pub counted_changes : (new : Seen) (n : ℤ) (r : OkOr (Unit {0}) FaultKind) → Ok n ≡ count_in e.heap set o → HasChanged (noted (OfCount set) o (Whole n)) e new r → HasChanged (count_noted set o) e new r
  counted_changes new n r is d =
      changes_alike (count_noted set o) (noted (OfCount set) o (Whole n)) e new r
      (λ s. ap (λ q. if_ok (due q) (λ n. noted (OfCount set) o (Whole n) (with_seen s e))) (sym is)) d

  pub not_counted : (kind : FaultKind) → Err kind ≡ count_in e.heap set o → HasChanged (count_noted set o) e e (Err kind)
  not_counted kind is = (λ s right. ap (λ q. if_ok (due q) (λ n. noted (OfCount set) o (Whole n) (with_seen s e))) (sym is), refl)

-- an attribute of an entity
module _ (e : Seen) (class field : ℕ) (x : ℤ) (mode : slice_get (modes_of e.heap.layout class) field ≡ Some Integer) where
  read : (s : Store) → attribute_noted class field x (with_seen s e) ≡ if_ok (due (value_in e.heap class field x)) (λ v. noted (OfAttribute class field) x v (with_seen s e))
  read s = ap (λ r. if_ok r (λ v. noted (OfAttribute class field) x v (with_seen s e))) (value_once e class field x s (ap is_some mode))

  pub attribute_changes : (new : Seen) (v : Value) (r : OkOr (Unit {0}) FaultKind) → value_in e.heap class field x ≡ Ok v → HasChanged (noted (OfAttribute class field) x v) e new r → HasChanged (attribute_noted class field x) e new r
  attribute_changes new v r is d =
      changes_alike (attribute_noted class field x) (noted (OfAttribute class field) x v) e new r
      (λ s. read s ∙ ap (λ q. if_ok (due q) (λ v. noted (OfAttribute class field) x v (with_seen s e))) is) d

  pub attribute_not : (kind : FaultKind) → value_in e.heap class field x ≡ Err kind → HasChanged (attribute_noted class field x) e e (Err kind)
  attribute_not kind is = (λ s right. read s ∙ ap (λ q. if_ok (due q) (λ v. noted (OfAttribute class field) x v (with_seen s e))) is, refl)
