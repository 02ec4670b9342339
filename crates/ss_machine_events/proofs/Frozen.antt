-- The values that attributes have now, as ties.
use Rattle.std.proofs.Common.{◌≡◌, ℕ, zero, suc, ◌<◌, ℤ, true, List, [], ◌∷◌, ◌++◌, length, Ok, Err, refl, ap, sym, ◌∙◌, arith}
use Rattle.std.specs.Prelude.{pos, slice_get, slice_index_or, is_some, Result as OkOr}
use Rattle.std.specs.List.{All}
use Rattle.std.proofs.lemmas.List.{append_assoc}
use Rattle.std.proofs.lemmas.List.Elements.{All-head, All-tail}
use Rattle.ss_base.specs.declared.fault.FaultKind.{FaultKind}
use Rattle.ss_base.specs.declared.layout.RankKey.{RankKey}
use Rattle.ss_base.specs.declared.value.Value.{Value}
use Rattle.ss_base.specs.declared.value.Value.TheVariants.{Whole}
use Rattle.ss_world.specs.State.{State, Record, modes_of, and_then, entity_in, known_in, value_in, no_value}
use Rattle.ss_world.specs.declared.ties.Tie.{Tie}
use Rattle.ss_meaning.specs.Values.{Failure, Fails, if_ok, turned, due, where_fit}
use Rattle.ss_meaning.specs.Store.{Store}
use Rattle.ss_meaning.specs.Entities.{field_at, entity, attribute}
use Rattle.ss_meaning.specs.Events.{ties_of}
use Rattle.ss_machine_world.specs.Seen.{Seen, with_seen}
use Rattle.ss_machine_events.specs.Scheduled.{HasKeyField}

-- ## An attribute of an entity that is there

there : {X : Type 0} (xs : List X) (i : ℕ) → i < length xs → is_some (slice_get xs i) ≡ true
there [] i h = absurd (omega arith)
there (x ∷ xs) zero h = refl
there (x ∷ xs) (suc i) h = there xs i (omega arith)

pub known_value : (h : State) (class field : ℕ) (n : ℤ) → known_in h class n ≡ Ok tt → (v : Value) × (value_in h class field n ≡ Ok v)
known_value h class field n known = by (entity_in h class n) known
  where
    by : (r : OkOr Record FaultKind) → no_value r ≡ Ok tt → (v : Value) × (and_then r (λ r. Ok (slice_index_or r.values field (Whole (pos 0)))) ≡ Ok v)
    by (Ok r) k = (slice_index_or r.values field (Whole (pos 0)), refl)
    by (Err e) k = absurd cc

module _ (e : Seen) (class : ℕ) (n : ℤ) (s : Store) (within : class < length e.heap.layout.classes) where
  entity_is : entity class (Whole n) (with_seen s e) ≡ turned (λ _. n) (due (known_in e.heap class n))
  entity_is = ap (λ b. where_fit b (turned (λ _. n) (due (known_in e.heap class n)))) (there e.heap.layout.classes class within)

  pub not_there : (kind : FaultKind) → known_in e.heap class n ≡ Err kind → entity class (Whole n) (with_seen s e) ≡ Err (Fails kind)
  not_there kind known = entity_is ∙ ap (λ (r : OkOr (Unit {0}) FaultKind). turned (λ _. n) (due r)) known

  module _ (known : known_in e.heap class n ≡ Ok tt) where
    pub is_there : entity class (Whole n) (with_seen s e) ≡ Ok n
    is_there = entity_is ∙ ap (λ (r : OkOr (Unit {0}) FaultKind). turned (λ _. n) (due r)) known

    pub attribute_is : (field : ℕ) → field < length (modes_of e.heap.layout class) → attribute class field (Whole n) (with_seen s e) ≡ due (value_in e.heap class field n)
    attribute_is field inside =
        ap (λ (r : OkOr ℤ Failure). if_ok {B = Value} r (λ m. where_fit (is_some (field_at class field (with_seen s e))) (due (value_in e.heap class field m)))) is_there
        ∙ ap (λ b. where_fit b (due (value_in e.heap class field n))) (there (modes_of e.heap.layout class) field inside)

    -- all ties are found
    pub ties_there : (keys : List RankKey) → All (HasKeyField e.heap.layout class) keys → (ts : List Tie) × (ties_of class (Whole n) (with_seen s e) keys ≡ Ok ts)
    ties_there [] all = ([], refl)
    ties_there (key ∷ keys) all =
        let v = known_value e.heap class key.field n known in
        let rest = ties_there keys (All-tail (HasKeyField e.heap.layout class) key keys all) in
        let first : attribute class key.field (Whole n) (with_seen s e) ≡ Ok v.0 = attribute_is key.field (All-head (HasKeyField e.heap.layout class) key keys all) ∙ ap due v.1 in (
          record { value = v.0; high = key.high } ∷ rest.0,
          ap (λ (r : OkOr Value Failure). if_ok {B = List Tie} r (λ v. turned (λ ts. record { value = v; high = key.high } ∷ ts) (ties_of class (Whole n) (with_seen s e) keys))) first
              ∙ ap (λ (r : OkOr (List Tie) Failure). turned (λ ts. record { value = v.0; high = key.high } ∷ ts) r) rest.1,
        )

module _ (class : ℕ) (x : Value) (s : Store) (ts : List Tie) (keys : List RankKey) {key : RankKey} {rest : List RankKey} (next : keys ≡ key ∷ rest) where
  tie_added : (t : Tie) (r : OkOr (List Tie) Failure) → turned {B = List Tie} (λ us. ts ++ us) (turned {B = List Tie} (λ us. t ∷ us) r) ≡ turned (λ us. (ts ++ t ∷ []) ++ us) r
  tie_added t (Ok us) = ap (λ (us : List Tie). Ok us) (sym (append_assoc ts (t ∷ []) us))
  tie_added t (Err u) = refl

  pub frozen_on : (v : Value) → attribute class key.field x s ≡ Ok v → turned {B = List Tie} (λ us. ts ++ us) (ties_of class x s keys) ≡ turned (λ us. (ts ++ record { value = v; high = key.high } ∷ []) ++ us) (ties_of class x s rest)
  frozen_on v h =
      ap (λ ks. turned {B = List Tie} (λ us. ts ++ us) (ties_of class x s ks)) next
      ∙ ap (λ r. turned {B = List Tie} (λ us. ts ++ us) (if_ok r (λ v. turned (λ us. record { value = v; high = key.high } ∷ us) (ties_of class x s rest)))) h
      ∙ tie_added (record { value = v; high = key.high }) (ties_of class x s rest)
