-- Attributes of entities: a look at the entity is part of what is done with one.
use Rattle.std.proofs.Common.{◌≡◌, ℕ, zero, suc, ℤ, Bool, true, Option, Some, None, Ok, refl, ap, ◌∙◌}
use Rattle.std.specs.Prelude.{is_some, slice_get, slice_index_or, pos, Result as OkOr}
use Rattle.ss_machine_world.proofs.Common.{assigned_attribute, attribute, ClassLayout, due, Failure, FaultKind, if_ok, is_of_mode, noted, number_of, OfAttribute, Seen, Store, Text, Value, where_fit, Whole, with_heap, with_seen}
use Rattle.ss_base.specs.declared.layout.Mode.{Mode}
use Rattle.ss_world.specs.State as S
use Rattle.ss_machine_world.proofs.Leaving.{one_look}

-- a value that is a number
pub whole_is : (x : Value) (n : ℤ) → number_of x ≡ Ok n → x ≡ Whole n
whole_is (Whole z) n e = let same : z ≡ n = cc in ap Whole same
whole_is (Text t) n e = absurd cc

field_there : (c : Option ClassLayout) (field : ℕ) → is_some (slice_get (S.modes_in c) field) ≡ true → is_some c ≡ true
field_there None zero e = absurd cc
field_there None (suc k) e = absurd cc
field_there (Some c) field e = refl

mode_there : (v : Value) (o : Option Mode) → is_of_mode v o ≡ true → is_some o ≡ true
mode_there v None e = absurd cc
mode_there v (Some m) e = refl

module _ (e : Seen) (class field : ℕ) (n : ℤ) where
  abbrev mode : Option Mode
  mode = slice_get (S.modes_of e.heap.layout class) field

  abbrev there : Bool
  there = is_some (slice_get e.heap.layout.classes class)

  -- an attribute is read
  pub value_once : (s : Store) → is_some mode ≡ true → attribute class field (Whole n) (with_seen s e) ≡ due (S.value_in e.heap class field n)
  value_once s fits =
      one_look n (λ k. where_fit (is_some mode) (due (S.value_in e.heap class field k))) there (S.entity_in e.heap class n)
      (field_there (slice_get e.heap.layout.classes class) field fits)
      (λ k no. at n ∙ ap (λ (q : OkOr S.Record FaultKind). due (S.and_then q (λ r. Ok (slice_index_or r.values field (Whole (pos 0)))))) no)
      ∙ at n
    where
      at : (k : ℤ) → where_fit (is_some mode) (due (S.value_in e.heap class field k)) ≡ due (S.value_in e.heap class field k)
      at k = ap (λ b. where_fit b (due (S.value_in e.heap class field k))) fits

  -- or assigned
  pub set_once : (v : Value) (s : Store) → is_of_mode v mode ≡ true → assigned_attribute class field (Whole n) v (with_seen s e) ≡ if_ok (due (S.assigned e.heap class field n v)) (λ h. noted (OfAttribute class field) n v (with_heap (with_seen s e) h))
  set_once v s fits =
      one_look n (λ k. where_fit (is_of_mode v mode) (go k)) there (S.entity_in e.heap class n)
      (field_there (slice_get e.heap.layout.classes class) field (mode_there v mode fits))
      (λ k no. at n ∙ ap (λ (q : OkOr S.Record FaultKind). if_ok (due (S.and_then q (λ r. Ok (S.with_entity e.heap class (S.number_in n) (S.record_with_value r field v))))) (λ h. noted (OfAttribute class field) n v (with_heap (with_seen s e) h))) no)
      ∙ at n
    where
      go : ℤ → OkOr Store Failure
      go k = if_ok (due (S.assigned e.heap class field k v)) (λ h. noted (OfAttribute class field) k v (with_heap (with_seen s e) h))

      at : (k : ℤ) → where_fit (is_of_mode v mode) (go k) ≡ go k
      at k = ap (λ b. where_fit b (go k)) fits
