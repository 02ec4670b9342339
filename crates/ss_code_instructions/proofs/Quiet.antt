-- Making a notice leaves the variables, and what the program says.
use Rattle.std.proofs.Common.{ℕ, ◌+◌, List, [], ◌∷◌, Ok, Err, ℤ, refl, ◌∙◌}
use Rattle.std.specs.Prelude.{Result as OkOr}
use Rattle.ss_code_instructions.proofs.Common.{all_noting, assigned, assigned_attribute, class_at, created, due, endowed, entity, Failure, field_at, get, is_of_mode, is_single, Line, made_notice, made_one, noted, number_of, OfAttribute, prepared, Store, Subject, timed, turned, Value, with_heap, with_histories, with_new, with_notice_time}
use Rattle.ss_code_instructions.proofs.Keeping.{Only, each, then_only, made, made_from, fitting}
use Rattle.ss_code_instructions.proofs.Receiving.{Alike, Quietly, get_quietly}

-- one store after another
alike_on : (s t u : Store) → Alike s t → Alike t u → Alike s u
alike_on s t u a b = (b.0 ∙ a.0, b.1 ∙ a.1, b.2 ∙ a.2)

then_alike : (s t : Store) (r : OkOr Store Failure) → Alike s t → Only (Alike t) r → Only (Alike s) r
then_alike s t (Ok u) a b = alike_on s t u a b
then_alike s t (Err e) a b = tt

noted_alike : (subject : Subject) (n : ℤ) (v : Value) (s : Store) → Only (Alike s) (noted subject n v s)
noted_alike subject n v s =
    made (Alike s) (with_histories s) (all_noting subject n s.world.time v s.world.setting.statistics s.world.histories) (λ hs. (refl, refl, refl))

attribute_alike : (class field : ℕ) (x v : Value) (s : Store) → Only (Alike s) (assigned_attribute class field x v s)
attribute_alike class field x v s =
    each (Alike s) (entity class x s) _ (λ n. fitting (Alike s) (is_of_mode v (field_at class field s)) _
    (each (Alike s) (due (assigned s.world.heap class field n v)) _ (λ h. noted_alike (OfAttribute class field) n v (with_heap s h))))

endowed_alike : (class field : ℕ) (x : Value) (vs : List Value) (s : Store) → Only (Alike s) (endowed class field x vs s)
endowed_alike class field x [] s = (refl, refl, refl)
endowed_alike class field x (v ∷ vs) s =
    then_only (Alike s) (Alike s) (assigned_attribute class field x v s) (endowed class (field + 1) x vs) (attribute_alike class field x v s) (λ t a.
    then_alike s t (endowed class (field + 1) x vs t) a (endowed_alike class (field + 1) x vs t))

timed_alike : (x : Value) (time : ℤ) (s : Store) → Only (Alike s) (with_notice_time x time s)
timed_alike x time s = each (Alike s) (number_of x) _ (λ n. made (Alike s) (with_heap s) (due (timed s.world.heap n time)) (λ h. (refl, refl, refl)))

prepared_alike : (class : ℕ) (x : Value) (vs : List Value) (time : ℤ) (s : Store) → Only (Alike s) (prepared class x vs time s)
prepared_alike class x vs time s =
    then_only (Alike s) (Alike s) (endowed class 0 x vs s) (with_notice_time x time) (endowed_alike class 0 x vs s) (λ t a.
    then_alike s t (with_notice_time x time t) a (timed_alike x time t))

one_alike : (class : ℕ) (s : Store) → Only (λ (b : Value × Store). Alike s b.1) (made_one class s)
one_alike class s =
    fitting (λ (b : Value × Store). Alike s b.1) (is_single (class_at class s)) _
    (made (λ (b : Value × Store). Alike s b.1) (with_new class s) (due (created s.world.heap class)) (λ b. (refl, refl, refl)))

notice_alike : (class : ℕ) (vs : List Value) (time : ℤ) (s : Store) → Only (λ (b : Value × Store). Alike s b.1) (made_notice class vs time s)
notice_alike class vs time s =
    then_only (λ (b : Value × Store). Alike s b.1) (λ (b : Value × Store). Alike s b.1) (made_one class s) (λ b. turned (λ r. (b.0, r)) (prepared class b.0 vs time b.1)) (one_alike class s) (λ b a.
    made_from (λ (c : Value × Store). Alike s c.1) (Alike b.1) (λ r. (b.0, r)) (prepared class b.0 vs time b.1) (prepared_alike class b.0 vs time b.1) (λ r c. alike_on s b.1 r a c))

pub notice_quietly : (l : Line) (class : ℕ) (vs : List Value) (time : ℤ) → Quietly (get l (made_notice class vs time))
notice_quietly l class vs time = get_quietly l (made_notice class vs time) (λ s. notice_alike class vs time s)
