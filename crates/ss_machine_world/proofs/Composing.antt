-- What the meaning does at once, put together of a change of the entities and a note of what is so afterwards. It is for whoever calls the two
-- one after the other; where no statistic watches, the change alone is all.
use Rattle.std.proofs.Common.{◌≡◌, ℕ, ℤ, Bool, true, false, List, [], ◌∷◌, ◌++◌, Option, Some, None, Ok, Err, refl, ap, ◌∙◌, sym}
use Rattle.std.specs.Prelude.{◌||◌, is_some, slice_get, if◌then◌else◌, Result as OkOr}
use Rattle.ss_machine_world.proofs.Common.{assigned_attribute, attribute, attribute_noted, Column, columns_of, Discipline, FaultKind, Integer, is_of_mode, IsReferenceTo, IsRight, Layout, list_any, OfAttribute, Seen, SetLayout, Statistic, Store, Subject, Text, Value, Whole, with_heap, with_histories, with_seen}
use Rattle.ss_meaning.specs.Histories.{noted, same_subject, noting, all_noting}
use Rattle.ss_meaning.specs.Values.{due, Fails, Failure, if_ok, sure, turned, where_fit, computed, calculated}
use Rattle.ss_world.specs.Disciplines.{filed, put_ranked}
use Rattle.ss_world.specs.Sets.{owner, joiner, owner_in, member_class, put_in, put_beside, put_before, put_after, taken_out, filed_first, filed_last, filed_before, filed_after, removed}
use Rattle.ss_world.specs.State.{modes_of, State, value_in, and_then, assigned}
use Rattle.ss_base.specs.declared.layout.Discipline.TheVariants.{Fifo, Lifo, Ranked}
use Rattle.ss_base.specs.declared.words.Operator.{Operator}
use Rattle.ss_base.specs.declared.words.End.{End}
use Rattle.ss_records.specs.Attributes.{changed_number, IsChanged}
use Rattle.ss_machine_time.specs.Places.{is_about}
use Rattle.ss_meaning.specs.Sets.{Filing, ByRule, Foremost, Hindmost, JustBefore, JustAfter, owner_by_layout, owner_number, member, is_fit, filed_by, filed_in, removed_from, end_removed, removed_at, recounted}
use Rattle.ss_machine_world.proofs.Reading.{value_once, set_once}

-- ## An attribute

module _ (class field : ℕ) (n : ℤ) (v : Value) (e : Seen) (fits : is_of_mode v (slice_get (modes_of e.heap.layout class) field) ≡ true) where
  -- it is assigned a value, which is noted afterwards
  pub assigned_noted : (h : State) → assigned e.heap class field n v ≡ Ok h → value_in h class field n ≡ Ok v → h.layout ≡ e.heap.layout → is_some (slice_get (modes_of e.heap.layout class) field) ≡ true → (s : Store) → assigned_attribute class field (Whole n) v (with_seen s e) ≡ attribute_noted class field n (with_seen s (record e { heap = h }))
  assigned_noted h done reads layout there s =
      let z : Store = with_seen s (record e { heap = h }) in
      let mode : is_some (slice_get (modes_of h.layout class) field) ≡ true = ap (λ (l : Layout). is_some (slice_get (modes_of l class) field)) layout ∙ there in
      set_once e class field n v s fits
      ∙ ap (λ r. if_ok (due r) (λ h. noted (OfAttribute class field) n v (with_heap (with_seen s e) h))) done
      ∙ sym (ap (λ r. if_ok r (λ v. noted (OfAttribute class field) n v z)) (value_once (record e { heap = h }) class field n s mode ∙ ap due reads))

  -- or there is a fault
  pub assigned_not : (kind : FaultKind) → assigned e.heap class field n v ≡ Err kind → (s : Store) → assigned_attribute class field (Whole n) v (with_seen s e) ≡ Err (Fails kind)
  assigned_not kind fault s = set_once e class field n v s fits ∙ ap (λ r. if_ok (due r) (λ h. noted (OfAttribute class field) n v (with_heap (with_seen s e) h))) fault

-- an attribute that is a number is increased or reduced: what the meaning does is to read it, to calculate and to assign
module _ (op : Operator) (by : ℤ) (class field : ℕ) (x : ℤ) (e : Seen) (mode : slice_get (modes_of e.heap.layout class) field ≡ Some Integer) where
  abbrev changed : Store → OkOr Store Failure
  changed s = if_ok (attribute class field (Whole x) s) (λ v. if_ok (calculated op v (Whole by)) (λ w. assigned_attribute class field (Whole x) w s))

  abbrev changed_from : Store → OkOr Value FaultKind → OkOr Store Failure
  changed_from s q = if_ok (due q) (λ v. if_ok (calculated op v (Whole by)) (λ w. assigned_attribute class field (Whole x) w s))

  read : (s : Store) → changed (with_seen s e) ≡ changed_from (with_seen s e) (value_in e.heap class field x)
  read s = ap (λ r. if_ok r (λ v. if_ok (calculated op v (Whole by)) (λ w. assigned_attribute class field (Whole x) w (with_seen s e)))) (value_once e class field x s (ap is_some mode))

  number_fits : (n : ℤ) → is_of_mode (Whole n) (slice_get (modes_of e.heap.layout class) field) ≡ true
  number_fits n = ap (is_of_mode (Whole n)) mode

  pub changed_noted : (h : State) → IsChanged (λ z. computed op z by) e.heap class field x h → h.layout ≡ e.heap.layout → (s : Store) → IsRight (changed (with_seen s e)) → changed (with_seen s e) ≡ attribute_noted class field x (with_seen s (record e { heap = h }))
  changed_noted h is layout s right = read s ∙ sides (value_in e.heap class field x) is.makes (λ wrong. right (read s ∙ wrong))
    where
      sides : (q : OkOr Value FaultKind) → changed_number (λ z. computed op z by) q ≡ Ok is.number → IsRight (changed_from (with_seen s e) q) → changed_from (with_seen s e) q ≡ attribute_noted class field x (with_seen s (record e { heap = h }))
      sides (Err k) makes right = absurd cc
      sides (Ok (Text t)) makes right = absurd (right refl)
      sides (Ok (Whole n)) makes right =
          ap (λ r. if_ok (turned Whole (due r)) (λ w. assigned_attribute class field (Whole x) w (with_seen s e))) makes
          ∙ assigned_noted class field x (Whole is.number) e (number_fits is.number) h is.is.gives is.is.reads layout (ap is_some mode) s

  pub changed_not : (kind : FaultKind) → changed_number (λ z. computed op z by) (value_in e.heap class field x) ≡ Err kind → (s : Store) → IsRight (changed (with_seen s e)) → changed (with_seen s e) ≡ Err (Fails kind)
  changed_not kind fault s right = read s ∙ sides (value_in e.heap class field x) fault (λ wrong. right (read s ∙ wrong))
    where
      sides : (q : OkOr Value FaultKind) → changed_number (λ z. computed op z by) q ≡ Err kind → IsRight (changed_from (with_seen s e) q) → changed_from (with_seen s e) q ≡ Err (Fails kind)
      sides (Err k) fault right = let same : k ≡ kind = cc in ap (λ (k : FaultKind). (let r : OkOr Store Failure = Err (Fails k) in r)) same
      sides (Ok (Text t)) fault right = absurd (right refl)
      sides (Ok (Whole n)) fault right = ap (λ r. if_ok (turned Whole (due r)) (λ w. assigned_attribute class field (Whole x) w (with_seen s e))) fault

-- ## Filing and removing

-- the number of an owner
owner_is : (t : Option SetLayout) (o : Option Value) (m : ℤ) → is_some t ≡ true → IsReferenceTo (owner_in t) o m → owner_by_layout t o ≡ Ok m
owner_is None o m there refers = absurd cc
owner_is (Some t) o m there refers = refers

module _ (e : Seen) (set : ℕ) (o : Option Value) (m : ℤ) (there : is_some (slice_get e.heap.layout.sets set) ≡ true) (refers : IsReferenceTo (owner_in (slice_get e.heap.layout.sets set)) o m) where
  owner_found : (s : Store) → owner_number set o (with_seen s e) ≡ Ok m
  owner_found s = owner_is (slice_get e.heap.layout.sets set) o m there refers

  member_is : (x : ℤ) (s : Store) → member set (Whole x) (with_seen s e) ≡ turned (λ _. x) (due (joiner e.heap set x))
  member_is x s = ap (λ b. where_fit b (turned (λ _. x) (due (joiner e.heap set x)))) there

  -- what begins with a look at the member
  module _ (x : ℤ) (go : (owner member : ℤ) → Store → OkOr State Failure) (rest : ℕ → OkOr State FaultKind) (goes : (i : ℕ) → joiner e.heap set x ≡ Ok i → (s : Store) → go m x (with_seen s e) ≡ due (rest i)) where
    put_together : (s : Store) → if_ok (member set (Whole x) (with_seen s e)) (λ n. if_ok (owner_number set o (with_seen s e)) (λ m. if_ok (go m n (with_seen s e)) (recounted set m (with_seen s e)))) ≡ if_ok (due (and_then (joiner e.heap set x) rest)) (recounted set m (with_seen s e))
    put_together s = ap (λ r. if_ok r then_filed) (member_is x s) ∙ by (joiner e.heap set x) refl
      where
        then_filed : ℤ → OkOr Store Failure
        then_filed n = if_ok (owner_number set o (with_seen s e)) (λ m. if_ok (go m n (with_seen s e)) (recounted set m (with_seen s e)))

        by : (q : OkOr ℕ FaultKind) → joiner e.heap set x ≡ q → if_ok (turned (λ _. x) (due q)) then_filed ≡ if_ok (due (and_then q rest)) (recounted set m (with_seen s e))
        by (Err k) at = refl
        by (Ok i) at =
            ap (λ r. if_ok r (λ m. if_ok (go m x (with_seen s e)) (recounted set m (with_seen s e)))) (owner_found s)
            ∙ ap (λ r. if_ok r (recounted set m (with_seen s e))) (goes i at s)

  -- the entities once x is filed, or the fault
  abbrev IsFiled : Filing → (x : ℤ) → OkOr State FaultKind → Type 0
  IsFiled filing x r = (s : Store) → filed_in filing set (Whole x) o (with_seen s e) ≡ if_ok (due r) (recounted set m (with_seen s e))

  joined : (x : ℤ) (rest : ℕ → OkOr State FaultKind) (i : ℕ) → joiner e.heap set x ≡ Ok i → due (and_then (joiner e.heap set x) rest) ≡ due (rest i)
  joined x rest i at = ap (λ q. due (and_then q rest)) at

  -- what follows the look at x: it is put in the set, or taken out
  abbrev put_all : (put : ℕ → List ℕ → List ℕ) → ℕ → OkOr State FaultKind
  put_all put n = and_then (owner e.heap set m) (λ w. put_in put e.heap set w n)

  abbrev out_all : ℕ → OkOr State FaultKind
  out_all n = and_then (owner e.heap set m) (λ w. taken_out e.heap set w n)

  pub filed_first_is : (x : ℤ) → IsFiled Foremost x (filed_first e.heap set m x)
  filed_first_is x s =
      let rest = put_all (λ y l. y ∷ l) in
      put_together x (λ m n s. filed_by Foremost set m n s) rest (λ i at s. joined x rest i at) s

  pub filed_last_is : (x : ℤ) → IsFiled Hindmost x (filed_last e.heap set m x)
  filed_last_is x s =
      let rest = put_all (λ y l. l ++ y ∷ []) in
      put_together x (λ m n s. filed_by Hindmost set m n s) rest (λ i at s. joined x rest i at) s

  -- by the discipline of the set
  ruled : (d : Discipline) (x : ℤ) → slice_get e.disciplines set ≡ Some d → is_fit e.heap.layout set d ≡ true → (s : Store) → filed_by ByRule set m x (with_seen s e) ≡ due (filed e.heap d set m x)
  ruled d x has fits s =
      ap (λ t. if_ok (sure t) (λ d. where_fit (is_fit e.heap.layout set d) (due (filed e.heap d set m x)))) has
      ∙ ap (λ b. where_fit b (due (filed e.heap d set m x))) fits

  pub filed_ruled_is : (d : Discipline) (x : ℤ) → slice_get e.disciplines set ≡ Some d → is_fit e.heap.layout set d ≡ true → IsFiled ByRule x (filed e.heap d set m x)
  filed_ruled_is Fifo x has fits s =
      let rest = put_all (λ y l. l ++ y ∷ []) in
      put_together x (λ m n s. filed_by ByRule set m n s) rest (λ i at s. ruled Fifo x has fits s ∙ joined x rest i at) s
  filed_ruled_is Lifo x has fits s =
      let rest = put_all (λ y l. y ∷ l) in
      put_together x (λ m n s. filed_by ByRule set m n s) rest (λ i at s. ruled Lifo x has fits s ∙ joined x rest i at) s
  filed_ruled_is (Ranked ks) x has fits s =
      let rest = put_all (put_ranked e.heap (member_class e.heap.layout set) ks) in
      put_together x (λ m n s. filed_by ByRule set m n s) rest (λ i at s. ruled (Ranked ks) x has fits s ∙ joined x rest i at) s

  -- beside another member y, which is looked at after x
  abbrev beside_one : (put : ℕ → ℕ → List ℕ → List ℕ) → (i k : ℕ) → OkOr State FaultKind
  beside_one put i k = and_then (owner e.heap set m) (λ w. put_beside put e.heap set w i k)

  abbrev beside_all : (put : ℕ → ℕ → List ℕ → List ℕ) → (y : ℤ) → ℕ → OkOr State FaultKind
  beside_all put y i = and_then (joiner e.heap set y) (beside_one put i)

  beside_it : (y : ℤ) (op : ℤ → OkOr State FaultKind) (rest : ℕ → OkOr State FaultKind) → op y ≡ and_then (joiner e.heap set y) rest → (s : Store) → if_ok (member set (Whole y) (with_seen s e)) (λ k. due (op k)) ≡ due (and_then (joiner e.heap set y) rest)
  beside_it y op rest is s = ap (λ r. if_ok r (λ k. due (op k))) (member_is y s) ∙ by (joiner e.heap set y) is
    where
      by : (q : OkOr ℕ FaultKind) → op y ≡ and_then q rest → if_ok (turned (λ _. y) (due q)) (λ k. due (op k)) ≡ due (and_then q rest)
      by (Ok j) is = ap due is
      by (Err k) is = refl

  pub filed_before_is : (x y : ℤ) → IsFiled (JustBefore (Whole y)) x (filed_before e.heap set m x y)
  filed_before_is x y s =
      put_together x (λ m n s. filed_by (JustBefore (Whole y)) set m n s) (beside_all put_before y)
      (λ i at s. beside_it y (λ k. filed_before e.heap set m x k) (beside_one put_before i) (ap (λ q. and_then q (beside_all put_before y)) at) s) s

  pub filed_after_is : (x y : ℤ) → IsFiled (JustAfter (Whole y)) x (filed_after e.heap set m x y)
  filed_after_is x y s =
      put_together x (λ m n s. filed_by (JustAfter (Whole y)) set m n s) (beside_all put_after y)
      (λ i at s. beside_it y (λ k. filed_after e.heap set m x k) (beside_one put_after i) (ap (λ q. and_then q (beside_all put_after y)) at) s) s

  -- the entities once x is out, or the fault
  pub removed_is : (x : ℤ) (s : Store) → removed_from set (Whole x) o (with_seen s e) ≡ if_ok (due (removed e.heap set m x)) (recounted set m (with_seen s e))
  removed_is x s = put_together x (λ m n s. due (removed s.world.heap set m n)) out_all (λ i at s. joined x out_all i at) s

  -- and once the member at an end is out
  pub end_removed_is : (end : End) (s : Store) → removed_at end set o (with_seen s e) ≡ if_ok (due (end_removed end e.heap set m)) (λ r. turned {B = Value × Store} (λ t. (Whole r.0, t)) (recounted set m (with_seen s e) r.1))
  end_removed_is end s =
      ap (λ r. if_ok {B = Value × Store} r (λ m. if_ok (due (end_removed end e.heap set m)) (λ r. turned (λ t. (Whole r.0, t)) (recounted set m (with_seen s e) r.1)))) (owner_found s)

-- ## Where no statistic watches a subject, a note changes nothing

unwatched_at : (subject : Subject) (x now : ℤ) (v : Value) (ss : List Statistic) (cs : List Column) → list_any (is_about subject) ss ≡ false → IsRight (all_noting subject x now v ss cs) → all_noting subject x now v ss cs ≡ Ok cs
unwatched_at subject x now v [] cs none right = refl
unwatched_at subject x now v (s ∷ ss) [] none right = absurd (right refl)
unwatched_at subject x now v (s ∷ ss) (c ∷ cs) none right = by (same_subject s.subject subject) none right (λ none right. unwatched_at subject x now v ss cs none right)
  where
    by : (b : Bool) → (b || list_any (is_about subject) ss) ≡ false → IsRight (if_ok (if b then noting x now v c else Ok c) (λ d. turned (λ ds. d ∷ ds) (all_noting subject x now v ss cs))) → (list_any (is_about subject) ss ≡ false → IsRight (all_noting subject x now v ss cs) → all_noting subject x now v ss cs ≡ Ok cs) → if_ok (if b then noting x now v c else Ok c) (λ d. turned (λ ds. d ∷ ds) (all_noting subject x now v ss cs)) ≡ Ok (c ∷ cs)
    by true none right rest = absurd cc
    by false none right rest = ap (turned (λ ds. c ∷ ds)) (rest none (λ wrong. right (ap (turned (λ ds. c ∷ ds)) wrong)))

pub unwatched : (subject : Subject) (x : ℤ) (v : Value) (e : Seen) → list_any (is_about subject) e.statistics ≡ false → (s : Store) → IsRight (noted subject x v (with_seen s e)) → noted subject x v (with_seen s e) ≡ Ok (with_seen s e)
unwatched subject x v e none s right =
    ap (turned (with_histories (with_seen s e))) (unwatched_at subject x e.time v e.statistics (columns_of e.histories) none (λ wrong. right (ap (turned (with_histories (with_seen s e))) wrong)))
