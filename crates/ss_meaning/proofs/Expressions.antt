-- Expressions, places and conditions of a well-typed program have their values.
use Rattle.std.proofs.Common.{◌≡◌, ℕ, ◌≤◌, Bool, true, false, List, [], ◌∷◌, Option, Some, None, ℤ, pos, refl, sym, subst}
use Rattle.ss_meaning.proofs.Common.{AreOfModes, AtOnce, AtTime, attribute, ClassLayout, entity, eq-eqb, fetched, figure, IfSome, InAttribute, Integer, is_empty, is_in, IsFittingStore, Item, JustAfter, JustBefore, known_owner, Later, le-leb, mean, member, Mode, mode_of, of_member, of_set, Sign, Store, Text, time_at, time_of, Value, Whole}
use Rattle.std.specs.Prelude.{Result, int_lt, ◌&&◌}
use Rattle.std.specs.List.{AllByRecursion as Every, AllZip}
use Rattle.ss_input.specs.Words.{is_ended}
use Rattle.ss_picture.specs.declared.field.Field.{Field}
use Rattle.ss_picture.specs.declared.items.Item.TheVariants.{Is, Mean}
use Rattle.ss_base.specs.declared.words.Operator.{Operator}
use Rattle.ss_base.specs.declared.words.UnaryOperator.{UnaryOperator}
use Rattle.ss_base.specs.declared.words.Relation.{Relation}
use Rattle.ss_program.specs.Program.{Expression, Constant, Fetch, Attribute, OfSystemSet, OfSet, OfMember, Clock, TimeOf, Figure, FigureOf, Signed, Unary, Calculate, SetOwner, TheSystem, Entity, Test, Compare, DataEnded, Empty, Member, Condition, Guard, Place, ToVariable, ToAttribute, ToCount, Position, ByDiscipline, AsFirst, AsLast, BeforeMember, AfterMember, When, At, In, Now, PrintItem, AValue, AMean, AMeanOf, Program}
use Rattle.ss_program.specs.WellTyped.{TypedScope, IsWellTyped, HasMode, HaveModes, IsSet, IsTypedOwner, IsTypedTest, IsTypedCondition, CanTakeMode, IsTypedPosition, IsTypedWhen, HasSubject, IsAlone, IsOfEntities, CanTakeItem}
use Rattle.ss_meaning.specs.Values.{Failure, if_ok, turned, due, sure, computed, calculated, operator_of, signed, computed_alone, applied, related, takes, take_all}
use Rattle.ss_meaning.specs.Expressions.{value, values, mean_shown, shown_item, shown_items, value_if_any, looked_at, entity_value, member_value, owner_value, owner_looked_at, spot, filing, time_value, not_if, passed, both, either, all_hold, holds, passes, all_pass}
use Rattle.ss_meaning.proofs.Fine.{Fine, There, Any, fine_then, fine_turned, any_due, sure_fine}
use Rattle.ss_meaning.proofs.Entities.{HasField as FieldThere, field_said, entity_fine, attribute_fine, time_of_fine, fetched_there, SpotTakes}
use Rattle.ss_meaning.proofs.Sets.{OwnerOk, set_of, member_fine, known_owner_fine, of_set_fine, of_member_fine, is_empty_fine, is_in_fine, FilingOk, AskedStatistic, figure_fine, mean_fine}
use Rattle.ss_meaning.proofs.Events.{time_at_fine}

abbrev pub HasMode_is : Mode → Value → Type 0
HasMode_is m v = mode_of v ≡ m

pub calculated_fine : (op : Operator) (x y : Value) → mode_of x ≡ Integer → mode_of y ≡ Integer → Fine (HasMode_is Integer) (calculated op x y)
calculated_fine op (Whole x) (Whole y) p q = fine_turned (HasMode_is Integer) Whole (due (computed op x y)) (any_due (computed op x y)) (λ z u. refl)
calculated_fine op (Whole x) (Text t) p q = absurd cc
calculated_fine op (Text s) y p q = absurd cc

signed_fine : (sign : Sign) (x : Value) → mode_of x ≡ Integer → Fine (HasMode_is Integer) (signed sign x)
signed_fine sign x p = calculated_fine (operator_of sign) (Whole (pos 0)) x refl p

pub applied_fine : (op : UnaryOperator) (x : Value) → mode_of x ≡ Integer → Fine (HasMode_is Integer) (applied op x)
applied_fine op (Whole z) p = fine_turned (HasMode_is Integer) Whole (due (computed_alone op z)) (any_due (computed_alone op z)) (λ y u. refl)
applied_fine op (Text t) p = absurd cc

pub related_there : (r : Relation) (m : Mode) (x y : Value) → mode_of x ≡ m → mode_of y ≡ m → There Any (related r x y)
related_there r m (Whole x) (Whole y) p q = tt
related_there r m (Text s) (Text t) p q = tt
related_there r m (Whole x) (Text t) p q = absurd cc
related_there r m (Text s) (Whole y) p q = absurd cc

as_integer : (m : Mode) (r : Result Value Failure) → m ≡ Integer → Fine (HasMode_is Integer) r → Fine (HasMode_is m) r
as_integer m r q h = subst (λ n. Fine (HasMode_is n) r) (sym q) h

-- what fields take
abbrev pub TakenBy : Field → Item → Type 0
TakenBy field x = takes field x ≡ true

abbrev pub AllTaken : List Field → List Item → Type 0
AllTaken fields xs = take_all fields xs ≡ true

both_true : (a b : Bool) → a ≡ true → b ≡ true → (a && b) ≡ true
both_true true true p q = refl
both_true true false p q = absurd cc
both_true false b p q = absurd cc

module _ (p : Program) (typed : IsWellTyped p) (ms : List Mode) (b : Bool) where
  abbrev here : TypedScope
  here = record { program = p; locals = ms; is_main = b }

  pub asked_alone : (k : ℕ) → HasSubject p IsAlone k → AskedStatistic p typed ms k None
  asked_alone k h = record { statistic = h.0; there = h.1; fits = h.2 }

  pub asked_of : (k : ℕ) (x : Value) → HasSubject p IsOfEntities k → mode_of x ≡ Integer → AskedStatistic p typed ms k (Some x)
  asked_of k x h m = record { statistic = h.0; there = h.1; fits = (h.2, m) }

  -- ## Expressions

  pub value_fine : (e : Expression) (m : Mode) → HasMode here e m → (s : Store) → IsFittingStore p ms s → Fine (HasMode_is m) (value e s)
  value_fine (Constant v) m h s f = h
  value_fine (Fetch x) m h s f = sure_fine (HasMode_is m) (fetched x s) (fetched_there p typed ms b x m s h f)
  value_fine (Attribute c k e) m h s f =
      fine_then (HasMode_is m) (value e s) (λ x. attribute c k x s) (value_fine e Integer h.1 s f) (λ x g. attribute_fine p typed ms c k m x s h.0 g f)
  value_fine (OfSystemSet query set) m h s f = as_integer m (of_set query set None s) h.0 (of_set_fine p typed ms query set None s h.1 f)
  value_fine (OfSet query set e) m h s f =
      as_integer m (if_ok (value e s) (λ o. of_set query set (Some o) s)) h.0
      (fine_then (HasMode_is Integer) (value e s) (λ o. of_set query set (Some o) s) (value_fine e Integer h.2 s f) (λ o g. of_set_fine p typed ms query set (Some o) s (h.1, g) f))
  value_fine (OfMember query set e) m h s f =
      as_integer m (if_ok (value e s) (λ x. of_member query set x s)) h.0
      (fine_then (HasMode_is Integer) (value e s) (λ x. of_member query set x s) (value_fine e Integer h.2 s f) (λ x g. of_member_fine p typed ms query set x s h.1 g f))
  value_fine Clock m h s f = sym h
  value_fine (TimeOf e) m h s f =
      as_integer m (if_ok (value e s) (λ x. time_of x s)) h.0
      (fine_then (HasMode_is Integer) (value e s) (λ x. time_of x s) (value_fine e Integer h.1 s f) (λ x g. time_of_fine p typed ms x s g))
  value_fine (Figure fold k) m h s f = as_integer m (figure fold k None s) h.0 (figure_fine p typed ms fold k None s (asked_alone k h.1) f)
  value_fine (FigureOf fold k e) m h s f =
      as_integer m (if_ok (value e s) (λ x. figure fold k (Some x) s)) h.0
      (fine_then (HasMode_is Integer) (value e s) (λ x. figure fold k (Some x) s) (value_fine e Integer h.2 s f) (λ x g. figure_fine p typed ms fold k (Some x) s (asked_of k x h.1 g) f))
  value_fine (Signed sign e) m h s f =
      as_integer m (if_ok (value e s) (signed sign)) h.0 (fine_then (HasMode_is Integer) (value e s) (signed sign) (value_fine e Integer h.1 s f) (λ x g. signed_fine sign x g))
  value_fine (Unary op e) m h s f =
      as_integer m (if_ok (value e s) (applied op)) h.0 (fine_then (HasMode_is Integer) (value e s) (applied op) (value_fine e Integer h.1 s f) (λ x g. applied_fine op x g))
  value_fine (Calculate op a c) m h s f =
      as_integer m (if_ok (value a s) (λ x. if_ok (value c s) (λ y. calculated op x y))) h.0
      (fine_then (HasMode_is Integer) (value a s) (λ x. if_ok (value c s) (λ y. calculated op x y)) (value_fine a Integer h.1 s f) (λ x g.
      fine_then (HasMode_is Integer) (value c s) (λ y. calculated op x y) (value_fine c Integer h.2 s f) (λ y k. calculated_fine op x y g k)))

  pub values_fine : (es : List Expression) (ns : List Mode) → HaveModes here es ns → (s : Store) → IsFittingStore p ms s → Fine (λ vs. AreOfModes vs ns) (values es s)
  values_fine [] [] h s f = refl
  values_fine [] (n ∷ ns) h s f = absurd h
  values_fine (e ∷ es) [] h s f = absurd h
  values_fine (e ∷ es) (n ∷ ns) h s f =
      fine_then (λ vs. AreOfModes vs (n ∷ ns)) (value e s) (λ v. turned (λ vs. v ∷ vs) (values es s)) (value_fine e n h.0 s f) (λ v g.
      fine_turned (λ vs. AreOfModes vs (n ∷ ns)) (λ vs. v ∷ vs) (values es s) (values_fine es ns h.1 s f) (λ vs k. let all : AreOfModes (v ∷ vs) (n ∷ ns) = cc in all))

  -- ## Items of PRINT

  mean_shown_fine : (field : Field) (k : ℕ) (o : Option Value) → field.decimals ≤ 9 → (s : Store) → AskedStatistic p typed ms k o → IsFittingStore p ms s → Fine (TakenBy field) (mean_shown (mean k o s))
  mean_shown_fine field k o h s a f =
      fine_turned (TakenBy field) (λ m. Mean m.0 m.1) (mean k o s) (mean_fine p typed ms k o s a f) (λ m u. le-leb field.decimals 9 h)

  item_fine : (field : Field) (x : PrintItem) → CanTakeItem here field x → (s : Store) → IsFittingStore p ms s → Fine (TakenBy field) (shown_item x s)
  item_fine field (AValue e) h s f = fine_turned (TakenBy field) Is (value e s) (value_fine e h.0.0 h.0.1 s f) (λ v g. eq-eqb field.decimals 0 h.1)
  item_fine field (AMean k) h s f = mean_shown_fine field k None h.1 s (asked_alone k h.0) f
  item_fine field (AMeanOf k e) h s f =
      fine_then (TakenBy field) (value e s) (λ x. mean_shown (mean k (Some x) s)) (value_fine e Integer h.1 s f) (λ x g. mean_shown_fine field k (Some x) h.2 s (asked_of k x h.0 g) f)

  pub items_fine : (fields : List Field) (xs : List PrintItem) → AllZip (CanTakeItem here) fields xs → (s : Store) → IsFittingStore p ms s → Fine (AllTaken fields) (shown_items xs s)
  items_fine [] [] h s f = refl
  items_fine [] (x ∷ xs) h s f = absurd h
  items_fine (field ∷ fields) [] h s f = absurd h
  items_fine (field ∷ fields) (x ∷ xs) h s f =
      fine_then (AllTaken (field ∷ fields)) (shown_item x s) (λ y. turned (λ ys. y ∷ ys) (shown_items xs s)) (item_fine field x h.0 s f) (λ y g.
      fine_turned (AllTaken (field ∷ fields)) (λ ys. y ∷ ys) (shown_items xs s) (items_fine fields xs h.1 s f) (λ ys k. both_true (takes field y) (take_all fields ys) g k))

  -- an expression that may be left out
  abbrev pub OptionOk : Option Value → Type 0
  OptionOk None = Unit {0}
  OptionOk (Some v) = mode_of v ≡ Integer

  pub value_if_any_fine : (e : Option Expression) → IfSome e (λ e. HasMode here e Integer) → (s : Store) → IsFittingStore p ms s → Fine OptionOk (value_if_any e s)
  value_if_any_fine None h s f = tt
  value_if_any_fine (Some e) h s f = fine_turned OptionOk Some (value e s) (value_fine e Integer h s f) (λ v g. g)

  -- ## References

  looked_fine : (known : Value → Result ℤ Failure) (Q : ℤ → Type 0) (x : Value) → mode_of x ≡ Integer → Fine Q (known x) → Fine (HasMode_is Integer) (looked_at known x)
  looked_fine known Q x m h = fine_turned (HasMode_is Integer) (λ n. x) (known x) h (λ n g. m)

  pub entity_value_fine : (c : ℕ) (cl : ClassLayout) (e : Expression) → Rattle.std.specs.Prelude.slice_get p.layout.classes c ≡ Some cl → HasMode here e Integer → (s : Store) → IsFittingStore p ms s → Fine (HasMode_is Integer) (entity_value c e s)
  entity_value_fine c cl e q h s f =
      fine_then (HasMode_is Integer) (value e s) (looked_at (λ x. entity c x s)) (value_fine e Integer h s f) (λ x g.
      fine_turned (HasMode_is Integer) (λ n. x) (entity c x s) (entity_fine p typed ms c cl x s q g f) (λ n k. g))

  pub member_value_fine : (set : ℕ) (e : Expression) → IsSet p set → HasMode here e Integer → (s : Store) → IsFittingStore p ms s → Fine (HasMode_is Integer) (member_value set e s)
  member_value_fine set e q h s f =
      fine_then (HasMode_is Integer) (value e s) (looked_at (λ x. member set x s)) (value_fine e Integer h s f) (λ x g.
      fine_turned (HasMode_is Integer) (λ n. x) (member set x s) (member_fine p typed ms set x s q g f) (λ n k. g))

  pub owner_value_fine : (set : ℕ) (owner : SetOwner) → IsTypedOwner here set owner → (s : Store) → IsFittingStore p ms s → Fine (OwnerOk p typed ms set) (owner_value owner s)
  owner_value_fine set TheSystem h s f = h
  owner_value_fine set (Entity e) h s f = fine_turned (OwnerOk p typed ms set) Some (value e s) (value_fine e Integer h.1 s f) (λ x g. (h.0, g))

  pub owner_looked_at_fine : (set : ℕ) (owner : SetOwner) → IsTypedOwner here set owner → (s : Store) → IsFittingStore p ms s → Fine (OwnerOk p typed ms set) (owner_looked_at set owner s)
  owner_looked_at_fine set owner h s f =
      fine_then (OwnerOk p typed ms set) (owner_value owner s) (λ o. turned (λ n. o) (known_owner set o s)) (owner_value_fine set owner h s f) (λ o g.
      fine_turned (OwnerOk p typed ms set) (λ n. o) (known_owner set o s) (known_owner_fine p typed ms set o s g f) (λ n k. g))

  pub set_of_owner : (set : ℕ) (owner : SetOwner) → IsTypedOwner here set owner → IsSet p set
  set_of_owner set TheSystem h = set_of p typed ms set None h
  set_of_owner set (Entity e) h = set_of p typed ms set (Some (Whole (pos 0))) (h.0, refl)

  pub spot_fine : (t : Place) (m : Mode) → CanTakeMode here t m → (s : Store) → IsFittingStore p ms s → Fine (λ x. SpotTakes p typed ms b x m) (spot t s)
  spot_fine (ToVariable x) m h s f = h.0
  spot_fine (ToAttribute c k e) m h s f =
      let there : FieldThere p c k m = field_said p c k m h.0 in
      fine_turned (λ x. SpotTakes p typed ms b x m) (InAttribute c k) (entity_value c e s) (entity_value_fine c there.class e there.there h.1 s f) (λ x g. (h.0, g))
  spot_fine (ToCount count) m h s f = h

  pub filing_fine : (set : ℕ) (position : Position) → IsSet p set → IsTypedPosition here position → (s : Store) → IsFittingStore p ms s → Fine (FilingOk p typed ms) (filing set position s)
  filing_fine set ByDiscipline q h s f = tt
  filing_fine set AsFirst q h s f = tt
  filing_fine set AsLast q h s f = tt
  filing_fine set (BeforeMember e) q h s f = fine_turned (FilingOk p typed ms) JustBefore (member_value set e s) (member_value_fine set e q h s f) (λ x g. g)
  filing_fine set (AfterMember e) q h s f = fine_turned (FilingOk p typed ms) JustAfter (member_value set e s) (member_value_fine set e q h s f) (λ x g. g)

  pub time_value_fine : (when : When) → IsTypedWhen here when → (s : Store) → IsFittingStore p ms s → Fine Any (time_value when s)
  time_value_fine (At e) h s f = fine_then Any (value e s) (λ v. time_at (AtTime v) s) (value_fine e Integer h s f) (λ v g. time_at_fine p typed ms (AtTime v) s g)
  time_value_fine (In e) h s f = fine_then Any (value e s) (λ v. time_at (Later v) s) (value_fine e Integer h s f) (λ v g. time_at_fine p typed ms (Later v) s g)
  time_value_fine Now h s f = time_at_fine p typed ms AtOnce s tt

  -- ## Conditions

  pub passed_fine : (t : Test) → IsTypedTest here t → (s : Store) → IsFittingStore p ms s → Fine Any (passed t s)
  passed_fine (Compare r a c) h s f =
      fine_then Any (value a s) (λ x. if_ok (value c s) (λ y. sure (related r x y))) (value_fine a h.0 h.1 s f) (λ x g.
      fine_then Any (value c s) (λ y. sure (related r x y)) (value_fine c h.0 h.2 s f) (λ y k. sure_fine Any (related r x y) (related_there r h.0 x y g k)))
  passed_fine (DataEnded negated) h s f = fine_turned Any (not_if negated) (due (is_ended s.world.input)) (any_due (is_ended s.world.input)) (λ u v. tt)
  passed_fine (Empty negated set owner) h s f =
      fine_then Any (owner_value owner s) (λ o. turned (not_if negated) (is_empty set o s)) (owner_value_fine set owner h s f) (λ o g.
      fine_turned Any (not_if negated) (is_empty set o s) (is_empty_fine p typed ms set o s g f) (λ u v. tt))
  passed_fine (Member negated set e owner) h s f =
      fine_then Any (member_value set e s) (λ x. if_ok (owner_value owner s) (λ o. turned (not_if negated) (is_in set x o s))) (member_value_fine set e (set_of_owner set owner h.1) h.0 s f) (λ x g.
      fine_then Any (owner_value owner s) (λ o. turned (not_if negated) (is_in set x o s)) (owner_value_fine set owner h.1 s f) (λ o k.
      fine_turned Any (not_if negated) (is_in set x o s) (is_in_fine p typed ms set x o s g k f) (λ u v. tt)))

  both_fine : (c : Bool) (r : Result Bool Failure) → Fine Any r → Fine Any (both c r)
  both_fine true r h = h
  both_fine false r h = tt

  either_fine : (c : Bool) (r : Result Bool Failure) → Fine Any r → Fine Any (either c r)
  either_fine true r h = tt
  either_fine false r h = h

  all_hold_fine : (ts : List Test) → Every (IsTypedTest here) ts → (s : Store) → IsFittingStore p ms s → Fine Any (all_hold ts s)
  all_hold_fine [] h s f = tt
  all_hold_fine (t ∷ ts) h s f = fine_then Any (passed t s) (λ c. both c (all_hold ts s)) (passed_fine t h.0 s f) (λ c u. both_fine c (all_hold ts s) (all_hold_fine ts h.1 s f))

  pub holds_fine : (c : Condition) → IsTypedCondition here c → (s : Store) → IsFittingStore p ms s → Fine Any (holds c s)
  holds_fine [] h s f = tt
  holds_fine (ts ∷ others) h s f = fine_then Any (all_hold ts s) (λ c. either c (holds others s)) (all_hold_fine ts h.0 s f) (λ c u. either_fine c (holds others s) (holds_fine others h.1 s f))

  pub all_pass_fine : (gs : List Guard) → Every (λ (g : Guard). IsTypedCondition here g.condition) gs → (s : Store) → IsFittingStore p ms s → Fine Any (all_pass gs s)
  all_pass_fine [] h s f = tt
  all_pass_fine (g ∷ gs) h s f = fine_then Any (holds g.condition s) (λ c. both (passes g.kind c) (all_pass gs s)) (holds_fine g.condition h.0 s f) (λ c u. both_fine (passes g.kind c) (all_pass gs s) (all_pass_fine gs h.1 s f))
