-- The operations on sets and on statistics, for a well-typed program.
use Rattle.std.proofs.Common.{◌≡◌, ℕ, zero, suc, ◌<◌, Bool, true, false, List, [], ◌∷◌, length, Option, Some, None, Ok, Err, ℤ, pos, refl, sym, ap, ◌∙◌, subst}
use Rattle.std.specs.Prelude.{slice_get, ◌&&◌, Result, is_some, not, if◌then◌else◌}
use Rattle.std.proofs.lemmas.Bool.{lt-ltb}
use Rattle.std.specs.List.{AllZip, list_all}
use Rattle.ss_meaning.proofs.Common.{Class, Discipline, due, End, entity, entity_in, Fails, Failure, fetched, Fifo, Global, if_ok, Integer, IsFittingStore, IsLiving, IsLivingOwner, IsSubjectOwner, Lifo, members_of, Mode, mode_of, modes_of, number_in, number_of, OfAttribute, OfCount, OfVariable, option_map, Owner, Program, Ranked, RankKey, State, Statistic, Store, Subject, sure, System, Text, turned, TypeError, unless_fault, Value, where_fit, Whole, with_heap, with_histories}
use Rattle.ss_base.specs.declared.fault.FaultKind.TheVariants.{NotFiled}
use Rattle.ss_base.specs.declared.layout.SetLayout.{SetLayout}
use Rattle.ss_world.specs.Sets.{member_class, owner_kind, owner_by as owner_of_kind, joiner, owner, first_in, last_in, count_in, next_in, previous_in, owner_of_member, filed_first, filed_last, filed_before, filed_after, removed}
use Rattle.ss_world.specs.Disciplines.{member_test, filed}
use Rattle.ss_program.specs.declared.expression.Fold.{Fold}
use Rattle.ss_program.specs.declared.expression.Fold.TheVariants.{Number, Sum, Maximum, Minimum}
use Rattle.ss_program.specs.declared.expression.SetQuery.{SetQuery}
use Rattle.ss_program.specs.declared.expression.SetQuery.TheVariants.{MemberCount}
use Rattle.ss_program.specs.declared.expression.MemberQuery.{MemberQuery}
use Rattle.ss_program.specs.declared.expression.MemberQuery.TheVariants.{Predecessor, Successor, Membership}
use Rattle.ss_program.specs.WellTyped.{IsWellTyped, IsSet, IsOwned, owner_of_set, IsTypedDiscipline, AreTypedKeys, IsTypedSubject, IsAlone, IsOfEntities}
use Rattle.ss_stats.specs.History.{History, sum_of, mean_of}
use Rattle.ss_meaning.specs.Histories.{noted, history_of_subject, folded, figure_kept, mean_kept, renewed}
use Rattle.ss_meaning.specs.Sets.{set_at, member, owner_as, owner_by_layout, owner_number, known_owner, set_answer, of_set, is_one, of_member, is_none, is_empty, is_in, recounted, is_field, is_fit, Filing, ByRule, Foremost, Hindmost, JustBefore, JustAfter, filed_by, filed_in, removed_from, end_removed, removed_at, outset, beside, begun, coming, from_or_after, begun_at, or_gone, goes_on}
use Rattle.ss_meaning.specs.Statistics.{subject_of_statistic, bearer_number, present, figure, mean, reset}
use Rattle.ss_meaning.proofs.Fine.{Fine, Sane, There, Any, fine_then, fine_turned, fine_weaker, due_fine, any_due, sure_fine, fit_fine, unless_fine, sane_then}
use Rattle.ss_meaning.proofs.Lists.{every_get}
use Rattle.ss_meaning.proofs.Heaps.{Changed, entity_known, entity_lives, get_within}
use Rattle.ss_meaning.proofs.Filings.{first_sane, last_sane, before_sane, after_sane, removed_sane, filed_sane, end_sane, keeps_fit}
use Rattle.ss_meaning.proofs.Kept.{number_fine, history_fine, renewed_fine}
use Rattle.ss_meaning.proofs.Stores.{heap_fits, kept_fit, statistics_are, noted_fine, held_there}
use Rattle.ss_meaning.proofs.Entities.{HasField, field_said, entity_fine, attribute_fine}

module _ (p : Program) (typed : IsWellTyped p) (ms : List Mode) where
  -- ## Members and owners

  set_here : (set : ℕ) (t : SetLayout) (s : Store) → slice_get p.layout.sets set ≡ Some t → IsFittingStore p ms s → set_at set s ≡ Some t
  set_here set t s q f = ap (λ l. slice_get l.sets set) f.sound.world.layout ∙ q

  pub member_fine : (set : ℕ) (x : Value) (s : Store) → IsSet p set → mode_of x ≡ Integer → IsFittingStore p ms s → Fine (λ n. x ≡ Whole n) (member set x s)
  member_fine set (Whole n) s q g f =
      fit_fine (λ n'. Whole n ≡ Whole n') (is_some (set_at set s)) (turned (λ u. n) (due (joiner s.world.heap set n))) (ap is_some (set_here set q.0 s q.1 f))
      (fine_turned (λ n'. Whole n ≡ Whole n') (λ u. n) (due (joiner s.world.heap set n)) (any_due (joiner s.world.heap set n)) (λ u v. refl))
  member_fine set (Text t) s q g f = absurd cc

  -- whose set it is: an entity's, or the system's
  abbrev pub OwnerOk : (set : ℕ) → Option Value → Type 0
  OwnerOk set None = owner_of_set p set ≡ Some System
  OwnerOk set (Some x) = IsOwned p set × (mode_of x ≡ Integer)

  -- who owns a set
  owner_said : (set : ℕ) (o : Owner) → owner_of_set p set ≡ Some o → (t : SetLayout) × (slice_get p.layout.sets set ≡ Some t) × (t.owner ≡ o)
  owner_said set o q = by (slice_get p.layout.sets set) refl q
    where
      by : (l : Option SetLayout) → slice_get p.layout.sets set ≡ l → option_map (λ (t : SetLayout). t.owner) l ≡ Some o → (t : SetLayout) × (slice_get p.layout.sets set ≡ Some t) × (t.owner ≡ o)
      by None g h = absurd cc
      by (Some t) g h = (t, g, cc)

  pub set_of : (set : ℕ) (o : Option Value) → OwnerOk set o → IsSet p set
  set_of set None q = let t = owner_said set System q in (t.0, t.1)
  set_of set (Some x) q = let t = owner_said set (Class q.0.0) q.0.1 in (t.0, t.1)

  as_fine : (o : Owner) (x : Option Value) (set : ℕ) → owner_of_set p set ≡ Some o → OwnerOk set x → Fine (λ n. (o ≡ System → n ≡ pos 0)) (owner_as o x)
  as_fine System None set q g = λ e. refl
  as_fine System (Some x) set q g =
      let both : Some System ≡ Some (Class g.0.0) = sym q ∙ g.0.1 in
      absurd cc
  as_fine (Class c) None set q g =
      let both : Some (Class c) ≡ Some System = sym q ∙ g in
      absurd cc
  as_fine (Class c) (Some x) set q g = fine_weaker (λ n. (Class c ≡ System → n ≡ pos 0)) (number_of x) (number_fine x g.1) (λ n u e. absurd cc)

  -- the number of an owner
  abbrev pub IsOwnerNumber : State → ℕ → ℤ → Type 0
  IsOwnerNumber h set n = owner_kind h.layout set ≡ System → n ≡ pos 0

  pub owner_number_fine : (set : ℕ) (o : Option Value) (s : Store) → OwnerOk set o → IsFittingStore p ms s → Fine (IsOwnerNumber s.world.heap set) (owner_number set o s)
  owner_number_fine set o s q f =
      let t = set_of set o q in
      let here : set_at set s ≡ Some t.0 = set_here set t.0 s t.1 f in
      let said : owner_of_set p set ≡ Some t.0.owner = ap (λ l. option_map (λ (u : SetLayout). u.owner) l) t.1 in
      let kind : owner_kind s.world.heap.layout set ≡ t.0.owner = ap (λ l. Rattle.ss_world.specs.Sets.owner_in l) here in
      subst (λ l. Fine (IsOwnerNumber s.world.heap set) (owner_by_layout l o)) (sym here)
      (fine_weaker (IsOwnerNumber s.world.heap set) (owner_as t.0.owner o) (as_fine t.0.owner o set said q) (λ n h e. h (sym kind ∙ e)))

  owner_lives : (h : State) (c : ℕ) (n : ℤ) → Sane (λ m. IsLiving h c n) (owner_of_kind h (Class c) n)
  owner_lives h c n = sane_then (λ m. IsLiving h c n) (entity_in h c n) (λ r. Ok (number_in n)) (entity_known h c n) (λ r q. entity_lives h c n r q)

  owner_bears : (h : State) (o : Owner) (n : ℤ) → (o ≡ System → n ≡ pos 0) → Sane (λ m. IsLivingOwner o h n) (owner_of_kind h o n)
  owner_bears h System n z = z refl
  owner_bears h (Class c) n z = owner_lives h c n

  pub known_owner_fine : (set : ℕ) (o : Option Value) (s : Store) → OwnerOk set o → IsFittingStore p ms s → Fine (IsSubjectOwner s.world.heap (OfCount set)) (known_owner set o s)
  known_owner_fine set o s q f =
      fine_then (IsSubjectOwner s.world.heap (OfCount set)) (owner_number set o s) (λ n. turned (λ u. n) (due (owner s.world.heap set n))) (owner_number_fine set o s q f) (λ n z.
      fine_turned (IsSubjectOwner s.world.heap (OfCount set)) (λ u. n) (due (owner s.world.heap set n)) (due_fine (λ m. IsSubjectOwner s.world.heap (OfCount set) n) (owner s.world.heap set n) (owner_bears s.world.heap (owner_kind s.world.heap.layout set) n z)) (λ u b. b))

  -- ## Looking

  pub of_set_fine : (query : SetQuery) (set : ℕ) (o : Option Value) (s : Store) → OwnerOk set o → IsFittingStore p ms s → Fine (λ v. mode_of v ≡ Integer) (of_set query set o s)
  of_set_fine query set o s q f =
      fine_then (λ v. mode_of v ≡ Integer) (owner_number set o s) (λ n. turned Whole (due (set_answer query s.world.heap set n))) (owner_number_fine set o s q f) (λ n z.
      fine_turned (λ v. mode_of v ≡ Integer) Whole (due (set_answer query s.world.heap set n)) (any_due (set_answer query s.world.heap set n)) (λ u v. refl))

  pub of_member_fine : (query : MemberQuery) (set : ℕ) (x : Value) (s : Store) → IsSet p set → mode_of x ≡ Integer → IsFittingStore p ms s → Fine (λ v. mode_of v ≡ Integer) (of_member query set x s)
  of_member_fine Predecessor set x s q g f =
      fine_then (λ v. mode_of v ≡ Integer) (member set x s) (λ n. turned Whole (due (previous_in s.world.heap set n))) (member_fine set x s q g f) (λ n z.
      fine_turned (λ v. mode_of v ≡ Integer) Whole (due (previous_in s.world.heap set n)) (any_due (previous_in s.world.heap set n)) (λ u v. refl))
  of_member_fine Successor set x s q g f =
      fine_then (λ v. mode_of v ≡ Integer) (member set x s) (λ n. turned Whole (due (next_in s.world.heap set n))) (member_fine set x s q g f) (λ n z.
      fine_turned (λ v. mode_of v ≡ Integer) Whole (due (next_in s.world.heap set n)) (any_due (next_in s.world.heap set n)) (λ u v. refl))
  of_member_fine Membership set x s q g f =
      fine_then (λ v. mode_of v ≡ Integer) (member set x s) (λ n. turned (λ o. Whole (is_one o)) (due (owner_of_member s.world.heap set n))) (member_fine set x s q g f) (λ n z.
      fine_turned (λ v. mode_of v ≡ Integer) (λ o. Whole (is_one o)) (due (owner_of_member s.world.heap set n)) (any_due (owner_of_member s.world.heap set n)) (λ u v. refl))

  pub is_empty_fine : (set : ℕ) (o : Option Value) (s : Store) → OwnerOk set o → IsFittingStore p ms s → Fine Any (is_empty set o s)
  is_empty_fine set o s q f =
      fine_then Any (owner_number set o s) (λ n. turned is_none (due (count_in s.world.heap set n))) (owner_number_fine set o s q f) (λ n z.
      fine_turned Any is_none (due (count_in s.world.heap set n)) (any_due (count_in s.world.heap set n)) (λ u v. tt))

  pub is_in_fine : (set : ℕ) (x : Value) (o : Option Value) (s : Store) → mode_of x ≡ Integer → OwnerOk set o → IsFittingStore p ms s → Fine Any (is_in set x o s)
  is_in_fine set x o s g q f =
      fine_then Any (member set x s) (λ n. if_ok (owner_number set o s) (λ m. due (member_test s.world.heap set m n))) (member_fine set x s (set_of set o q) g f) (λ n z.
      fine_then Any (owner_number set o s) (λ m. due (member_test s.world.heap set m n)) (owner_number_fine set o s q f) (λ m y. any_due (member_test s.world.heap set m n)))

  -- ## Filing and removing

  -- who has members that can be counted is an owner
  count_bears : (h : State) (set : ℕ) (o : ℤ) → IsOwnerNumber h set o → Sane (λ n. IsSubjectOwner h (OfCount set) o) (count_in h set o)
  count_bears h set o z =
      sane_then (λ n. IsSubjectOwner h (OfCount set) o) (owner h set o) (λ n. Ok (pos (length (members_of h.lists set n)))) (owner_bears h (owner_kind h.layout set) o z) (λ m b. b)

  pub recounted_fine : (set : ℕ) (o : ℤ) (s : Store) (h : State) → IsOwnerNumber s.world.heap set o → IsFittingStore p ms s → Changed s.world.heap h → Fine (IsFittingStore p ms) (recounted set o s h)
  recounted_fine set o s h z f g =
      fine_then (IsFittingStore p ms) (due (count_in h set o)) (λ n. noted (OfCount set) o (Whole n) (with_heap s h))
      (due_fine (λ n. IsSubjectOwner h (OfCount set) o) (count_in h set o) (count_bears h set o (λ e. z (ap (λ l. owner_kind l set) (sym g.1.layout) ∙ e)))) (λ n b.
      noted_fine p ms (OfCount set) o (Whole n) (with_heap s h) (λ j t q e. refl) b (heap_fits p ms s h f g))

  discipline_at : (sets : List SetLayout) (ds : List Discipline) (k : ℕ) (t : SetLayout) → AllZip (IsTypedDiscipline p) sets ds → slice_get sets k ≡ Some t → There (IsTypedDiscipline p t) (slice_get ds k)
  discipline_at [] ds k t h q = absurd cc
  discipline_at (u ∷ us) [] k t h q = absurd h
  discipline_at (u ∷ us) (d ∷ ds) zero t h q = let same : u ≡ t = cc in subst (λ v. IsTypedDiscipline p v d) same h.0
  discipline_at (u ∷ us) (d ∷ ds) (suc k) t h q = discipline_at us ds k t h.1 q

  keys_fit : (c : ℕ) (keys : List RankKey) → AreTypedKeys p c keys → list_all (is_field p.layout c) keys ≡ true
  keys_fit c [] h = refl
  keys_fit c (key ∷ keys) h =
      let there : HasField p c key.field h.0.0 = field_said p c key.field h.0.0 h.0.1 in
      let inside : key.field < length (modes_of p.layout c) = get_within (modes_of p.layout c) key.field h.0.0 there.field in
      ap (λ b. b && list_all (is_field p.layout c) keys) (lt-ltb key.field (length (modes_of p.layout c)) inside) ∙ keys_fit c keys h.1

  discipline_fits : (set : ℕ) (t : SetLayout) (d : Discipline) → slice_get p.layout.sets set ≡ Some t → IsTypedDiscipline p t d → is_fit p.layout set d ≡ true
  discipline_fits set t Fifo q g = refl
  discipline_fits set t Lifo q g = refl
  discipline_fits set t (Ranked keys) q g = ap (λ l. list_all (is_field p.layout (Rattle.ss_world.specs.Sets.member_in l)) keys) q ∙ keys_fit t.member keys g

  abbrev pub FilingOk : Filing → Type 0
  FilingOk ByRule = Unit {0}
  FilingOk Foremost = Unit {0}
  FilingOk Hindmost = Unit {0}
  FilingOk (JustBefore y) = mode_of y ≡ Integer
  FilingOk (JustAfter y) = mode_of y ≡ Integer

  pub filed_by_fine : (filing : Filing) (set : ℕ) (o x : ℤ) (s : Store) → FilingOk filing → IsSet p set → IsFittingStore p ms s → Fine (Changed s.world.heap) (filed_by filing set o x s)
  filed_by_fine ByRule set o x s g q f =
      fine_then (Changed s.world.heap) (sure (slice_get s.world.setting.disciplines set)) (λ d. where_fit (is_fit s.world.heap.layout set d) (due (filed s.world.heap d set o x)))
      (sure_fine (IsTypedDiscipline p q.0) (slice_get s.world.setting.disciplines set) (subst (λ c. There (IsTypedDiscipline p q.0) (slice_get c.disciplines set)) (sym f.sound.world.setting) (discipline_at p.layout.sets p.disciplines set q.0 typed.disciplines q.1))) (λ d good.
      fit_fine (Changed s.world.heap) (is_fit s.world.heap.layout set d) (due (filed s.world.heap d set o x)) (ap (λ l. is_fit l set d) f.sound.world.layout ∙ discipline_fits set q.0 d q.1 good)
      (due_fine (Changed s.world.heap) (filed s.world.heap d set o x) (filed_sane (Changed s.world.heap) s.world.heap d set o x (keeps_fit s.world.heap set f.sound.world.heap))))
  filed_by_fine Foremost set o x s g q f = due_fine (Changed s.world.heap) (filed_first s.world.heap set o x) (first_sane (Changed s.world.heap) s.world.heap set o x (keeps_fit s.world.heap set f.sound.world.heap))
  filed_by_fine Hindmost set o x s g q f = due_fine (Changed s.world.heap) (filed_last s.world.heap set o x) (last_sane (Changed s.world.heap) s.world.heap set o x (keeps_fit s.world.heap set f.sound.world.heap))
  filed_by_fine (JustBefore y) set o x s g q f =
      fine_then (Changed s.world.heap) (member set y s) (λ k. due (filed_before s.world.heap set o x k)) (member_fine set y s q g f) (λ k e.
      due_fine (Changed s.world.heap) (filed_before s.world.heap set o x k) (before_sane (Changed s.world.heap) s.world.heap set o x k (keeps_fit s.world.heap set f.sound.world.heap)))
  filed_by_fine (JustAfter y) set o x s g q f =
      fine_then (Changed s.world.heap) (member set y s) (λ k. due (filed_after s.world.heap set o x k)) (member_fine set y s q g f) (λ k e.
      due_fine (Changed s.world.heap) (filed_after s.world.heap set o x k) (after_sane (Changed s.world.heap) s.world.heap set o x k (keeps_fit s.world.heap set f.sound.world.heap)))

  pub filed_in_fine : (filing : Filing) (set : ℕ) (x : Value) (o : Option Value) (s : Store) → FilingOk filing → mode_of x ≡ Integer → OwnerOk set o → IsFittingStore p ms s → Fine (IsFittingStore p ms) (filed_in filing set x o s)
  filed_in_fine filing set x o s k g q f =
      fine_then (IsFittingStore p ms) (member set x s) (λ n. if_ok (owner_number set o s) (λ m. if_ok (filed_by filing set m n s) (recounted set m s))) (member_fine set x s (set_of set o q) g f) (λ n z.
      fine_then (IsFittingStore p ms) (owner_number set o s) (λ m. if_ok (filed_by filing set m n s) (recounted set m s)) (owner_number_fine set o s q f) (λ m y.
      fine_then (IsFittingStore p ms) (filed_by filing set m n s) (recounted set m s) (filed_by_fine filing set m n s k (set_of set o q) f) (λ h c. recounted_fine set m s h y f c)))

  pub removed_from_fine : (set : ℕ) (x : Value) (o : Option Value) (s : Store) → mode_of x ≡ Integer → OwnerOk set o → IsFittingStore p ms s → Fine (IsFittingStore p ms) (removed_from set x o s)
  removed_from_fine set x o s g q f =
      fine_then (IsFittingStore p ms) (member set x s) (λ n. if_ok (owner_number set o s) (λ m. if_ok (due (removed s.world.heap set m n)) (recounted set m s))) (member_fine set x s (set_of set o q) g f) (λ n z.
      fine_then (IsFittingStore p ms) (owner_number set o s) (λ m. if_ok (due (removed s.world.heap set m n)) (recounted set m s)) (owner_number_fine set o s q f) (λ m y.
      fine_then (IsFittingStore p ms) (due (removed s.world.heap set m n)) (recounted set m s) (due_fine (Changed s.world.heap) (removed s.world.heap set m n) (removed_sane (Changed s.world.heap) s.world.heap set m n (keeps_fit s.world.heap set f.sound.world.heap))) (λ h c.
      recounted_fine set m s h y f c)))

  pub removed_at_fine : (end : End) (set : ℕ) (o : Option Value) (s : Store) → OwnerOk set o → IsFittingStore p ms s → Fine (λ b. (mode_of b.0 ≡ Integer) × IsFittingStore p ms b.1) (removed_at end set o s)
  removed_at_fine end set o s q f =
      fine_then (λ b. (mode_of b.0 ≡ Integer) × IsFittingStore p ms b.1) (owner_number set o s) (λ m. if_ok (due (end_removed end s.world.heap set m)) (λ r. turned (λ t. (Whole r.0, t)) (recounted set m s r.1))) (owner_number_fine set o s q f) (λ m y.
      fine_then (λ b. (mode_of b.0 ≡ Integer) × IsFittingStore p ms b.1) (due (end_removed end s.world.heap set m)) (λ r. turned (λ t. (Whole r.0, t)) (recounted set m s r.1)) (due_fine (λ r. Changed s.world.heap r.1) (end_removed end s.world.heap set m) (end_sane (Changed s.world.heap) end s.world.heap set m (keeps_fit s.world.heap set f.sound.world.heap))) (λ r c.
      fine_turned (λ b. (mode_of b.0 ≡ Integer) × IsFittingStore p ms b.1) (λ t. (Whole r.0, t)) (recounted set m s r.1) (recounted_fine set m s r.1 y f c) (λ t g. (refl, g))))

  -- ## Going over members

  pub begun_fine : (reverse : Bool) (set : ℕ) (o : Option Value) (s : Store) → OwnerOk set o → IsFittingStore p ms s → Fine Any (begun reverse set o s)
  begun_fine reverse set o s q f =
      fine_then Any (owner_number set o s) (λ m. due (outset reverse s.world.heap set m)) (owner_number_fine set o s q f) (λ m y. any_due (outset reverse s.world.heap set m))

  pub coming_fine : (reverse : Bool) (set : ℕ) (x : ℤ) (s : Store) → IsSet p set → IsFittingStore p ms s → Fine Any (coming reverse set x s)
  coming_fine reverse set x s q f = fit_fine Any (is_some (set_at set s)) (due (beside reverse s.world.heap set x)) (ap is_some (set_here set q.0 s q.1 f)) (any_due (beside reverse s.world.heap set x))

  from_fine : (reverse after : Bool) (set : ℕ) (x : ℤ) (s : Store) → IsSet p set → IsFittingStore p ms s → Fine Any (from_or_after reverse after set x s)
  from_fine reverse true set x s q f = coming_fine reverse set x s q f
  from_fine reverse false set x s q f = tt

  pub begun_at_fine : (reverse after : Bool) (set : ℕ) (x : Value) (o : Option Value) (s : Store) → mode_of x ≡ Integer → OwnerOk set o → IsFittingStore p ms s → Fine Any (begun_at reverse after set x o s)
  begun_at_fine reverse after set x o s g q f =
      fine_then Any (is_in set x o s) (λ b. unless_fault (not b) NotFiled (if_ok (number_of x) (λ n. from_or_after reverse after set n s))) (is_in_fine set x o s g q f) (λ b u.
      unless_fine Any (not b) NotFiled (if_ok (number_of x) (λ n. from_or_after reverse after set n s)) (λ e.
      fine_then Any (number_of x) (λ n. from_or_after reverse after set n s) (number_fine x g) (λ n v. from_fine reverse after set n s (set_of set o q) f)))

  or_gone_fine : (r : Result Bool Failure) → Fine Any r → Fine Any (or_gone r)
  or_gone_fine (Ok true) h = tt
  or_gone_fine (Ok false) h = tt
  or_gone_fine (Err (Fails kind)) h = tt
  or_gone_fine (Err TypeError) h = absurd h

  pub goes_on_fine : (set : ℕ) (x : ℤ) (o : Option Value) (s : Store) → OwnerOk set o → IsFittingStore p ms s → Fine Any (goes_on set x o s)
  goes_on_fine set x o s q f = by (is_none x)
    where
      by : (b : Bool) → Fine Any (if b then Ok false else or_gone (is_in set (Whole x) o s))
      by true = tt
      by false = or_gone_fine (is_in set (Whole x) o s) (is_in_fine set (Whole x) o s refl q f)

  -- ## Statistics

  -- a statistic of one thing, or of an entity
  abbrev pub AskedOk : Subject → Option Value → Type 0
  AskedOk t None = IsAlone p t
  AskedOk t (Some x) = IsOfEntities p t × (mode_of x ≡ Integer)

  count_owner : (set : ℕ) (o : Option Value) → AskedOk (OfCount set) o → OwnerOk set o
  count_owner set None q = q
  count_owner set (Some x) q = q

  pub bearer_fine : (t : Subject) (o : Option Value) (s : Store) → IsTypedSubject p t → AskedOk t o → IsFittingStore p ms s → Fine (IsSubjectOwner s.world.heap t) (bearer_number t o s)
  bearer_fine (OfVariable k) None s g q f = refl
  bearer_fine (OfVariable k) (Some x) s g q f = absurd q.0
  bearer_fine (OfAttribute c k) None s g q f = absurd q
  bearer_fine (OfAttribute c k) (Some x) s g q f =
      let there : HasField p c k Integer = field_said p c k Integer g in
      fine_weaker (IsSubjectOwner s.world.heap (OfAttribute c k)) (entity c x s) (entity_fine p typed ms c there.class x s there.there q.1 f) (λ n r. r.1)
  bearer_fine (OfCount set) o s g q f = known_owner_fine set o s (count_owner set o q) f

  pub present_fine : (t : Subject) (o : Option Value) (s : Store) → IsTypedSubject p t → AskedOk t o → IsFittingStore p ms s → Fine (λ v. mode_of v ≡ Integer) (present t o s)
  present_fine (OfVariable k) o s g q f = sure_fine (λ v. mode_of v ≡ Integer) (fetched (Global k) s) (held_there s.globals p.globals k Integer f.sound.globals g.0)
  present_fine (OfAttribute c k) None s g q f = absurd q
  present_fine (OfAttribute c k) (Some x) s g q f = attribute_fine p typed ms c k Integer x s g q.1 f
  present_fine (OfCount set) o s g q f = of_set_fine MemberCount set o s (count_owner set o q) f

  -- a statistic that is there, asked as its subject is
  pub record AskedStatistic (j : ℕ) (o : Option Value) : Type 0 where
    pub statistic : Statistic
    pub there : slice_get p.statistics j ≡ Some statistic
    pub fits : AskedOk statistic.subject o

  good_subject : (j : ℕ) (t : Statistic) → slice_get p.statistics j ≡ Some t → IsTypedSubject p t.subject
  good_subject j t q = every_get (λ (s : Statistic). IsTypedSubject p s.subject) p.statistics j t typed.statistics q

  subject_fine : (j : ℕ) (t : Statistic) (s : Store) → slice_get p.statistics j ≡ Some t → IsFittingStore p ms s → Fine (λ u. u ≡ t.subject) (subject_of_statistic j s)
  subject_fine j t s q f =
      fine_turned (λ u. u ≡ t.subject) (λ (u : Statistic). u.subject) (sure (slice_get s.world.setting.statistics j)) (sure_fine (λ u. u ≡ t) (slice_get s.world.setting.statistics j) (subst (λ o. There (λ u. u ≡ t) o) (sym (ap (λ ss. slice_get ss j) (statistics_are p ms s f) ∙ q)) refl)) (λ u e. ap (λ (v : Statistic). v.subject) e)

  folded_fine : (fold : Fold) (now : ℤ) (h : History) → Fine (λ v. mode_of v ≡ Integer) (folded fold now h)
  folded_fine Number now h = refl
  folded_fine Sum now h = fine_turned (λ v. mode_of v ≡ Integer) Whole (due (sum_of h now)) (any_due (sum_of h now)) (λ z u. refl)
  folded_fine Maximum now h = refl
  folded_fine Minimum now h = refl

  pub figure_fine : (fold : Fold) (j : ℕ) (o : Option Value) (s : Store) → AskedStatistic j o → IsFittingStore p ms s → Fine (λ v. mode_of v ≡ Integer) (figure fold j o s)
  figure_fine fold j o s a f =
      fine_then (λ v. mode_of v ≡ Integer) (subject_of_statistic j s) (λ t. if_ok (bearer_number t o s) (λ n. figure_kept fold j n s)) (subject_fine j a.statistic s a.there f) (λ t e.
      subst (λ u. Fine (λ v. mode_of v ≡ Integer) (if_ok (bearer_number u o s) (λ n. figure_kept fold j n s))) (sym e)
      (fine_then (λ v. mode_of v ≡ Integer) (bearer_number a.statistic.subject o s) (λ n. figure_kept fold j n s) (bearer_fine a.statistic.subject o s (good_subject j a.statistic a.there) a.fits f) (λ n b.
      fine_then (λ v. mode_of v ≡ Integer) (history_of_subject j n s.world.histories) (folded fold s.world.time) (history_fine j n s.world.histories (IsSubjectOwner s.world.heap a.statistic.subject) (f.sound.world.histories j a.statistic a.there) b) (λ h u. folded_fine fold s.world.time h))))

  pub mean_fine : (j : ℕ) (o : Option Value) (s : Store) → AskedStatistic j o → IsFittingStore p ms s → Fine Any (mean j o s)
  mean_fine j o s a f =
      fine_then Any (subject_of_statistic j s) (λ t. if_ok (bearer_number t o s) (λ n. mean_kept j n s)) (subject_fine j a.statistic s a.there f) (λ t e.
      subst (λ u. Fine Any (if_ok (bearer_number u o s) (λ n. mean_kept j n s))) (sym e)
      (fine_then Any (bearer_number a.statistic.subject o s) (λ n. mean_kept j n s) (bearer_fine a.statistic.subject o s (good_subject j a.statistic a.there) a.fits f) (λ n b.
      fine_turned Any (λ (h : History). mean_of h s.world.time) (history_of_subject j n s.world.histories) (history_fine j n s.world.histories (IsSubjectOwner s.world.heap a.statistic.subject) (f.sound.world.histories j a.statistic a.there) b) (λ h u. tt))))

  pub reset_fine : (j : ℕ) (o : Option Value) (s : Store) → AskedStatistic j o → IsFittingStore p ms s → Fine (IsFittingStore p ms) (reset j o s)
  reset_fine j o s a f =
      fine_then (IsFittingStore p ms) (subject_of_statistic j s) (λ t. if_ok (bearer_number t o s) (λ n. if_ok (present t o s) (λ v. if_ok (number_of v) (λ z. turned (with_histories s) (renewed j n s.world.time z s.world.histories))))) (subject_fine j a.statistic s a.there f) (λ t e.
      subst (λ u. Fine (IsFittingStore p ms) (if_ok (bearer_number u o s) (λ n. if_ok (present u o s) (λ v. if_ok (number_of v) (λ z. turned (with_histories s) (renewed j n s.world.time z s.world.histories)))))) (sym e)
      (fine_then (IsFittingStore p ms) (bearer_number a.statistic.subject o s) (λ n. if_ok (present a.statistic.subject o s) (λ v. if_ok (number_of v) (λ z. turned (with_histories s) (renewed j n s.world.time z s.world.histories)))) (bearer_fine a.statistic.subject o s (good_subject j a.statistic a.there) a.fits f) (λ n b.
      fine_then (IsFittingStore p ms) (present a.statistic.subject o s) (λ v. if_ok (number_of v) (λ z. turned (with_histories s) (renewed j n s.world.time z s.world.histories))) (present_fine a.statistic.subject o s (good_subject j a.statistic a.there) a.fits f) (λ v g.
      fine_then (IsFittingStore p ms) (number_of v) (λ z. turned (with_histories s) (renewed j n s.world.time z s.world.histories)) (number_fine v g) (λ z u.
      fine_turned (IsFittingStore p ms) (with_histories s) (renewed j n s.world.time z s.world.histories) (renewed_fine j n s.world.time z s.world.histories (IsSubjectOwner s.world.heap a.statistic.subject) (f.sound.world.histories j a.statistic a.there) b) (λ ks k. kept_fit p ms s ks f k))))))
