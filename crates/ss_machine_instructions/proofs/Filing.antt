-- Filing and removing in the world: the entities change, and then N. of the set is noted where a statistic watches it.
use Rattle.std.proofs.Common.{◌≡◌, inl, inr, ℕ, zero, suc, ◌<◌, ℤ, Bool, true, false, List, [], ◌∷◌, ◌++◌, length, Option, Some, Ok, Err, refl, sym, ap, ◌∙◌, subst}
use Rattle.std.specs.Prelude.{pos, negsuc, is_some, slice_get, MatchResult, Result as OkOr}
use Rattle.ss_machine_instructions.proofs.Common.{Class, ClassKind, count_noted, Discipline, due, End, Failure, FaultKind, Fifo, HasChangedIf, HasFiled, HasRearranged, HasRemoved, HasTaken, if_ok, IsCounted, IsCountedOut, IsNotedRight, IsOwner, IsRight, IsSettled, IsSettledGiving, Layout, Lifo, noted, number_if, OfCount, Owner, Ranked, Seen, Store, System, there_in, turned, Value, watch, Whole, with_seen}
use Rattle.ss_meaning.specs.Sets.{ByRule, Foremost, Hindmost, JustAfter, JustBefore, is_fit, end_removed, recounted, filed_in, removed_from, removed_at}
use Rattle.ss_world.specs.Sets.{count_in, joiner, owner, owner_by, owner_kind, member_class, first_in, last_in, put_in, put_beside, put_before, put_after, taken_out, filed_first, filed_last, filed_before, filed_after, removed}
use Rattle.ss_world.specs.State.{and_then, State, Members, members_of, number_in, entity_of_kind, entity_in, kind_of}
use Rattle.ss_base.specs.declared.layout.ClassKind.TheVariants.{Permanent, Temporary, Notice}
use Rattle.ss_world.specs.Lists.{head0, last_or}
use Rattle.ss_world.specs.Disciplines.{put_ranked, filed, take, first_removed, last_removed}
use Rattle.ss_base.specs.declared.words.End.TheVariants as ends
use Rattle.ss_code_instructions.proofs.Noting.{Quiet, noted_quiet}
use Rattle.ss_machine_entities.proofs.Refiled.{first_refiled, last_refiled, before_refiled, after_refiled, filed_refiled, out_refiled, first_out_refiled, last_out_refiled}
use Rattle.ss_machine_world.proofs.Composing.{filed_first_is, filed_last_is, filed_ruled_is, filed_before_is, filed_after_is, removed_is, end_removed_is}

-- ## The owner is there afterwards

then_ok : {A B : Type 0} (r : OkOr A FaultKind) (f : A → OkOr B FaultKind) (b : B) → and_then r f ≡ Ok b → (a : A) × (r ≡ Ok a) × (f a ≡ Ok b)
then_ok (Ok a) f b e = (a, refl, e)
then_ok (Err k) f b e = absurd cc

module _ (st : State) (ls : List Members) where
  -- other members change no entity
  entity_listed : (c : ℕ) (x : ℤ) → entity_in (record st { lists = ls }) c x ≡ entity_in st c x
  entity_listed c x = by (kind_of st.layout c) x
    where
      by : (k : ClassKind) (x : ℤ) → entity_of_kind (record st { lists = ls }) k c x ≡ entity_of_kind st k c x
      by Permanent (pos zero) = refl
      by Permanent (pos (suc i)) = refl
      by Permanent (negsuc k) = refl
      by Temporary (pos zero) = refl
      by Temporary (pos (suc i)) = refl
      by Temporary (negsuc k) = refl
      by Notice (pos zero) = refl
      by Notice (pos (suc i)) = refl
      by Notice (negsuc k) = refl

  owner_listed : (set : ℕ) (o : ℤ) → owner (record st { lists = ls }) set o ≡ owner st set o
  owner_listed set o = by (owner_kind st.layout set)
    where
      by : (whose : Owner) → owner_by (record st { lists = ls }) whose o ≡ owner_by st whose o
      by System = refl
      by (Class c) = ap (λ r. and_then {B = ℕ} r (λ e. Ok (number_in o))) (entity_listed c o)

-- so that its members can be counted
abbrev IsCount : State → (set : ℕ) → ℤ → Type 0
IsCount h set o = (n : ℤ) × (count_in h set o ≡ Ok n)

count_there : (st t : State) (set k : ℕ) (o : ℤ) → owner st set o ≡ Ok k → t ≡ record st { lists = t.lists } → IsCount t set o
count_there st t set k o known same =
    let here : owner t set o ≡ Ok k = ap (λ (h : State). owner h set o) same ∙ owner_listed st t.lists set o ∙ known in
    (pos (length (members_of t.lists set k)), ap (λ r. and_then {B = ℤ} r (λ n. Ok (pos (length (members_of t.lists set n))))) here)

module _ (st t : State) (set : ℕ) (o : ℤ) where
  abbrev HasOwner : Type 0
  HasOwner = (k : ℕ) × (owner st set o ≡ Ok k)

  owner_found : (x : ℤ) (go : ℕ → ℕ → OkOr State FaultKind) → and_then (joiner st set x) (λ n. and_then (owner st set o) (λ m. go n m)) ≡ Ok t → HasOwner
  owner_found x go e =
      let a = then_ok (joiner st set x) (λ n. and_then (owner st set o) (λ m. go n m)) t e in
      let b = then_ok (owner st set o) (λ m. go a.0 m) t a.2 in
      (b.0, b.1)

  counted_by : HasOwner → t ≡ record st { lists = t.lists } → IsCount t set o
  counted_by k same = count_there st t set k.0 o k.1 same

  first_counts : (x : ℤ) → filed_first st set o x ≡ Ok t → IsCount t set o
  first_counts x e = counted_by (owner_found x (λ n m. put_in (λ y l. y ∷ l) st set m n) e) (first_refiled st t set o x e)

  last_counts : (x : ℤ) → filed_last st set o x ≡ Ok t → IsCount t set o
  last_counts x e = counted_by (owner_found x (λ n m. put_in (λ y l. l ++ y ∷ []) st set m n) e) (last_refiled st t set o x e)

  filed_counts : (d : Discipline) (x : ℤ) → filed st d set o x ≡ Ok t → IsCount t set o
  filed_counts Fifo x e = last_counts x e
  filed_counts Lifo x e = first_counts x e
  filed_counts (Ranked ks) x e =
      counted_by (owner_found x (λ n m. put_in (put_ranked st (member_class st.layout set) ks) st set m n) e) (filed_refiled st t set o x (Ranked ks) e)

  beside_found : (x y : ℤ) (put : ℕ → ℕ → List ℕ → List ℕ) → and_then (joiner st set x) (λ n. and_then (joiner st set y) (λ k. and_then (owner st set o) (λ m. put_beside put st set m n k))) ≡ Ok t → HasOwner
  beside_found x y put e =
      let a = then_ok (joiner st set x) (λ n. and_then (joiner st set y) (λ k. and_then (owner st set o) (λ m. put_beside put st set m n k))) t e in
      owner_found y (λ k m. put_beside put st set m a.0 k) a.2

  before_counts : (x y : ℤ) → filed_before st set o x y ≡ Ok t → IsCount t set o
  before_counts x y e = counted_by (beside_found x y put_before e) (before_refiled st t set o x y e)

  after_counts : (x y : ℤ) → filed_after st set o x y ≡ Ok t → IsCount t set o
  after_counts x y e = counted_by (beside_found x y put_after e) (after_refiled st t set o x y e)

  removed_counts : (x : ℤ) → removed st set o x ≡ Ok t → IsCount t set o
  removed_counts x e = counted_by (owner_found x (λ n m. taken_out st set m n) e) (out_refiled st t set o x e)

  -- and once the first or the last was taken out
  first_owner : (x : ℤ) → first_removed st set o ≡ Ok (x, t) → HasOwner
  first_owner x e =
      let a = then_ok (first_in st set o) (take st set o) (x, t) e in
      let b = then_ok (owner st set o) (λ n. Ok (pos (head0 (members_of st.lists set n)))) a.0 a.1 in
      (b.0, b.1)

  last_owner : (x : ℤ) → last_removed st set o ≡ Ok (x, t) → HasOwner
  last_owner x e =
      let a = then_ok (last_in st set o) (take st set o) (x, t) e in
      let b = then_ok (owner st set o) (λ n. Ok (pos (last_or 0 (members_of st.lists set n)))) a.0 a.1 in
      (b.0, b.1)

  end_counts : (end : End) (x : ℤ) → end_removed end st set o ≡ Ok (x, t) → IsCount t set o
  end_counts ends.First x e = counted_by (first_owner x e) (first_out_refiled st t set o x e)
  end_counts ends.Last x e = counted_by (last_owner x e) (last_out_refiled st t set o x e)

-- ## What is seen of a change of the entities

pub rearranged : (f : State → OkOr State FaultKind) (e : Seen) (h : State) (r : OkOr (Unit {0}) FaultKind) → MatchResult r (λ _. f e.heap ≡ Ok h) (λ k. (f e.heap ≡ Err k) × (h ≡ e.heap)) → HasRearranged f e (record e { heap = h }) r
rearranged f e h (Ok u) done = (done, refl)
rearranged f e h (Err k) done = (done.0, ap (λ (h : State). record e { heap = h }) done.1)

pub one : {A : Type 0} {x y : A} → Some x ≡ Some y → x ≡ y
one e = cc

-- filing by a discipline leaves the layout
pub ruled_layout : (e mid : Seen) (d : Discipline) (set : ℕ) (o x : ℤ) (r : OkOr (Unit {0}) FaultKind) → HasRearranged (λ h. filed h d set o x) e mid r → mid.heap.layout ≡ e.heap.layout
ruled_layout e mid d set o x (Ok u) re = ap (λ (h : State). h.layout) (filed_refiled e.heap mid.heap set o x d re.0)
ruled_layout e mid d set o x (Err k) re = ap (λ (t : Seen). t.heap.layout) re.1

-- a set that was there still is
pub still_within : (old e : Seen) (l : Layout) (set : ℕ) → e ≡ old → l ≡ e.heap.layout → set < length old.heap.layout.sets → set < length l.sets
still_within old e l set is same lt = subst (λ (l : Layout). set < length l.sets) (sym (same ∙ ap (λ (v : Seen). v.heap.layout) is)) lt

-- ## A change, and the note after it

module _ (e : Seen) (set : ℕ) (m : ℤ) where
  -- a note of N. where no statistic watches it
  count_quiet : (mid : Seen) → watch mid.statistics (OfCount set) ≡ false → IsCount mid.heap set m → (s : Store) → Quiet (with_seen s mid) (count_noted set m (with_seen s mid))
  count_quiet mid none n s =
      subst (λ (r : OkOr Store Failure). Quiet (with_seen s mid) r) (sym (ap (λ r. if_ok (due r) (λ n. noted (OfCount set) m (Whole n) (with_seen s mid))) n.1))
      (noted_quiet (OfCount set) m (Whole n.0) (with_seen s mid) none)

  -- what the note gives, whether the machine makes it or not
  noted_as : (mid new : Seen) (notes : Bool) (q : OkOr (Unit {0}) FaultKind) → (notes ≡ false → watch mid.statistics (OfCount set) ≡ false) → IsCount mid.heap set m → HasChangedIf notes (count_noted set m) mid new q → IsSettled (count_noted set m) mid new q
  noted_as mid new true (Ok u) reported n did = did
  noted_as mid new true (Err k) reported n did = did.0
  noted_as mid new false q reported n did = subst (λ q. IsSettled (count_noted set m) mid new q) (sym did.0) (subst (λ (t : Seen). IsSettled (count_noted set m) mid t (Ok tt)) (sym did.1) (λ s right. by s right (count_quiet mid (reported refl) n s)))
    where
      by : (s : Store) → IsRight (count_noted set m (with_seen s mid)) → Quiet (with_seen s mid) (count_noted set m (with_seen s mid)) → count_noted set m (with_seen s mid) ≡ Ok (with_seen s mid)
      by s right (inl ok) = ok
      by s right (inr wrong) = absurd (right wrong)

  -- an operation that is a change and this note
  abbrev IsChange : (Store → OkOr Store Failure) → (State → OkOr State FaultKind) → Type 0
  IsChange f op = (s : Store) → f (with_seen s e) ≡ if_ok (due (op e.heap)) (recounted set m (with_seen s e))

  abbrev KeepsCount : (State → OkOr State FaultKind) → Type 0
  KeepsCount op = (t : State) → op e.heap ≡ Ok t → IsCount t set m

  module _ (f : Store → OkOr Store Failure) (op : State → OkOr State FaultKind) (mid : Seen) where
    noted_after : IsChange f op → op e.heap ≡ Ok mid.heap → mid ≡ record e { heap = mid.heap } → (s : Store) → f (with_seen s e) ≡ count_noted set m (with_seen s mid)
    noted_after is done same s =
        is s
        ∙ ap (λ r. if_ok (due r) (recounted set m (with_seen s e))) done
        ∙ ap (λ (t : Seen). count_noted set m (with_seen s t)) (sym same)

    settles_as : (new : Seen) (q : OkOr (Unit {0}) FaultKind) → ((s : Store) → f (with_seen s e) ≡ count_noted set m (with_seen s mid)) → IsSettled (count_noted set m) mid new q → IsSettled f e new q
    settles_as new (Ok u) alike d = λ s right. alike s ∙ d s (λ wrong. right (alike s ∙ wrong))
    settles_as new (Err k) alike d = λ s right. alike s ∙ d s (λ wrong. right (alike s ∙ wrong))

    pub settled_by : (new : Seen) (notes : Bool) (changed q : OkOr (Unit {0}) FaultKind) → IsChange f op → KeepsCount op → IsNotedRight notes (OfCount set) e → HasRearranged op e mid changed → IsCounted set m changed notes mid new q → IsSettled f e new q
    settled_by new notes (Ok u) q is keeps reported re did =
        settles_as new q (noted_after is re.0 re.1)
        (noted_as mid new notes q (λ none. ap (λ (t : Seen). watch t.statistics (OfCount set)) re.1 ∙ reported none) (keeps mid.heap re.0) did)
    settled_by new notes (Err k) q is keeps reported re did =
        subst (λ q. IsSettled f e new q) (sym did) (λ s right. is s ∙ ap (λ r. if_ok (due r) (recounted set m (with_seen s e))) re.0)

-- filing by the discipline of the set
pub ruled_filed : (e : Seen) (set : ℕ) (m : ℤ) (mid new : Seen) (notes : Bool) → set < length e.heap.layout.sets → (d : Discipline) (x : ℤ) (changed q : OkOr (Unit {0}) FaultKind) → slice_get e.disciplines set ≡ Some d → is_fit e.heap.layout set d ≡ true → HasRearranged (λ h. filed h d set m x) e mid changed → IsCounted set m changed notes mid new q → HasFiled ByRule set notes e new q m x
ruled_filed e set m mid new notes within d x changed q has fits re did = λ o refers reported.
    settled_by e set m (filed_in ByRule set (Whole x) o) (λ h. filed h d set m x) mid new notes changed q (filed_ruled_is e set o m (there_in e.heap.layout.sets set within) refers d x has fits) (λ t done. filed_counts e.heap t set m d x done) reported re did

-- the other operations change the entities alone; what was seen before is e, which is called old elsewhere
module _ (e old : Seen) (set : ℕ) (m : ℤ) (after : State) (new : Seen) (notes : Bool) (is : e ≡ old) (within : set < length old.heap.layout.sets) where
  abbrev mid : Seen
  mid = record e { heap = after }

  there : is_some (slice_get e.heap.layout.sets set) ≡ true
  there = there_in e.heap.layout.sets set (subst (λ (v : Seen). set < length v.heap.layout.sets) (sym is) within)

  abbrev IsDone : (State → OkOr State FaultKind) → OkOr (Unit {0}) FaultKind → Type 0
  IsDone op changed = MatchResult changed (λ _. op e.heap ≡ Ok after) (λ k. (op e.heap ≡ Err k) × (after ≡ e.heap))

  settled_so : (f : Option Value → Store → OkOr Store Failure) (op : State → OkOr State FaultKind) → ((o : Option Value) → IsOwner e set o m → IsChange e set m (f o) op) → KeepsCount e set m op → (changed q : OkOr (Unit {0}) FaultKind) → IsDone op changed → IsCounted set m changed notes mid new q → (o : Option Value) → IsOwner old set o m → IsNotedRight notes (OfCount set) old → IsSettled (f o) old new q
  settled_so f op changes keeps changed q done did =
      subst (λ (v : Seen). (o : Option Value) → IsOwner v set o m → IsNotedRight notes (OfCount set) v → IsSettled (f o) v new q) is
      (λ o refers reported. settled_by e set m (f o) op mid new notes changed q (changes o refers) keeps reported (rearranged op e after changed done) did)

  pub first_filed : (x : ℤ) (changed q : OkOr (Unit {0}) FaultKind) → IsDone (λ h. filed_first h set m x) changed → IsCounted set m changed notes mid new q → HasFiled Foremost set notes old new q m x
  first_filed x =
      settled_so (filed_in Foremost set (Whole x)) (λ h. filed_first h set m x) (λ o refers. filed_first_is e set o m there refers x) (λ t done. first_counts e.heap t set m x done)

  pub last_filed : (x : ℤ) (changed q : OkOr (Unit {0}) FaultKind) → IsDone (λ h. filed_last h set m x) changed → IsCounted set m changed notes mid new q → HasFiled Hindmost set notes old new q m x
  last_filed x =
      settled_so (filed_in Hindmost set (Whole x)) (λ h. filed_last h set m x) (λ o refers. filed_last_is e set o m there refers x) (λ t done. last_counts e.heap t set m x done)

  pub before_filed : (x y : ℤ) (changed q : OkOr (Unit {0}) FaultKind) → IsDone (λ h. filed_before h set m x y) changed → IsCounted set m changed notes mid new q → HasFiled (JustBefore (Whole y)) set notes old new q m x
  before_filed x y =
      settled_so (filed_in (JustBefore (Whole y)) set (Whole x)) (λ h. filed_before h set m x y) (λ o refers. filed_before_is e set o m there refers x y) (λ t done. before_counts e.heap t set m x y done)

  pub after_filed : (x y : ℤ) (changed q : OkOr (Unit {0}) FaultKind) → IsDone (λ h. filed_after h set m x y) changed → IsCounted set m changed notes mid new q → HasFiled (JustAfter (Whole y)) set notes old new q m x
  after_filed x y =
      settled_so (filed_in (JustAfter (Whole y)) set (Whole x)) (λ h. filed_after h set m x y) (λ o refers. filed_after_is e set o m there refers x y) (λ t done. after_counts e.heap t set m x y done)

  pub member_removed : (x : ℤ) (changed q : OkOr (Unit {0}) FaultKind) → IsDone (λ h. removed h set m x) changed → IsCounted set m changed notes mid new q → HasRemoved set notes old new q m x
  member_removed x =
      settled_so (removed_from set (Whole x)) (λ h. removed h set m x) (λ o refers. removed_is e set o m there refers x) (λ t done. removed_counts e.heap t set m x done)

  -- ## The first or the last is taken out

  -- once it is out, the note is what is left
  end_noted : (end : End) (o : Option Value) (x : ℤ) → IsOwner e set o m → end_removed end e.heap set m ≡ Ok (x, after) → (s : Store) → removed_at end set o (with_seen s e) ≡ turned (λ t. (Whole x, t)) (count_noted set m (with_seen s mid))
  end_noted end o x refers done s =
      end_removed_is e set o m there refers end s
      ∙ ap (λ r. if_ok {B = Value × Store} (due r) (λ r. turned (λ t. (Whole r.0, t)) (recounted set m (with_seen s e) r.1))) done

  given_as : (f : Store → OkOr (Value × Store) Failure) (x : ℤ) (q : OkOr (Unit {0}) FaultKind) → ((s : Store) → f (with_seen s e) ≡ turned (λ t. (Whole x, t)) (count_noted set m (with_seen s mid))) → IsSettled (count_noted set m) mid new q → IsSettledGiving f e new (number_if x q)
  given_as f x (Ok u) alike d = λ s right. alike s ∙ ap (turned (λ t. (Whole x, t))) (d s (λ wrong. right (alike s ∙ ap (turned (λ t. (Whole x, t))) wrong)))
  given_as f x (Err k) alike d = λ s right. alike s ∙ ap (turned (λ t. (Whole x, t))) (d s (λ wrong. right (alike s ∙ ap (turned (λ t. (Whole x, t))) wrong)))

  pub end_taken : (end : End) (taken q : OkOr ℤ FaultKind) → MatchResult taken (λ x. end_removed end e.heap set m ≡ Ok (x, after)) (λ k. (end_removed end e.heap set m ≡ Err k) × (after ≡ e.heap)) → IsCountedOut set m taken notes mid new q → HasTaken end set notes old new q m
  end_taken end (Ok x) q done did = subst (λ (v : Seen). HasTaken end set notes v new q m) is (λ o refers reported.
      subst (λ (q : OkOr ℤ FaultKind). IsSettledGiving (removed_at end set o) e new q) (sym did.2)
      (given_as (removed_at end set o) x did.0 (end_noted end o x refers done)
      (noted_as e set m mid new notes did.0 reported (end_counts e.heap after set m end x done) did.1)))
  end_taken end (Err k) q done did = subst (λ (v : Seen). HasTaken end set notes v new q m) is (λ o refers reported.
      subst (λ (q : OkOr ℤ FaultKind). IsSettledGiving (removed_at end set o) e new q) (sym did)
      (λ s right. end_removed_is e set o m there refers end s ∙ ap (λ r. if_ok {B = Value × Store} (due r) (λ r. turned (λ t. (Whole r.0, t)) (recounted set m (with_seen s e) r.1))) done.0))
