-- The code of a FOR over the members of a set. At the head of a turn the cells hold the member, and the one that comes after it.
use Rattle.std.proofs.Common.{◌≡◌, ℕ, zero, suc, ◌+◌, ◌-◌, ◌≤◌, Bool, true, false, not, List, [], ◌∷◌, ◌++◌, length, Option, Some, None, Ok, Err, ℤ, pos, refl, sym, ap, ◌∙◌, subst, arith, length-append, inl, inr}
use Rattle.ss_code_instructions.proofs.Common.{above, After, at_height, AtEnd, back_if, begin_walk, cell_at, Code, Core, core_at, did, due, Entity, Expression, expression_code, Fails, Failure, FaultKind, fit, for_code, forget_to, Frame, From, height, if_ok, Integer, Line, looked_at, MachineState, member_value, Members, Moved, ne_eqb, next, onward, onward_if, owner_cell, owner_code, owner_kept, owner_value, place, Placed, SetLayout, SetOwner, Site, Start, Store, take_code, Text, TheSystem, turned, turns_code, TypeError, unless_fault, Value, value, Variable, Walk, walk_at, walk_cells, walk_further, walk_loop, where_fit, Whole, with_bearer}
use Rattle.std.proofs.lemmas.Option.{slice_get_within}
use Rattle.std.specs.Prelude.{slice_get, is_some, cond, ◌==◌, Result as OkOr, if◌then◌else◌}
use Rattle.ss_meaning.specs.Loops.{EndsLoop, GoesOn, IsFound, over, Turn, visit, Outset, next_member, member_turn, over_members}
use Rattle.ss_meaning.specs.Parts.{Again, choose, look, looked, loop, outcome_then, Part, RunState, WentOn, Next, Over, go_on}
use Rattle.ss_meaning.specs.Sets.{begun, begun_at, goes_on, is_in, is_none, known_owner, member, set_at, owner_as, owner_by_layout, outset, beside, coming, from_or_after, or_gone}
use Rattle.ss_world.specs.State.{State, Members as Row, and_then, members_of, owner_of}
use Rattle.ss_base.specs.declared.fault.FaultKind.TheVariants.{NotFiled}
use Rattle.ss_world.specs.Lists.{head0, last_or, IsInList}
use Rattle.ss_world.specs.Sets.{joiner, owner as owner_there, follower, precursor, members_by, companions, next_in, previous_in}
use Rattle.ss_code_instructions.specs.Instructions as i
use Rattle.ss_code_instructions.proofs.Steps.{HasAt, has_front, has_back, Comes, Reaches, at, arrive, join}
use Rattle.ss_code_instructions.proofs.Parts.{Within, within_on, Leads, onwards, breaks, whatever, ticked, step_leads, did_leads, at_the_height, turned_then, then_then, look_then, Lands, same, done}
use Rattle.ss_code_instructions.proofs.Operands.{join_look}
use Rattle.ss_code_instructions.proofs.Expressions.{value_runs}
use Rattle.ss_code_instructions.proofs.Attributes.{err_first}
use Rattle.ss_code_instructions.proofs.Forgetting.{two_more, three_more, forget_run}
use Rattle.ss_code_instructions.proofs.Members.{top_cell}
use Rattle.ss_code_instructions.proofs.Joining.{Joined, joined_joins}
use Rattle.ss_code_instructions.proofs.Looping.{leads, past_loop}
use Rattle.ss_code_instructions.proofs.Taking.{visit_run, visit_out}

-- ## A walk begins at a member of the set, so that one comes after it, or none

-- what comes after a number is a number: that of a member, or 0
abbrev pub Follows : (reverse : Bool) → (set : ℕ) → Store → ℤ → Type 0
Follows reverse set s x = (z : ℤ) × (coming reverse set x s ≡ Ok z)

-- a number that may be a member of a set has one that comes after it, or 0
joined : (f : ℕ → ℤ) (x : ℤ) (b : Bool) (j : OkOr ℕ FaultKind) (go : ℤ → OkOr Bool Failure) → if_ok (where_fit b (turned (λ _. x) (due j))) go ≡ Ok true → (z : ℤ) × (where_fit b (due (and_then j (λ k. Ok (f k)))) ≡ Ok z)
joined f x true (Ok k) go q = (f k, refl)
joined f x true (Err kind) go q = absurd cc
joined f x false j go q = absurd cc

pub in_set_joins : (reverse : Bool) (set : ℕ) (x : ℤ) (y : Option Value) (s : Store) → is_in set (Whole x) y s ≡ Ok true → Follows reverse set s x
in_set_joins false set x y s q = joined (λ k. pos (follower k (companions s.world.heap.lists set k))) x (is_some (set_at set s)) (joiner s.world.heap set x) _ q
in_set_joins true set x y s q = joined (λ k. pos (precursor 0 k (companions s.world.heap.lists set k))) x (is_some (set_at set s)) (joiner s.world.heap set x) _ q

-- a number in a list that is not 0
some_number : (n : ℕ) → is_none (pos n) ≡ false → n ≡ 0 → ⊥
some_number zero q e = absurd cc
some_number (suc n) q e = omega (arith, e)

head_in : (xs : List ℕ) → (head0 xs ≡ 0 → ⊥) → IsInList (head0 xs) xs
head_in [] h = absurd (h refl)
head_in (x ∷ xs) h = inl refl

last_among : (x : ℕ) (xs : List ℕ) → IsInList (last_or x xs) (x ∷ xs)
last_among x [] = inl refl
last_among x (y ∷ ys) = inr (last_among y ys)

last_in_list : (xs : List ℕ) → (last_or 0 xs ≡ 0 → ⊥) → IsInList (last_or 0 xs) xs
last_in_list [] h = absurd (h refl)
last_in_list (x ∷ xs) h = last_among x xs

follower_in : (y : ℕ) (xs : List ℕ) → (follower y xs ≡ 0 → ⊥) → IsInList (follower y xs) xs
follower_in y [] h = absurd (h refl)
follower_in y (x ∷ xs) h = by (x == y) (λ g. follower_in y xs g) h
  where
    by : (b : Bool) → ((follower y xs ≡ 0 → ⊥) → IsInList (follower y xs) xs) → (cond b (head0 xs) (follower y xs) ≡ 0 → ⊥) → IsInList (cond b (head0 xs) (follower y xs)) (x ∷ xs)
    by true later h = inr (head_in xs h)
    by false later h = inr (later h)

precursor_among : (p y : ℕ) (xs : List ℕ) → (precursor p y xs ≡ 0 → ⊥) → IsInList (precursor p y xs) (p ∷ xs)
precursor_among p y [] h = absurd (h refl)
precursor_among p y (x ∷ xs) h = by (x == y) (λ g. precursor_among x y xs g) h
  where
    by : (b : Bool) → ((precursor x y xs ≡ 0 → ⊥) → IsInList (precursor x y xs) (x ∷ xs)) → (cond b p (precursor x y xs) ≡ 0 → ⊥) → IsInList (cond b p (precursor x y xs)) (p ∷ (x ∷ xs))
    by true later h = inl refl
    by false later h = inr (later h)

precursor_in : (y : ℕ) (xs : List ℕ) → (precursor 0 y xs ≡ 0 → ⊥) → IsInList (precursor 0 y xs) xs
precursor_in y xs h = by (precursor_among 0 y xs h)
  where
    by : IsInList (precursor 0 y xs) (0 ∷ xs) → IsInList (precursor 0 y xs) xs
    by (inl e) = absurd (h (sym e))
    by (inr m) = m

-- a number is that of a member of a set of this name
abbrev IsMember : State → ℕ → ℤ → Type 0
IsMember h set x = (o : ℕ) × (k : ℕ) × (pos k ≡ x) × IsInList k (members_of h.lists set o)

due_is : {A : Type 0} (r : OkOr A FaultKind) (a : A) → due r ≡ Ok a → r ≡ Ok a
due_is (Ok b) a e = let p : b ≡ a = cc in ap Ok p
due_is (Err kind) a e = absurd cc

-- what an operation finds, where it is not 0
found_member : (h : State) (set : ℕ) (x : ℤ) (f : ℕ → ℕ) → ((n : ℕ) → (f n ≡ 0 → ⊥) → (p : ℕ) × IsInList (f n) (members_of h.lists set p)) → (r : OkOr ℕ FaultKind) → and_then r (λ n. Ok (pos (f n))) ≡ Ok x → is_none x ≡ false → IsMember h set x
found_member h set x f lies (Ok n) e some =
    let p : pos (f n) ≡ x = cc in
    let m = lies n (some_number (f n) (ap is_none p ∙ some)) in
    (m.0, f n, p, m.1)
found_member h set x f lies (Err kind) e some = absurd cc

-- the first and the last
outset_member : (reverse : Bool) (h : State) (set : ℕ) (m x : ℤ) → outset reverse h set m ≡ Ok x → is_none x ≡ false → IsMember h set x
outset_member false h set m x e some = found_member h set x (λ n. head0 (members_of h.lists set n)) (λ n k. (n, head_in (members_of h.lists set n) k)) (owner_there h set m) e some
outset_member true h set m x e some = found_member h set x (λ n. last_or 0 (members_of h.lists set n)) (λ n k. (n, last_in_list (members_of h.lists set n) k)) (owner_there h set m) e some

-- what follows a member, and what precedes one
found_beside : (f : List ℕ → ℕ) (ms : List Row) (set : ℕ) (o : Option ℕ) → f [] ≡ 0 → ((xs : List ℕ) → (f xs ≡ 0 → ⊥) → IsInList (f xs) xs) → (f (members_by ms set o) ≡ 0 → ⊥) → (p : ℕ) × IsInList (f (members_by ms set o)) (members_of ms set p)
found_beside f ms set None nil lies h = absurd (h nil)
found_beside f ms set (Some p) nil lies h = (p, lies (members_of ms set p) h)

beside_member : (reverse : Bool) (h : State) (set : ℕ) (y x : ℤ) → beside reverse h set y ≡ Ok x → is_none x ≡ false → IsMember h set x
beside_member false h set y x e some = found_member h set x (λ n. follower n (companions h.lists set n)) (λ n k. found_beside (follower n) h.lists set (owner_of h.lists set n) refl (follower_in n) k) (joiner h set y) e some
beside_member true h set y x e some = found_member h set x (λ n. precursor 0 n (companions h.lists set n)) (λ n k. found_beside (precursor 0 n) h.lists set (owner_of h.lists set n) refl (precursor_in n) k) (joiner h set y) e some

-- what may be a member has one that comes after it, or 0
known_follows : (reverse : Bool) (set n : ℕ) (t : SetLayout) (x : ℤ) (s : Store) → set_at set s ≡ Some t → joiner s.world.heap set x ≡ Ok n → Follows reverse set s x
known_follows false set n t x s q j = (
  pos (follower n (companions s.world.heap.lists set n)),
  ap (λ (o : Option SetLayout). where_fit (is_some o) (due (next_in s.world.heap set x))) q
      ∙ ap (λ (r : OkOr ℕ FaultKind). due (and_then r (λ k. Ok (pos (follower k (companions s.world.heap.lists set k)))))) j,
)
known_follows true set n t x s q j = (
  pos (precursor 0 n (companions s.world.heap.lists set n)),
  ap (λ (o : Option SetLayout). where_fit (is_some o) (due (previous_in s.world.heap set x))) q
      ∙ ap (λ (r : OkOr ℕ FaultKind). due (and_then r (λ k. Ok (pos (precursor 0 k (companions s.world.heap.lists set k)))))) j,
)

member_follows : (reverse : Bool) (set : ℕ) (t : SetLayout) (x : ℤ) (s : Store) → Joined s.world.heap → set_at set s ≡ Some t → IsMember s.world.heap set x → Follows reverse set s x
member_follows reverse set t x s joined q m =
    subst (Follows reverse set s) m.2
    (known_follows reverse set m.1 t (pos m.1) s q (joined_joins s.world.heap joined set m.0 m.1 (slice_get_within s.world.heap.layout.sets set t q) m.3))

-- a walk begins at an end of a set
pub begun_follows : (reverse : Bool) (set : ℕ) (y : Option Value) (x : ℤ) (s : Store) → Joined s.world.heap → begun reverse set y s ≡ Ok x → is_none x ≡ false → Follows reverse set s x
begun_follows reverse set y x s joined e some = by (set_at set s) refl e
  where
    of_owner : (t : SetLayout) → set_at set s ≡ Some t → (r : OkOr ℤ Failure) → if_ok r (λ m. due (outset reverse s.world.heap set m)) ≡ Ok x → Follows reverse set s x
    of_owner t q (Ok m) e = member_follows reverse set t x s joined q (outset_member reverse s.world.heap set m x (due_is (outset reverse s.world.heap set m) x e) some)
    of_owner t q (Err k) e = absurd cc

    by : (o : Option SetLayout) → set_at set s ≡ o → if_ok (owner_by_layout o y) (λ m. due (outset reverse s.world.heap set m)) ≡ Ok x → Follows reverse set s x
    by None q e = absurd cc
    by (Some t) q e = of_owner t q (owner_as t.owner y) e

-- or at a member, or after one
pub begun_at_follows : (reverse after : Bool) (set : ℕ) (v : Value) (y : Option Value) (x : ℤ) (s : Store) → Joined s.world.heap → begun_at reverse after set v y s ≡ Ok x → is_none x ≡ false → Follows reverse set s x
begun_at_follows reverse after set (Text t) y x s joined e some = absurd cc
begun_at_follows reverse after set (Whole n) y x s joined e some = by (is_in set (Whole n) y s) refl e
  where
    later : (o : Option SetLayout) → set_at set s ≡ o → where_fit (is_some o) (due (beside reverse s.world.heap set n)) ≡ Ok x → Follows reverse set s x
    later None q e = absurd cc
    later (Some t) q e = member_follows reverse set t x s joined q (beside_member reverse s.world.heap set n x (due_is (beside reverse s.world.heap set n) x e) some)

    begins : (after : Bool) → from_or_after reverse after set n s ≡ Ok x → Follows reverse set s n → Follows reverse set s x
    begins false e f = let p : n ≡ x = cc in subst (Follows reverse set s) p f
    begins true e f = later (set_at set s) refl e

    by : (b : OkOr Bool Failure) → is_in set (Whole n) y s ≡ b → if_ok b (λ b. unless_fault (not b) NotFiled (from_or_after reverse after set n s)) ≡ Ok x → Follows reverse set s x
    by (Ok true) q e = begins after e (in_set_joins reverse set n y s q)
    by (Ok false) q e = absurd cc
    by (Err k) q e = absurd cc

-- ## The member with which a walk begins, as the meaning looks for it

abbrev outset_of : Option Value → ℤ → Outset
outset_of y j = record { first = j; owner = y }

module _ {D : Type 0} (l : Line) (reverse after : Bool) (set : ℕ) (e : Expression) (go : Outset → Part D) (w : RunState) where
  abbrev started_at : Option Value → Value → OkOr Outset Failure
  started_at y v = turned (outset_of y) (begun_at reverse after set v y w.store)

  -- what begins at a member looks at it
  member_first : (y : Option Value) (v : Value) (m : OkOr ℤ Failure) → member set v w.store ≡ m → started_at y v ≡ if_ok (turned (λ n. v) m) (started_at y)
  member_first y v (Ok n) q = refl
  member_first y v (Err k) q =
      let first : is_in set v y w.store ≡ Err k = err_first (member set v w.store) _ k q in
      let begins : begun_at reverse after set v y w.store ≡ Err k = err_first (is_in set v y w.store) _ k first in
      ap (turned (outset_of y)) begins

  reference_then : (y : Option Value) (r : OkOr Value Failure) → outcome_then (looked l r w) (λ v w'. outcome_then (looked l (started_at y v) w') go) ≡ outcome_then (looked l (if_ok (if_ok r (looked_at (λ x. member set x w.store))) (started_at y)) w) go
  reference_then y (Ok v) = ap (λ z. outcome_then (looked l z w) go) (member_first y v (member set v w.store) refl)
  reference_then y (Err (Fails kind)) = refl
  reference_then y (Err TypeError) = refl

  owner_then : (y : Option Value) (r : OkOr ℤ Failure) → outcome_then (looked l r w) (λ n w'. outcome_then (look l (value e) w') (λ v w'. outcome_then (looked l (started_at y v) w') go)) ≡ outcome_then (looked l (if_ok (turned (λ n. y) r) (λ y. if_ok (member_value set e w.store) (started_at y))) w) go
  owner_then y (Ok n) = reference_then y (value e w.store)
  owner_then y (Err (Fails kind)) = refl
  owner_then y (Err TypeError) = refl

  from_then : (r : OkOr (Option Value) Failure) → outcome_then (looked l r w) (λ y w'. outcome_then (looked l (known_owner set y w'.store) w') (λ n w'. outcome_then (look l (value e) w') (λ v w'. outcome_then (looked l (started_at y v) w') go))) ≡ outcome_then (looked l (if_ok (if_ok r (λ y. turned (λ n. y) (known_owner set y w.store))) (λ y. if_ok (member_value set e w.store) (started_at y))) w) go
  from_then (Ok y) = owner_then y (known_owner set y w.store)
  from_then (Err (Fails kind)) = refl
  from_then (Err TypeError) = refl

-- ## The owner

-- what lies in cells once the owner was evaluated, and how it is read
record Owned (t : Site) (o : SetOwner) (y : Option Value) (own cells : List Value) : Type 0 where
  pub low : length (own ++ cells) ≡ height (owner_cell t o)
  pub reads : (s : Store) (go : Option Value → List Value → Moved) → with_bearer (owner_kept t o) s (own ++ cells) go ≡ go y (own ++ cells)
  pub count : height (walk_loop t o) - height t ≡ suc (suc (length own))

system_owned : (t : Site) (cells : List Value) → length cells ≡ height t → Owned t TheSystem None [] cells
system_owned t cells high = record { low = high; reads = λ s go. refl; count = two_more (height t) }

entity_owned : (t : Site) (e : Expression) (v : Value) (cells : List Value) → length cells ≡ height t → Owned t (Entity e) (Some v) (v ∷ []) cells
entity_owned t e v cells high = record {
  low = ap suc high;
  reads = λ s go. ap (λ c. fit c (λ u. go (Some u) (v ∷ cells))) (top_cell (height t) v cells high);
  count = three_more (height t);
}

module _ (code : Code) (n : ℕ) (t : Site) where
  owner_join : {B : Type 0} (o : SetOwner) (rest : List Placed) (k : B → RunState → MachineState) (go : Option Value → Part B) (p : ℕ) (cells : List Value) (frames : List Frame) (w : RunState) → length cells ≡ height t → HasAt code.places p (owner_code t o ++ rest) → Within code n w → ((y : Option Value) (own : List Value) → Owned t o y own cells → HasAt code.places (p + length (owner_code t o)) rest → Reaches code (at (p + length (owner_code t o)) (own ++ cells) frames w) (arrive k frames (go y w))) → Reaches code (at p cells frames w) (arrive k frames (outcome_then (look t.line (owner_value o) w) go))
  owner_join TheSystem rest k go p cells frames w high has in_ f =
      let e : p ≡ p + 0 = omega arith in
      subst (λ q. Reaches code (at q cells frames w) (arrive k frames (go None w))) (sym e)
      (f None [] (system_owned t cells high) (subst (λ q. HasAt code.places q rest) e has))
  owner_join (Entity e) rest k go p cells frames w high has in_ f =
      let c : List Placed = expression_code t (next t) e in
      subst (λ z. Reaches code (at p cells frames w) (arrive k frames z)) (turned_then t.line (value e w.store) Some go w)
      (join_look (at p cells frames w) (λ v w'. at (p + length c) (v ∷ cells) frames w') k frames t.line (value e w.store) w (λ v. go (Some v))
      ((value_runs code n t e).by p cells frames w high (has_front code.places p c rest has) in_)
      (λ v q. f (Some v) (v ∷ []) (entity_owned t e v cells high) (has_back code.places p c rest has)))

-- ## The turns

abbrev pub walk : (member next : ℤ) → Walk
walk j z = record { member = j; next = z }

-- the member is the lower of the two cells
member_cell : (h : ℕ) (j z : ℤ) (cells : List Value) → length cells ≡ h → cell_at h (walk_cells (walk j z) cells) ≡ Some (Whole j)
member_cell h j z cells e =
    let q : suc (length cells) ≡ h → ⊥ = λ f. omega (arith, e, f) in
    ap (λ (b : Bool). if b then Some (Whole z) else cell_at h (Whole j ∷ cells)) (ne_eqb (suc (length cells)) h q) ∙ top_cell h (Whole j) cells e

module _ (code : Code) (n : ℕ) (t : Site) (x : Variable) (turn : List Placed) (m : Part Turn) (found set : ℕ) (o : SetOwner) (reverse : Bool) (r : Lands code n (height (walk_loop t o)) same turn (leads found) done m) where
  abbrev h : ℕ
  h = height (owner_cell t o)

  abbrev take_ : List Placed
  take_ = take_code (walk_loop t o) h x

  abbrev far : ℕ
  far = length take_ + length turn

  abbrev next_place : Placed
  next_place = place (walk_loop t o) (i.NextMember reverse set (owner_kept t o) h far)

  -- the owner y lies in the cells own, if it is an entity
  module _ (y : Option Value) (p end : ℕ) (own cells : List Value) (frames : List Frame) (low : length (own ++ cells) ≡ h) (reads : (s : Store) (go : Option Value → List Value → Moved) → with_bearer (owner_kept t o) s (own ++ cells) go ≡ go y (own ++ cells)) (count : height (walk_loop t o) - height t ≡ suc (suc (length own))) (has : HasAt code.places p (take_ ++ (turn ++ (next_place ∷ [])))) (len : p + length take_ + length turn ≡ end) (one : length (forget_to t (walk_loop t o)) ≡ 1) (over_has : HasAt code.places (end + 1) (forget_to t (walk_loop t o))) (found_has : HasAt code.places (end + found) (forget_to t (walk_loop t o))) where
    abbrev hold : ℤ → ℤ → List Value
    hold j z = walk_cells (walk j z) (own ++ cells)

    abbrev ends : Bool → RunState → MachineState
    ends b w = at (past_loop found b end) cells frames w

    abbrev turn_of : ℤ → Part (Next ℤ Bool)
    turn_of = member_turn t.line set reverse y (visit t.line x m)

    turn_has : HasAt code.places (p + length take_) (turn ++ (next_place ∷ []))
    turn_has = has_back code.places p take_ (turn ++ (next_place ∷ [])) has

    next_has : slice_get code.places end ≡ Some next_place
    next_has = subst (λ j. slice_get code.places j ≡ Some next_place) len (has_back code.places (p + length take_) turn (next_place ∷ []) turn_has).0

    -- what the walk keeps goes
    forget : (q to : ℕ) (j z : ℤ) (w : RunState) → HasAt code.places q (forget_to t (walk_loop t o)) → q + 1 ≡ to → Reaches code (at q (hold j z) frames w) (Comes (at to cells frames w))
    forget q to j z w has_ e =
        let last : q + length (forget_to t (walk_loop t o)) ≡ to = omega (arith, one, e) in
        subst (λ a. Reaches code (at q (hold j z) frames w) (Comes (at a cells frames w))) last
        (forget_run code n (walk_loop t o) (height (walk_loop t o) - height t) q (Whole z ∷ Whole j ∷ own) cells frames w count has_)

    -- the turns from this member on; the one after it is what comes after it in this store
    abbrev WalkRun : ℕ → Type 0
    WalkRun k = (j z : ℤ) (w : RunState) → w.ticks ≤ k → coming reverse set j w.store ≡ Ok z → Within code n w → Reaches code (at p (hold j z) frames w) (arrive ends frames (loop k turn_of j w))

    next_run : (k : ℕ) → WalkRun k → (j z : ℤ) (w : RunState) → w.ticks ≤ k → Within code n w → Reaches code (at end (hold j z) frames w) (arrive ends frames (outcome_then (next_member t.line set y z GoesOn w) (go_on (loop k turn_of))))
    next_run k again j z w lek in_ =
        step_leads code next_place c w _ _ next_has refl
        (at_the_height h (own ++ cells) (with_bearer (owner_kept t o) w.store (own ++ cells) (λ o below. does o below)) low
        ∙ reads w.store (λ o below. does o below))
        (sides (is_none z) refl)
      where
        c : Core
        c = core_at end (hold j z) frames w.store

        does : Option Value → List Value → Moved
        does o below = did t.line (if_ok (goes_on set z o w.store) (λ _. walk_at reverse set z w.store)) (λ k'. walk_further far (walk j z) k' below c)

        -- another turn
        further : (a : ℤ) → coming reverse set z w.store ≡ Ok a → is_none z ≡ false → Leads code w (walk_further far (walk j z) (walk z a) (own ++ cells) c) (arrive ends frames (loop k turn_of z w))
        further a known some =
            let back : end - (length take_ + length turn) ≡ p = omega (arith, len) in
            subst (λ v. Leads code w v (arrive ends frames (loop k turn_of z w))) (sym (ap (λ (b : Bool). if b then back_if far false (hold j z) c else back_if far true (hold z a) c) some))
            (onwards (subst (λ q. Reaches code (at q (hold z a) frames w) (arrive ends frames (loop k turn_of z w))) (sym back) (again z a w lek known in_)))

        goes : (b : OkOr Bool Failure) → is_in set (Whole z) y w.store ≡ b → is_none z ≡ false → Leads code w (did t.line (if_ok (or_gone b) (λ _. turned (walk z) (coming reverse set z w.store))) (λ k'. walk_further far (walk j z) k' (own ++ cells) c)) (arrive ends frames (outcome_then (outcome_then (looked t.line (or_gone b) w) (λ b. choose b (WentOn (Again z)) (WentOn (Over false)))) (go_on (loop k turn_of))))
        goes (Ok true) q some =
            let a = in_set_joins reverse set z y w.store q in
            subst (λ v. Leads code w (did t.line (turned (walk z) v) (λ k'. walk_further far (walk j z) k' (own ++ cells) c)) (arrive ends frames (loop k turn_of z w))) (sym a.1)
            (further a.0 a.1 some)
        goes (Ok false) q some = breaks
        goes (Err (Fails kind)) q some = breaks
        goes (Err TypeError) q some = whatever

        sides : (b : Bool) → is_none z ≡ b → Leads code w (did t.line (if_ok (if b then Ok false else or_gone (is_in set (Whole z) y w.store)) (λ _. if b then Ok (walk (pos 0) (pos 0)) else turned (walk z) (coming reverse set z w.store))) (λ k'. walk_further far (walk j z) k' (own ++ cells) c)) (arrive ends frames (outcome_then (outcome_then (looked t.line (if b then Ok false else or_gone (is_in set (Whole z) y w.store)) w) (λ b. choose b (WentOn (Again z)) (WentOn (Over false)))) (go_on (loop k turn_of))))
        sides true q = let last : end + 1 + 1 ≡ end + 2 = omega arith in onwards (forget (end + 1) (end + 2) j z w over_has last)
        sides false q = goes (is_in set (Whole z) y w.store) refl q

    -- after a turn
    after_run : (k : ℕ) → WalkRun k → (a : Turn) (j z : ℤ) (w : RunState) → w.ticks ≤ k → Within code n w → Reaches code (at (leads found a end) (hold j z) frames w) (arrive ends frames (outcome_then (next_member t.line set y z a w) (go_on (loop k turn_of))))
    after_run k again GoesOn j z w lek in_ = next_run k again j z w lek in_
    after_run k again EndsLoop j z w lek in_ = let last : end + 1 + 1 ≡ end + 2 = omega arith in forget (end + 1) (end + 2) j z w over_has last
    after_run k again IsFound j z w lek in_ = forget (end + found) (end + found + 1) j z w found_has refl

    pub walk_run : (k : ℕ) → WalkRun k
    walk_run zero j z w lek known in_ = visit_out code n (walk_loop t o) h x p (hold j z) frames w ends (has_front code.places p take_ (turn ++ (next_place ∷ [])) has) lek
    walk_run (suc k) j z w lek known in_ =
        let higher : length (hold j z) ≡ height (walk_loop t o) = ap (λ a. suc (suc a)) low in
        visit_run code n (walk_loop t o) h x j m (λ a w. outcome_then (next_member t.line set y z a w) (go_on (loop k turn_of))) (λ w. outcome_then (turn_of j w) (go_on (loop k turn_of))) p (hold j z) frames w ends known_turn (member_cell h j z (own ++ cells) low) (has_front code.places p take_ (turn ++ (next_place ∷ [])) has) in_ (λ w' fewer in'.
        join (at (p + length take_) (hold j z) frames w') (λ a w''. at (leads found a end) (hold j z) frames w'') ends frames (m w') (λ a w. outcome_then (next_member t.line set y z a w) (go_on (loop k turn_of)))
        (subst (λ e. Reaches code (at (p + length take_) (hold j z) frames w') (arrive (λ a w''. at (leads found a e) (hold j z) frames w'') frames (m w'))) len
        (r.by (p + length take_) (hold j z) frames w' higher (has_front code.places (p + length take_) turn (next_place ∷ []) turn_has) in'))
        (λ a w'' kept. after_run k (walk_run k) a j z w'' (let few : w''.ticks ≤ k = omega (arith, kept.fewer, fewer, lek) in few) (within_on in' kept)))
      where
        known_turn : (a : ℕ) → outcome_then (turn_of j (ticked a w)) (go_on (loop k turn_of)) ≡ outcome_then (visit t.line x m j (ticked a w)) (λ b w. outcome_then (next_member t.line set y z b w) (go_on (loop k turn_of)))
        known_turn a =
            ap (λ v. outcome_then (outcome_then (looked t.line v (ticked a w)) (λ z w. outcome_then (visit t.line x m j w) (next_member t.line set y z))) (go_on (loop k turn_of))) known
            ∙ then_then (visit t.line x m j (ticked a w)) (next_member t.line set y z) (go_on (loop k turn_of))

    -- the walk begins, or there is no member
    begin_leads : (q skip : ℕ) (cells0 : List Value) (w : RunState) (r : OkOr ℤ Failure) → q + 1 ≡ p → p + skip ≡ end + 1 → Within code n w → ((j : ℤ) → r ≡ Ok j → is_none j ≡ false → Follows reverse set w.store j) → Leads code w (begin_walk t.line skip (if_ok r (λ j. walk_at reverse set j w.store)) (own ++ cells) (core_at q cells0 frames w.store)) (arrive ends frames (outcome_then (looked t.line (turned (outset_of y) r) w) (over_members n t.line set reverse (visit t.line x m))))
    begin_leads q skip cells0 w (Err (Fails kind)) to len_ in_ follows = breaks
    begin_leads q skip cells0 w (Err TypeError) to len_ in_ follows = whatever
    begin_leads q skip cells0 w (Ok j) to len_ in_ follows = sides (is_none j) refl
      where
        c : Core
        c = core_at q cells0 frames w.store

        -- there is a member
        begins : (a : ℤ) → coming reverse set j w.store ≡ Ok a → is_none j ≡ false → Leads code w (onward_if skip (not (is_none j)) (hold j a) c) (arrive ends frames (loop n turn_of j w))
        begins a known some =
            subst (λ (b : Bool). Leads code w (onward_if skip (not b) (hold j a) c) (arrive ends frames (loop n turn_of j w))) (sym some)
            (onwards (subst (λ k. Reaches code (at k (hold j a) frames w) (arrive ends frames (loop n turn_of j w))) (sym to) (walk_run n j a w in_.ticks known in_)))

        sides : (b : Bool) → is_none j ≡ b → Leads code w (did t.line (if b then Ok (walk (pos 0) (pos 0)) else turned (walk j) (coming reverse set j w.store)) (λ k. onward_if skip (not (is_none k.member)) (walk_cells k (own ++ cells)) c)) (arrive ends frames (choose b (WentOn false) (loop n turn_of j) w))
        sides true q' =
            let e : end + 1 ≡ q + 1 + skip = omega (arith, to, len_) in
            let last : end + 1 + 1 ≡ end + 2 = omega arith in
            onwards (subst (λ k. Reaches code (at k (hold (pos 0) (pos 0)) frames w) (Comes (at (end + 2) cells frames w))) e (forget (end + 1) (end + 2) (pos 0) (pos 0) w over_has last))
        sides false q' =
            let a = follows j refl q' in
            subst (λ v. Leads code w (did t.line (turned (walk j) v) (λ k. onward_if skip (not (is_none k.member)) (walk_cells k (own ++ cells)) c)) (arrive ends frames (loop n turn_of j w))) (sym a.1)
            (begins a.0 a.1 q')

  -- ## The whole FOR

  module _ (one : length (forget_to t (walk_loop t o)) ≡ 1) where
    abbrev turns : List Placed
    turns = turns_code (walk_loop t o) h x turn (i.NextMember reverse set (owner_kept t o) h)

    turns_long : length turns ≡ length take_ + length turn + 1
    turns_long = omega (arith, length-append take_ (turn ++ (next_place ∷ [])), length-append turn (next_place ∷ []))

    abbrev after_walk : Outset → Part Bool
    after_walk = over_members n t.line set reverse (visit t.line x m)

    -- from the instruction with which the walk begins, at q
    begins_at : (y : Option Value) (own cells : List Value) → Owned t o y own cells → (q end : ℕ) (cells0 : List Value) (frames : List Frame) (w : RunState) (r : OkOr ℤ Failure) → HasAt code.places (q + 1) (turns ++ forget_to t (walk_loop t o)) → q + 1 + length turns ≡ end + 1 → HasAt code.places (end + found) (forget_to t (walk_loop t o)) → Within code n w → ((j : ℤ) → r ≡ Ok j → is_none j ≡ false → Follows reverse set w.store j) → Leads code w (begin_walk t.line (length turns) (if_ok r (λ j. walk_at reverse set j w.store)) (own ++ cells) (core_at q cells0 frames w.store)) (arrive (λ b w'. at (past_loop found b end) cells frames w') frames (outcome_then (looked t.line (turned (outset_of y) r) w) after_walk))
    begins_at y own cells owned q end cells0 frames w r has size found_has in_ follows =
        let h0 = has_front code.places (q + 1) turns (forget_to t (walk_loop t o)) has in
        let h2 = subst (λ k. HasAt code.places k (forget_to t (walk_loop t o))) size (has_back code.places (q + 1) turns (forget_to t (walk_loop t o)) has) in
        let len : q + 1 + length take_ + length turn ≡ end = omega (arith, size, turns_long) in
        begin_leads y (q + 1) end own cells frames owned.low owned.reads owned.count h0 len one h2 found_has q (length turns) cells0 w r refl size in_ follows

    -- from the first or the last member
    ends_run : (p end : ℕ) (cells : List Value) (frames : List Frame) (w : RunState) → length cells ≡ height t → HasAt code.places p (for_code t (Members x set o AtEnd reverse) turn) → p + length (for_code t (Members x set o AtEnd reverse) turn) ≡ end + 2 → HasAt code.places (end + found) (forget_to t (walk_loop t o)) → Within code n w → Reaches code (at p cells frames w) (arrive (λ b w'. at (past_loop found b end) cells frames w') frames (over n t.line (Members x set o AtEnd reverse) m w))
    ends_run p end cells frames w high has len found_has in_ =
        let lives : Joined w.store.world.heap = in_.says.1 in
        let co : List Placed = owner_code t o in
        let last : List Placed = forget_to t (walk_loop t o) in
        let begin : Placed = place (owner_cell t o) (i.BeginSet reverse set (owner_kept t o) h (length turns)) in
        let q : ℕ = p + length co in
        let size : p + length co + 1 + length turns ≡ end + 1 = omega (arith, len, length-append co (begin ∷ (turns ++ last)), length-append turns last, one) in
        let ends : Bool → RunState → MachineState = λ b w'. at (past_loop found b end) cells frames w' in
        subst (λ z. Reaches code (at p cells frames w) (arrive ends frames z)) (look_then t.line (owner_value o w.store) (λ y s. turned (outset_of y) (begun reverse set y s)) after_walk w)
        (owner_join code n t o (begin ∷ (turns ++ last)) ends (λ y w'. outcome_then (look t.line (λ s. turned (outset_of y) (begun reverse set y s)) w') after_walk) p cells frames w high has in_ (λ y own owned has'.
        step_leads code begin (core_at q (own ++ cells) frames w.store) w _ _ has'.0 refl
        (owned.reads w.store (λ o below. at_height h below (begin_walk t.line (length turns) (if_ok (begun reverse set o w.store) (λ j. walk_at reverse set j w.store)) below (core_at q (own ++ cells) frames w.store)))
        ∙ at_the_height h (own ++ cells) (begin_walk t.line (length turns) (if_ok (begun reverse set y w.store) (λ j. walk_at reverse set j w.store)) (own ++ cells) (core_at q (own ++ cells) frames w.store)) owned.low)
        (begins_at y own cells owned q end (own ++ cells) frames w (begun reverse set y w.store) has'.1 size found_has in_ (λ j e some. begun_follows reverse set y j w.store lives e some))))

    -- from a member, or after one
    abbrev look_place : Placed
    look_place = place (owner_cell t o) (i.LookOwner set (owner_kept t o))

    abbrev begin_place : Bool → Placed
    begin_place after = place (above (owner_cell t o) Integer) (i.BeginAt reverse after set (owner_kept t o) h (length turns))

    abbrev member_part : Expression → List Placed
    member_part e = expression_code (owner_cell t o) (next (owner_cell t o)) e

    from_run : (after : Bool) (e : Expression) (p end : ℕ) (cells : List Value) (frames : List Frame) (w : RunState) → length cells ≡ height t → HasAt code.places p (owner_code t o ++ (look_place ∷ (member_part e ++ (begin_place after ∷ (turns ++ forget_to t (walk_loop t o)))))) → p + length (owner_code t o ++ (look_place ∷ (member_part e ++ (begin_place after ∷ (turns ++ forget_to t (walk_loop t o)))))) ≡ end + 2 → HasAt code.places (end + found) (forget_to t (walk_loop t o)) → Within code n w → Reaches code (at p cells frames w) (arrive (λ b w'. at (past_loop found b end) cells frames w') frames (outcome_then (looked t.line (if_ok (if_ok (owner_value o w.store) (λ y. turned (λ n. y) (known_owner set y w.store))) (λ y. if_ok (member_value set e w.store) (λ v. turned (outset_of y) (begun_at reverse after set v y w.store)))) w) after_walk))
    from_run after e p end cells frames w high has len found_has in_ =
        let lives : Joined w.store.world.heap = in_.says.1 in
        let co : List Placed = owner_code t o in
        let ce : List Placed = member_part e in
        let last : List Placed = forget_to t (walk_loop t o) in
        let rest : List Placed = begin_place after ∷ (turns ++ last) in
        let q : ℕ = p + length co in
        let b : ℕ = q + 1 + length ce in
        let size : p + length co + 1 + length ce + 1 + length turns ≡ end + 1 = omega (arith, len, length-append co (look_place ∷ (ce ++ rest)), length-append ce rest, length-append turns last, one) in
        let ends : Bool → RunState → MachineState = λ b w'. at (past_loop found b end) cells frames w' in
        let at_member : Option Value → Value → Part Bool = λ y v w'. outcome_then (looked t.line (turned (outset_of y) (begun_at reverse after set v y w.store)) w') after_walk in
        let from_owner : Option Value → ℤ → Part Bool = λ y k w'. outcome_then (look t.line (value e) w') (at_member y) in
        subst (λ z. Reaches code (at p cells frames w) (arrive ends frames z)) (from_then t.line reverse after set e after_walk w (owner_value o w.store))
        (owner_join code n t o (look_place ∷ (ce ++ rest)) ends (λ y w'. outcome_then (looked t.line (known_owner set y w'.store) w') (from_owner y)) p cells frames w high has in_ (λ y own owned has'.
        step_leads code look_place (core_at q (own ++ cells) frames w.store) w _ _ has'.0 refl
        (owned.reads w.store (λ o below. did t.line (known_owner set o w.store) (λ _. onward below (core_at q (own ++ cells) frames w.store) w.store)))
        (did_leads code t.line (known_owner set y w.store) (λ _. onward (own ++ cells) (core_at q (own ++ cells) frames w.store) w.store) w ends frames (from_owner y) (λ k there.
        onwards
        (join_look (at (q + 1) (own ++ cells) frames w) (λ v w'. at b (v ∷ (own ++ cells)) frames w') ends frames t.line (value e w.store) w (at_member y)
        ((value_runs code n (owner_cell t o) e).by (q + 1) (own ++ cells) frames w owned.low (has_front code.places (q + 1) ce rest has'.1) in_)
        (λ v found_v.
        let has'' : HasAt code.places b rest = has_back code.places (q + 1) ce rest has'.1 in
        step_leads code (begin_place after) (core_at b (v ∷ (own ++ cells)) frames w.store) w _ _ has''.0 refl
        (at_the_height h (own ++ cells) (with_bearer (owner_kept t o) w.store (own ++ cells) (λ o below. begin_walk t.line (length turns) (if_ok (begun_at reverse after set v o w.store) (λ j. walk_at reverse set j w.store)) below (core_at b (v ∷ (own ++ cells)) frames w.store))) owned.low
        ∙ owned.reads w.store (λ o below. begin_walk t.line (length turns) (if_ok (begun_at reverse after set v o w.store) (λ j. walk_at reverse set j w.store)) below (core_at b (v ∷ (own ++ cells)) frames w.store)))
        (begins_at y own cells owned b end (v ∷ (own ++ cells)) frames w (begun_at reverse after set v y w.store) has''.1 size found_has in_ (λ j e some. begun_at_follows reverse after set v y j w.store lives e some))))))))

    pub members_run : (start : Start) (p end : ℕ) (cells : List Value) (frames : List Frame) (w : RunState) → length cells ≡ height t → HasAt code.places p (for_code t (Members x set o start reverse) turn) → p + length (for_code t (Members x set o start reverse) turn) ≡ end + 2 → HasAt code.places (end + found) (forget_to t (walk_loop t o)) → Within code n w → Reaches code (at p cells frames w) (arrive (λ b w'. at (past_loop found b end) cells frames w') frames (over n t.line (Members x set o start reverse) m w))
    members_run AtEnd p end cells frames w high has len found_has in_ = ends_run p end cells frames w high has len found_has in_
    members_run (From e) p end cells frames w high has len found_has in_ = from_run false e p end cells frames w high has len found_has in_
    members_run (After e) p end cells frames w high has len found_has in_ = from_run true e p end cells frames w high has len found_has in_
