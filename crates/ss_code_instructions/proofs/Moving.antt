-- Where an instruction leads: what holds of each state that it may lead to.
use Rattle.std.proofs.Common.{◌≡◌, ℕ, zero, suc, ◌==◌, Bool, true, false, List, [], ◌∷◌, ◌++◌, length, Option, Some, None, Ok, Err, ℤ, refl, ap, subst}
use Rattle.std.specs.Prelude.{Result, if◌then◌else◌}
use Rattle.ss_code_instructions.proofs.Common.{at_height, cell_at, Core, did, Done, Fails, Failure, fetched, fit, Goes, lies_above, Line, MachineState, Moved, or_zero, Rest, Sends, Store, Stuck, take_off, Text, To, TypeError, Value, Walk, when_due, Whole, with_bearer, with_block, with_loop, with_operand_value, with_position, with_rest, with_top_number, with_topmost, with_values, with_walk_in_cells}
use Rattle.ss_code_instructions.specs.Instructions.{Bearer, Before, FilingPlace, First, Held, Last, Operand, Ranked, Stays, Taken, Constant, After}
use Rattle.ss_meaning.specs.Sets.{ByRule, Foremost, Hindmost, JustAfter, JustBefore, Filing as Position}
use Rattle.ss_code_instructions.proofs.Keeping.{Only}

-- the ticks before and after a step
abbrev pub AreTicks : Bool → ℕ → ℕ → Type 0
AreTicks false n t = t ≡ n
AreTicks true n t = suc t ≡ n

module _ (Good : Core → Type 0) where
  -- an instruction leads only to what is good
  abbrev pub Every : Moved → Type 0
  Every (To c) = Good c
  Every (Sends bytes c) = Good c
  Every (Rest f) = Unit {0}
  Every Stuck = Unit {0}

  pub did_only : {A : Type 0} (P : A → Type 0) (l : Line) (r : Result A Failure) (go : A → Moved) → Only P r → ((a : A) → P a → Every (go a)) → Every (did l r go)
  did_only P l (Ok a) go p h = h a p
  did_only P l (Err (Fails kind)) go p h = tt
  did_only P l (Err TypeError) go p h = tt

  pub did_any : {A : Type 0} (l : Line) (r : Result A Failure) (go : A → Moved) → ((a : A) → Every (go a)) → Every (did l r go)
  did_any l (Ok a) go h = h a
  did_any l (Err (Fails kind)) go h = tt
  did_any l (Err TypeError) go h = tt

  pub fit_any : {A : Type 0} (o : Option A) (go : A → Moved) → ((a : A) → Every (go a)) → Every (fit o go)
  fit_any None go h = tt
  fit_any (Some a) go h = h a

  pub if_every : (b : Bool) (m n : Moved) → Every m → Every n → Every (if b then m else n)
  if_every true m n h g = h
  if_every false m n h g = g

  pub high : (h : ℕ) (cells : List Value) (m : Moved) → Every m → Every (at_height h cells m)
  high h cells m k = if_every (length cells == h) m Stuck k tt

  pub block : (count h : ℕ) (cells : List Value) (go : List Value → List Value → Moved) → ((vs below : List Value) → Every (go vs below)) → Every (with_block count h cells go)
  block count h cells go k = fit_any (take_off count cells []) _ (λ b. high h b.below _ (k b.values b.below))

  pub number : (cells : List Value) (go : ℤ → List Value → Moved) → ((z : ℤ) (below : List Value) → Every (go z below)) → Every (with_top_number cells go)
  number [] go k = tt
  number (Whole z ∷ below) go k = k z below
  number (Text t ∷ below) go k = tt

  pub top : (h : ℕ) (cells : List Value) (go : Value → List Value → Moved) → ((v : Value) (below : List Value) → Every (go v below)) → Every (with_topmost h cells go)
  top h [] go k = tt
  top h (v ∷ below) go k = high h below (go v below) (k v below)

  pub value : (x : Operand) (t : Store) (cells : List Value) (go : Value → List Value → Moved) → ((v : Value) (below : List Value) → Every (go v below)) → Every (with_operand_value x t cells go)
  value (Constant v) t cells go k = k v cells
  value (Held x) t cells go k = k (or_zero (fetched x t)) cells
  value (Taken h) t cells go k = top h cells go k
  value (Stays h) t cells go k = fit_any (cell_at h cells) _ (λ v. k v cells)

  pub values : (x y : Operand) (t : Store) (cells : List Value) (go : Value → Value → List Value → Moved) → ((v w : Value) (below : List Value) → Every (go v w below)) → Every (with_values x y t cells go)
  values x y t cells go k =
      if_every (lies_above x y) (with_operand_value x t cells (λ v above. with_operand_value y t above (λ w below. go v w below))) (with_operand_value y t cells (λ w above. with_operand_value x t above (λ v below. go v w below)))
      (value x t cells _ (λ v above. value y t above _ (λ w below. k v w below)))
      (value y t cells _ (λ w above. value x t above _ (λ v below. k v w below)))

  pub bearer : (x : Bearer) (t : Store) (cells : List Value) (go : Option Value → List Value → Moved) → ((o : Option Value) (below : List Value) → Every (go o below)) → Every (with_bearer x t cells go)
  bearer None t cells go k = k None cells
  bearer (Some x) t cells go k = value x t cells _ (λ v below. k (Some v) below)

  pub position : (f : FilingPlace) (t : Store) (cells : List Value) (go : Position → List Value → Moved) → ((p : Position) (below : List Value) → Every (go p below)) → Every (with_position f t cells go)
  position First t cells go k = k Foremost cells
  position Last t cells go k = k Hindmost cells
  position Ranked t cells go k = k ByRule cells
  position (Before y) t cells go k = value y t cells _ (λ v below. k (JustBefore v) below)
  position (After y) t cells go k = value y t cells _ (λ v below. k (JustAfter v) below)

  pub three : (h : ℕ) (cells : List Value) (go : ℤ → ℤ → ℤ → List Value → Moved) → ((x y z : ℤ) (below : List Value) → Every (go x y z below)) → Every (with_loop h cells go)
  three h cells go k = number cells _ (λ z above. number above _ (λ y over. number over _ (λ x below. high h below _ (k x y z below))))

  pub walk : (h : ℕ) (cells : List Value) (go : Walk → List Value → Moved) → ((w : Walk) (below : List Value) → Every (go w below)) → Every (with_walk_in_cells h cells go)
  walk h cells go k = number cells _ (λ next over. number over _ (λ member below. high h below _ (k (record { member = member; next = next }) below)))

  -- a step that goes on leads to what is good, and takes a tick where one is due
  rested : (r : List ℕ) (t : ℕ) (m : Moved) (x : MachineState) → Every m → with_rest r t m ≡ Goes x → Good x.core × (x.ticks ≡ t)
  rested r t (To c) x k e = let q : record { core = c; report = r; ticks = t } ≡ x = cc in subst (λ (y : MachineState). Good y.core × (y.ticks ≡ t)) q (k, refl)
  rested r t (Sends bytes c) x k e =
      let q : record { core = c; report = r ++ bytes; ticks = t } ≡ x = cc in subst (λ (y : MachineState). Good y.core × (y.ticks ≡ t)) q (k, refl)
  rested r t (Rest Done) x k e = absurd cc
  rested r t _ x k e = absurd cc

  pub after_step : (b : Bool) (r : List ℕ) (t : ℕ) (m : Moved) (x : MachineState) → Every m → when_due b r t m ≡ Goes x → Good x.core × AreTicks b t x.ticks
  after_step false r t m x k e = rested r t m x k e
  after_step true r zero m x k e = absurd cc
  after_step true r (suc t) m x k e = let q = rested r t m x k e in (q.0, ap suc q.1)

-- what is good is good otherwise
pub every_so : (P Q : Core → Type 0) (m : Moved) → ((d : Core) → P d → Q d) → Every P m → Every Q m
every_so P Q (To d) f h = f d h
every_so P Q (Sends bytes d) f h = f d h
every_so P Q (Rest f) g h = tt
every_so P Q Stuck g h = tt
