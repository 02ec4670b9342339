-- The code of a FOR over numbers, and over the entities of a permanent class.
use Rattle.std.proofs.Common.{◌≡◌, ℕ, zero, suc, ◌+◌, ◌-◌, ◌≤◌, Bool, true, false, List, [], ◌∷◌, ◌++◌, length, Option, Some, None, Ok, Err, ℤ, pos, refl, sym, ap, ◌∙◌, subst, arith, length-append, append_assoc}
use Rattle.ss_code_instructions.proofs.Common.{above, act, back_if, cell_at, class_at, Code, Constant, core_at, did, Each, Expression, expression_code, Fails, Failure, for_code, forget_to, Frame, has_item, height, if_ok, Integer, is_permanent, Line, look, looked, MachineState, made_count, ne_eqb, next, next_item, number_loop, Numbers, onward_if, outcome_then, Part, past, place, Placed, RunState, Site, step_code, Store, take_code, Text, To, turned, turns_code, TypeError, unless_fault, unsigned, Value, value, value_if_any, Variable, where_fit, Whole}
use Rattle.std.proofs.lemmas.Int.{ints}
use Rattle.std.specs.Prelude.{slice_get, ◌^◌, int_le, int_lt, ◌+ℤ◌, ◌&&◌, Result as OkOr, if◌then◌else◌}
use Rattle.std.specs.Int.{int_min}
use Rattle.ss_base.specs.declared.fault.FaultKind.TheVariants.{LoopStep}
use Rattle.ss_meaning.specs.Loops.{EndsLoop, GoesOn, indices, IsFound, over, range_of, Turn, visit, greatest, Range, items_from, range_items, after_turn, over_items, step_number, range}
use Rattle.ss_code_instructions.specs.Instructions as i
use Rattle.ss_code_instructions.proofs.Keeping.{Only, each}
use Rattle.ss_code_instructions.proofs.Steps.{HasAt, has_front, has_back, Comes, Reaches, free, reaches_on, at, arrive, join}
use Rattle.ss_code_instructions.proofs.Parts.{Within, within_on, at_the_height, Lands, same, done, put_on, seq_look, alike, look_lands, above as above_cells}
use Rattle.ss_code_instructions.proofs.Expressions.{value_runs}
use Rattle.ss_code_instructions.proofs.Forgetting.{three_more, forget_run}
use Rattle.ss_code_instructions.proofs.Members.{top_cell}
use Rattle.ss_code_instructions.proofs.Taking.{visit_run}
use Rattle.ss_code_instructions.proofs.Looping.{leads, past_loop, leap}

-- the step of a FOR is at least 1
abbrev pub Rises : Range → Type 0
Rises r = int_lt r.step (pos 1) ≡ false

-- what a FOR keeps in its cells
abbrev pub hold_item : (step limit item : ℤ) → List Value → List Value
hold_item step limit item cells = Whole step ∷ Whole limit ∷ Whole item ∷ cells

abbrev pub hold_range : Range → List Value → List Value
hold_range r cells = hold_item r.step r.limit r.first cells

-- the item is the lowest of the three cells
item_cell : (h : ℕ) (step limit item : ℤ) (cells : List Value) → length cells ≡ h → cell_at h (hold_item step limit item cells) ≡ Some (Whole item)
item_cell h step limit item cells e =
    let p : suc (suc (length cells)) ≡ h → ⊥ = λ f. omega (arith, e, f) in
    let q : suc (length cells) ≡ h → ⊥ = λ f. omega (arith, e, f) in
    ap (λ (b : Bool). if b then Some (Whole step) else cell_at h (Whole limit ∷ Whole item ∷ cells)) (ne_eqb (suc (suc (length cells))) h p)
    ∙ ap (λ (b : Bool). if b then Some (Whole limit) else cell_at h (Whole item ∷ cells)) (ne_eqb (suc (length cells)) h q)
    ∙ top_cell h (Whole item) cells e

-- a step of at least 1 is read as it is
unsigned_is : (step : ℤ) → int_lt step (pos 1) ≡ false → unsigned step ≡ step
unsigned_is step rises =
    let e : int_lt step (pos 0) ≡ false = grind (arith, ints) in
    ap (λ b. if b then step +ℤ pos (2 ^ 64) else step) e

-- and where the next item is within the limit, this one is below it
below_too : (item limit step : ℤ) → int_lt step (pos 1) ≡ false → (int_lt item limit && has_item (item +ℤ step) limit) ≡ has_item (item +ℤ step) limit
below_too item limit step rises = by (has_item (item +ℤ step) limit) refl (int_lt item limit) refl
  where
    within : (z : ℤ) → int_le z (int_min limit greatest) ≡ true → int_le z limit ≡ true
    within z e = grind (arith, ints)

    by : (h : Bool) → has_item (item +ℤ step) limit ≡ h → (b : Bool) → int_lt item limit ≡ b → (b && h) ≡ h
    by false q false p = refl
    by false q true p = refl
    by true q true p = refl
    by true q false p = let e = within (item +ℤ step) q in absurd (grind (arith, ints))

module _ (limit step : ℤ) where
  no_more : (k : ℕ) (item : ℤ) → int_le item limit ≡ false → items_from k limit step item ≡ []
  no_more zero item q = refl
  no_more (suc k) item q = ap (λ b. if b then item ∷ items_from k limit step (item +ℤ step) else []) q

  one_more : (k : ℕ) (item : ℤ) → int_le item limit ≡ true → items_from (suc k) limit step item ≡ item ∷ items_from k limit step (item +ℤ step)
  one_more k item q = ap (λ b. if b then item ∷ items_from k limit step (item +ℤ step) else []) q

module _ (code : Code) (n : ℕ) (t : Site) (x : Variable) (turn : List Placed) (m : Part Turn) (found : ℕ) (r : Lands code n (height (number_loop t)) same turn (leads found) done m) where
  -- what takes an item, and how far it goes back from the next one
  abbrev take_ : List Placed
  take_ = take_code (number_loop t) (height t) x

  abbrev far : ℕ
  far = length take_ + length turn

  abbrev next_place : Placed
  next_place = place (number_loop t) (i.Next (height t) far)

  module _ (step limit : ℤ) (rises : int_lt step (pos 1) ≡ false) (p end : ℕ) (cells : List Value) (frames : List Frame) (high : length cells ≡ height t) (has : HasAt code.places p (take_ ++ (turn ++ (next_place ∷ [])))) (len : p + length take_ + length turn ≡ end) (one : length (forget_to t (number_loop t)) ≡ 1) (over_has : HasAt code.places (end + 1) (forget_to t (number_loop t))) (found_has : HasAt code.places (end + found) (forget_to t (number_loop t))) where
    turn_has : HasAt code.places (p + length take_) (turn ++ (next_place ∷ []))
    turn_has = has_back code.places p take_ (turn ++ (next_place ∷ [])) has

    next_has : slice_get code.places end ≡ Some next_place
    next_has = subst (λ j. slice_get code.places j ≡ Some next_place) len (has_back code.places (p + length take_) turn (next_place ∷ []) turn_has).0

    -- what the FOR keeps goes
    forget : (q to : ℕ) (item : ℤ) (w : RunState) → HasAt code.places q (forget_to t (number_loop t)) → q + 1 ≡ to → Reaches code (at q (hold_item step limit item cells) frames w) (Comes (at to cells frames w))
    forget q to item w h e =
        let three : suc (suc (suc (height t))) - height t ≡ 3 = three_more (height t) in
        let end : q + length (forget_to t (number_loop t)) ≡ to = omega (arith, one, e) in
        subst (λ j. Reaches code (at q (hold_item step limit item cells) frames w) (Comes (at j cells frames w))) end
        (forget_run code n (number_loop t) (height (number_loop t) - height t) q (Whole step ∷ Whole limit ∷ Whole item ∷ []) cells frames w three h)

    -- where the next instruction leads
    nexts : (item : ℤ) (b : Bool) → has_item (item +ℤ step) limit ≡ b → (w : RunState) → act code t.line next_place.instruction (core_at end (hold_item step limit item cells) frames w.store) ≡ (if b then back_if far true (hold_item step limit (item +ℤ step) cells) (core_at end (hold_item step limit item cells) frames w.store) else back_if far false (hold_item step limit item cells) (core_at end (hold_item step limit item cells) frames w.store))
    nexts item b q w =
        let c = core_at end (hold_item step limit item cells) frames w.store in
        let back = far in
        at_the_height (height t) cells (next_item back item limit step cells c) high
        ∙ ap (λ (z : ℤ). if int_lt item limit && has_item (item +ℤ z) limit then back_if back true (hold_item step limit (item +ℤ z) cells) c else back_if back false (hold_item step limit item cells) c) (unsigned_is step rises)
        ∙ ap (λ (a : Bool). if a then back_if back true (hold_item step limit (item +ℤ step) cells) c else back_if back false (hold_item step limit item cells) c) (below_too item limit step rises ∙ q)

    -- the items from this one on
    abbrev later : ℕ → ℤ → Part Bool
    later k item = over_items (visit t.line x m) (items_from k (int_min limit greatest) step item)

    abbrev ends : Bool → RunState → MachineState
    ends b w = at (past_loop found b end) cells frames w

    abbrev ItemsRun : ℕ → Type 0
    ItemsRun k = (item : ℤ) (w : RunState) → has_item item limit ≡ true → suc w.ticks ≤ k → Within code n w → Reaches code (at p (hold_item step limit item cells) frames w) (arrive ends frames (later k item w))

    next_run : (k : ℕ) → ItemsRun k → (item : ℤ) (w : RunState) → suc w.ticks ≤ k → Within code n w → (b : Bool) → has_item (item +ℤ step) limit ≡ b → Reaches code (at end (hold_item step limit item cells) frames w) (arrive ends frames (later k (item +ℤ step) w))
    next_run k again item w lek in_ true q =
        let back : end - (length take_ + length turn) ≡ p = omega (arith, len) in
        leap code next_place end (end - far) p (hold_item step limit item cells) (hold_item step limit (item +ℤ step) cells) frames w _ next_has refl (nexts item true q w) back
        (again (item +ℤ step) w q lek in_)
    next_run k again item w lek in_ false q =
        let last : end + 1 + 1 ≡ end + 2 = omega arith in
        subst (λ is. Reaches code (at end (hold_item step limit item cells) frames w) (arrive ends frames (over_items (visit t.line x m) is w))) (sym (no_more (int_min limit greatest) step k (item +ℤ step) q))
        (leap code next_place end (end + 1) (end + 1) (hold_item step limit item cells) (hold_item step limit item cells) frames w _ next_has refl (nexts item false q w) refl
        (forget (end + 1) (end + 2) item w over_has last))

    -- after a turn
    after_run : (k : ℕ) → ItemsRun k → (a : Turn) (item : ℤ) (w : RunState) → suc w.ticks ≤ k → Within code n w → Reaches code (at (leads found a end) (hold_item step limit item cells) frames w) (arrive ends frames (after_turn a (later k (item +ℤ step)) w))
    after_run k again GoesOn item w lek in_ = next_run k again item w lek in_ (has_item (item +ℤ step) limit) refl
    after_run k again EndsLoop item w lek in_ = let last : end + 1 + 1 ≡ end + 2 = omega arith in forget (end + 1) (end + 2) item w over_has last
    after_run k again IsFound item w lek in_ = forget (end + found) (end + found + 1) item w found_has refl

    pub items_run : (k : ℕ) → ItemsRun k
    items_run zero item w q lek in_ = absurd (omega (arith, lek))
    items_run (suc k) item w q lek in_ =
        let h = hold_item step limit item cells in
        let higher : length h ≡ height (number_loop t) = ap (λ j. suc (suc (suc j))) high in
        subst (λ is. Reaches code (at p h frames w) (arrive ends frames (over_items (visit t.line x m) is w))) (sym (one_more (int_min limit greatest) step k item q))
        (visit_run code n (number_loop t) (height t) x item m (λ a. after_turn a (later k (item +ℤ step))) (λ w. outcome_then (visit t.line x m item w) (λ a. after_turn a (later k (item +ℤ step)))) p h frames w ends (λ j. refl) (item_cell (height t) step limit item cells high) (has_front code.places p take_ (turn ++ (next_place ∷ [])) has) in_ (λ w' fewer in'.
        join (at (p + length take_) h frames w') (λ a w'. at (leads found a end) h frames w') ends frames (m w') (λ a. after_turn a (later k (item +ℤ step)))
        (subst (λ j. Reaches code (at (p + length take_) h frames w') (arrive (λ a w'. at (leads found a j) h frames w') frames (m w'))) len
        (r.by (p + length take_) h frames w' higher (has_front code.places (p + length take_) turn (next_place ∷ []) turn_has) in'))
        (λ a w'' kept. after_run k (items_run k) a item w'' (let few : suc w''.ticks ≤ k = omega (arith, kept.fewer, fewer, lek) in few) (within_on in' kept))))

  -- from the range in its cells
  pub ranged_run : (b : Range) → Rises b → (p end : ℕ) (cells : List Value) (frames : List Frame) (w : RunState) → length cells ≡ height t → HasAt code.places p (take_ ++ (turn ++ (next_place ∷ []))) → p + length take_ + length turn ≡ end → length (forget_to t (number_loop t)) ≡ 1 → HasAt code.places (end + 1) (forget_to t (number_loop t)) → HasAt code.places (end + found) (forget_to t (number_loop t)) → Within code n w → Reaches code (at (past (far + 1) (has_item b.first b.limit) p) (hold_range b cells) frames w) (arrive (λ b w'. at (past_loop found b end) cells frames w') frames (over_items (visit t.line x m) (range_items (suc n) b) w))
  ranged_run b up p end cells frames w high has len one f1 f2 in_ = sides (has_item b.first b.limit) refl
    where
      sides : (a : Bool) → has_item b.first b.limit ≡ a → Reaches code (at (past (far + 1) a p) (hold_range b cells) frames w) (arrive (λ b w'. at (past_loop found b end) cells frames w') frames (over_items (visit t.line x m) (range_items (suc n) b) w))
      sides true q = items_run b.step b.limit up p end cells frames high has len one f1 f2 (suc n) b.first w q (let few : suc w.ticks ≤ suc n = omega (arith, in_.ticks) in few) in_
      sides false q =
          let e : end + 1 ≡ p + (length take_ + length turn + 1) = omega (arith, len) in
          let last : p + (length take_ + length turn + 1) + 1 ≡ end + 2 = omega (arith, len) in
          subst (λ is. Reaches code (at (p + (far + 1)) (hold_range b cells) frames w) (arrive (λ b w'. at (past_loop found b end) cells frames w') frames (over_items (visit t.line x m) is w))) (sym (no_more (int_min b.limit greatest) b.step (suc n) b.first q))
          (forget b.step b.limit up p end cells frames high has len one f1 f2 (p + (far + 1)) (end + 2) b.first w (subst (λ j. HasAt code.places j (forget_to t (number_loop t))) e f1) last)

-- ## The numbers of a FOR, and the look at them

module _ (code : Code) (n : ℕ) (t : Site) where
  begin_lands : (skip : ℕ) (a b c : Value) → Lands code n (height t) (λ s. c ∷ b ∷ a ∷ s) (place (number_loop t) (i.Begin (height t) skip) ∷ []) (λ (r : Range). past skip (has_item r.first r.limit)) hold_range (look t.line (λ s. range_of a b (Some c)))
  begin_lands skip a b c = look_lands code n (height t) (place (number_loop t) (i.Begin (height t) skip)) (λ s. c ∷ b ∷ a ∷ s) (λ (r : Range). past skip (has_item r.first r.limit)) hold_range (λ s. range_of a b (Some c)) refl (acts a b c)
    where
      chosen : (t0 : Line) (k : Bool) (x y z : ℤ) (p : ℕ) (cells : List Value) (frames : List Frame) (s : Store) → did {A = Range} t0 (unless_fault k LoopStep (Ok (record { first = x; limit = y; step = z }))) (λ r. onward_if skip (has_item x y) (Whole z ∷ Whole y ∷ Whole x ∷ cells) (core_at p (Whole z ∷ Whole y ∷ Whole x ∷ cells) frames s)) ≡ did {A = Range} t0 (unless_fault k LoopStep (Ok (record { first = x; limit = y; step = z }))) (λ (r : Range). To (core_at (past skip (has_item r.first r.limit) (p + 1)) (hold_range r cells) frames s))
      chosen t0 true x y z p cells frames s = refl
      chosen t0 false x y z p cells frames s = refl

      acts : (a b c : Value) (p : ℕ) (cells : List Value) (frames : List Frame) (s : Store) → length cells ≡ height t → act code t.line (i.Begin (height t) skip) (core_at p (c ∷ b ∷ a ∷ cells) frames s) ≡ did t.line (range_of a b (Some c)) (λ (r : Range). To (core_at (past skip (has_item r.first r.limit) (p + 1)) (hold_range r cells) frames s))
      acts (Whole x) (Whole y) (Whole z) p cells frames s high =
          at_the_height (height t) cells (did t.line (range_of (Whole x) (Whole y) (Some (Whole z))) (λ r. onward_if skip (has_item x y) (Whole z ∷ Whole y ∷ Whole x ∷ cells) (core_at p (Whole z ∷ Whole y ∷ Whole x ∷ cells) frames s))) high
          ∙ chosen t.line (int_lt z (pos 1)) x y z p cells frames s
      acts (Text x) b (Text z) p cells frames s high = refl
      acts (Text x) (Text y) (Whole z) p cells frames s high = refl
      acts (Text x) (Whole y) (Whole z) p cells frames s high = refl
      acts (Whole x) (Text y) (Text z) p cells frames s high = refl
      acts (Whole x) (Text y) (Whole z) p cells frames s high = refl
      acts (Whole x) (Whole y) (Text z) p cells frames s high = refl

  -- a step that is not written is 1
  step_lands : (skip : ℕ) (c : Option Expression) (a b : Value) → Lands code n (height t) (λ s. b ∷ a ∷ s) (step_code (above (above t Integer) Integer) c ++ place (number_loop t) (i.Begin (height t) skip) ∷ []) (λ (r : Range). past skip (has_item r.first r.limit)) hold_range (look t.line (λ s. if_ok (value_if_any c s) (λ z. range_of a b z)))
  step_lands skip None a b =
      seq_look code n (height t) t.line (λ s. Ok (Whole (pos 1))) (λ z s. range_of a b (Some z))
      (above_cells code n (height t) (λ s. b ∷ a ∷ s) (suc (suc (height t))) (λ cells e. ap (λ j. suc (suc j)) e) (value_runs code n (above (above t Integer) Integer) (Constant (Whole (pos 1)))))
      (λ z. begin_lands skip a b z)
  step_lands skip (Some e) a b =
      alike code n (height t) (λ w. some_value (value e w.store) w)
      (seq_look code n (height t) t.line (value e) (λ z s. range_of a b (Some z))
      (above_cells code n (height t) (λ s. b ∷ a ∷ s) (suc (suc (height t))) (λ cells e. ap (λ j. suc (suc j)) e) (value_runs code n (above (above t Integer) Integer) e))
      (λ z. begin_lands skip a b z))
    where
      some_value : (r : OkOr Value Failure) (w : RunState) → looked t.line (if_ok r (λ z. range_of a b (Some z))) w ≡ looked t.line (if_ok (turned Some r) (λ z. range_of a b z)) w
      some_value (Ok v) w = refl
      some_value (Err e) w = refl

  pub range_lands : (skip : ℕ) (a b : Expression) (c : Option Expression) → Lands code n (height t) same (expression_code t (next t) a ++ (expression_code (above t Integer) (next (above t Integer)) b ++ (step_code (above (above t Integer) Integer) c ++ place (number_loop t) (i.Begin (height t) skip) ∷ []))) (λ (r : Range). past skip (has_item r.first r.limit)) hold_range (look t.line (range a b c))
  range_lands skip a b c =
      seq_look code n (height t) t.line (value a) (λ x s. if_ok (value b s) (λ y. if_ok (value_if_any c s) (λ z. range_of x y z))) (value_runs code n t a) (λ x.
      seq_look code n (height t) t.line (value b) (λ y s. if_ok (value_if_any c s) (λ z. range_of x y z))
      (above_cells code n (height t) (put_on x) (suc (height t)) (λ cells e. ap suc e) (value_runs code n (above t Integer) b)) (λ y.
      step_lands skip c x y))

  pub class_lands : (skip class : ℕ) → Lands code n (height t) same (place t (i.BeginClass class (height t) skip) ∷ []) (λ (r : Range). past skip (has_item r.first r.limit)) hold_range (look t.line (indices class))
  class_lands skip class =
      look_lands code n (height t) (place t (i.BeginClass class (height t) skip)) same (λ (r : Range). past skip (has_item r.first r.limit)) hold_range (indices class) refl (λ p cells frames s high.
      at_the_height (height t) cells (did t.line (indices class s) (λ r. onward_if skip (has_item r.first r.limit) (Whole r.step ∷ Whole r.limit ∷ Whole r.first ∷ cells) (core_at p cells frames s))) high)

-- ## Steps of at least 1

rises_of : (x y : Value) (z : Option Value) → Only Rises (range_of x y z)
rises_of (Text x) y z = tt
rises_of (Whole x) (Text y) z = tt
rises_of (Whole x) (Whole y) z = by (step_number z)
  where
    unless_ : (c : ℤ) (k : Bool) → int_lt c (pos 1) ≡ k → Only Rises (unless_fault k LoopStep (Ok (record { first = x; limit = y; step = c })))
    unless_ c true q = tt
    unless_ c false q = q

    by : (s : OkOr ℤ Failure) → Only Rises (if_ok s (λ c. unless_fault (int_lt c (pos 1)) LoopStep (Ok (record { first = x; limit = y; step = c }))))
    by (Ok c) = unless_ c (int_lt c (pos 1)) refl
    by (Err e) = tt

pub range_rises : (a b : Expression) (c : Option Expression) (s : Store) → Only Rises (range a b c s)
range_rises a b c s = each Rises (value a s) _ (λ x. each Rises (value b s) _ (λ y. each Rises (value_if_any c s) _ (λ z. rises_of x y z)))

pub indices_rise : (class : ℕ) (s : Store) → Only Rises (indices class s)
indices_rise class s = by (is_permanent (class_at class s))
  where
    by : (b : Bool) → Only Rises (where_fit b (Ok (record { first = pos 1; limit = pos (made_count class s); step = pos 1 })))
    by true = refl
    by false = tt

-- ## The whole FOR

module _ (code : Code) (n : ℕ) (t : Site) (x : Variable) (turn : List Placed) (m : Part Turn) (found : ℕ) (r : Lands code n (height (number_loop t)) same turn (leads found) done m) (one : length (forget_to t (number_loop t)) ≡ 1) where
  abbrev turns : List Placed
  turns = turns_code (number_loop t) (height t) x turn (i.Next (height t))

  turns_long : length turns ≡ length (take_code (number_loop t) (height t) x) + length turn + 1
  turns_long =
      let head : List Placed = take_code (number_loop t) (height t) x in
      let last : List Placed = place (number_loop t) (i.Next (height t) (length head + length turn)) ∷ [] in
      omega (arith, length-append head (turn ++ last), length-append turn last)

  -- the turns, from the range in its cells
  after_begin : (b : Range) → Rises b → (p end : ℕ) (cells : List Value) (frames : List Frame) (w : RunState) → length cells ≡ height t → HasAt code.places p (turns ++ forget_to t (number_loop t)) → p + length turns ≡ end + 1 → HasAt code.places (end + found) (forget_to t (number_loop t)) → Within code n w → Reaches code (at (past (length turns) (has_item b.first b.limit) p) (hold_range b cells) frames w) (arrive (λ b w'. at (past_loop found b end) cells frames w') frames (over_items (visit t.line x m) (range_items (suc n) b) w))
  after_begin b up p end cells frames w high has len found_has in_ =
      let h0 = has_front code.places p turns (forget_to t (number_loop t)) has in
      let h2 = subst (λ j. HasAt code.places j (forget_to t (number_loop t))) len (has_back code.places p turns (forget_to t (number_loop t)) has) in
      let size : p + length (take_code (number_loop t) (height t) x) + length turn ≡ end = omega (arith, len, turns_long) in
      subst (λ k. Reaches code (at (past k (has_item b.first b.limit) p) (hold_range b cells) frames w) (arrive (λ b w'. at (past_loop found b end) cells frames w') frames (over_items (visit t.line x m) (range_items (suc n) b) w))) (sym turns_long)
      (ranged_run code n t x turn m found r b up p end cells frames w high h0 size one h2 found_has in_)

  join_rises : (l : Line) (f : Store → OkOr Range Failure) → ((s : Store) → Only Rises (f s)) → (s : MachineState) (k : Range → RunState → MachineState) (k' : Bool → RunState → MachineState) (frames : List Frame) (w : RunState) (g : Range → Part Bool) → Reaches code s (arrive k frames (look l f w)) → ((b : Range) → Rises b → Reaches code (k b w) (arrive k' frames (g b w))) → Reaches code s (arrive k' frames (outcome_then (look l f w) g))
  join_rises l f rises s k k' frames w g reach h = by (f w.store) (rises w.store) reach
    where
      by : (o : OkOr Range Failure) → Only Rises o → Reaches code s (arrive k frames (looked l o w)) → Reaches code s (arrive k' frames (outcome_then (looked l o w) g))
      by (Ok b) up reach = reaches_on reach (h b up)
      by (Err (Fails kind)) up reach = reach
      by (Err TypeError) up reach = free

  pub each_run : (class p end : ℕ) (cells : List Value) (frames : List Frame) (w : RunState) → length cells ≡ height t → HasAt code.places p (for_code t (Each x class) turn) → p + length (for_code t (Each x class) turn) ≡ end + 2 → HasAt code.places (end + found) (forget_to t (number_loop t)) → Within code n w → Reaches code (at p cells frames w) (arrive (λ b w'. at (past_loop found b end) cells frames w') frames (over n t.line (Each x class) m w))
  each_run class p end cells frames w high has len found_has in_ =
      let size : p + 1 + length turns ≡ end + 1 = omega (arith, len, length-append turns (forget_to t (number_loop t)), one) in
      join_rises t.line (indices class) (indices_rise class) (at p cells frames w) (λ (b : Range) w'. at (past (length turns) (has_item b.first b.limit) (p + 1)) (hold_range b cells) frames w') (λ b w'. at (past_loop found b end) cells frames w') frames w (λ b. over_items (visit t.line x m) (range_items (suc n) b))
      ((class_lands code n t (length turns) class).by p cells frames w high (has.0, tt) in_)
      (λ b up. after_begin b up (p + 1) end cells frames w high has.1 size found_has in_)

  pub numbers_run : (a b : Expression) (c : Option Expression) (p end : ℕ) (cells : List Value) (frames : List Frame) (w : RunState) → length cells ≡ height t → HasAt code.places p (for_code t (Numbers x a b c) turn) → p + length (for_code t (Numbers x a b c) turn) ≡ end + 2 → HasAt code.places (end + found) (forget_to t (number_loop t)) → Within code n w → Reaches code (at p cells frames w) (arrive (λ b w'. at (past_loop found b end) cells frames w') frames (over n t.line (Numbers x a b c) m w))
  numbers_run a b c p end cells frames w high has len found_has in_ =
      let ca : List Placed = expression_code t (next t) a in
      let cb : List Placed = expression_code (above t Integer) (next (above t Integer)) b in
      let cc_ : List Placed = step_code (above (above t Integer) Integer) c in
      let begin : Placed = place (number_loop t) (i.Begin (height t) (length turns)) in
      let rest : List Placed = turns ++ forget_to t (number_loop t) in
      let front : List Placed = ca ++ (cb ++ (cc_ ++ begin ∷ [])) in
      let shape : (ca ++ (cb ++ cc_)) ++ (begin ∷ rest) ≡ front ++ rest =
      append_assoc ca (cb ++ cc_) (begin ∷ rest) ∙ ap (λ k. ca ++ k) (append_assoc cb cc_ (begin ∷ rest) ∙ ap (λ k. cb ++ k) (sym (append_assoc cc_ (begin ∷ []) rest)) ∙ sym (append_assoc cb (cc_ ++ begin ∷ []) rest)) ∙ sym (append_assoc ca (cb ++ (cc_ ++ begin ∷ [])) rest) in
      let h = subst (HasAt code.places p) shape has in
      let long : length (for_code t (Numbers x a b c) turn) ≡ length front + length rest = ap length shape ∙ length-append front rest in
      let size : p + length front + length turns ≡ end + 1 = omega (arith, len, long, length-append turns (forget_to t (number_loop t)), one) in
      join_rises t.line (range a b c) (range_rises a b c) (at p cells frames w) (λ (b : Range) w'. at (past (length turns) (has_item b.first b.limit) (p + length front)) (hold_range b cells) frames w') (λ b w'. at (past_loop found b end) cells frames w') frames w (λ b. over_items (visit t.line x m) (range_items (suc n) b))
      ((range_lands code n t (length turns) a b c).by p cells frames w high (has_front code.places p front rest h) in_)
      (λ b up. after_begin b up (p + length front) end cells frames w high (has_back code.places p front rest h) size found_has in_)
