-- Values have the modes that shape says, and where the machine goes a state suits its place.
use Rattle.std.proofs.Common.{◌≡◌, ℕ, ◌+◌, ◌-◌, Bool, true, false, List, [], ◌∷◌, length, Option, Some, None, Ok, Err, ℤ, refl, sym, ◌∙◌, subst}
use Rattle.ss_code_instructions.proofs.Common.{AreOfModes, asked_alone, asked_of, assigned_variable, at_height, back_if, cell_at, Code, Core, core_at, deliver, deliver_with, did, eq-eqb, Fails, Failure, fetched, Fine, fine_turned, fit, fit_fine, Frame, held_length, Integer, IsFittingStore, IsWellTyped, lies_above, Line, Mode, mode_of, Moved, onward_if, or_zero, Program, put_to, Rest, Sends, Store, Stuck, Text, There, To, turned, TypedScope, TypeError, Value, Walk, Whole, with_bearer, with_block, with_loop, with_operand_value, with_position, with_top_number, with_topmost, with_values, with_walk_in_cells, Written}
use Rattle.std.specs.Prelude.{◌==◌, Result as OkOr, if◌then◌else◌}
use Rattle.ss_code_instructions.specs.Instructions.{Bearer, Before, FilingPlace, First, Held, Into, Last, Onto, Operand, Ranked, Stays, Taken, Target, Constant, After}
use Rattle.ss_code_instructions.specs.Shape.{AreFoundAt, HasOnTop, IsAccepting, IsFitForCode, IsGivingBearer, IsGivingMode, modes_onto, AreGivingBy, AreGivingBoth, IsGivingPosition, loop_modes, walk_modes, IsSetBearer as BearerFits, IsStatisticBearer, AreFitFrames}
use Rattle.ss_meaning.specs.Sets.{ByRule, Foremost, Hindmost, JustAfter, JustBefore, Filing as Position}
use Rattle.ss_meaning.proofs.Entities.{variable_fine, fetched_there}
use Rattle.ss_meaning.proofs.Sets.{OwnerOk, FilingOk, AskedStatistic}
use Rattle.ss_code_instructions.proofs.Parts.{onto}
use Rattle.ss_code_instructions.proofs.Stacked.{block_takes}

-- ## Cells

-- where there is a mode there is a cell, which holds a value of it
pub cell_there : (h : ℕ) (cells : List Value) (ms : List Mode) (m : Mode) → AreOfModes cells ms → cell_at h ms ≡ Some m → There (λ (v : Value). mode_of v ≡ m) (cell_at h cells)
cell_there h [] [] m q e = absurd cc
cell_there h [] (n ∷ ms) m q e = absurd cc
cell_there h (u ∷ cells) [] m q e = absurd cc
cell_there h (u ∷ cells) (n ∷ ms) m q e =
    let rest : AreOfModes cells ms = cc in
    let here : mode_of u ≡ n = cc in
    by (length cells == h) here (subst (λ k. (if k == h then Some n else cell_at h ms) ≡ Some m) (sym (held_length cells ms rest)) e) (cell_there h cells ms m rest)
  where
    by : (b : Bool) → mode_of u ≡ n → (if b then Some n else cell_at h ms) ≡ Some m → (cell_at h ms ≡ Some m → There (λ (v : Value). mode_of v ≡ m) (cell_at h cells)) → There (λ (v : Value). mode_of v ≡ m) (if b then Some u else cell_at h cells)
    by true here e again = let a : n ≡ m = cc in here ∙ a
    by false here e again = again e

-- values off the cells, by their modes
record Split (ws ms : List Mode) (cells : List Value) : Type 0 where
  them : List Value
  below : List Value
  is : cells ≡ onto them below
  modes : AreOfModes them ws
  rest : AreOfModes below ms

split_off : (ws ms : List Mode) (cells : List Value) → AreOfModes cells (modes_onto ws ms) → Split ws ms cells
split_off [] ms cells q = record { them = []; below = cells; is = refl; modes = refl; rest = q }
split_off (w ∷ ws) ms cells q = let d = split_off ws (w ∷ ms) cells q in one_more d.them d.below d.is d.modes d.rest
  where
    one_more : (them below : List Value) → cells ≡ onto them below → AreOfModes them ws → AreOfModes below (w ∷ ms) → Split (w ∷ ws) ms cells
    one_more them [] e h k = absurd cc
    one_more them (v ∷ below) e h k =
        let here : mode_of v ≡ w = cc in
        let all : AreOfModes (v ∷ them) (w ∷ ws) = cc in
        let under : AreOfModes below ms = cc in
        record { them = v ∷ them; below = below; is = e; modes = all; rest = under }

-- ## Bearers

-- there is a number where there is an operand
abbrev pub IsBearer : Bearer → Option Value → Type 0
IsBearer None None = Unit {0}
IsBearer None (Some v) = ⊥
IsBearer (Some x) None = ⊥
IsBearer (Some x) (Some v) = mode_of v ≡ Integer

pub owner_ok : (p : Program) (typed : IsWellTyped p) (ls : List Mode) (set : ℕ) (x : Bearer) (o : Option Value) → BearerFits p set x → IsBearer x o → OwnerOk p typed ls set o
owner_ok p typed ls set None None g h = g
owner_ok p typed ls set None (Some v) g h = absurd h
owner_ok p typed ls set (Some x) None g h = absurd h
owner_ok p typed ls set (Some x) (Some v) g h = (g, h)

pub asked : (p : Program) (typed : IsWellTyped p) (ls : List Mode) (j : ℕ) (x : Bearer) (o : Option Value) → IsStatisticBearer p j x → IsBearer x o → AskedStatistic p typed ls j o
asked p typed ls j None None g h = asked_alone p typed ls true j g
asked p typed ls j None (Some v) g h = absurd h
asked p typed ls j (Some x) None g h = absurd h
asked p typed ls j (Some x) (Some v) g h = asked_of p typed ls true j v g h

module _ (p : Program) (typed : IsWellTyped p) (code : Code) where
  -- where an instruction leads a state suits its place, and it is not stuck
  abbrev pub GoesWell : Moved → Type 0
  GoesWell (To c) = IsFitForCode p code c
  GoesWell (Sends bytes c) = IsFitForCode p code c
  GoesWell (Rest f) = Unit {0}
  GoesWell Stuck = ⊥

  pub fit_well : {A : Type 0} (P : A → Type 0) (o : Option A) (go : A → Moved) → There P o → ((a : A) → P a → GoesWell (go a)) → GoesWell (fit o go)
  fit_well P (Some a) go h f = f a h
  fit_well P None go h f = absurd h

  pub did_well : {A : Type 0} (P : A → Type 0) (l : Line) (r : OkOr A Failure) (go : A → Moved) → Fine P r → ((a : A) → P a → GoesWell (go a)) → GoesWell (did l r go)
  did_well P l (Ok a) go h f = f a h
  did_well P l (Err (Fails kind)) go h f = tt
  did_well P l (Err TypeError) go h f = absurd h

  if_well : (b : Bool) (m : Moved) → b ≡ true → GoesWell m → GoesWell (if b then m else Stuck)
  if_well true m e h = h
  if_well false m e h = absurd cc

  pub height_well : (h : ℕ) (cells : List Value) (m : Moved) → length cells ≡ h → GoesWell m → GoesWell (at_height h cells m)
  height_well h cells m e g = if_well (length cells == h) m (eq-eqb (length cells) h e) g

  -- a number in the topmost cell
  pub number_well : (ms above : List Mode) (cells : List Value) (go : ℤ → List Value → Moved) → ms ≡ Integer ∷ above → AreOfModes cells ms → ((z : ℤ) (below : List Value) → AreOfModes below above → GoesWell (go z below)) → GoesWell (with_top_number cells go)
  number_well ms above [] go e q f =
      let none : AreOfModes [] (Integer ∷ above) = q ∙ e in
      absurd cc
  number_well ms above (Text t ∷ below) go e q f =
      let all : AreOfModes (Text t ∷ below) (Integer ∷ above) = q ∙ e in
      let here : mode_of (Text t) ≡ Integer = cc in
      absurd cc
  number_well ms above (Whole z ∷ below) go e q f =
      let all : AreOfModes (Whole z ∷ below) (Integer ∷ above) = q ∙ e in
      let rest : AreOfModes below above = cc in
      f z below rest

  -- so many cells down to a height
  pub block_well : (count h : ℕ) (modes ms rest : List Mode) (cells : List Value) (go : List Value → List Value → Moved) → HasOnTop h modes ms rest → count ≡ length modes → AreOfModes cells ms → ((vs below : List Value) → AreOfModes vs modes → AreOfModes below rest → GoesWell (go vs below)) → GoesWell (with_block count h cells go)
  block_well count h modes ms rest cells go block many q f =
      let d = split_off modes rest cells (q ∙ block.is) in
      let long : count ≡ length d.them = many ∙ sym (held_length d.them modes d.modes) in
      let high : length d.below ≡ h = held_length d.below rest d.rest ∙ block.height in
      subst (λ c. GoesWell (with_block count h c go)) (sym d.is) (subst GoesWell (sym (block_takes d.them d.below count h go long high)) (f d.them d.below d.modes d.rest))

  -- the cells of a loop, and those of a walk
  pub loop_well : (h : ℕ) (ms rest : List Mode) (cells : List Value) (go : ℤ → ℤ → ℤ → List Value → Moved) → HasOnTop h loop_modes ms rest → AreOfModes cells ms → ((item limit step : ℤ) (below : List Value) → AreOfModes below rest → GoesWell (go item limit step below)) → GoesWell (with_loop h cells go)
  loop_well h ms rest cells go block q f =
      number_well ms (Integer ∷ Integer ∷ rest) cells (λ step above. with_top_number above (λ limit over. with_top_number over (λ item below. at_height h below (go item limit step below)))) block.is q (λ step above ha.
      number_well (Integer ∷ Integer ∷ rest) (Integer ∷ rest) above (λ limit over. with_top_number over (λ item below. at_height h below (go item limit step below))) refl ha (λ limit over ho.
      number_well (Integer ∷ rest) rest over (λ item below. at_height h below (go item limit step below)) refl ho (λ item below hb.
      height_well h below (go item limit step below) (held_length below rest hb ∙ block.height) (f item limit step below hb))))

  pub walk_well : (h : ℕ) (ms rest : List Mode) (cells : List Value) (go : Walk → List Value → Moved) → HasOnTop h walk_modes ms rest → AreOfModes cells ms → ((k : Walk) (below : List Value) → AreOfModes below rest → GoesWell (go k below)) → GoesWell (with_walk_in_cells h cells go)
  walk_well h ms rest cells go block q f =
      number_well ms (Integer ∷ rest) cells (λ next over. with_top_number over (λ member below. at_height h below (go (record { member = member; next = next }) below))) block.is q (λ next over ho.
      number_well (Integer ∷ rest) rest over (λ member below. at_height h below (go (record { member = member; next = next }) below)) refl ho (λ member below hb.
      height_well h below (go (record { member = member; next = next }) below) (held_length below rest hb ∙ block.height) (f (record { member = member; next = next }) below hb)))

  module _ (ls : List Mode) where
    abbrev view : TypedScope
    view = record { program = p; locals = ls; is_main = true }

    -- ## Operands

    held_mode : (o : Option Value) (m : Mode) → There (λ v. mode_of v ≡ m) o → mode_of (or_zero o) ≡ m
    held_mode (Some v) m h = h
    held_mode None m h = absurd h

    topmost_well : (h : ℕ) (m : Mode) (ms rest : List Mode) (cells : List Value) (go : Value → List Value → Moved) → ms ≡ m ∷ rest → length rest ≡ h → AreOfModes cells ms → ((v : Value) (below : List Value) → mode_of v ≡ m → AreOfModes below rest → GoesWell (go v below)) → GoesWell (with_topmost h cells go)
    topmost_well h m ms rest [] go e high q f =
        let none : AreOfModes [] (m ∷ rest) = q ∙ e in
        absurd cc
    topmost_well h m ms rest (v ∷ below) go e high q f =
        let all : AreOfModes (v ∷ below) (m ∷ rest) = q ∙ e in
        let here : mode_of v ≡ m = cc in
        let under : AreOfModes below rest = cc in
        height_well h below (go v below) (held_length below rest under ∙ high) (f v below here under)

    pub value_well : (x : Operand) (m : Mode) (ms rest : List Mode) (s : Store) (cells : List Value) (go : Value → List Value → Moved) → IsGivingMode view x m ms rest → IsFittingStore p ls s → AreOfModes cells ms → ((v : Value) (below : List Value) → mode_of v ≡ m → AreOfModes below rest → GoesWell (go v below)) → GoesWell (with_operand_value x s cells go)
    value_well (Constant v) m ms rest s cells go g fits q f = f v cells g.0 (q ∙ sym g.1)
    value_well (Held x) m ms rest s cells go g fits q f =
        f (or_zero (fetched x s)) cells (held_mode (fetched x s) m (fetched_there p typed ls true x m s g.0 fits)) (q ∙ sym g.1)
    value_well (Taken h) m ms rest s cells go g fits q f = topmost_well h m ms rest cells go g.0 g.1 q f
    value_well (Stays h) m ms rest s cells go g fits q f =
        fit_well (λ (v : Value). mode_of v ≡ m) (cell_at h cells) (λ v. go v cells) (cell_there h cells ms m q g.0) (λ v e. f v cells e (q ∙ sym g.1))

    pub both_well : (x y : Operand) (m n : Mode) (ms rest : List Mode) (s : Store) (cells : List Value) (go : Value → Value → List Value → Moved) → AreGivingBoth view x y m n ms rest → IsFittingStore p ls s → AreOfModes cells ms → ((v w : Value) (below : List Value) → mode_of v ≡ m → mode_of w ≡ n → AreOfModes below rest → GoesWell (go v w below)) → GoesWell (with_values x y s cells go)
    both_well x y m n ms rest s cells go g fits q f = by (lies_above x y) g
      where
        by : (b : Bool) → AreGivingBy b view x y m n ms rest → GoesWell (if b then with_operand_value x s cells (λ v above. with_operand_value y s above (λ w below. go v w below)) else with_operand_value y s cells (λ w above. with_operand_value x s above (λ v below. go v w below)))
        by true g =
            value_well x m ms g.0 s cells (λ v above. with_operand_value y s above (λ w below. go v w below)) g.1 fits q (λ v above hv ha.
            value_well y n g.0 rest s above (λ w below. go v w below) g.2 fits ha (λ w below hw hb. f v w below hv hw hb))
        by false g =
            value_well y n ms g.0 s cells (λ w above. with_operand_value x s above (λ v below. go v w below)) g.1 fits q (λ w above hw ha.
            value_well x m g.0 rest s above (λ v below. go v w below) g.2 fits ha (λ v below hv hb. f v w below hv hw hb))

    pub bearer_well : (x : Bearer) (ms rest : List Mode) (s : Store) (cells : List Value) (go : Option Value → List Value → Moved) → IsGivingBearer view x ms rest → IsFittingStore p ls s → AreOfModes cells ms → ((o : Option Value) (below : List Value) → IsBearer x o → AreOfModes below rest → GoesWell (go o below)) → GoesWell (with_bearer x s cells go)
    bearer_well None ms rest s cells go g fits q f = f None cells tt (q ∙ sym g)
    bearer_well (Some x) ms rest s cells go g fits q f =
        value_well x Integer ms rest s cells (λ v below. go (Some v) below) g fits q (λ v below hv hb. f (Some v) below hv hb)

    pub position_well : (x : FilingPlace) (ms rest : List Mode) (s : Store) (cells : List Value) (go : Position → List Value → Moved) → IsGivingPosition view x ms rest → IsFittingStore p ls s → AreOfModes cells ms → ((k : Position) (below : List Value) → FilingOk p typed ls k → AreOfModes below rest → GoesWell (go k below)) → GoesWell (with_position x s cells go)
    position_well First ms rest s cells go g fits q f = f Foremost cells tt (q ∙ sym g)
    position_well Last ms rest s cells go g fits q f = f Hindmost cells tt (q ∙ sym g)
    position_well Ranked ms rest s cells go g fits q f = f ByRule cells tt (q ∙ sym g)
    position_well (Before y) ms rest s cells go g fits q f =
        value_well y Integer ms rest s cells (λ v below. go (JustBefore v) below) g fits q (λ v below hv hb. f (JustBefore v) below hv hb)
    position_well (After y) ms rest s cells go g fits q f =
        value_well y Integer ms rest s cells (λ v below. go (JustAfter v) below) g fits q (λ v below hv hb. f (JustAfter v) below hv hb)

    -- ## Where the machine goes on

    pub goes_to : (q : ℕ) (ms : List Mode) (cells : List Value) (frames : List Frame) (s : Store) → AreFoundAt p code q ls ms → IsFittingStore p ls s → AreOfModes cells ms → AreFitFrames p code ls frames → IsFitForCode p code (core_at q cells frames s)
    goes_to q ms cells frames s at fits h k = record {
      placed = at.placed;
      fits = record {
        there = at.there;
        store = subst (λ k. IsFittingStore p k s) (sym at.locals) fits;
        cells = h ∙ sym at.cells;
        frames = subst (λ k. AreFitFrames p code k frames) (sym at.locals) k;
      };
    }

    pub ways_well : (skip : ℕ) (b : Bool) (ms : List Mode) (cells : List Value) (c : Core) → AreFoundAt p code (c.place + 1) ls ms × AreFoundAt p code (c.place + 1 + skip) ls ms → IsFittingStore p ls c.store → AreOfModes cells ms → AreFitFrames p code ls c.frames → GoesWell (onward_if skip b cells c)
    ways_well skip true ms cells c at fits h k = goes_to (c.place + 1) ms cells c.frames c.store at.0 fits h k
    ways_well skip false ms cells c at fits h k = goes_to (c.place + 1 + skip) ms cells c.frames c.store at.1 fits h k

    pub back_well : (back : ℕ) (b : Bool) (ms : List Mode) (cells : List Value) (c : Core) → AreFoundAt p code (c.place + 1) ls ms → AreFoundAt p code (c.place - back) ls ms → IsFittingStore p ls c.store → AreOfModes cells ms → AreFitFrames p code ls c.frames → GoesWell (back_if back b cells c)
    back_well back true ms cells c on at fits h k = goes_to (c.place - back) ms cells c.frames c.store at fits h k
    back_well back false ms cells c on at fits h k = goes_to (c.place + 1) ms cells c.frames c.store on fits h k

    -- ## Targets

    put_fine : (to : Target) (m : Mode) (ms rest : List Mode) (v : Value) (cells : List Value) (s : Store) → IsAccepting view to m ms rest → mode_of v ≡ m → IsFittingStore p ls s → AreOfModes cells ms → Fine (λ (w : Written). IsFittingStore p ls w.store × AreOfModes w.cells rest) (put_to to v cells s)
    put_fine (Into x) m ms rest v cells s a e fits q =
        fine_turned (λ (w : Written). IsFittingStore p ls w.store × AreOfModes w.cells rest) (λ t. record { cells = cells; store = t }) (assigned_variable x v s) (variable_fine p typed ls true x m v s a.0.0 e fits) (λ t ft. (ft, q ∙ sym a.1))
    put_fine (Onto h) m ms rest v cells s a e fits q =
        let all : AreOfModes (v ∷ cells) (m ∷ ms) = cc in
        fit_fine (λ (w : Written). IsFittingStore p ls w.store × AreOfModes w.cells rest) (length cells == h) (Ok (record { cells = v ∷ cells; store = s })) (eq-eqb (length cells) h (held_length cells ms q ∙ a.1)) (fits, all ∙ sym a.0)

    -- a result goes to a target, in the store that it came with
    pub delivered_well : (l : Line) (to : Target) (m : Mode) (ms rest : List Mode) (r : OkOr (Value × Store) Failure) (cells : List Value) (c : Core) → Fine (λ (b : Value × Store). (mode_of b.0 ≡ m) × IsFittingStore p ls b.1) r → IsAccepting view to m ms rest → AreFoundAt p code (c.place + 1) ls rest → AreOfModes cells ms → AreFitFrames p code ls c.frames → GoesWell (deliver_with l to r cells c)
    delivered_well l to m ms rest (Ok b) cells c fine a at q k =
        did_well (λ (w : Written). IsFittingStore p ls w.store × AreOfModes w.cells rest) l (put_to to b.0 cells b.1) _ (put_fine to m ms rest b.0 cells b.1 a fine.0 fine.1 q) (λ w h. goes_to (c.place + 1) rest w.cells c.frames w.store at h.0 h.1 k)
    delivered_well l to m ms rest (Err (Fails kind)) cells c fine a at q k = tt
    delivered_well l to m ms rest (Err TypeError) cells c fine a at q k = absurd fine

    -- a result goes to a target, in the store as it is
    pub deliver_well : (l : Line) (to : Target) (m : Mode) (ms rest : List Mode) (r : OkOr Value Failure) (cells : List Value) (c : Core) → Fine (λ v. mode_of v ≡ m) r → IsAccepting view to m ms rest → AreFoundAt p code (c.place + 1) ls rest → IsFittingStore p ls c.store → AreOfModes cells ms → AreFitFrames p code ls c.frames → GoesWell (deliver l to r cells c)
    deliver_well l to m ms rest r cells c fine a at fits q k =
        delivered_well l to m ms rest (turned (λ v. (v, c.store)) r) cells c (fine_turned (λ (b : Value × Store). (mode_of b.0 ≡ m) × IsFittingStore p ls b.1) (λ v. (v, c.store)) r fine (λ v e. (e, fits))) a at q k
