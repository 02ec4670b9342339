-- A section is entered: what it is given lies in the caller's topmost cells, which are its first variables then.
use Rattle.std.proofs.Common.{◌≡◌, inr, ℕ, zero, suc, ◌+◌, ◌<◌, ◌≤◌, ◌^◌, true, List, [], ◌∷◌, ◌++◌, length, map, Some, None, refl, sym, ap, ◌∙◌, subst, arith, if◌then◌else◌}
use Rattle.ss_base.specs.declared.layout.Mode.{Mode}
use Rattle.ss_base.specs.declared.layout.Mode.TheVariants.{Integer, Alpha}
use Rattle.ss_base.specs.declared.value.Value.{Value}
use Rattle.ss_base.specs.declared.value.Value.TheVariants.{Whole, Text}
use Rattle.ss_base.specs.Layout.{mode_of, first_value}
use Rattle.ss_meaning.specs.Values.{same_mode}
use Rattle.ss_meaning.specs.Store.{Store, first_values, prepended, taken_by_modes, appended, opened}
use Rattle.ss_meaning.specs.Fitting.{AreOfModes}
use Rattle.ss_code_instructions.specs.States.{Called, Core, TakenOff, take_off}
use Rattle.ss_machine_frames.specs.declared.frames.Frame.{Frame as Call}
use Rattle.ss_machine_frames.specs.Rows.{TwoRows, with_value, cleared, AreAlike, AreGrown}
use Rattle.ss_machine_frames.specs.Holding.{AreValuesAt, AreCellsAt, AreCallsAt, IsCoreHeld}
use Rattle.ss_machine_frames.proofs.Lists.{set_length}
use Rattle.ss_machine_frames.proofs.Places.{agree_out, agree_within, agree_on, elsewhere_value, value_same, value_agrees, all_agree, cells_agree, low_under, calls_agree}

-- ## Values that lie one after the other

pub all_append : (r : TwoRows) (i : ℕ) (vs ws : List Value) → AreValuesAt r i vs → AreValuesAt r (i + length vs) ws → AreValuesAt r i (vs ++ ws)
all_append r i [] ws h g = let e : i + 0 ≡ i = omega arith in subst (λ j. AreValuesAt r j ws) e g
all_append r i (v ∷ vs) ws h g =
    let e : i + length (v ∷ vs) ≡ i + 1 + length vs = omega arith in
    (h.0, all_append r (i + 1) vs ws h.1 (subst (λ j. AreValuesAt r j ws) e g))

-- the topmost cells lie where the first variables of a frame lie that begins at the lowest of them
pub record Cut (r : TwoRows) (i : ℕ) (b : TakenOff) : Type 0 where
  pub values : AreValuesAt r (i + length b.below) b.values
  pub below : AreCellsAt r i b.below

pub cut : (r : TwoRows) (i count : ℕ) (cells vs : List Value) (b : TakenOff) → AreCellsAt r i cells → AreValuesAt r (i + length cells) vs → take_off count cells vs ≡ Some b → Cut r i b
cut r i zero cells vs b h g e =
    let d : TakenOff = record { values = vs; below = cells } in
    let q : d ≡ b = cc in
    subst (λ b. Cut r i b) q (record { values = g; below = h })
cut r i (suc k) [] vs b h g e = absurd cc
cut r i (suc k) (v ∷ cells) vs b h g e =
    let n : i + length (v ∷ cells) ≡ i + length cells + 1 = omega arith in
    cut r i k cells (v ∷ vs) b h.1 (h.0, subst (λ j. AreValuesAt r j vs) n g) e

-- ## First values

pub value_long : (r : TwoRows) (i : ℕ) (v : Value) → length (with_value r i v).numbers ≡ length r.numbers
value_long r i (Whole z) = set_length r.numbers i z
value_long r i (Text t) = refl

pub value_texts : (r : TwoRows) (i : ℕ) (v : Value) → length (with_value r i v).texts ≡ length r.texts
value_texts r i (Whole z) = refl
value_texts r i (Text t) = set_length r.texts i t

pub cleared_long : (r : TwoRows) (i : ℕ) (ms : List Mode) → length (cleared r i ms).numbers ≡ length r.numbers
cleared_long r i [] = refl
cleared_long r i (m ∷ ms) = cleared_long (with_value r i (first_value m)) (i + 1) ms ∙ value_long r i (first_value m)

pub cleared_below : (r : TwoRows) (i : ℕ) (ms : List Mode) → AreAlike r (cleared r i ms) 0 i
cleared_below r i [] = record { numbers = λ j a b. refl; texts = λ j a b. refl }
cleared_below r i (m ∷ ms) =
    let s = with_value r i (first_value m) in
    agree_on r s (cleared s (i + 1) ms) 0 i (agree_out r s i 0 i (elsewhere_value r i (first_value m)) (inr (omega arith)))
    (agree_within s (cleared s (i + 1) ms) 0 (i + 1) 0 i (omega arith) (omega arith) (cleared_below s (i + 1) ms))

pub cleared_all : (r : TwoRows) (i : ℕ) (ms : List Mode) → length r.texts ≡ length r.numbers → i + length ms ≤ length r.numbers → AreValuesAt (cleared r i ms) i (first_values ms)
cleared_all r i [] e h = tt
cleared_all r i (m ∷ ms) e h =
    let v = first_value m in
    let s = with_value r i v in (
      value_agrees s (cleared s (i + 1) ms) i 0 (i + 1) v (omega arith) (omega arith) (cleared_below s (i + 1) ms) (value_same r i v e (omega (arith, h))),
      cleared_all s (i + 1) ms (value_texts r i v ∙ e ∙ sym (value_long r i v)) (omega (arith, h, value_long r i v)),
    )

-- ## Variables of a section

-- what is given is of the modes that are wanted
pub taken_is : (modes : List Mode) (vs : List Value) → AreOfModes vs modes → taken_by_modes modes vs ≡ Some vs
taken_is [] [] h = refl
taken_is [] (v ∷ vs) h = absurd cc
taken_is (m ∷ modes) [] h = absurd cc
taken_is (m ∷ modes) (v ∷ vs) h =
    let e : mode_of v ≡ m = cc in
    let rest : map mode_of vs ≡ modes = cc in
    ap (λ b. if b then prepended v (taken_by_modes modes vs) else None) (same e) ∙ ap (prepended v) (taken_is modes vs rest)
  where
    itself : (n : Mode) → same_mode n n ≡ true
    itself Integer = refl
    itself Alpha = refl

    same : mode_of v ≡ m → same_mode (mode_of v) m ≡ true
    same e = subst (λ n. same_mode (mode_of v) n ≡ true) e (itself (mode_of v))

pub opened_is : (given others : List Mode) (vs : List Value) → AreOfModes vs given → opened given others vs ≡ Some (vs ++ first_values others)
opened_is given others vs h = ap (λ o. appended o (first_values others)) (taken_is given vs h)

-- ## The new frame

-- What is held once a section is entered with these variables: the rows are as they were below the new frame, which begins where the cells end that stay.
pub entered : (constants : List Value) (depth frame frame' : ℕ) (r s : TwoRows) (calls : List Call) (g : Call) (c : Core) (st : Store) (below variables : List Value) (place back first count : ℕ) (called : Called) → IsCoreHeld constants depth frame r calls c → AreCellsAt r (frame + length c.store.locals) below → frame' ≡ frame + length c.store.locals + length below → AreAlike r s 0 frame' → AreValuesAt s frame' variables → frame' + length variables + depth ≤ length s.numbers → length s.numbers < 2 ^ 63 → st.globals ≡ c.store.globals → g.back ≡ back → g.caller ≡ frame → g.given ≡ first → g.yielding ≡ count → IsCoreHeld constants depth frame' s (g ∷ calls) (record { place = place; cells = []; frames = record { back = back; cells = below; locals = c.store.locals; first = first; count = count; called = called } ∷ c.frames; store = record st { locals = variables } })
entered constants depth frame frame' r s calls g c st below variables place back first count called h here begin a all room small globals g_back g_caller g_given g_yielding =
    let under = low_under r (length c.store.globals + length constants) frame calls c.frames h.open_calls in
    let n = c.store.globals in
    record {
      globals = subst (λ vs. AreValuesAt s 0 vs) (sym globals) (all_agree r s 0 n (agree_within r s 0 frame' 0 (0 + length n) (omega arith) (omega (arith, under, begin)) a) h.globals);
      fixed = subst (λ (vs : List Value). AreValuesAt s (length vs) constants) (sym globals) (all_agree r s (length n) constants (agree_within r s 0 frame' (length n) (length n + length constants) (omega arith) (omega (arith, under, begin)) a) h.fixed);
      locals = all;
      cells = tt;
      open_calls = subst (λ (vs : List Value). AreCallsAt s (length vs + length constants) frame' (g ∷ calls) (record { back = back; cells = below; locals = c.store.locals; first = first; count = count; called = called } ∷ c.frames)) (sym globals) (
        g_back,
        g_given,
        g_yielding,
        subst (λ j. AreValuesAt s j c.store.locals) (sym g_caller) (all_agree r s frame c.store.locals (agree_within r s 0 frame' frame (frame + length c.store.locals) (omega arith) (omega (arith, begin)) a) h.locals),
        subst (λ j. AreCellsAt s (j + length c.store.locals) below) (sym g_caller) (cells_agree r s (frame + length c.store.locals) below (agree_within r s 0 frame' (frame + length c.store.locals) (frame + length c.store.locals + length below) (omega arith) (omega (arith, begin)) a) here),
        begin ∙ ap (λ j. j + length c.store.locals + length below) (sym g_caller),
        subst (λ j. AreCallsAt s (length n + length constants) j calls c.frames) (sym g_caller) (calls_agree r s (length n + length constants) frame calls c.frames (agree_within r s 0 frame' (length n + length constants) frame (omega arith) (omega (arith, begin)) a) h.open_calls),
      );
      room = room;
      small = small;
    }

-- the rows of a section that was called: they have grown, and then its other variables got their first values
pub record Opened (r s : TwoRows) (frame : ℕ) (variables : List Value) : Type 0 where
  pub agree : AreAlike r s 0 frame
  pub all : AreValuesAt s frame variables

pub opened_rows : (r grown : TwoRows) (frame count : ℕ) (given : List Value) (others : List Mode) → AreGrown r grown → length grown.texts ≡ length grown.numbers → frame + length given ≤ length r.numbers → AreValuesAt r frame given → frame + count + length others ≤ length grown.numbers → length given ≡ count → Opened r (cleared grown (frame + count) others) frame (given ++ first_values others)
opened_rows r grown frame count given others g even there here room long =
    let from = frame + count in
    let s = cleared grown from others in
    let up = agree_within r grown 0 (length r.numbers) 0 (frame + length given) (omega arith) there g.same in
    let down = agree_within grown s 0 from 0 (frame + length given) (omega arith) (omega (arith, long)) (cleared_below grown from others) in
    let both = agree_on r grown s 0 (frame + length given) up down in
    let at : from ≡ frame + length given = omega (arith, long) in
    record {
      agree = agree_within r s 0 (frame + length given) 0 frame (omega arith) (omega arith) both;
      all = all_append s frame given (first_values others) (all_agree r s frame given (agree_within r s 0 (frame + length given) frame (frame + length given) (omega arith) (omega arith) both) here) (subst (λ j. AreValuesAt s j (first_values others)) at (cleared_all grown from others even room));
    }
