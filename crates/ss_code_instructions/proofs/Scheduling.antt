-- The code of SCHEDULE.
use Rattle.std.proofs.Common.{◌≡◌, ℕ, suc, ◌+◌, ◌-◌, false, true, List, [], ◌∷◌, ◌++◌, length, Option, Some, None, Ok, ℤ, refl, sym, ap, ◌∙◌, subst, arith, length-append}
use Rattle.ss_code_instructions.proofs.Common.{above, after, after_values, change, Code, core_at, count_code, CountedClass, deliver_with, did, entity_code, entity_value, Expression, expression_mode, fetched, filed_notice, fit, forget_to, Frame, get, height, Held, if_ok, Integer, leaf, look, MachineState, made_notice, Moved, next, number_of, onward, Operand, operand, or_in_cell, or_zero, outcome_then, Part, Place, place, Placed, rescheduled, RunState, schedule_code, schedule_new_code, settle, Site, slice_get, stay, Stays, Store, Taken, Target, time_value, ToAttribute, ToCount, ToVariable, Value, value, values, values_code, Variable, variable_code, When, when_code, Whole, with_cells, with_operand_value, with_values, write}
use Rattle.ss_meaning.specs.Places.{assigned_attribute, InAttribute, InCount, InVariable, Spot}
use Rattle.ss_meaning.specs.Statements.{schedule_new, schedule}
use Rattle.ss_code_instructions.specs.Instructions as i
use Rattle.ss_code_instructions.proofs.Steps.{HasAt, has_front, has_back, Comes, Reaches, here, at, arrive, join, join_known, follow}
use Rattle.ss_code_instructions.proofs.Parts.{onwards, step_leads, did_leads, at_the_height, Runs, same, done, onto, went, turned_then}
use Rattle.ss_code_instructions.proofs.Operands.{on, Tops, put_then, delivers, held, held_height, reads}
use Rattle.ss_code_instructions.proofs.Members.{top_cell}
use Rattle.ss_code_instructions.proofs.Forgetting.{forget_run}
use Rattle.ss_code_instructions.proofs.Assigning.{count_run}
use Rattle.ss_code_instructions.proofs.Attributes.{two_change}
use Rattle.ss_code_instructions.proofs.Changing.{by_order}
use Rattle.ss_code_instructions.proofs.Receiving.{Alike}
use Rattle.ss_code_instructions.proofs.Stacked.{block_takes, two_off}
use Rattle.ss_code_instructions.proofs.Leaves.{stay_low, stay_later}
use Rattle.ss_code_instructions.proofs.Naming.{variable_join}
use Rattle.ss_code_instructions.proofs.Quiet.{notice_quietly}
use Rattle.ss_code_instructions.proofs.Timing.{given_join, entity_join}

-- a reference that stayed in a cell, and above it a time and a notice, which stays as well
both_stay : (t : Site) (r : Expression) (v x time : Value) (s u : Store) (cells : List Value) (go : Value → Value → List Value → Moved) → length cells ≡ height t → value r s ≡ Ok v → Alike s u → with_values (stay (operand t r)) (Stays (suc (height (after t r)))) u (x ∷ time ∷ held (leaf r) v cells) go ≡ go v x (x ∷ time ∷ held (leaf r) v cells)
both_stay t r v x time s u cells go h q a =
    let cs : List Value = x ∷ time ∷ held (leaf r) v cells in
    by_order false (stay (operand t r)) (Stays (suc (height (after t r)))) u cs go (stay_low (operand t r) (Stays (suc (height (after t r)))))
    ∙ ap (λ o. fit o (λ y. with_operand_value (stay (operand t r)) u cs (λ z below. go z y below))) (top_cell (suc (height (after t r))) x (time ∷ held (leaf r) v cells) (ap suc (held_height t r v cells h)))
    ∙ stay_later t r v s u (x ∷ time ∷ []) cells (λ z below. go z x below) h q a

module _ (code : Code) (n : ℕ) where
  -- ## Steps that both forms share

  -- a notice is filed by two operands
  files : (u : Site) (class : ℕ) (x from : Operand) (y : Value) (time : ℤ) (q to : ℕ) (cells0 cells : List Value) (frames : List Frame) (w : RunState) → ((go : Value → Value → List Value → Moved) → with_values x from w.store cells0 go ≡ go y (Whole time) cells) → q + 1 ≡ to → slice_get code.places q ≡ Some (place u (i.FileNotice class x from)) → Reaches code (at q cells0 frames w) (arrive (λ (o : Unit {0}) w'. at to cells frames w') frames (change u.line (filed_notice class y time) w))
  files u class x from y time q to cells0 cells frames w takes e has =
      subst (λ j. Reaches code (at q cells0 frames w) (arrive (λ (o : Unit {0}) w'. at j cells frames w') frames (change u.line (filed_notice class y time) w))) e
      (two_change code n (place u (i.FileNotice class x from)) x from (λ v z s. if_ok (number_of z) (λ t. filed_notice class v t s)) y (Whole time) q cells0 cells frames w refl refl takes has)

  -- what stayed of a reference is forgotten
  forget_held : (t : Site) (r : Expression) (v : Value) (q : ℕ) (cells : List Value) (frames : List Frame) (w : RunState) → HasAt code.places q (forget_to t (after t r)) → Reaches code (at q (held (leaf r) v cells) frames w) (Comes (at (q + length (forget_to t (after t r))) cells frames w))
  forget_held t r v q cells frames w has = by (leaf r) has
    where
      site : Option Operand → Site
      site o = with_cells t (or_in_cell o (expression_mode t.scope r) t.cells)

      none_more : (h : ℕ) → h - h ≡ 0
      none_more h = omega arith

      one_more : (h : ℕ) → suc h - h ≡ 1
      one_more h = omega arith

      by : (o : Option Operand) → HasAt code.places q (forget_to t (site o)) → Reaches code (at q (held o v cells) frames w) (Comes (at (q + length (forget_to t (site o))) cells frames w))
      by (Some x) has = forget_run code n (site (Some x)) (height (site (Some x)) - height t) q [] cells frames w (none_more (height t)) has
      by None has = forget_run code n (site None) (height (site None) - height t) q (v ∷ []) cells frames w (one_more (height t)) has

  -- ## SCHEDULE THE

  pub schedule_runs : (t : Site) (class : ℕ) (e : Expression) (given : List Expression) (when : When) → Runs code n (height t) same (schedule_code t class e given when) done (schedule t.line class e given when)
  schedule_runs t class e given when = record {
    by = λ p cells frames w high has in_.
        let t1 : Site = after t e in
        let u : Site = after_values t1 given in
        let ce : List Placed = entity_code t true class e in
        let cv : List Placed = values_code t1 given in
        let cw : List Placed = when_code u when in
        let last : Placed = place (above u Integer) (i.Reschedule class (operand t e) (height t1) (length given)) in
        let all : List Placed = ce ++ (cv ++ (cw ++ last ∷ [])) in
        let end : p + length ce + length cv + length cw + 1 ≡ p + length all = omega (arith, length-append ce (cv ++ (cw ++ last ∷ [])), length-append cv (cw ++ last ∷ []), length-append cw (last ∷ [])) in
        let ends : Unit {0} → RunState → MachineState = λ o w'. at (p + length all) cells frames w' in
        entity_join code n t class e (cv ++ (cw ++ last ∷ [])) ends (λ x w. outcome_then (look t.line (values given) w) (λ vs w. outcome_then (look t.line (time_value when) w) (λ time. change t.line (rescheduled class x vs time)))) p cells frames w high has in_ (λ x found has1.
        given_join code n t1 given when (last ∷ []) ends (λ vs time. change t.line (rescheduled class x vs time)) (p + length ce) (held (leaf e) x cells) frames w (held_height t e x cells high) has1 in_ (λ vs time many has2.
        let q : ℕ = p + length ce + length cv + length cw in
        let c1 : List Value = held (leaf e) x cells in
        let c2 : List Value = Whole time ∷ onto vs c1 in
        step_leads code last (core_at q c2 frames w.store) w _ _ has2.0 refl
        (block_takes vs c1 (length given) (height t1) (λ us over. with_operand_value (operand t e) w.store over (λ y below. did t.line (rescheduled class y us time w.store) (λ s. onward below (core_at q c2 frames w.store) s))) many (held_height t e x cells high)
        ∙ reads t e x w.store cells (λ y below. did t.line (rescheduled class y vs time w.store) (λ s. onward below (core_at q c2 frames w.store) s)) high found)
        (did_leads code t.line (rescheduled class x vs time w.store) (λ s. onward cells (core_at q c2 frames w.store) s) w ends frames settle (λ s known.
        onwards (subst (λ j. Reaches code (at (q + 1) cells frames (record w { store = s })) (Comes (at j cells frames (record w { store = s })))) end here)))));
  }

  -- ## SCHEDULE A: after the values and the time, for each place

  module _ (t1 : Site) (class : ℕ) (given : List Expression) where
    -- what makes the notice
    abbrev making : Target → Placed
    making to = place (above (after_values t1 given) Integer) (i.MakeNotice class (height t1) (length given) to)

    makes : (vs : List Value) (time : ℤ) (to : Target) (q : ℕ) (cells : List Value) (frames : List Frame) (w : RunState) → length given ≡ length vs → length cells ≡ height t1 → Tops to (suc (height t1)) → slice_get code.places q ≡ Some (making to) → Reaches code (at q (Whole time ∷ onto vs cells) frames w) (arrive (λ x w'. at (q + 1) (on to x (Whole time ∷ cells)) frames w') frames (outcome_then (get t1.line (made_notice class vs time) w) (put_then t1.line to)))
    makes vs time to q cells frames w many high tops has =
        let c2 : List Value = Whole time ∷ onto vs cells in
        step_leads code (making to) (core_at q c2 frames w.store) w _ _ has refl
        (block_takes vs cells (length given) (height t1) (λ us below. deliver_with t1.line to (made_notice class us time w.store) (Whole time ∷ below) (core_at q c2 frames w.store)) many high)
        (delivers code t1.line to (made_notice class vs time w.store) q (Whole time ∷ cells) c2 frames w (subst (Tops to) (sym (ap suc high)) tops))

    -- into a new cell
    made_above : (vs : List Value) (time : ℤ) (q : ℕ) (cells : List Value) (frames : List Frame) (w : RunState) → length given ≡ length vs → length cells ≡ height t1 → slice_get code.places q ≡ Some (making (next (above t1 Integer))) → Reaches code (at q (Whole time ∷ onto vs cells) frames w) (arrive (λ x w'. at (q + 1) (x ∷ Whole time ∷ cells) frames w') frames (get t1.line (made_notice class vs time) w))
    made_above vs time q cells frames w many high has =
        subst (λ o. Reaches code (at q (Whole time ∷ onto vs cells) frames w) (arrive (λ x w'. at (q + 1) (x ∷ Whole time ∷ cells) frames w') frames o)) (went (get t1.line (made_notice class vs time) w))
        (makes vs time (next (above t1 Integer)) q cells frames w many high refl has)

    -- what the meaning does from there on
    abbrev noticed : Spot → List Value → ℤ → Part (Unit {0})
    noticed p vs time w = outcome_then (get t1.line (made_notice class vs time) w) (λ x w. outcome_then (write t1.line p x w) (λ _. change t1.line (filed_notice class x time)))

    -- a variable
    in_variable : (x : Variable) (vs : List Value) (time : ℤ) (q to : ℕ) (cells : List Value) (frames : List Frame) (w : RunState) → length given ≡ length vs → length cells ≡ height t1 → HasAt code.places q (variable_code (above t1 Integer) x (λ to. making to ∷ []) ++ place (above t1 Integer) (i.FileNotice class (Held x) (Taken (height t1))) ∷ []) → q + length (variable_code (above t1 Integer) x (λ to. making to ∷ [])) + 1 ≡ to → Reaches code (at q (Whole time ∷ onto vs cells) frames w) (arrive (λ (o : Unit {0}) w'. at to cells frames w') frames (noticed (InVariable x) vs time w))
    in_variable x vs time q to cells frames w many high has e =
        let u : Site = above t1 Integer in
        let filing : Placed = place u (i.FileNotice class (Held x) (Taken (height t1))) in
        let cv : List Placed = variable_code u x (λ to. making to ∷ []) in
        variable_join code u x (λ to. making to ∷ []) (filing ∷ []) (get t1.line (made_notice class vs time)) (λ (o : Unit {0}) w'. at to cells frames w') (λ y. change t1.line (filed_notice class y time)) q (Whole time ∷ onto vs cells) (Whole time ∷ cells) frames w (ap suc high) has
        (λ to tops has'. makes vs time to q cells frames w many high tops has'.0)
        (λ y w' holds_ has'.
        files u class (Held x) (Taken (height t1)) y time (q + length cv) to (Whole time ∷ cells) cells frames w' (λ go.
        at_the_height (height t1) cells (go (or_zero (fetched x w'.store)) (Whole time) cells) high
        ∙ ap (λ o. go (or_zero o) (Whole time) cells) holds_) e has'.0)

    -- N. of a permanent class
    in_count : (c : CountedClass) (vs : List Value) (time : ℤ) (q to : ℕ) (cells : List Value) (frames : List Frame) (w : RunState) → length given ≡ length vs → length cells ≡ height t1 → HasAt code.places q (making (next (above t1 Integer)) ∷ (count_code (above (above t1 Integer) Integer) c (Stays (suc (height t1))) ++ place (above (above t1 Integer) Integer) (i.FileNotice class (Taken (suc (height t1))) (Taken (height t1))) ∷ [])) → q + 4 ≡ to → Reaches code (at q (Whole time ∷ onto vs cells) frames w) (arrive (λ (o : Unit {0}) w'. at to cells frames w') frames (noticed (InCount c) vs time w))
    in_count c vs time q to cells frames w many high has e =
        let v : Site = above (above t1 Integer) Integer in
        let counting : List Placed = count_code v c (Stays (suc (height t1))) in
        let filing : Placed = place v (i.FileNotice class (Taken (suc (height t1))) (Taken (height t1))) in
        let ends : Unit {0} → RunState → MachineState = λ o w'. at to cells frames w' in
        let last : q + 1 + 2 + 1 ≡ to = omega (arith, e) in
        join (at q (Whole time ∷ onto vs cells) frames w) (λ x w'. at (q + 1) (x ∷ Whole time ∷ cells) frames w') ends frames (get t1.line (made_notice class vs time) w) (λ x w. outcome_then (write t1.line (InCount c) x w) (λ _. change t1.line (filed_notice class x time)))
        (made_above vs time q cells frames w many high has.0)
        (λ x w1 k.
        let cs : List Value = x ∷ Whole time ∷ cells in
        join (at (q + 1) cs frames w1) (λ o w'. at (q + 1 + 2) cs frames w') ends frames (write t1.line (InCount c) x w1) (λ _. change t1.line (filed_notice class x time))
        (count_run code v c (Stays (suc (height t1))) x (q + 1) cs cs frames w1 (λ go. ap (λ o. fit o (λ y. go y cs)) (top_cell (suc (height t1)) x (Whole time ∷ cells) (ap suc high))) (has_front code.places (q + 1) counting (filing ∷ []) has.1))
        (λ o w2 k'.
        files v class (Taken (suc (height t1))) (Taken (height t1)) x time (q + 1 + 2) to cs cells frames w2 (λ go. two_off (height t1) x (Whole time) w2.store cells go high) last (has_back code.places (q + 1) counting (filing ∷ []) has.1).0))

  -- an attribute, whose reference lies below the values
  module _ (t : Site) (r : Expression) (class : ℕ) (given : List Expression) where
    abbrev t1 : Site
    t1 = after t r

    -- the notice and its place; its filing; and what stayed is forgotten
    abbrev attribute_code : (field_class field : ℕ) → List Placed
    attribute_code c field =
        making t1 class given (next (above t1 Integer)) ∷ (place (above (above t1 Integer) Integer) (i.SetAttribute c field (stay (operand t r)) (Stays (suc (height t1))))
        ∷ (place (above (above t1 Integer) Integer) (i.FileNotice class (Taken (suc (height t1))) (Taken (height t1))) ∷ forget_to t t1))

    in_attribute : (c field : ℕ) (v : Value) (vs : List Value) (time : ℤ) (q to : ℕ) (cells : List Value) (frames : List Frame) (w : RunState) → length given ≡ length vs → length cells ≡ height t → value r w.store ≡ Ok v → HasAt code.places q (attribute_code c field) → q + length (attribute_code c field) ≡ to → Reaches code (at q (Whole time ∷ onto vs (held (leaf r) v cells)) frames w) (arrive (λ (o : Unit {0}) w'. at to cells frames w') frames (noticed t1 class given (InAttribute c field v) vs time w))
    in_attribute c field v vs time q to cells frames w many high found has e =
        let l1 : Site = above (above t1 Integer) Integer in
        let c1 : List Value = held (leaf r) v cells in
        let high1 : length c1 ≡ height t1 = held_height t r v cells high in
        let setting : Placed = place l1 (i.SetAttribute c field (stay (operand t r)) (Stays (suc (height t1)))) in
        let ends : Unit {0} → RunState → MachineState = λ o w'. at to cells frames w' in
        let long : length (attribute_code c field) ≡ suc (suc (suc (length (forget_to t t1)))) = refl in
        let last : q + 1 + 1 + 1 + length (forget_to t t1) ≡ to = omega (arith, e, long) in
        join_known (at q (Whole time ∷ onto vs c1) frames w) (λ x w'. at (q + 1) (x ∷ Whole time ∷ c1) frames w') ends frames (get t.line (made_notice class vs time) w) (λ x w. outcome_then (write t.line (InAttribute c field v) x w) (λ _. change t.line (filed_notice class x time)))
        (made_above t1 class given vs time q c1 frames w many high1 has.0)
        (λ x w1 gave k.
        let cs : List Value = x ∷ Whole time ∷ c1 in
        let alike_ : Alike w.store w1.store = notice_quietly t.line class vs time w w1 x gave in
        join (at (q + 1) cs frames w1) (λ o w'. at (q + 1 + 1) cs frames w') ends frames (write t.line (InAttribute c field v) x w1) (λ _. change t.line (filed_notice class x time))
        (two_change code n setting (stay (operand t r)) (Stays (suc (height t1))) (assigned_attribute c field) v x (q + 1) cs cs frames w1 refl refl (λ go. both_stay t r v x (Whole time) w.store w1.store cells go high found alike_) has.1.0)
        (λ o w2 k'.
        follow (at (q + 1 + 1) cs frames w2) (λ (o : Unit {0}) w'. at (q + 1 + 1 + 1) c1 frames w') ends frames (change t.line (filed_notice class x time) w2)
        (files l1 class (Taken (suc (height t1))) (Taken (height t1)) x time (q + 1 + 1) (q + 1 + 1 + 1) cs c1 frames w2 (λ go. two_off (height t1) x (Whole time) w2.store c1 go high1) refl has.1.1.0)
        (λ o w3 k''.
        subst (λ j. Reaches code (at (q + 1 + 1 + 1) c1 frames w3) (Comes (at j cells frames w3))) last
        (forget_held t r v (q + 1 + 1 + 1) cells frames w3 has.1.1.1))))

  -- ## SCHEDULE A

  new_in_variable : (t : Site) (class : ℕ) (x : Variable) (given : List Expression) (when : When) → Runs code n (height t) same (schedule_new_code t class (ToVariable x) given when) done (schedule_new t.line class (ToVariable x) given when)
  new_in_variable t class x given when = record {
    by = λ p cells frames w high has in_.
        let cv : List Placed = values_code t given in
        let cw : List Placed = when_code (after_values t given) when in
        let cn : List Placed = variable_code (above t Integer) x (λ to. making t class given to ∷ []) in
        let filing : Placed = place (above t Integer) (i.FileNotice class (Held x) (Taken (height t))) in
        let end : p + length cv + length cw + length cn + 1 ≡ p + length (cv ++ (cw ++ (cn ++ filing ∷ []))) = omega (arith, length-append cv (cw ++ (cn ++ filing ∷ [])), length-append cw (cn ++ filing ∷ []), length-append cn (filing ∷ [])) in
        given_join code n t given when (cn ++ filing ∷ []) (λ (o : Unit {0}) w'. at (p + length (cv ++ (cw ++ (cn ++ filing ∷ [])))) cells frames w') (noticed t class given (InVariable x)) p cells frames w high has in_ (λ vs time many has'.
        in_variable t class given x vs time (p + length cv + length cw) (p + length (cv ++ (cw ++ (cn ++ filing ∷ [])))) cells frames w many high has' end);
  }

  new_in_count : (t : Site) (class : ℕ) (c : CountedClass) (given : List Expression) (when : When) → Runs code n (height t) same (schedule_new_code t class (ToCount c) given when) done (schedule_new t.line class (ToCount c) given when)
  new_in_count t class c given when = record {
    by = λ p cells frames w high has in_.
        let v : Site = above (above t Integer) Integer in
        let cv : List Placed = values_code t given in
        let cw : List Placed = when_code (after_values t given) when in
        let rest : List Placed = making t class given (next (above t Integer)) ∷ (count_code v c (Stays (suc (height t))) ++ place v (i.FileNotice class (Taken (suc (height t))) (Taken (height t))) ∷ []) in
        let four : length rest ≡ 4 = refl in
        let end : p + length cv + length cw + 4 ≡ p + length (cv ++ (cw ++ rest)) = omega (arith, four, length-append cv (cw ++ rest), length-append cw rest) in
        given_join code n t given when rest (λ (o : Unit {0}) w'. at (p + length (cv ++ (cw ++ rest))) cells frames w') (noticed t class given (InCount c)) p cells frames w high has in_ (λ vs time many has'.
        in_count t class given c vs time (p + length cv + length cw) (p + length (cv ++ (cw ++ rest))) cells frames w many high has' end);
  }

  new_in_attribute : (t : Site) (class c field : ℕ) (r : Expression) (given : List Expression) (when : When) → Runs code n (height t) same (schedule_new_code t class (ToAttribute c field r) given when) done (schedule_new t.line class (ToAttribute c field r) given when)
  new_in_attribute t class c field r given when = record {
    by = λ p cells frames w high has in_.
        let t1 : Site = after t r in
        let ce : List Placed = entity_code t true c r in
        let cv : List Placed = values_code t1 given in
        let cw : List Placed = when_code (after_values t1 given) when in
        let rest : List Placed = attribute_code t r class given c field in
        let all : List Placed = ce ++ (cv ++ (cw ++ rest)) in
        let end : p + length ce + length cv + length cw + length rest ≡ p + length all = omega (arith, length-append ce (cv ++ (cw ++ rest)), length-append cv (cw ++ rest), length-append cw rest) in
        let ends : Unit {0} → RunState → MachineState = λ o w'. at (p + length all) cells frames w' in
        let later : Spot → Part (Unit {0}) = λ q w. outcome_then (look t.line (values given) w) (λ vs w. outcome_then (look t.line (time_value when) w) (noticed t1 class given q vs)) in
        subst (λ o. Reaches code (at p cells frames w) (arrive ends frames o)) (turned_then t.line (entity_value c r w.store) (InAttribute c field) later w)
        (entity_join code n t c r (cv ++ (cw ++ rest)) ends (λ v. later (InAttribute c field v)) p cells frames w high has in_ (λ v found has1.
        given_join code n t1 given when rest ends (noticed t1 class given (InAttribute c field v)) (p + length ce) (held (leaf r) v cells) frames w (held_height t r v cells high) has1 in_ (λ vs time many has2.
        in_attribute t r class given c field v vs time (p + length ce + length cv + length cw) (p + length all) cells frames w many high found has2 end)));
  }

  pub schedule_new_runs : (t : Site) (class : ℕ) (p : Place) (given : List Expression) (when : When) → Runs code n (height t) same (schedule_new_code t class p given when) done (schedule_new t.line class p given when)
  schedule_new_runs t class (ToVariable x) given when = new_in_variable t class x given when
  schedule_new_runs t class (ToAttribute c field r) given when = new_in_attribute t class c field r given when
  schedule_new_runs t class (ToCount c) given when = new_in_count t class c given when
