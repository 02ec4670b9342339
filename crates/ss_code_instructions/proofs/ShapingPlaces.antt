-- The code of assignments has shape, and so has that of what gives a value to a place.
use Rattle.std.proofs.Common.{◌≡◌, ℕ, ◌+◌, Bool, true, false, List, [], ◌∷◌, ◌++◌, length, Some, refl, sym, ap, ◌∙◌, subst}
use Rattle.std.specs.Prelude.{Contains, if◌then◌else◌}
use Rattle.std.specs.List.{AllByRecursion as Every, AllZip}
use Rattle.ss_code_instructions.proofs.Common.{AreFoundAt, assignment, change_code, Clock, Code, count_code, CountedClass, Expression, expression_code, give_code, gives_code, Global, InputTarget, Integer, is_watched, IsAccepting, IsGivingMode, IsSuited, let_code, Line, Local, Mode, must_look, next, OfVariable, operand, operand_cells, operator_of, or_integer, Place, place, place_mode, Program, reads_code, results_cells, same_subject, Sign, Site, Statistic, Subject, to_place_code, ToAttribute, ToCount, ToVariable, Variable, variable_code, watch, with_operand}
use Rattle.ss_code_instructions.specs.Instructions.{Operand, Placed, Taken, Target as To}
use Rattle.ss_program.specs.WellTyped.{CanTakeMode, HasMode, IsWellTyped, mode_at, TypedScope, IsTypedSubject, IsTypedCount}
use Rattle.ss_meaning.proofs.Kept.{same_subject_is}
use Rattle.ss_meaning.proofs.Entities.{count_said}
use Rattle.ss_code_instructions.specs.Instructions as i
use Rattle.ss_code_instructions.proofs.Operands.{not_above}
use Rattle.ss_code_instructions.proofs.Suiting.{Shapes, seq, none, one, put_before, lead}
use Rattle.ss_code_instructions.proofs.Shaping.{class_known, here, view, site, Onward, same_mode_at, cell_gives, gives, second_first, both_gives, over_cell, turned_gives, expression_shapes, operand_shapes, operand_then, entity_shapes}

-- ## Variables that statistics watch

watched_good : (p : Program) (ss : List Statistic) (subject : Subject) → Every (λ (s : Statistic). IsTypedSubject p s.subject) ss → watch ss subject ≡ true → IsTypedSubject p subject
watched_good p [] subject h q = absurd cc
watched_good p (s ∷ ss) subject h q = by (same_subject s.subject subject) refl q (watched_good p ss subject h.1)
  where
    by : (k : Bool) → same_subject s.subject subject ≡ k → (if k then true else watch ss subject) ≡ true → (watch ss subject ≡ true → IsTypedSubject p subject) → IsTypedSubject p subject
    by true e g later = subst (IsTypedSubject p) (same_subject_is s.subject subject e) h.0
    by false e g later = later g

-- a variable that a statistic watches is a number
watched_number : (p : Program) → IsWellTyped p → (ls : List Mode) (x : Variable) (m : Mode) → mode_at (record { program = p; locals = ls; is_main = true }) x ≡ Some m → is_watched p.statistics x ≡ true → m ≡ Integer
watched_number p typed ls (Global k) m h q =
    let good : IsTypedSubject p (OfVariable k) = watched_good p p.statistics (OfVariable k) typed.statistics q in
    let both : Some m ≡ Some Integer = sym h ∙ good.0 in
    cc
watched_number p typed ls (Local k) m h q = absurd cc

-- the mode that a place takes
place_so : (s : TypedScope) (x : Place) (m : Mode) → CanTakeMode s x m → place_mode s x ≡ m
place_so s (ToVariable x) m h = ap or_integer h.0
place_so s (ToAttribute class field r) m h = ap or_integer h.0
place_so s (ToCount c) m h = sym h.0

module _ (p : Program) (typed : IsWellTyped p) (code : Code) (ls : List Mode) (b : Bool) where
  -- the section's variables, and how Shape sees them; sites in the section; and places with such cells
  abbrev section_scope : TypedScope
  section_scope = here p code ls b

  abbrev shape_scope : TypedScope
  shape_scope = view p code ls b

  abbrev at_site : Line → List Mode → Site
  at_site l ms = site p code ls b l ms

  abbrev Comes : List Mode → ℕ → Type 0
  Comes ms = Onward p code ls b ms

  -- ## Variables

  -- a value goes to a variable, from code that may begin with other cells
  pub variable_shapes : (l : Line) (x : Variable) (m : Mode) (ms : List Mode) (start : ℕ → Type 0) (source : To → List Placed) → mode_at shape_scope x ≡ Some m → ((to : To) (rest : List Mode) → IsAccepting shape_scope to m ms rest → Shapes p code start (source to) (Comes rest)) → Shapes p code start (variable_code (at_site l ms) x source) (Comes ms)
  variable_shapes l x m ms start source h r = by (is_watched p.statistics x) refl
    where
      kept : m ≡ Integer → Shapes p code start (source (i.Onto (length ms)) ++ place (at_site l (Integer ∷ ms)) (i.Keep (i.Taken (length ms)) x) ∷ []) (Comes ms)
      kept e =
          seq (r (i.Onto (length ms)) (Integer ∷ ms) (ap (λ n. n ∷ ms) (sym e), refl))
          (one p code (Comes ms) (place (at_site l (Integer ∷ ms)) (i.Keep (i.Taken (length ms)) x)) (λ q end. (h ∙ ap Some e, (ms, (refl, refl), end))))

      by : (k : Bool) → is_watched p.statistics x ≡ k → Shapes p code start (if k then source (i.Onto (length ms)) ++ place (at_site l (Integer ∷ ms)) (i.Keep (i.Taken (length ms)) x) ∷ [] else source (i.Into x)) (Comes ms)
      by true e = kept (watched_number p typed ls x m h e)
      by false e = r (i.Into x) ms ((h, e), refl)

  -- a variable takes an operand
  assigns : (q : ℕ) (x : Variable) (m : Mode) (from : Operand) (ms rest : List Mode) → mode_at shape_scope x ≡ Some m → IsGivingMode shape_scope from m ms rest → AreFoundAt p code (q + 1) ls rest → IsSuited p code q ls ms (if is_watched p.statistics x then i.Keep from x else i.Move from (i.Into x))
  assigns q x m from ms rest h g end = by (is_watched p.statistics x) refl
    where
      by : (k : Bool) → is_watched p.statistics x ≡ k → IsSuited p code q ls ms (if k then i.Keep from x else i.Move from (i.Into x))
      by true e =
          let number : m ≡ Integer = watched_number p typed ls x m h e in
          (h ∙ ap Some number, (rest, subst (λ n. IsGivingMode shape_scope from n ms rest) number g, end))
      by false e = (m, (rest, g, (rest, ((h, e), refl), end)))

  -- N. of a permanent class takes an operand
  pub count_shapes : (l : Line) (c : CountedClass) (from : Operand) (ms rest : List Mode) → Contains p.counts c → IsGivingMode shape_scope from Integer ms rest → Shapes p code (Comes ms) (count_code (at_site l ms) c from) (Comes rest)
  count_shapes l c from ms rest known g =
      let good : IsTypedCount p c = count_said p typed ls c known in
      let take : Placed = place (at_site l ms) (assignment (at_site l ms) (Global c.variable) from) in
      lead p code (λ q. AreFoundAt p code q ls ms × Comes ms (q + 1)) (Comes ms) (Comes rest) (place (at_site l ms) (i.LookCount c.class) ∷ (take ∷ [])) (λ q at end. at.0)
      (put_before p code (Comes ms) (Comes rest) (place (at_site l ms) (i.LookCount c.class)) (take ∷ []) (λ q at end. (good.0, at))
      (one p code (Comes rest) take (λ q end. assigns q (Global c.variable) Integer from ms rest good.1 g end)))

  pub plain_mode : (x : Variable) (m : Mode) → CanTakeMode section_scope (ToVariable x) m → mode_at shape_scope x ≡ Some m
  plain_mode x m h = same_mode_at p code ls b x ∙ h.0

  -- ## LET, ADD and SUBTRACT

  pub let_shapes : (l : Line) (x : Place) (e : Expression) (m : Mode) (ms : List Mode) → CanTakeMode section_scope x m → HasMode section_scope e m → Shapes p code (Comes ms) (let_code (at_site l ms) x e) (Comes ms)
  let_shapes l (ToVariable x) e m ms h g = by (is_watched p.statistics x) refl
    where
      kept : m ≡ Integer → Shapes p code (Comes ms) (with_operand (at_site l ms) e (λ y. i.Keep y x)) (Comes ms)
      kept number =
          let whole : HasMode section_scope e Integer = subst (HasMode section_scope e) number g in
          operand_then p code ls b (Comes ms) l e Integer ms (λ y. i.Keep y x) whole (λ q end. (plain_mode x m h ∙ ap Some number, (ms, gives p code ls b l e Integer ms whole, end)))

      by : (k : Bool) → is_watched p.statistics x ≡ k → Shapes p code (Comes ms) (if k then with_operand (at_site l ms) e (λ y. i.Keep y x) else expression_code (at_site l ms) (i.Into x) e) (Comes ms)
      by true q = kept (watched_number p typed ls x m (plain_mode x m h) q)
      by false q = expression_shapes p code ls b l e m ms ms (i.Into x) g ((plain_mode x m h, q), refl)
  let_shapes l (ToAttribute class field r) e m ms h g =
      let mid : List Mode = operand_cells (at_site l ms) r in
      seq (entity_shapes p code ls b l (must_look class r e) class r ms (class_known p class field m h.0) h.1)
      (operand_then p code ls b (Comes ms) l e m mid (i.SetAttribute class field (operand (at_site l ms) r)) g (λ q end. (m, h.0, (ms, both_gives p code ls b l r e Integer m ms h.1 g, end))))
  let_shapes l (ToCount c) e m ms h g =
      let number : HasMode section_scope e Integer = subst (HasMode section_scope e) h.0 g in
      seq (operand_shapes p code ls b l e Integer ms number) (count_shapes l c (operand (at_site l ms) e) (operand_cells (at_site l ms) e) ms h.1 (gives p code ls b l e Integer ms number))

  pub change_shapes : (l : Line) (sign : Sign) (x : Place) (e : Expression) (ms : List Mode) → CanTakeMode section_scope x Integer → HasMode section_scope e Integer → Shapes p code (Comes ms) (change_code (at_site l ms) sign x e) (Comes ms)
  change_shapes l sign (ToVariable x) e ms h g =
      variable_shapes l x Integer ms (Comes ms) (λ to. with_operand (at_site l ms) e (λ y. i.Calculate (operator_of sign) (i.Held x) y to)) (plain_mode x Integer h) (λ to rest a.
      operand_then p code ls b (Comes rest) l e Integer ms (λ y. i.Calculate (operator_of sign) (i.Held x) y to) g (λ q end.
      (ms, (ms, gives p code ls b l e Integer ms g, (plain_mode x Integer h, refl)), (rest, a, end))))
  change_shapes l sign (ToAttribute class field r) e ms h g =
      let mid : List Mode = operand_cells (at_site l ms) e in
      seq (operand_shapes p code ls b l e Integer ms g)
      (operand_then p code ls b (Comes ms) l r Integer mid (λ x. i.ChangeAttribute sign class field x (operand (at_site l ms) e)) h.1 (λ q end. (h.0, (ms, turned_gives p code ls b l e r Integer Integer ms g h.1, end))))
  change_shapes l sign (ToCount c) e ms h g =
      let good : IsTypedCount p c = count_said p typed ls c h.1 in
      seq
      (operand_then p code ls b (Comes (Integer ∷ ms)) l e Integer ms (λ y. i.Calculate (operator_of sign) (i.Held (Global c.variable)) y (next (at_site l ms))) g (λ q end.
      (ms, (ms, gives p code ls b l e Integer ms g, (good.1, refl)), (Integer ∷ ms, (refl, refl), end))))
      (count_shapes l c (i.Taken (length ms)) (Integer ∷ ms) ms h.1 (refl, refl))

  -- ## A place that takes what some code gives

  pub to_place_shapes : (l : Line) (x : Place) (m : Mode) (ms : List Mode) (source : Site → To → List Placed) → CanTakeMode section_scope x m → ((cells rest : List Mode) (to : To) → IsAccepting shape_scope to m cells rest → Shapes p code (Comes cells) (source (at_site l cells) to) (Comes rest)) → Shapes p code (Comes ms) (to_place_code (at_site l ms) x m source) (Comes ms)
  to_place_shapes l (ToVariable x) m ms source h r = variable_shapes l x m ms (Comes ms) (source (at_site l ms)) (plain_mode x m h) (λ to rest a. r ms rest to a)
  to_place_shapes l (ToAttribute class field e) m ms source h r =
      let mid : List Mode = operand_cells (at_site l ms) e in
      seq (entity_shapes p code ls b l true class e ms (class_known p class field m h.0) h.1)
      (seq (r mid (m ∷ mid) (next (at_site l mid)) (refl, refl))
      (one p code (Comes ms) (place (at_site l (m ∷ mid)) (i.SetAttribute class field (operand (at_site l ms) e) (i.Taken (length mid)))) (λ q end.
      (m, h.0, (ms, second_first p code ls b (operand (at_site l ms) e) (Taken (length mid)) Integer m (m ∷ mid) mid ms (not_above (at_site l ms) e Clock) (refl, refl) (gives p code ls b l e Integer ms h.1), end)))))
  to_place_shapes l (ToCount c) m ms source h r =
      seq (r ms (m ∷ ms) (next (at_site l ms)) (refl, refl)) (count_shapes l c (i.Taken (length ms)) (m ∷ ms) ms h.1 (cell_gives p code ls b m Integer ms h.0))

  pub reads_shapes : (l : Line) (xs : List InputTarget) (ms : List Mode) → Every (λ (x : InputTarget). CanTakeMode section_scope x.place x.mode) xs → Shapes p code (Comes ms) (reads_code (at_site l ms) xs) (Comes ms)
  reads_shapes l [] ms h = none p code (Comes ms)
  reads_shapes l (x ∷ xs) ms h =
      seq
      (to_place_shapes l x.place x.mode ms (λ u to. place u (i.Read x.mode to) ∷ []) h.0 (λ cells rest to a.
      one p code (Comes rest) (place (at_site l cells) (i.Read x.mode to)) (λ q end. (rest, a, end))))
      (reads_shapes l xs ms h.1)

  -- ## Places that take what a routine yields

  -- what a routine yields, the first on top
  pub results_so : (l : Line) (ps : List Place) (ws ms : List Mode) → AllZip (CanTakeMode section_scope) ps ws → results_cells (at_site l ms) ps ≡ ws ++ ms
  results_so l [] [] ms h = refl
  results_so l [] (w ∷ ws) ms h = absurd h
  results_so l (x ∷ ps) [] ms h = absurd h
  results_so l (x ∷ ps) (w ∷ ws) ms h =
      ap (λ m. m ∷ results_cells (at_site l ms) ps) (place_so section_scope x w h.0) ∙ ap (λ ns. w ∷ ns) (results_so l ps ws ms h.1)

  give_shapes : (l : Line) (x : Place) (m : Mode) (ms : List Mode) → CanTakeMode section_scope x m → Shapes p code (Comes (place_mode section_scope x ∷ ms)) (give_code (at_site l ms) x) (Comes ms)
  give_shapes l (ToVariable x) m ms h =
      let k : Mode = place_mode section_scope (ToVariable x) in
      one p code (Comes ms) (place (at_site l (k ∷ ms)) (assignment (at_site l ms) x (i.Taken (length ms)))) (λ q end.
      assigns q x m (i.Taken (length ms)) (k ∷ ms) ms (plain_mode x m h) (cell_gives p code ls b k m ms (place_so section_scope (ToVariable x) m h)) end)
  give_shapes l (ToAttribute class field r) m ms h =
      let k : Mode = place_mode section_scope (ToAttribute class field r) in
      operand_then p code ls b (Comes ms) l r Integer (k ∷ ms) (λ x. i.SetAttribute class field x (i.Taken (length ms))) h.1 (λ q end.
      (m, h.0, (ms, over_cell p code ls b l r k Integer m ms (place_so section_scope (ToAttribute class field r) m h) h.1, end)))
  give_shapes l (ToCount c) m ms h = count_shapes l c (i.Taken (length ms)) (Integer ∷ ms) ms h.1 (refl, refl)

  pub gives_shapes : (l : Line) (ps : List Place) (ws ms : List Mode) → AllZip (CanTakeMode section_scope) ps ws → Shapes p code (Comes (results_cells (at_site l ms) ps)) (gives_code (at_site l ms) ps) (Comes ms)
  gives_shapes l [] [] ms h = none p code (Comes ms)
  gives_shapes l [] (w ∷ ws) ms h = absurd h
  gives_shapes l (x ∷ ps) [] ms h = absurd h
  gives_shapes l (x ∷ ps) (w ∷ ws) ms h = seq (give_shapes l x w (results_cells (at_site l ms) ps) h.0) (gives_shapes l ps ws ms h.1)
