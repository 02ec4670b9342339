-- The code of statements on sets, entities, notices and statistics has shape, and that of the items of a PRINT.
use Rattle.std.proofs.Common.{◌≡◌, ℕ, suc, ◌-◌, Bool, true, List, [], ◌∷◌, ◌++◌, length, Option, Some, None, refl, sym, ap, ◌∙◌, subst, arith}
use Rattle.std.proofs.lemmas.Bool.{eq-eqb, le-leb}
use Rattle.std.specs.Prelude.{slice_get, take, map, ◌&&◌, is_some, Contains, if◌then◌else◌}
use Rattle.std.specs.List.{AllByRecursion as Every, AllZip}
use Rattle.ss_code_instructions.proofs.Common.{AreFitForItems, AreGivenModes, CanBePrinted, Code, CountedClass, Discipline, End, expression_of, HasOnTop, Integer, Is, IsAccepting, IsGivingMode, IsGivingPosition, IsOfKind, Item, Line, may_fault, Mean, Mode, modes_onto, needs_look, neighbour_of, Notice}
use Rattle.ss_code_instructions.specs.Instructions.{FilingPlace, Operand, Placed, Target as To}
use Rattle.ss_code_instructions.specs.Translation.{after_bearer, bearer, bearer_code, expression_mode, forget, forget_to, items_code, leaf, lines_of_items, next, operand, operand_cells, or_in_cell, place, Site, stay, values_cells, when_code, with_owner, filing_by, beside_code, filing_place, file_code, remove_code, remove_end_code, creates_code, place_code, place_cells, notice_code, schedule_new_code, schedule_code, restarts_code, item_code, item_cells, items_cells, item_kind}
use Rattle.ss_program.specs.Program.{AMean, AMeanOf, AValue, Expression, In, Now, Place, Position, PrintItem, Program, Restart, SetOwner, ToAttribute, ToCount, ToVariable, When, ByDiscipline, AsFirst, AsLast, BeforeMember, AfterMember, At as AtTime}
use Rattle.ss_program.specs.WellTyped.{CanTakeMode, HasMode, IsTypedOwner, IsWellTyped, TypedScope, kind_of_class, IsTypedPosition, IsTypedWhen, AreTypedGiven, IsTypedRestart, CanTakeItem, IsTypedPrint, HasSubject, IsAlone, IsOfEntities}
use Rattle.ss_base.specs.declared.layout.Discipline.TheVariants as disciplines
use Rattle.ss_meaning.specs.Values.{lines_with, takes, take_all}
use Rattle.ss_code_instructions.specs.Instructions as i
use Rattle.ss_code_instructions.proofs.Changing.{next_above}
use Rattle.ss_code_instructions.proofs.Stacked.{under_cell}
use Rattle.ss_code_instructions.proofs.Leaves.{stay_low}
use Rattle.ss_code_instructions.proofs.Suiting.{Shapes, seq, none, one}
use Rattle.ss_code_instructions.proofs.Shaping.{class_known, set_there, values_so, values_many, here, view, site, Onward, gives, stays, second_first, first_first, cell_shapes, at_own_mode, operand_then, values_shapes, entity_shapes, member_shapes, owner_then}
use Rattle.ss_code_instructions.proofs.ShapingPlaces.{variable_shapes, plain_mode, count_shapes, to_place_shapes}
use Rattle.ss_code_instructions.proofs.ShapingLoops.{forgets}

-- ## What is given to a notice, and what a PRINT shows

given_fit : (s : TypedScope) (class : ℕ) (given : List Expression) (g : AreTypedGiven s class given) → AreGivenModes s.program class (take (length given) g.1.0)
given_fit s class given g =
    (g.0, (g.1.0, g.1.1, ap (λ n. take n g.1.0) (sym (values_many s given (take (length given) g.1.0) g.1.2))))

-- the modes of the cells of items
abbrev pub shown_modes : TypedScope → List PrintItem → List Mode
shown_modes s [] = []
shown_modes s (AValue e ∷ xs) = expression_mode s e ∷ shown_modes s xs
shown_modes s (AMean j ∷ xs) = shown_modes s xs
shown_modes s (AMeanOf j e ∷ xs) = Integer ∷ shown_modes s xs

pub items_so : (s : TypedScope) (xs : List PrintItem) (ms : List Mode) → items_cells s xs ms ≡ modes_onto (shown_modes s xs) ms
items_so s [] ms = refl
items_so s (AValue e ∷ xs) ms = items_so s xs (expression_mode s e ∷ ms)
items_so s (AMean j ∷ xs) ms = items_so s xs ms
items_so s (AMeanOf j e ∷ xs) ms = items_so s xs (Integer ∷ ms)

-- an item shows what is there
abbrev pub GoodItem : TypedScope → PrintItem → Type 0
GoodItem s (AValue e) = (m : Mode) × HasMode s e m
GoodItem s (AMean j) = HasSubject s.program IsAlone j
GoodItem s (AMeanOf j e) = HasSubject s.program IsOfEntities j × HasMode s e Integer

pub items_good : (s : TypedScope) (fields : _) (xs : List PrintItem) → AllZip (CanTakeItem s) fields xs → Every (GoodItem s) xs
items_good s [] [] h = tt
items_good s [] (x ∷ xs) h = absurd h
items_good s (f ∷ fields) [] h = absurd h
items_good s (f ∷ fields) (AValue e ∷ xs) h = (h.0.0, items_good s fields xs h.1)
items_good s (f ∷ fields) (AMean j ∷ xs) h = (h.0.0, items_good s fields xs h.1)
items_good s (f ∷ fields) (AMeanOf j e ∷ xs) h = ((h.0.0, h.0.1), items_good s fields xs h.1)

pub items_fit : (s : TypedScope) (xs : List PrintItem) → Every (GoodItem s) xs → AreFitForItems s.program (map item_kind xs) (shown_modes s xs)
items_fit s [] h = tt
items_fit s (AValue e ∷ xs) h = items_fit s xs h.1
items_fit s (AMean j ∷ xs) h = (h.0, items_fit s xs h.1)
items_fit s (AMeanOf j e ∷ xs) h = (refl, h.0.0, items_fit s xs h.1)

-- the fields take whatever the items show
items_take : (s : TypedScope) (fields : _) (xs : List PrintItem) (shown : List Item) → AllZip (CanTakeItem s) fields xs → AllZip IsOfKind (map item_kind xs) shown → take_all fields shown ≡ true
items_take s [] [] [] h k = refl
items_take s [] [] (y ∷ shown) h k = absurd k
items_take s [] (x ∷ xs) shown h k = absurd h
items_take s (f ∷ fields) [] shown h k = absurd h
items_take s (f ∷ fields) (x ∷ xs) [] h k = absurd k
items_take s (f ∷ fields) (x ∷ xs) (y ∷ shown) h k = ap (λ b. b && take_all fields shown) (one x y h.0 k.0) ∙ items_take s fields xs shown h.1 k.1
  where
    one : (x : PrintItem) (y : Item) → CanTakeItem s f x → IsOfKind (item_kind x) y → takes f y ≡ true
    one (AValue e) (Is v) h k = eq-eqb f.decimals 0 h.1
    one (AValue e) (Mean sum number) h k = absurd k
    one (AMean j) (Is v) h k = absurd k
    one (AMean j) (Mean sum number) h k = le-leb f.decimals 9 h.1
    one (AMeanOf j e) (Is v) h k = absurd k
    one (AMeanOf j e) (Mean sum number) h k = le-leb f.decimals 9 h.2

pub fields_take : (s : TypedScope) (xs : List PrintItem) (pictures : List (List ℕ)) → IsTypedPrint s xs pictures → CanBePrinted (lines_of_items xs pictures)
fields_take s xs pictures g = λ shown k. ap (λ b. is_some (if b then Some (lines_with pictures shown) else None)) (items_take s _ xs shown g k)

module _ (p : Program) (typed : IsWellTyped p) (code : Code) (ls : List Mode) (b : Bool) where
  -- the section's variables, and how Shape sees them; sites in the section; and places with such cells
  abbrev section_scope : TypedScope
  section_scope = here p code ls b

  abbrev shape_scope : TypedScope
  shape_scope = view p code ls b

  abbrev at_site : Line → List Mode → Site
  at_site l ms = site p code ls b l ms

  abbrev Comes : List Mode → ℕ → Type 0
  Comes ms = Onward p code ls b ms

  -- ## Sets

  -- where a discipline files a member it takes no cell
  by_rule : (o : Option Discipline) (ms : List Mode) → IsGivingPosition shape_scope (filing_by o) ms ms
  by_rule (Some disciplines.Fifo) ms = refl
  by_rule _ ms = refl

  -- the owner, and a FILE that takes no other member
  file_plain : (l : Line) (set : ℕ) (e : Expression) (o : SetOwner) (f : FilingPlace) (ms : List Mode) → HasMode section_scope e Integer → IsTypedOwner section_scope set o → IsGivingPosition shape_scope f (operand_cells (at_site l ms) e) (operand_cells (at_site l ms) e) → Shapes p code (Comes (operand_cells (at_site l ms) e)) (with_owner (at_site l (operand_cells (at_site l ms) e)) o (i.File f set (operand (at_site l ms) e))) (Comes ms)
  file_plain l set e o f ms h g k =
      let mid : List Mode = operand_cells (at_site l ms) e in
      owner_then p code ls b (Comes ms) l set o mid (i.File f set (operand (at_site l ms) e)) g (λ x cells q fits reads end.
      (fits, (mid, reads, (mid, k, (ms, gives p code ls b l e Integer ms h, end)))))

  -- the member beside which it is filed, the owner, and a FILE
  file_beside : (l : Line) (set : ℕ) (e y : Expression) (o : SetOwner) (f : Operand → FilingPlace) (ms : List Mode) → HasMode section_scope e Integer → HasMode section_scope y Integer → IsTypedOwner section_scope set o → ((x : Operand) (over under : List Mode) → IsGivingMode shape_scope x Integer over under → IsGivingPosition shape_scope (f x) over under) → Shapes p code (Comes (operand_cells (at_site l (operand_cells (at_site l ms) e)) y)) (with_owner (at_site l (operand_cells (at_site l (operand_cells (at_site l ms) e)) y)) o (i.File (f (operand (at_site l (operand_cells (at_site l ms) e)) y)) set (operand (at_site l ms) e))) (Comes ms)
  file_beside l set e y o f ms h hy g k =
      let mid : List Mode = operand_cells (at_site l ms) e in
      let top : List Mode = operand_cells (at_site l mid) y in
      let x : Operand = operand (at_site l mid) y in
      owner_then p code ls b (Comes ms) l set o top (i.File (f x) set (operand (at_site l ms) e)) g (λ w cells q fits reads end.
      (fits, (top, reads, (mid, k x top mid (gives p code ls b l y Integer mid hy), (ms, gives p code ls b l e Integer ms h, end)))))

  pub file_shapes : (l : Line) (set : ℕ) (e : Expression) (position : Position) (o : SetOwner) (ms : List Mode) → HasMode section_scope e Integer → IsTypedPosition section_scope position → IsTypedOwner section_scope set o → Shapes p code (Comes ms) (file_code (at_site l ms) set e position o) (Comes ms)
  file_shapes l set e position o ms h k g =
      seq (member_shapes p code ls b l (needs_look (neighbour_of position) (expression_of o)) set e ms (set_there section_scope set o g) h) (rest position k)
    where
      rest : (position : Position) → IsTypedPosition section_scope position → Shapes p code (Comes (operand_cells (at_site l ms) e)) (beside_code (at_site l (operand_cells (at_site l ms) e)) set (neighbour_of position) ++ with_owner (after_bearer (at_site l (operand_cells (at_site l ms) e)) (neighbour_of position)) o (i.File (filing_place (at_site l (operand_cells (at_site l ms) e)) set position) set (operand (at_site l ms) e))) (Comes ms)
      rest ByDiscipline k = file_plain l set e o (filing_by (slice_get p.disciplines set)) ms h g (by_rule (slice_get p.disciplines set) (operand_cells (at_site l ms) e))
      rest AsFirst k = file_plain l set e o i.First ms h g refl
      rest AsLast k = file_plain l set e o i.Last ms h g refl
      rest (BeforeMember y) k =
          seq (member_shapes p code ls b l true set y (operand_cells (at_site l ms) e) (set_there section_scope set o g) k) (file_beside l set e y o i.Before ms h k g (λ x over under z. z))
      rest (AfterMember y) k =
          seq (member_shapes p code ls b l true set y (operand_cells (at_site l ms) e) (set_there section_scope set o g) k) (file_beside l set e y o i.After ms h k g (λ x over under z. z))

  pub remove_shapes : (l : Line) (set : ℕ) (e : Expression) (o : SetOwner) (ms : List Mode) → HasMode section_scope e Integer → IsTypedOwner section_scope set o → Shapes p code (Comes ms) (remove_code (at_site l ms) set e o) (Comes ms)
  remove_shapes l set e o ms h g =
      let mid : List Mode = operand_cells (at_site l ms) e in
      seq (member_shapes p code ls b l (may_fault (expression_of o)) set e ms (set_there section_scope set o g) h)
      (owner_then p code ls b (Comes ms) l set o mid (i.Remove set (operand (at_site l ms) e)) g (λ x cells q fits reads end. (fits, (mid, reads, (ms, gives p code ls b l e Integer ms h, end)))))

  pub remove_end_shapes : (l : Line) (which : End) (set : ℕ) (x : Place) (o : SetOwner) (ms : List Mode) → CanTakeMode section_scope x Integer → IsTypedOwner section_scope set o → Shapes p code (Comes ms) (remove_end_code (at_site l ms) which set x o) (Comes ms)
  remove_end_shapes l which set x o ms h g =
      to_place_shapes p typed code ls b l x Integer ms (λ t to. with_owner t o (λ y. i.RemoveEnd which set y to)) h (λ cells rest to a.
      owner_then p code ls b (Comes rest) l set o cells (λ y. i.RemoveEnd which set y to) g (λ y above q fits reads end. (fits, (cells, reads, (rest, a, end)))))

  -- ## CREATE EVERY, RESET

  pub creates_shapes : (l : Line) (cs : List CountedClass) (ms : List Mode) → Every (Contains p.counts) cs → Shapes p code (Comes ms) (creates_code (at_site l ms) cs) (Comes ms)
  creates_shapes l [] ms h = none p code (Comes ms)
  creates_shapes l (c ∷ cs) ms h = seq (one p code (Comes ms) (place (at_site l ms) (i.CreateAll c)) (λ q end. (h.0, end))) (creates_shapes l cs ms h.1)

  restart_shapes : (l : Line) (j : ℕ) (o : Option Expression) (ms : List Mode) → IsTypedRestart section_scope j o → Shapes p code (Comes ms) (bearer_code (at_site l ms) o ++ place (after_bearer (at_site l ms) o) (i.Reset j (bearer (at_site l ms) o)) ∷ []) (Comes ms)
  restart_shapes l j None ms g = one p code (Comes ms) (place (at_site l ms) (i.Reset j None)) (λ q end. (g, (ms, refl, end)))
  restart_shapes l j (Some e) ms g =
      operand_then p code ls b (Comes ms) l e Integer ms (λ x. i.Reset j (Some x)) g.1 (λ q end. (g.0, (ms, gives p code ls b l e Integer ms g.1, end)))

  pub restarts_shapes : (l : Line) (rs : List Restart) (ms : List Mode) → Every (λ (r : Restart). IsTypedRestart section_scope r.statistic r.of) rs → Shapes p code (Comes ms) (restarts_code (at_site l ms) rs) (Comes ms)
  restarts_shapes l [] ms h = none p code (Comes ms)
  restarts_shapes l (r ∷ rs) ms h = seq (restart_shapes l r.statistic r.of ms h.0) (restarts_shapes l rs ms h.1)

  -- ## Items of a PRINT

  item_shapes : (l : Line) (x : PrintItem) (ms : List Mode) → GoodItem section_scope x → Shapes p code (Comes ms) (item_code (at_site l ms) x) (Comes (item_cells section_scope x ms))
  item_shapes l (AValue e) ms h = at_own_mode p code ls b l e h.0 ms h.1
  item_shapes l (AMean j) ms h = one p code (Comes ms) (place (at_site l ms) (i.LookMean j None)) (λ q end. (h, (ms, refl, end)))
  item_shapes l (AMeanOf j e) ms h =
      seq (cell_shapes p code ls b l e Integer ms h.1)
      (one p code (Comes (Integer ∷ ms)) (place (at_site l (Integer ∷ ms)) (i.LookMean j (Some (i.Stays (length ms))))) (λ q end. (h.0, (Integer ∷ ms, (under_cell [] (length ms) Integer ms refl, refl), end))))

  pub items_shapes : (l : Line) (xs : List PrintItem) (ms : List Mode) → Every (GoodItem section_scope) xs → Shapes p code (Comes ms) (items_code (at_site l ms) xs) (Comes (items_cells section_scope xs ms))
  items_shapes l [] ms h = none p code (Comes ms)
  items_shapes l (x ∷ xs) ms h = seq (item_shapes l x ms h.0) (items_shapes l xs (item_cells section_scope x ms) h.1)

  -- ## SCHEDULE

  when_shapes : (l : Line) (when : When) (ms : List Mode) → IsTypedWhen section_scope when → Shapes p code (Comes ms) (when_code (at_site l ms) when) (Comes (Integer ∷ ms))
  when_shapes l (AtTime e) ms h =
      operand_then p code ls b (Comes (Integer ∷ ms)) l e Integer ms (λ x. i.At x (next (at_site l ms))) h (λ q end. (ms, gives p code ls b l e Integer ms h, (Integer ∷ ms, (refl, refl), end)))
  when_shapes l (In e) ms h =
      operand_then p code ls b (Comes (Integer ∷ ms)) l e Integer ms (λ x. i.In x (next (at_site l ms))) h (λ q end. (ms, gives p code ls b l e Integer ms h, (Integer ∷ ms, (refl, refl), end)))
  when_shapes l Now ms h = one p code (Comes (Integer ∷ ms)) (place (at_site l ms) (i.Clock (next (at_site l ms)))) (λ q end. (Integer ∷ ms, (refl, refl), end))

  place_shapes : (l : Line) (x : Place) (ms : List Mode) → CanTakeMode section_scope x Integer → Shapes p code (Comes ms) (place_code (at_site l ms) x) (Comes (place_cells (at_site l ms) x))
  place_shapes l (ToVariable x) ms h = none p code (Comes ms)
  place_shapes l (ToAttribute class field r) ms h = entity_shapes p code ls b l true class r ms (class_known p class field Integer h.0) h.1
  place_shapes l (ToCount c) ms h = none p code (Comes ms)

  -- a reference in a cell is forgotten, and there is nothing to forget where it needs none
  reference_forgotten : (l : Line) (r : Expression) (ms : List Mode) → Shapes p code (Comes (operand_cells (at_site l ms) r)) (forget_to (at_site l ms) (at_site l (operand_cells (at_site l ms) r))) (Comes ms)
  reference_forgotten l r ms = by (leaf r)
    where
      by : (o : Option Operand) → Shapes p code (Comes (or_in_cell o (expression_mode section_scope r) ms)) (forget_to (at_site l ms) (at_site l (or_in_cell o (expression_mode section_scope r) ms))) (Comes ms)
      by (Some x) = let e : 0 ≡ length ms - length ms = omega arith in subst (λ k. Shapes p code (Comes ms) (forget (at_site l ms) k) (Comes ms)) e (none p code (Comes ms))
      by None = let e : suc (length ms) - length ms ≡ 1 = omega arith in forgets p typed code ls b l (expression_mode section_scope r) [] ms (suc (length ms) - length ms) e

  -- a notice that is made goes to its place, and is filed
  notice_shapes : (l : Line) (class : ℕ) (x : Place) (ms : List Mode) (start : ℕ → Type 0) (make : To → Placed) → kind_of_class p class ≡ Some Notice → CanTakeMode section_scope x Integer → ((to : To) (rest : List Mode) → IsAccepting shape_scope to Integer (Integer ∷ place_cells (at_site l ms) x) rest → Shapes p code start (make to ∷ []) (Comes rest)) → Shapes p code start (notice_code (at_site l ms) (at_site l (Integer ∷ place_cells (at_site l ms) x)) class x make) (Comes ms)
  notice_shapes l class (ToVariable x) ms start make k h made =
      seq (variable_shapes p typed code ls b l x Integer (Integer ∷ ms) start (λ to. make to ∷ []) (plain_mode p typed code ls b x Integer h) made)
      (one p code (Comes ms) (place (at_site l (Integer ∷ ms)) (i.FileNotice class (i.Held x) (i.Taken (length ms)))) (λ q end. (k, (ms, (ms, (refl, refl), (plain_mode p typed code ls b x Integer h, refl)), end))))
  notice_shapes l class (ToAttribute c field r) ms start make k h made =
      let mid : List Mode = operand_cells (at_site l ms) r in
      let top : List Mode = Integer ∷ Integer ∷ mid in
      seq (made (i.Onto (suc (length mid))) top (refl, refl))
      (seq
      (one p code (Comes top) (place (at_site l top) (i.SetAttribute c field (stay (operand (at_site l ms) r)) (i.Stays (suc (length mid))))) (λ q end. (
        Integer,
        h.0,
        (
          top,
          second_first p code ls b (stay (operand (at_site l ms) r)) (i.Stays (suc (length mid))) Integer Integer top top top (stay_low (operand (at_site l ms) r) (i.Stays (suc (length mid))))
              (under_cell [] (suc (length mid)) Integer (Integer ∷ mid) refl, refl) (stays p code ls b l r Integer (Integer ∷ Integer ∷ []) ms h.1),
          end,
        ),
      )))
      (seq
      (one p code (Comes mid) (place (at_site l top) (i.FileNotice class (i.Taken (suc (length mid))) (i.Taken (length mid)))) (λ q end.
      (k, (mid, first_first p code ls b (i.Taken (suc (length mid))) (i.Taken (length mid)) Integer Integer top (Integer ∷ mid) mid (next_above (length mid)) (refl, refl) (refl, refl), end))))
      (reference_forgotten l r ms)))
  notice_shapes l class (ToCount c) ms start make k h made =
      let top : List Mode = Integer ∷ Integer ∷ ms in
      seq (made (i.Onto (suc (length ms))) top (refl, refl))
      (seq (count_shapes p typed code ls b l c (i.Stays (suc (length ms))) top top h.1 (under_cell [] (suc (length ms)) Integer (Integer ∷ ms) refl, refl))
      (one p code (Comes ms) (place (at_site l top) (i.FileNotice class (i.Taken (suc (length ms))) (i.Taken (length ms)))) (λ q end.
      (k, (ms, first_first p code ls b (i.Taken (suc (length ms))) (i.Taken (length ms)) Integer Integer top (Integer ∷ ms) ms (next_above (length ms)) (refl, refl) (refl, refl), end)))))

  -- values lie in cells as a notice of the class takes them
  given_block : (class : ℕ) (given : List Expression) (cells : List Mode) (g : AreTypedGiven section_scope class given) → HasOnTop (length cells) (take (length given) g.1.0) (values_cells section_scope given cells) cells
  given_block class given cells g = record { is = values_so section_scope given (take (length given) g.1.0) cells g.1.2; height = refl }

  pub schedule_new_shapes : (l : Line) (class : ℕ) (x : Place) (given : List Expression) (when : When) (ms : List Mode) → AreTypedGiven section_scope class given → CanTakeMode section_scope x Integer → IsTypedWhen section_scope when → Shapes p code (Comes ms) (schedule_new_code (at_site l ms) class x given when) (Comes ms)
  schedule_new_shapes l class x given when ms g h w =
      let cells : List Mode = place_cells (at_site l ms) x in
      let top : List Mode = values_cells section_scope given cells in
      let modes : List Mode = take (length given) g.1.0 in
      seq (place_shapes l x ms h)
      (seq (values_shapes p code ls b l given modes cells g.1.2)
      (seq (when_shapes l when top w)
      (notice_shapes l class x ms (Comes (Integer ∷ top)) (λ to. place (at_site l (Integer ∷ top)) (i.MakeNotice class (length cells) (length given) to)) g.0 h (λ to rest a.
      one p code (Comes rest) (place (at_site l (Integer ∷ top)) (i.MakeNotice class (length cells) (length given) to)) (λ q end.
      (top, modes, refl, values_many section_scope given modes g.1.2, given_fit section_scope class given g, (cells, given_block class given cells g, (rest, a, end))))))))

  pub schedule_shapes : (l : Line) (class : ℕ) (e : Expression) (given : List Expression) (when : When) (ms : List Mode) → AreTypedGiven section_scope class given → HasMode section_scope e Integer → IsTypedWhen section_scope when → Shapes p code (Comes ms) (schedule_code (at_site l ms) class e given when) (Comes ms)
  schedule_shapes l class e given when ms g h w =
      let cells : List Mode = operand_cells (at_site l ms) e in
      let top : List Mode = values_cells section_scope given cells in
      let modes : List Mode = take (length given) g.1.0 in
      seq (entity_shapes p code ls b l true class e ms (g.1.0, g.1.1) h)
      (seq (values_shapes p code ls b l given modes cells g.1.2)
      (seq (when_shapes l when top w)
      (one p code (Comes ms) (place (at_site l (Integer ∷ top)) (i.Reschedule class (operand (at_site l ms) e) (length cells) (length given))) (λ q end.
      (top, modes, refl, values_many section_scope given modes g.1.2, given_fit section_scope class given g, (cells, given_block class given cells g, (ms, gives p code ls b l e Integer ms h, end)))))))
