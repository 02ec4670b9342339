-- The code of statements and of blocks has shape.
use Rattle.std.proofs.Common.{◌≡◌, ℕ, ◌+◌, ◌-◌, Bool, List, [], ◌∷◌, ◌++◌, length, Option, Some, None, refl, sym, ap, ◌∙◌, subst, arith}
use Rattle.ss_code_instructions.proofs.Common.{block_code, block_prints, Code, EntryPoint, gives_code, Integer, items_cells, items_code, Line, lines_of_items, loop_cells, Mode, no_line, place, Placed, results_cells, routine_entry, section_code, Site, slice_get, statement_code, statement_prints, take, values_cells, values_code}
use Rattle.std.specs.List.{AllByRecursion as Every, AllZip}
use Rattle.ss_code_instructions.specs.Shape.{AreFoundAt, IsDueAt, IsSuited, HasOnTop as CellBlock, CanBePrinted}
use Rattle.ss_program.specs.Program.{Block, Call, Cancel, Change, Create, CreateEvery, Destroy, Expression, File, Find, For, Head, If, Let, Loop, Members, Place, Print, PrintItem, Program, Read, Remove, RemoveEnd, Reset, Return, Routine, Schedule, ScheduleNew, Simulate, Skip, Statement, Stop, Then, TheSystem, Done}
use Rattle.ss_program.specs.WellTyped.{CanTakeMode, IsWellTyped, TypedScope, HaveModes, IsTypedCall, IsTypedStatement, IsTypedBlock}
use Rattle.ss_code_instructions.specs.Instructions as i
use Rattle.ss_code_instructions.proofs.Steps.{HasAt, has_front, has_back}
use Rattle.ss_code_instructions.proofs.Entering.{RoutineAt, Linked}
use Rattle.ss_code_instructions.proofs.Suiting.{Shapes, seq, none, one, put_before, lead, looped}
use Rattle.ss_code_instructions.proofs.Shaping.{values_so, here, site, Onward, gives, operand_then, values_shapes}
use Rattle.ss_code_instructions.proofs.ShapingPlaces.{let_shapes, change_shapes, to_place_shapes, reads_shapes, results_so, gives_shapes}
use Rattle.ss_code_instructions.proofs.ShapingLoops.{if_shapes, loop_shapes, for_each_shapes, find_shapes}
use Rattle.ss_code_instructions.proofs.ShapingSets.{shown_modes, items_so, GoodItem, items_good, items_fit, fields_take, file_shapes, remove_shapes, remove_end_shapes, creates_shapes, restarts_shapes, items_shapes, schedule_new_shapes, schedule_shapes}

-- what a routine yields comes first of its other variables
pub front_of : (ws others : List Mode) → take (length ws) (ws ++ others) ≡ ws
front_of [] others = refl
front_of (w ∷ ws) others = ap (λ ms. w ∷ ms) (front_of ws others)

-- where a routine's entry point is
record EntersAt (code : Code) (k : ℕ) (r : Routine) : Type 0 where
  begins : ℕ
  there : slice_get code.routines k ≡ Some (routine_entry begins r)

entry_there : (code : Code) (p : Program) → Linked code p → (k : ℕ) (r : Routine) → slice_get p.routines k ≡ Some r → EntersAt code k r
entry_there code p linked k r q = by (slice_get code.routines k) refl (subst (λ o. RoutineAt code p o (slice_get code.routines k)) q (linked.routines k))
  where
    by : (o : Option EntryPoint) → slice_get code.routines k ≡ o → RoutineAt code p (Some r) o → EntersAt code k r
    by None e at = absurd at
    by (Some x) e at = record { begins = at.begins; there = e ∙ ap Some at.is }

module _ (p : Program) (typed : IsWellTyped p) (code : Code) (linked : Linked code p) (ls : List Mode) (b : Bool) where
  -- the section's variables; sites in the section; and places with such cells
  abbrev section_scope : TypedScope
  section_scope = here p code ls b

  abbrev at_site : Line → List Mode → Site
  at_site l ms = site p code ls b l ms

  abbrev Comes : List Mode → ℕ → Type 0
  Comes ms = Onward p code ls b ms

  -- ## Calls

  call_suits : (q : ℕ) (k : ℕ) (r : Routine) (given : List Expression) (yielding : List Place) (l : Line) (ms : List Mode) → slice_get p.routines k ≡ Some r → HaveModes section_scope given r.given → AllZip (CanTakeMode section_scope) yielding r.yielding → AreFoundAt p code (q + 1) ls (results_cells (at_site l ms) yielding) → IsSuited p code q ls (values_cells section_scope given ms) (i.Call k (length ms))
  call_suits q k r given yielding l ms there h g end =
      let at = entry_there code p linked k r there in
      let e : EntryPoint = routine_entry at.begins r in
      let block : CellBlock (length ms) r.given (values_cells section_scope given ms) ms = record { is = values_so section_scope given r.given ms h; height = refl } in
      let left : results_cells (at_site l ms) yielding ≡ take (length r.yielding) (r.yielding ++ r.others) ++ ms =
      results_so p typed code ls b l yielding r.yielding ms g ∙ ap (λ ws. ws ++ ms) (sym (front_of r.yielding r.others)) in
      (e, at.there, (ms, block, subst (λ cells. AreFoundAt p code (q + 1) ls cells) left end))

  call_shapes : (l : Line) (k : ℕ) (given : List Expression) (yielding : List Place) (ms : List Mode) → IsTypedCall section_scope k given yielding → Shapes p code (Comes ms) (values_code (at_site l ms) given ++ (place (at_site l (values_cells section_scope given ms)) (i.Call k (length ms)) ∷ gives_code (at_site l ms) yielding)) (Comes ms)
  call_shapes l k given yielding ms g =
      seq (values_shapes p code ls b l given g.0.given ms g.2)
      (seq
      (one p code (Comes (results_cells (at_site l ms) yielding)) (place (at_site l (values_cells section_scope given ms)) (i.Call k (length ms))) (λ q end. call_suits q k g.0 given yielding l ms g.1 g.2 g.3 end))
      (gives_shapes p typed code ls b l yielding g.0.yielding ms g.3))

  -- ## PRINT, START SIMULATION

  print_shapes : (l : Line) (first : ℕ) (items : List PrintItem) (pictures : List (List ℕ)) (ms : List Mode) → slice_get code.prints first ≡ Some (lines_of_items items pictures) → Every (GoodItem section_scope) items → CanBePrinted (lines_of_items items pictures) → Shapes p code (Comes ms) (items_code (at_site l ms) items ++ place (at_site l (items_cells section_scope items ms)) (i.Print first (length ms)) ∷ []) (Comes ms)
  print_shapes l first items pictures ms there g take =
      let block : CellBlock (length ms) (shown_modes section_scope items) (items_cells section_scope items ms) ms = record { is = items_so section_scope items ms; height = refl } in
      seq (items_shapes p typed code ls b l items ms g)
      (one p code (Comes ms) (place (at_site l (items_cells section_scope items ms)) (i.Print first (length ms))) (λ q end.
      (lines_of_items items pictures, there, (shown_modes section_scope items, items_fit section_scope items g, (ms, block, end)), take)))

  abbrev BackToEvent : List Mode → ℕ → Type 0
  BackToEvent ms q = Comes ms q × IsDueAt p code (q - (1 + 1)) ls ms

  simulate_shapes : (l : Line) (ms : List Mode) → Shapes p code (Comes ms) (place (at_site l ms) (i.Await 2) ∷ (place (at_site l ms) (i.TakeEvent (length ms)) ∷ (place (at_site l ms) (i.NextEvent 1) ∷ []))) (Comes ms)
  simulate_shapes l ms =
      let event : Placed = place (at_site l ms) (i.TakeEvent (length ms)) in
      let next : Placed = place (at_site l ms) (i.NextEvent 1) in
      lead p code (λ q. Comes ms q × Comes ms (q + 1)) (Comes ms) (Comes ms) (place (at_site l ms) (i.Await 2) ∷ (event ∷ (next ∷ []))) (λ q at end. at.0)
      (put_before p code (Comes ms) (Comes ms) (place (at_site l ms) (i.Await 2)) (event ∷ (next ∷ [])) (λ q at end. (at, end))
      (looped p code (Comes ms) (Comes ms) event (next ∷ []) 1 refl refl (λ q at. (refl, at))
      (one p code (BackToEvent ms) next (λ q end. let e : (q + 1) - (1 + 1) ≡ q - 1 = omega arith in (end.0, subst (λ j. IsDueAt p code j ls ms) e end.1)))))

  -- ## Statements

  -- the cells of a loop do not depend on the line
  same_cells : (k l : Line) (ms : List Mode) (head : Head) → loop_cells (at_site k ms) head ≡ loop_cells (at_site l ms) head
  same_cells k l ms (Members x set TheSystem start reverse) = refl
  same_cells k l ms _ = refl

  mutual
    pub statement_shapes : (k : Line) (ms : List Mode) (first : ℕ) (x : Statement) → IsTypedStatement section_scope x → HasAt code.prints first (statement_prints x) → Shapes p code (Comes ms) (statement_code (at_site k ms) first x) (Comes ms)
    statement_shapes k ms first (Let l x e) g has = let_shapes p typed code ls b l x e g.0 ms g.1 g.2
    statement_shapes k ms first (Change l sign x e) g has = change_shapes p typed code ls b l sign x e ms g.0 g.1
    statement_shapes k ms first (Call l routine given yielding) g has = call_shapes l routine given yielding ms g
    statement_shapes k ms first Return g has = one p code (Comes ms) (place (at_site no_line ms) i.Leave) (λ q end. tt)
    statement_shapes k ms first Stop g has = one p code (Comes ms) (place (at_site no_line ms) i.Halt) (λ q end. tt)
    statement_shapes k ms first (Read l targets) g has = reads_shapes p typed code ls b l targets ms g
    statement_shapes k ms first Simulate g has = simulate_shapes no_line ms
    statement_shapes k ms first (If l c x y) g has =
        if_shapes p typed code ls b l ms c (block_code (at_site k ms) first x) (block_code (at_site k ms) (first + length (block_prints x)) y) g.0
        (block_shapes k ms first x g.1 (has_front code.prints first (block_prints x) (block_prints y) has))
        (block_shapes k ms (first + length (block_prints x)) y g.2 (has_back code.prints first (block_prints x) (block_prints y) has))
    statement_shapes k ms first (Loop l gs x) g has =
        loop_shapes p typed code ls b l ms gs (block_code (at_site k ms) first x) g.0 (block_shapes k ms first x g.1 has)
    statement_shapes k ms first (For l head ps x) g has =
        let inner : List Mode = loop_cells (at_site k ms) head in
        let body : List Placed = block_code (at_site k inner) first x in
        for_each_shapes p typed code ls b l ms head ps body g.0 g.1
        (subst (λ cells. Shapes p code (Comes cells) body (Comes cells)) (same_cells k l ms head) (block_shapes k inner first x g.2 has))
    statement_shapes k ms first (Find l head ps x y) g has =
        find_shapes p typed code ls b l ms head ps (block_code (at_site k ms) first x) (block_code (at_site k ms) (first + length (block_prints x)) y) g.0 g.1
        (block_shapes k ms first x g.2 (has_front code.prints first (block_prints x) (block_prints y) has))
        (block_shapes k ms (first + length (block_prints x)) y g.3 (has_back code.prints first (block_prints x) (block_prints y) has))
    statement_shapes k ms first (Create l class x) g has =
        to_place_shapes p typed code ls b l x Integer ms (λ t to. place t (i.Create class to) ∷ []) g.1 (λ cells rest to a.
        one p code (Comes rest) (place (at_site l cells) (i.Create class to)) (λ q end. (g.0, (rest, a, end))))
    statement_shapes k ms first (CreateEvery l classes) g has = creates_shapes p typed code ls b l classes ms g
    statement_shapes k ms first (Destroy l class e) g has =
        operand_then p code ls b (Comes ms) l e Integer ms (i.Destroy class) g.1 (λ q end. (g.0, (ms, gives p code ls b l e Integer ms g.1, end)))
    statement_shapes k ms first (File l set e position o) g has = file_shapes p typed code ls b l set e position o ms g.0 g.1 g.2
    statement_shapes k ms first (RemoveEnd l which set x o) g has = remove_end_shapes p typed code ls b l which set x o ms g.0 g.1
    statement_shapes k ms first (Remove l set e o) g has = remove_shapes p typed code ls b l set e o ms g.0 g.1
    statement_shapes k ms first (ScheduleNew l class x given when) g has = schedule_new_shapes p typed code ls b l class x given when ms g.0 g.1 g.2
    statement_shapes k ms first (Schedule l class e given when) g has = schedule_shapes p typed code ls b l class e given when ms g.0 g.1 g.2
    statement_shapes k ms first (Cancel l class e) g has =
        operand_then p code ls b (Comes ms) l e Integer ms (i.Cancel class) g.1 (λ q end. (g.0, (ms, gives p code ls b l e Integer ms g.1, end)))
    statement_shapes k ms first (Reset l restarts) g has = restarts_shapes p typed code ls b l restarts ms g
    statement_shapes k ms first (Print l items pictures) g has = print_shapes l first items pictures ms has.0 (items_good section_scope _ items g) (fields_take section_scope items pictures g)
    statement_shapes k ms first (Skip l e) g has =
        operand_then p code ls b (Comes ms) l e Integer ms i.Skip g (λ q end. (ms, gives p code ls b l e Integer ms g, end))

    pub block_shapes : (k : Line) (ms : List Mode) (first : ℕ) (x : Block) → IsTypedBlock section_scope x → HasAt code.prints first (block_prints x) → Shapes p code (Comes ms) (block_code (at_site k ms) first x) (Comes ms)
    block_shapes k ms first Done g has = none p code (Comes ms)
    block_shapes k ms first (Then x rest) g has =
        seq (statement_shapes k ms first x g.0 (has_front code.prints first (statement_prints x) (block_prints rest) has))
        (block_shapes k ms (first + length (statement_prints x)) rest g.1 (has_back code.prints first (statement_prints x) (block_prints rest) has))

  -- ## Sections

  -- a section ends with a return, after which nothing is needed
  abbrev pub Ended : ℕ → Type 0
  Ended q = Unit {0}

  pub section_shapes : (first : ℕ) (body : Block) → IsTypedBlock section_scope body → HasAt code.prints first (block_prints body) → Shapes p code (Comes []) (section_code section_scope first body) Ended
  section_shapes first body g has = seq (block_shapes no_line [] first body g has) (one p code Ended (place (at_site no_line []) i.Leave) (λ q end. tt))
