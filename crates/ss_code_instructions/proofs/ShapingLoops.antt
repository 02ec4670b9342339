-- The code of IF, of loops and of FIND has shape, where that of their parts has it.
use Rattle.std.proofs.Common.{◌≡◌, ℕ, zero, suc, ◌+◌, ◌-◌, Bool, true, false, List, [], ◌∷◌, ◌++◌, length, Option, Some, None, refl, subst, arith, length-append}
use Rattle.std.specs.Prelude.{pos, if◌then◌else◌}
use Rattle.std.specs.List.{AllByRecursion as Every}
use Rattle.std.specs.Option.{IfSome}
use Rattle.ss_code_instructions.proofs.Common.{After, AtEnd, Bearer, cell_at, Code, Condition, Each, Entity, Expression, From, Guard, Head, Instruction, Integer, is_watched, Line, Members, Mode, Numbers, Phrase, PhraseKind, Placed, Program, SetOwner, Start, TheSystem, Variable, Whole}
use Rattle.ss_code_instructions.specs.Shape.{HasOnTop, IsDueAt, IsGivingBearer, IsSuited, loop_modes, walk_modes, IsSetBearer as BearerFits}
use Rattle.ss_code_instructions.specs.Translation.{expression_code, for_code, forget, forget_to, guards_code, in_loop, next, owner_code, owner_kept, phrases_code, place, Site, turns_code, walk_loop, if_code, loop_code, phrase_code, owner_cells, loop_cells, step_code, range_code, start_code, begin_code, find_code}
use Rattle.ss_program.specs.WellTyped.{HasMode, IsTypedOwner, IsWellTyped, mode_at, TypedScope, IsTypedCondition, IsTypedStart, IsTypedHead, IsTypedPhrase}
use Rattle.ss_base.specs.declared.words.PhraseKind.TheVariants as kinds
use Rattle.ss_code_instructions.specs.Instructions as i
use Rattle.ss_code_instructions.proofs.Forgetting.{two_more, three_more}
use Rattle.ss_code_instructions.proofs.Heads.{forgets_one}
use Rattle.ss_code_instructions.proofs.Stacked.{under_cell}
use Rattle.ss_code_instructions.proofs.Suiting.{Shapes, seq, none, one, put_before, lead, ending, keep, looped, moved}
use Rattle.ss_code_instructions.proofs.Shaping.{here, view, site, Onward, Fork, cell_shapes, condition_shapes, negated_shapes, guards_shapes}
use Rattle.ss_code_instructions.proofs.ShapingPlaces.{plain_mode}

module _ (p : Program) (typed : IsWellTyped p) (code : Code) (ls : List Mode) (b : Bool) where
  -- the section's variables, and how Shape sees them; sites in the section; and places with such cells
  abbrev section_scope : TypedScope
  section_scope = here p code ls b

  abbrev shape_scope : TypedScope
  shape_scope = view p code ls b

  abbrev at_site : Line → List Mode → Site
  at_site l ms = site p code ls b l ms

  abbrev Comes : List Mode → ℕ → Type 0
  Comes ms = Onward p code ls b ms

  abbrev Ways : (skip : ℕ) → List Mode → ℕ → Type 0
  Ways skip ms = Fork p code ls b skip ms

  -- a place where more is so; what is so one instruction on; and an instruction that takes a tick lies so many and one more before
  abbrev And : List Mode → (ℕ → Type 0) → ℕ → Type 0
  And ms more q = Comes ms q × more q

  abbrev Later : (ℕ → Type 0) → ℕ → Type 0
  Later more q = more (q + 1)

  abbrev Backed : (ℕ → Type 0) → (k : ℕ) → List Mode → ℕ → Type 0
  Backed to k ms q = to q × IsDueAt p code (q - (k + 1)) ls ms

  one_back : (k q : ℕ) (ms : List Mode) → IsDueAt p code ((q + 1) - (k + 1)) ls ms → IsDueAt p code (q - k) ls ms
  one_back k q ms due = let e : (q + 1) - (k + 1) ≡ q - k = omega arith in subst (λ j. IsDueAt p code j ls ms) e due

  -- ## IF

  pub if_shapes : (l : Line) (ms : List Mode) (c : Condition) (holds_side other_side : List Placed) → IsTypedCondition section_scope c → Shapes p code (Comes ms) holds_side (Comes ms) → Shapes p code (Comes ms) other_side (Comes ms) → Shapes p code (Comes ms) (if_code (at_site l ms) c holds_side other_side) (Comes ms)
  if_shapes l ms c holds_side [] g r t =
      seq (condition_shapes p code ls b l ms (length holds_side) c g) (lead p code (Comes ms) (Ways (length holds_side) ms) (Comes ms) holds_side (λ q at end. (at, end)) r)
  if_shapes l ms c holds_side (x ∷ other_side) g r t =
      seq (condition_shapes p code ls b l ms (length holds_side + 1) c g)
      (seq
      (lead p code (λ q. Comes ms q × Later (Comes ms) (q + length holds_side)) (Ways (length holds_side + 1) ms) (And ms (Later (Comes ms))) holds_side
      (λ q at end. let e : q + length holds_side + 1 ≡ q + (length holds_side + 1) = omega arith in (at.0, moved p code e at.1)) (keep p code (Comes ms) (Comes ms) (Later (Comes ms)) holds_side r))
      (put_before p code (Comes ms) (Comes ms) (place (at_site l ms) (i.Jump (length (x ∷ other_side)))) (x ∷ other_side) (λ q at end. end) t))

  -- ## Loops led by WHILE and UNTIL

  pub loop_shapes : (l : Line) (ms : List Mode) (gs : List Guard) (body : List Placed) → Every (λ (g : Guard). IsTypedCondition section_scope g.condition) gs → Shapes p code (Comes ms) body (Comes ms) → Shapes p code (Comes ms) (loop_code (at_site l ms) gs body) (Comes ms)
  loop_shapes l ms gs body g r =
      let again : List Placed = guards_code (at_site l ms) 1 gs in
      let back : ℕ = length body + length again + 1 in
      let turn : Placed = place (at_site l ms) i.Turn in
      let last : Placed = place (at_site l ms) (i.Repeat back) in
      let turns : List Placed = body ++ (again ++ (last ∷ [])) in
      let skip : ℕ = length body + length again + 2 in
      let long : back ≡ length turns = omega (arith, length-append body (again ++ (last ∷ [])), length-append again (last ∷ [])) in
      let repeats : Shapes p code (Ways 1 ms) (last ∷ []) (Backed (Comes ms) back ms) =
      lead p code (Comes ms) (Ways 1 ms) (Backed (Comes ms) back ms) (last ∷ []) (λ q at end. (at, end.0))
      (one p code (Backed (Comes ms) back ms) last (λ q end. one_back back q ms end.1)) in
      let whole : Shapes p code (Comes ms) (turn ∷ turns) (Comes ms) =
      looped p code (Comes ms) (Comes ms) turn turns back long refl (λ q at. at) (seq r (seq (guards_shapes p code ls b l ms 1 gs g) repeats)) in
      seq (guards_shapes p code ls b l ms skip gs g)
      (lead p code (Comes ms) (Ways skip ms) (Comes ms) (turn ∷ turns) (λ q at end.
      let e : q + length (turn ∷ turns) ≡ q + skip = omega (arith, long) in (at, moved p code e end)) whole)

  -- ## Phrases: the rest of a turn, its end, and the place after that

  abbrev Three : (rest : ℕ) → List Mode → ℕ → Type 0
  Three rest ms q = Ways rest ms q × Comes ms (q + (rest + 1))

  phrase_shapes : (l : Line) (ms : List Mode) (rest : ℕ) (kind : PhraseKind) (c : Condition) → IsTypedCondition section_scope c → Shapes p code (Comes ms) (phrase_code (at_site l ms) rest kind c) (Three rest ms)
  phrase_shapes l ms rest kinds.With c g =
      ending p code (Comes ms) (Ways rest ms) (Three rest ms) (phrase_code (at_site l ms) rest kinds.With c) (λ q end. end.0) (condition_shapes p code ls b l ms rest c g)
  phrase_shapes l ms rest kinds.Unless c g =
      ending p code (Comes ms) (Ways rest ms) (Three rest ms) (phrase_code (at_site l ms) rest kinds.Unless c) (λ q end. end.0) (negated_shapes p code ls b l ms rest c g)
  phrase_shapes l ms rest kinds.While c g =
      ending p code (Comes ms) (Ways (rest + 1) ms) (Three rest ms) (phrase_code (at_site l ms) rest kinds.While c) (λ q end. (end.0.0, end.1)) (condition_shapes p code ls b l ms (rest + 1) c g)
  phrase_shapes l ms rest kinds.Until c g =
      ending p code (Comes ms) (Ways (rest + 1) ms) (Three rest ms) (phrase_code (at_site l ms) rest kinds.Until c) (λ q end. (end.0.0, end.1)) (negated_shapes p code ls b l ms (rest + 1) c g)

  pub phrases_shapes : (l : Line) (ms : List Mode) (to : ℕ → Type 0) (ps : List Phrase) (turn : List Placed) → Every (IsTypedPhrase section_scope) ps → ((q : ℕ) → to q → Ways 1 ms q) → Shapes p code (Comes ms) turn to → Shapes p code (Comes ms) (phrases_code (at_site l ms) ps turn) to
  phrases_shapes l ms to [] turn g ends r = r
  phrases_shapes l ms to (x ∷ ps) turn g ends r =
      let later : List Placed = phrases_code (at_site l ms) ps turn in
      seq (phrase_shapes l ms (length later) x.kind x.condition g.0)
      (lead p code (Comes ms) (Three (length later) ms) to later (λ q at end.
      let two : Ways 1 ms (q + length later) = ends (q + length later) end in
      let e : q + length later + 1 ≡ q + (length later + 1) = omega arith in ((at, two.0), moved p code e two.1))
      (phrases_shapes l ms to ps turn g.1 ends r))

  -- ## The turns of a FOR

  -- cells are forgotten
  pub forgets : (l : Line) (m : Mode) (gone ms : List Mode) (count : ℕ) → count ≡ suc (length gone) → Shapes p code (Comes ((m ∷ gone) ++ ms)) (forget (at_site l ((m ∷ gone) ++ ms)) count) (Comes ms)
  forgets l m gone ms zero e = absurd (omega (arith, e))
  forgets l m gone ms (suc k) e =
      let many : length (m ∷ gone) ≡ suc k = omega (arith, e) in
      one p code (Comes ms) (place (at_site l ((m ∷ gone) ++ ms)) (i.Forget (suc k))) (λ q end. (m ∷ gone, ms, refl, many, end))

  -- more may hold of where the machine is then
  forgets_then : (l : Line) (m : Mode) (gone ms : List Mode) (count : ℕ) (more : ℕ → Type 0) → count ≡ suc (length gone) → Shapes p code (And ((m ∷ gone) ++ ms) (Later more)) (forget (at_site l ((m ∷ gone) ++ ms)) count) (And ms more)
  forgets_then l m gone ms zero more e = absurd (omega (arith, e))
  forgets_then l m gone ms (suc k) more e =
      keep p code (Comes ((m ∷ gone) ++ ms)) (Comes ms) more (forget (at_site l ((m ∷ gone) ++ ms)) (suc k)) (forgets l m gone ms (suc k) e)

  -- an instruction that goes on with the next turn, after this one
  goes_on : (l : Line) (ms : List Mode) (turn : List Placed) (again : ℕ → Instruction) (to : ℕ → Type 0) (k : ℕ) → ((k q : ℕ) → IsDueAt p code (q - k) ls ms → to (q + 1) → IsSuited p code q ls ms (again k)) → Shapes p code (Comes ms) turn (And ms (Later to)) → Shapes p code (Comes ms) (turn ++ (place (at_site l ms) (again k) ∷ [])) (Backed to k ms)
  goes_on l ms turn again to k suits r =
      seq r
      (lead p code (Comes ms) (And ms (Later to)) (Backed to k ms) (place (at_site l ms) (again k) ∷ []) (λ q at end. (at, end.0))
      (one p code (Backed to k ms) (place (at_site l ms) (again k)) (λ q end. suits k q (one_back k q ms end.1) end.0)))

  -- the tick of an item or a member, the turn, and on to the next one
  turns_shapes : (l : Line) (ms : List Mode) (h : ℕ) (x : Variable) (turn : List Placed) (again : ℕ → Instruction) (to : ℕ → Type 0) → cell_at h ms ≡ Some Integer → mode_at shape_scope x ≡ Some Integer → ((k q : ℕ) → IsDueAt p code (q - k) ls ms → to (q + 1) → IsSuited p code q ls ms (again k)) → Shapes p code (Comes ms) turn (And ms (Later to)) → Shapes p code (Comes ms) (turns_code (at_site l ms) h x turn again) to
  turns_shapes l ms h x turn again to cell mode suits r = by (is_watched p.statistics x) refl
    where
      taken : is_watched p.statistics x ≡ false → Shapes p code (Comes ms) (place (at_site l ms) (i.Take h x) ∷ (turn ++ (place (at_site l ms) (again (1 + length turn)) ∷ []))) to
      taken plain =
          let k : ℕ = 1 + length turn in
          let last : List Placed = place (at_site l ms) (again k) ∷ [] in
          let long : k ≡ length (turn ++ last) = omega (arith, length-append turn last) in
          looped p code (Comes ms) to (place (at_site l ms) (i.Take h x)) (turn ++ last) k long refl (λ q at. ((mode, plain), cell, at)) (goes_on l ms turn again to k suits r)

      kept : Shapes p code (Comes ms) (place (at_site l ms) i.Turn ∷ (place (at_site l ms) (i.Keep (i.Stays h) x) ∷ (turn ++ (place (at_site l ms) (again (2 + length turn)) ∷ [])))) to
      kept =
          let k : ℕ = 2 + length turn in
          let assign : Placed = place (at_site l ms) (i.Keep (i.Stays h) x) in
          let last : List Placed = place (at_site l ms) (again k) ∷ [] in
          let long : k ≡ length (assign ∷ (turn ++ last)) = omega (arith, length-append turn last) in
          looped p code (Comes ms) to (place (at_site l ms) i.Turn) (assign ∷ (turn ++ last)) k long refl (λ q at. at)
          (lead p code (And ms (Later (Comes ms))) (Comes ms) (Backed to k ms) (assign ∷ (turn ++ last)) (λ q at end. at.0)
          (put_before p code (Comes ms) (Backed to k ms) assign (turn ++ last) (λ q at end. (mode, (ms, (cell, refl), at))) (goes_on l ms turn again to k suits r)))

      by : (k : Bool) → is_watched p.statistics x ≡ k → Shapes p code (Comes ms) ((if k then place (at_site l ms) i.Turn ∷ (place (at_site l ms) (i.Keep (i.Stays h) x) ∷ []) else place (at_site l ms) (i.Take h x) ∷ []) ++ (turn ++ (place (at_site l ms) (again (length (if k then place (at_site l ms) i.Turn ∷ (place (at_site l ms) (i.Keep (i.Stays h) x) ∷ []) else place (at_site l ms) (i.Take h x) ∷ []) + length turn)) ∷ []))) to
      by true e = kept
      by false e = taken e

  -- what is so as a turn ends: there is the instruction that goes on, after it the one that forgets, and more may hold of the place after both
  abbrev TurnEnds : List Mode → (ℕ → Type 0) → ℕ → Type 0
  TurnEnds ms more q = Comes ms q × (Comes ms (q + 1) × more (q + 2))

  -- the turns, and what is forgotten after them: it is known where both begin
  rounds : (l : Line) (m : Mode) (gone ms : List Mode) (count h : ℕ) (x : Variable) (turn : List Placed) (again : ℕ → Instruction) (more : ℕ → Type 0) → count ≡ suc (length gone) → cell_at h ((m ∷ gone) ++ ms) ≡ Some Integer → mode_at shape_scope x ≡ Some Integer → ((k q : ℕ) → IsDueAt p code (q - k) ls ((m ∷ gone) ++ ms) → Comes ((m ∷ gone) ++ ms) (q + 1) → IsSuited p code q ls ((m ∷ gone) ++ ms) (again k)) → Shapes p code (Comes ((m ∷ gone) ++ ms)) turn (TurnEnds ((m ∷ gone) ++ ms) more) → Shapes p code (Ways (length (turns_code (at_site l ((m ∷ gone) ++ ms)) h x turn again)) ((m ∷ gone) ++ ms)) (turns_code (at_site l ((m ∷ gone) ++ ms)) h x turn again ++ forget (at_site l ((m ∷ gone) ++ ms)) count) (And ms more)
  rounds l m gone ms count h x turn again more e cell mode suits r =
      let all : List Mode = (m ∷ gone) ++ ms in
      let turns : List Placed = turns_code (at_site l all) h x turn again in
      seq
      (lead p code (Comes all) (Ways (length turns) all) (And all (Later more)) turns (λ q at end. (at, end.0))
      (turns_shapes l all h x turn again (And all (Later more)) cell mode (λ k q due end. suits k q due end.0)
      (ending p code (Comes all) (TurnEnds all more) (And all (Later (And all (Later more)))) turn (λ q end. let j : q + 1 + 1 ≡ q + 2 = omega arith in (end.0, (end.1.0, subst more j end.1.1))) r)))
      (forgets_then l m gone ms count more e)

  -- ## FOR over numbers, and over the entities of a class

  abbrev numbers : List Mode → List Mode
  numbers ms = Integer ∷ Integer ∷ Integer ∷ ms

  number_block : (ms : List Mode) → HasOnTop (length ms) loop_modes (numbers ms) ms
  number_block ms = record { is = refl; height = refl }

  number_rounds : (l : Line) (ms : List Mode) (x : Variable) (turn : List Placed) (more : ℕ → Type 0) → mode_at shape_scope x ≡ Some Integer → Shapes p code (Comes (numbers ms)) turn (TurnEnds (numbers ms) more) → Shapes p code (Ways (length (turns_code (at_site l (numbers ms)) (length ms) x turn (i.Next (length ms)))) (numbers ms)) (turns_code (at_site l (numbers ms)) (length ms) x turn (i.Next (length ms)) ++ forget_to (at_site l ms) (at_site l (numbers ms))) (And ms more)
  number_rounds l ms x turn more mode r =
      rounds l Integer (Integer ∷ Integer ∷ []) ms (suc (suc (suc (length ms))) - length ms) (length ms) x turn (i.Next (length ms)) more (three_more (length ms)) (under_cell (Integer ∷ Integer ∷ []) (length ms) Integer ms refl) mode
      (λ k q due end. (ms, number_block ms, (end, due))) r

  -- an instruction that begins a loop, before its turns and what comes after them
  begun : (l : Line) (cells inner : List Mode) (x : Instruction) (skip : ℕ) (c : List Placed) (to : ℕ → Type 0) → ((q : ℕ) → Ways skip inner (q + 1) → IsSuited p code q ls cells x) → Shapes p code (Ways skip inner) c to → Shapes p code (Comes cells) (place (at_site l cells) x ∷ c) to
  begun l cells inner x skip c to suits r =
      lead p code (λ q. Comes cells q × Ways skip inner (q + 1)) (Comes cells) to (place (at_site l cells) x ∷ c) (λ q at end. at.0)
      (put_before p code (Ways skip inner) to (place (at_site l cells) x) c (λ q at end. suits q at) r)

  step_shapes : (l : Line) (c : Option Expression) (ms : List Mode) → IfSome c (λ e. HasMode section_scope e Integer) → Shapes p code (Comes ms) (step_code (at_site l ms) c) (Comes (Integer ∷ ms))
  step_shapes l None ms h =
      one p code (Comes (Integer ∷ ms)) (place (at_site l ms) (i.Move (i.Constant (Whole (pos 1))) (next (at_site l ms)))) (λ q end. (Integer, (ms, (refl, refl), (Integer ∷ ms, (refl, refl), end))))
  step_shapes l (Some e) ms h = cell_shapes p code ls b l e Integer ms h

  range_shapes : (l : Line) (x y : Expression) (c : Option Expression) (ms : List Mode) → HasMode section_scope x Integer → HasMode section_scope y Integer → IfSome c (λ e. HasMode section_scope e Integer) → Shapes p code (Comes ms) (range_code (at_site l ms) x y c) (Comes (numbers ms))
  range_shapes l x y c ms hx hy hc =
      seq (cell_shapes p code ls b l x Integer ms hx) (seq (cell_shapes p code ls b l y Integer (Integer ∷ ms) hy) (step_shapes l c (Integer ∷ Integer ∷ ms) hc))

  -- ## FOR over the members of a set

  abbrev members : List Mode → List Mode
  members cells = Integer ∷ Integer ∷ cells

  member_block : (cells : List Mode) → HasOnTop (length cells) walk_modes (members cells) cells
  member_block cells = record { is = refl; height = refl }

  -- an owner that stays in its cell, if it has one
  record Keeps (set : ℕ) (o : Bearer) (cells : List Mode) : Type 0 where
    fits : BearerFits p set o
    reads : IsGivingBearer shape_scope o cells cells

  owner_keeps : (l : Line) (set : ℕ) (o : SetOwner) (ms : List Mode) → IsTypedOwner section_scope set o → Keeps set (owner_kept (at_site l ms) o) (owner_cells (at_site l ms) o)
  owner_keeps l set TheSystem ms g = record { fits = g; reads = refl }
  owner_keeps l set (Entity e) ms g = record { fits = g.0; reads = (under_cell [] (length ms) Integer ms refl, refl) }

  owner_shapes : (l : Line) (set : ℕ) (o : SetOwner) (ms : List Mode) → IsTypedOwner section_scope set o → Shapes p code (Comes ms) (owner_code (at_site l ms) o) (Comes (owner_cells (at_site l ms) o))
  owner_shapes l set TheSystem ms g = none p code (Comes ms)
  owner_shapes l set (Entity e) ms g = cell_shapes p code ls b l e Integer ms g.1

  -- the cells with the member at which a walk begins
  abbrev begun_cells : Start → List Mode → List Mode
  begun_cells AtEnd cells = cells
  begun_cells (From e) cells = Integer ∷ cells
  begun_cells (After e) cells = Integer ∷ cells

  -- a member in a cell, after a look at the owner
  member_cell_shapes : (l : Line) (set : ℕ) (o : Bearer) (e : Expression) (cells : List Mode) → Keeps set o cells → HasMode section_scope e Integer → Shapes p code (Comes cells) (start_code (at_site l cells) set o (From e)) (Comes (Integer ∷ cells))
  member_cell_shapes l set o e cells k h =
      let look : Placed = place (at_site l cells) (i.LookOwner set o) in
      let value : List Placed = expression_code (at_site l cells) (next (at_site l cells)) e in
      lead p code (And cells (Later (Comes cells))) (Comes cells) (Comes (Integer ∷ cells)) (look ∷ value) (λ q at end. at.0)
      (put_before p code (Comes cells) (Comes (Integer ∷ cells)) look value (λ q at end. (k.fits, (cells, k.reads, at))) (cell_shapes p code ls b l e Integer cells h))

  start_shapes : (l : Line) (set : ℕ) (o : Bearer) (start : Start) (cells : List Mode) → Keeps set o cells → IsTypedStart section_scope start → Shapes p code (Comes cells) (start_code (at_site l cells) set o start) (Comes (begun_cells start cells))
  start_shapes l set o AtEnd cells k g = none p code (Comes cells)
  start_shapes l set o (From e) cells k g = member_cell_shapes l set o e cells k g
  start_shapes l set o (After e) cells k g = member_cell_shapes l set o e cells k g

  -- a walk begins
  begin_shapes : (l : Line) (reverse : Bool) (set : ℕ) (o : Bearer) (start : Start) (skip : ℕ) (cells : List Mode) (c : List Placed) (to : ℕ → Type 0) → Keeps set o cells → Shapes p code (Ways skip (members cells)) c to → Shapes p code (Comes (begun_cells start cells)) (begin_code (at_site l cells) reverse set o start skip ∷ c) to
  begin_shapes l reverse set o AtEnd skip cells c to k r =
      begun l cells (members cells) (i.BeginSet reverse set o (length cells) skip) skip c to (λ q at. (k.fits, (cells, k.reads, (refl, at)))) r
  begin_shapes l reverse set o (From e) skip cells c to k r =
      begun l (Integer ∷ cells) (members cells) (i.BeginAt reverse false set o (length cells) skip) skip c to (λ q at. (k.fits, (cells, (refl, refl), (cells, k.reads, at)))) r
  begin_shapes l reverse set o (After e) skip cells c to k r =
      begun l (Integer ∷ cells) (members cells) (i.BeginAt reverse true set o (length cells) skip) skip c to (λ q at. (k.fits, (cells, (refl, refl), (cells, k.reads, at)))) r

  -- the turns of a walk
  abbrev walk_turns : Line → List Mode → SetOwner → (set : ℕ) → (reverse : Bool) → Variable → List Placed → List Placed
  walk_turns l ms o set reverse x turn =
      turns_code (at_site l (members (owner_cells (at_site l ms) o))) (length (owner_cells (at_site l ms) o)) x turn (i.NextMember reverse set (owner_kept (at_site l ms) o) (length (owner_cells (at_site l ms) o)))

  member_rounds : (l : Line) (ms : List Mode) (o : SetOwner) (set : ℕ) (reverse : Bool) (x : Variable) (turn : List Placed) (more : ℕ → Type 0) → mode_at shape_scope x ≡ Some Integer → Keeps set (owner_kept (at_site l ms) o) (owner_cells (at_site l ms) o) → Shapes p code (Comes (members (owner_cells (at_site l ms) o))) turn (TurnEnds (members (owner_cells (at_site l ms) o)) more) → Shapes p code (Ways (length (walk_turns l ms o set reverse x turn)) (members (owner_cells (at_site l ms) o))) (walk_turns l ms o set reverse x turn ++ forget_to (at_site l ms) (walk_loop (at_site l ms) o)) (And ms more)
  member_rounds l ms TheSystem set reverse x turn more mode keeps r =
      rounds l Integer (Integer ∷ []) ms (suc (suc (length ms)) - length ms) (length ms) x turn (i.NextMember reverse set None (length ms)) more (two_more (length ms)) (under_cell (Integer ∷ []) (length ms) Integer ms refl) mode
      (λ k q due end. (keeps.fits, (ms, member_block ms, (ms, keeps.reads, (end, due))))) r
  member_rounds l ms (Entity e) set reverse x turn more mode keeps r =
      rounds l Integer (Integer ∷ Integer ∷ []) ms (suc (suc (suc (length ms))) - length ms) (suc (length ms)) x turn (i.NextMember reverse set (Some (i.Stays (length ms))) (suc (length ms))) more (three_more (length ms))
      (under_cell (Integer ∷ []) (suc (length ms)) Integer (Integer ∷ ms) refl) mode
      (λ k q due end. (keeps.fits, (Integer ∷ ms, member_block (Integer ∷ ms), (Integer ∷ ms, keeps.reads, (end, due))))) r

  -- ## FOR

  pub for_shapes : (l : Line) (ms : List Mode) (head : Head) (turn : List Placed) (more : ℕ → Type 0) → IsTypedHead section_scope head → Shapes p code (Comes (loop_cells (at_site l ms) head)) turn (TurnEnds (loop_cells (at_site l ms) head) more) → Shapes p code (Comes ms) (for_code (at_site l ms) head turn) (And ms more)
  for_shapes l ms (Numbers x y z c) turn more g r =
      let turns : List Placed = turns_code (at_site l (numbers ms)) (length ms) x turn (i.Next (length ms)) in
      seq (range_shapes l y z c ms g.1 g.2 g.3)
      (begun l (numbers ms) (numbers ms) (i.Begin (length ms) (length turns)) (length turns) (turns ++ forget_to (at_site l ms) (at_site l (numbers ms))) (And ms more) (λ q at. (ms, number_block ms, at))
      (number_rounds l ms x turn more (plain_mode p typed code ls b x Integer g.0) r))
  for_shapes l ms (Each x class) turn more g r =
      let turns : List Placed = turns_code (at_site l (numbers ms)) (length ms) x turn (i.Next (length ms)) in
      begun l ms (numbers ms) (i.BeginClass class (length ms) (length turns)) (length turns) (turns ++ forget_to (at_site l ms) (at_site l (numbers ms))) (And ms more) (λ q at. (g.1, refl, at))
      (number_rounds l ms x turn more (plain_mode p typed code ls b x Integer g.0) r)
  for_shapes l ms (Members x set o start reverse) turn more g r =
      let cells : List Mode = owner_cells (at_site l ms) o in
      let kept : Bearer = owner_kept (at_site l ms) o in
      let turns : List Placed = walk_turns l ms o set reverse x turn in
      let keeps : Keeps set kept cells = owner_keeps l set o ms g.1 in
      seq (owner_shapes l set o ms g.1)
      (seq (start_shapes l set kept start cells keeps g.2)
      (begin_shapes l reverse set kept start (length turns) cells (turns ++ forget_to (at_site l ms) (walk_loop (at_site l ms) o)) (And ms more) keeps
      (member_rounds l ms o set reverse x turn more (plain_mode p typed code ls b x Integer g.0) keeps r)))

  -- FOR, with its phrases and its body
  abbrev Nothing : ℕ → Type 0
  Nothing q = Unit {0}

  pub for_each_shapes : (l : Line) (ms : List Mode) (head : Head) (ps : List Phrase) (body : List Placed) → IsTypedHead section_scope head → Every (IsTypedPhrase section_scope) ps → Shapes p code (Comes (loop_cells (at_site l ms) head)) body (Comes (loop_cells (at_site l ms) head)) → Shapes p code (Comes ms) (for_code (at_site l ms) head (phrases_code (in_loop (at_site l ms) head) ps body)) (Comes ms)
  for_each_shapes l ms head ps body g h r =
      let inner : List Mode = loop_cells (at_site l ms) head in
      ending p code (Comes ms) (And ms Nothing) (Comes ms) (for_code (at_site l ms) head (phrases_code (in_loop (at_site l ms) head) ps body)) (λ q end. (end, tt))
      (for_shapes l ms head (phrases_code (in_loop (at_site l ms) head) ps body) Nothing g
      (phrases_shapes l inner (TurnEnds inner Nothing) ps body h (λ q end. (end.0, end.1.0))
      (ending p code (Comes inner) (Comes inner) (TurnEnds inner Nothing) body (λ q end. end.0) r)))

  -- ## FIND

  -- what a loop keeps is forgotten, by one instruction
  loop_forgets : (l : Line) (ms : List Mode) (head : Head) → Shapes p code (Comes (loop_cells (at_site l ms) head)) (forget_to (at_site l ms) (in_loop (at_site l ms) head)) (Comes ms)
  loop_forgets l ms (Members x set TheSystem start reverse) = forgets l Integer (Integer ∷ []) ms (suc (suc (length ms)) - length ms) (two_more (length ms))
  loop_forgets l ms _ = forgets l Integer (Integer ∷ Integer ∷ []) ms (suc (suc (suc (length ms))) - length ms) (three_more (length ms))

  -- where the side of a case that was found begins: so many instructions and one after the loop
  abbrev FoundAt : (count : ℕ) → List Mode → ℕ → Type 0
  FoundAt count inner q = Comes inner (q + count + 1)

  -- the sides of a FIND
  sides_shapes : (l : Line) (ms : List Mode) (head : Head) (found other : List Placed) → Shapes p code (Comes ms) found (Comes ms) → Shapes p code (Comes ms) other (Comes ms) → Shapes p code (And ms (FoundAt (length other) (loop_cells (at_site l ms) head))) (other ++ (place (at_site l ms) (i.Jump (length found + 1)) ∷ (forget_to (at_site l ms) (in_loop (at_site l ms) head) ++ found))) (Comes ms)
  sides_shapes l ms head found other r t =
      let inner : List Mode = loop_cells (at_site l ms) head in
      let forgotten : List Placed = forget_to (at_site l ms) (in_loop (at_site l ms) head) in
      seq (keep p code (Comes ms) (Comes ms) (Later (Comes inner)) other t)
      (put_before p code (Comes inner) (Comes ms) (place (at_site l ms) (i.Jump (length found + 1))) (forgotten ++ found)
      (λ q at end.
      let e : q + 1 + length (forgotten ++ found) ≡ q + 1 + (length found + 1) = omega (arith, length-append forgotten found, forgets_one (at_site l ms) head) in moved p code e end)
      (seq (loop_forgets l ms head) r))

  pub find_shapes : (l : Line) (ms : List Mode) (head : Head) (ps : List Phrase) (found other : List Placed) → IsTypedHead section_scope head → Every (IsTypedPhrase section_scope) ps → Shapes p code (Comes ms) found (Comes ms) → Shapes p code (Comes ms) other (Comes ms) → Shapes p code (Comes ms) (find_code (at_site l ms) head ps found other) (Comes ms)
  find_shapes l ms head ps found other g h r t =
      let inner : List Mode = loop_cells (at_site l ms) head in
      let jump : Placed = place (in_loop (at_site l ms) head) (i.Jump (length other + 3)) in
      seq
      (for_shapes l ms head (phrases_code (in_loop (at_site l ms) head) ps (jump ∷ [])) (FoundAt (length other) inner) g
      (phrases_shapes l inner (TurnEnds inner (FoundAt (length other) inner)) ps (jump ∷ []) h (λ q end. (end.0, end.1.0))
      (one p code (TurnEnds inner (FoundAt (length other) inner)) jump (λ q end.
      let e : q + 1 + 2 + length other + 1 ≡ q + 1 + (length other + 3) = omega arith in moved p code e end.1.1))))
      (sides_shapes l ms head found other r t)
