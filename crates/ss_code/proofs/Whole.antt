-- The whole code of a program, from that of its sections.
use Rattle.std.proofs.Common.{◌≡◌, ℕ, suc, ◌+◌, ◌≤◌, List, [], ◌∷◌, ◌++◌, length, map, refl, sym, ap, ◌∙◌, subst, arith, length-append}
use Rattle.std.specs.Prelude.{pos}
use Rattle.std.specs.List.{AllByRecursion as Every}
use Rattle.ss_base.specs.declared.value.Value.{Value}
use Rattle.ss_base.specs.declared.value.Value.TheVariants.{Whole}
use Rattle.ss_program.specs.Program.{Program, Routine, Event}
use Rattle.ss_code_instructions.specs.declared.entry.SectionEntry.{SectionEntry}
use Rattle.ss_code_instructions.specs.declared.instruction.Instruction.{Instruction as Running}
use Rattle.ss_code_instructions.specs.Instructions.{Placed, EntryPoint}
use Rattle.ss_code_instructions.specs.Running.{HasLandings}
use Rattle.ss_code_instructions.specs.Translation.{routine_code, event_code, routines_code, events_code, block_prints, routines_prints, events_prints, routine_entries, event_entries, main_code, all_routines, all_events, main_prints, prints_before_events, code_of}
use Rattle.ss_code_instructions.specs.Carried.{RunningLines, RunningCode, lines_of_running, item_modes, onto, IsCarriedOut, IsFittingPrint, IsEntry, AreEntries, IsPlace, ArePlaces, main_entry, IsCode}
use Rattle.ss_code_instructions.specs.Walks.{WalksSift}
use Rattle.ss_code_instructions.proofs.Steps.{HasAt, has_all}
use Rattle.ss_code_generator.specs.declared.generator.Generator.{Generator}
use Rattle.ss_code_pieces.specs.Lined.{Lined, no_code, instructions_in, lines_in}
use Rattle.ss_code_generator.specs.Emitted.{Final, HasPrintModes, HasAdded}
use Rattle.ss_code_generator.specs.Printed.{HasPrinted}
use Rattle.ss_code.specs.Running.{HasFrameOf, AreAllFramed}
use Rattle.ss_code.specs.Sections.{IsDeepened, AreAllDeepened}
use Rattle.ss_code.specs.Sifted.{AreAllAlike}
use Rattle.ss_code_generator.proofs.PrintLines.{prints_then, prints_long}
use Rattle.ss_code.proofs.Alike.{RunAlone, lines_run, all_run_alike}
use Rattle.ss_code_generator.proofs.Emitting.{adds_then, adds_same, piece_long}
use Rattle.ss_code_generator.proofs.Modes.{same_some}

-- ## Places

-- what is shown at a PRINT is shown at its lines
shows_of : (prints : List RunningLines) (x : Placed) → HasPrintModes prints x.cells x.instruction → IsFittingPrint prints x
shows_of prints x shown = λ n h l e there.
    let s = subst (λ i. HasPrintModes prints x.cells i) e shown in
    let same : s.0 ≡ l = same_some (sym s.1 ∙ there) in
    (s.2.0, s.2.1 ∙ ap (λ (l : RunningLines). onto (item_modes l.items) s.2.0) same)

module _ (f : Final) (run : RunningCode) (constants : run.constants ≡ f.constants) (prints : run.prints ≡ f.prints) (depth : run.depth ≡ f.depth) (lands : HasLandings (code_of f.program)) where
  -- what runs, from a place of the code on
  are_places : (n : ℕ) (xs : List Placed) (ys : List Running) → HasAt (code_of f.program).places n xs → RunAlone f xs ys → ArePlaces (code_of f.program) run n xs ys
  are_places n [] [] has h = tt
  are_places n (x ∷ xs) (y ∷ ys) has h =
      let here : IsPlace (code_of f.program) run n x y = record {
        carries = subst (λ (c : List Value). IsCarriedOut (code_of f.program) c x y) (sym constants) h.0.carries;
        depth = omega (arith, h.0.deep, depth);
        back = λ back e. (lands n back x has.0 e).0;
        shows = subst (λ (p : List RunningLines). IsFittingPrint p x) (sym prints) (shows_of f.prints x h.0.shown);
      } in
      let next : n + 1 ≡ suc n = omega arith in
      (here, are_places (suc n) xs ys (subst (λ k. HasAt (code_of f.program).places k xs) next has.1) h.1)
  are_places n _ _ has h = absurd h

-- ## Sections

-- a section yields no more than its other variables
abbrev Yields : EntryPoint → Type 0
Yields e = e.yielding ≤ length e.others

entry_of : (depth : ℕ) (e : EntryPoint) (old new : SectionEntry) → HasFrameOf 0 e old → IsDeepened depth old new → Yields e → IsEntry depth e new
entry_of depth e old new b d few =
    let same_room : new.room ≡ old.room + depth = ap (λ (x : SectionEntry). x.room) d.same in
    let room : new.room ≡ length e.given + length e.others + depth = omega (arith, same_room, b.room) in
    let given : new.given.items ≡ e.given = ap (λ (x : SectionEntry). x.given.items) d.same ∙ b.given in
    let others : new.others.items ≡ e.others = ap (λ (x : SectionEntry). x.others.items) d.same ∙ b.others in
    let yielding : new.yielding ≡ e.yielding = ap (λ (x : SectionEntry). x.yielding) d.same ∙ b.yielding in
    record {
      place = ap (λ (x : SectionEntry). x.place) d.same ∙ b.place;
      given = given;
      yielding = yielding;
      others = others;
      room = room;
      sized = record {
        variables = omega (arith, room, ap length given, ap length others);
        yields = omega (arith, few, yielding, ap length others);
        small = d.small;
      };
    }

entries_of : (depth : ℕ) (es : List EntryPoint) (olds news : List SectionEntry) → AreAllFramed 0 es olds → AreAllDeepened depth olds news → Every Yields es → AreEntries depth es news
entries_of depth [] [] [] b d y = tt
entries_of depth (e ∷ es) (o ∷ os) (n ∷ ns) b d y = (entry_of depth e o n b.0 d.0 y.0, entries_of depth es os ns b.1 d.1 y.1)
entries_of depth [] [] _ b d y = absurd d
entries_of depth (e ∷ es) (o ∷ os) [] b d y = absurd d
entries_of depth _ _ news b d y = absurd b

routines_yield : (p : Program) (at first : ℕ) (rs : List Routine) → Every Yields (routine_entries p at first rs)
routines_yield p at first [] = tt
routines_yield p at first (r ∷ rs) =
    let few : length r.yielding ≤ length (r.yielding ++ r.others) = omega (arith, length-append r.yielding r.others) in
    (few, routines_yield p (at + length (routine_code p first r)) (first + length (block_prints r.body)) rs)

events_yield : (p : Program) (at first : ℕ) (es : List Event) → Every Yields (event_entries p at first es)
events_yield p at first [] = tt
events_yield p at first (e ∷ es) =
    let few : 0 ≤ length e.others = omega arith in
    (few, events_yield p (at + length (event_code p first e)) (first + length (block_prints e.body)) es)

-- ## The whole

-- what is known of the parts once all are made
pub record Parts (p : Program) (g : Generator) (c1 c2 c3 : Lined) (p1 p2 p3 : List RunningLines) : Type 0 where
  pub main : HasAdded (record { program = p; constants = g.constants.items; prints = p3; depth = g.deepest }) no_code c1 (main_code p)
  pub routines : HasAdded (record { program = p; constants = g.constants.items; prints = p3; depth = g.deepest }) c1 c2 (routines_code p (length p1) p.routines)
  pub events : HasAdded (record { program = p; constants = g.constants.items; prints = p3; depth = g.deepest }) c2 c3 (events_code p (length p2) p.events)
  pub main_prints : HasPrinted [] p1 (block_prints p.main)
  pub routine_prints : HasPrinted p1 p2 (routines_prints p.routines)
  pub event_prints : HasPrinted p2 p3 (events_prints p.events)

module _ {p : Program} {g : Generator} {c1 c2 c3 : Lined} {p1 p2 p3 : List RunningLines} (parts : Parts p g c1 c2 c3 p1 p2 p3) where
  abbrev final : Final
  final = record { program = p; constants = g.constants.items; prints = p3; depth = g.deepest }

  first_long : length p1 ≡ main_prints p
  first_long = let none : 0 + main_prints p ≡ main_prints p = omega arith in prints_long [] p1 (block_prints p.main) parts.main_prints ∙ none

  second_long : length p2 ≡ prints_before_events p
  second_long = prints_long p1 p2 (routines_prints p.routines) parts.routine_prints ∙ ap (λ n. n + length (routines_prints p.routines)) first_long

  routines_added : HasAdded final c1 c2 (all_routines p)
  routines_added = adds_same (ap (λ n. routines_code p n p.routines) first_long) parts.routines

  -- all places, one after the other
  pub all_added : HasAdded final no_code c3 (code_of p).places
  all_added =
      let es : HasAdded final c2 c3 (all_events p) = adds_same (ap (λ n. events_code p n p.events) second_long) parts.events in
      adds_then parts.main (adds_then routines_added es)

  all_printed : map lines_of_running p3 ≡ (code_of p).prints
  all_printed =
      let all = prints_then [] p1 p3 (block_prints p.main) (routines_prints p.routines ++ events_prints p.events) parts.main_prints
      (prints_then p1 p2 p3 (routines_prints p.routines) (events_prints p.events) parts.routine_prints parts.event_prints) in
      ap (map lines_of_running) all.1 ∙ all.2

  -- where the sections begin
  pub routines_begin : (entries : List SectionEntry) → AreAllFramed 0 (routine_entries p (length c1) (length p1) p.routines) entries → AreAllFramed 0 (code_of p).routines entries
  routines_begin entries h =
      let at : length c1 ≡ length (main_code p) = piece_long parts.main in
      subst (λ (es : List EntryPoint). AreAllFramed 0 es entries) (ap (λ k. routine_entries p k (length p1) p.routines) at ∙ ap (λ k. routine_entries p (length (main_code p)) k p.routines) first_long) h

  pub events_begin : (entries : List SectionEntry) → AreAllFramed 0 (event_entries p (length c2) (length p2) p.events) entries → AreAllFramed 0 (code_of p).events entries
  events_begin entries h =
      let at : length c2 ≡ length (main_code p) + length (all_routines p) = piece_long (adds_then parts.main routines_added) ∙ length-append (main_code p) (all_routines p) in
      subst (λ (es : List EntryPoint). AreAllFramed 0 es entries) (ap (λ k. event_entries p k (length p2) p.events) at ∙ ap (λ k. event_entries p (length (main_code p) + length (all_routines p)) k p.events) second_long) h

  -- the running code is that of the program; some walks in it may sift
  pub is_code : (instructions : List Running) (main0 main1 : SectionEntry) (routines0 routines1 events0 events1 : List SectionEntry) → AreAllAlike (instructions_in c3) instructions → WalksSift (length p.globals + length g.constants.items) instructions → HasLandings (code_of p) → ((rest : List Value) × (g.constants.items ≡ Whole (pos 0) ∷ Whole (pos 1) ∷ rest)) → length instructions ≤ 1048576 → HasFrameOf 0 (main_entry (code_of p)) main0 → IsDeepened g.deepest main0 main1 → AreAllFramed 0 (code_of p).routines routines0 → AreAllDeepened g.deepest routines0 routines1 → AreAllFramed 0 (code_of p).events events0 → AreAllDeepened g.deepest events0 events1 → IsCode (code_of p) (record { instructions = instructions; lines = lines_in c3; constants = g.constants.items; prints = p3; main = main1; routines = routines1; events = events1; depth = g.deepest })
  is_code instructions main0 main1 routines0 routines1 events0 events1 alike sifts lands fixed short m dm rs drs es des =
      let run : RunningCode = record { instructions = instructions; lines = lines_in c3; constants = g.constants.items; prints = p3; main = main1; routines = routines1; events = events1; depth = g.deepest } in
      let nothing_yields : 0 ≤ length p.locals = omega arith in
      let alike' : AreAllAlike (instructions_in all_added.more) instructions = subst (λ (xs : Lined). AreAllAlike (instructions_in xs) instructions) all_added.added alike in
      record {
        places = are_places final run refl refl refl lands 0 (code_of p).places instructions (has_all (code_of p).places []) (all_run_alike final (code_of p).places all_added.more instructions all_added.run alike');
        short = short;
        lines = ap lines_in all_added.added ∙ lines_run final (code_of p).places all_added.more all_added.run;
        constants = fixed;
        prints = all_printed;
        main = entry_of g.deepest (main_entry (code_of p)) main0 main1 m dm nothing_yields;
        routines = entries_of g.deepest (code_of p).routines routines0 routines1 rs drs (routines_yield p (length (main_code p)) (main_prints p) p.routines);
        events = entries_of g.deepest (code_of p).events events0 events1 es des (events_yield p (length (main_code p) + length (all_routines p)) (prints_before_events p) p.events);
        sifts = sifts;
      }
