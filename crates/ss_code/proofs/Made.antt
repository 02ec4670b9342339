-- The code of a program, from what was put for its sections.
use Rattle.std.proofs.Common.{◌≡◌, ℕ, ◌+◌, ◌<◌, ◌≤◌, ◌^◌, true, List, [], ◌∷◌, ◌++◌, length, map, sym, ap, ◌∙◌, subst, arith, append-nil}
use Rattle.std.proofs.lemmas.List.{length-map}
use Rattle.std.specs.Prelude.{pos}
use Rattle.std.specs.List.{AllByRecursion as Every}
use Rattle.ss_base.specs.declared.line.Line.{Line}
use Rattle.ss_base.specs.declared.layout.Mode.{Mode}
use Rattle.ss_base.specs.declared.value.Value.{Value}
use Rattle.ss_base.specs.declared.value.Value.TheVariants.{Whole}
use Rattle.ss_program.specs.declared.sections.Program.{Program as Held}
use Rattle.ss_program.specs.Program.{Program}
use Rattle.ss_program.specs.Nodes.{nodes}
use Rattle.ss_program.specs.View.{view_program, view_routine, view_event, view_body}
use Rattle.ss_program.specs.WellTyped.{IsWellTyped, IsTypedRoutine, IsTypedEvent}
use Rattle.ss_code_instructions.specs.declared.entry.SectionEntry.{SectionEntry}
use Rattle.ss_code_instructions.specs.declared.instruction.Instruction.{Instruction as Running}
use Rattle.ss_code_instructions.specs.Carried.{RunningLines}
use Rattle.ss_code_instructions.specs.Laws.{HasSize}
use Rattle.ss_code_instructions.specs.Running.{HasLandings}
use Rattle.ss_code_instructions.specs.Size.{code_size}
use Rattle.ss_code_instructions.specs.Translation.{code_of, routines_code, events_code}
use Rattle.ss_code_instructions.specs.Translation as z
use Rattle.ss_code_instructions.specs.Walks.{WalksSift}
use Rattle.ss_code_generator.specs.declared.generator.Generator.{Generator}
use Rattle.ss_code_pieces.specs.declared.piece.LinedInstruction.{LinedInstruction}
use Rattle.ss_code_pieces.specs.Lined.{Lined, no_code, instructions_in, lines_in}
use Rattle.ss_code_generator.specs.Emitted.{Final, IsAround, HasPrints, HasAdded}
use Rattle.ss_code.specs.Running.{Said, said_by, Generated, IsFor, AreAllFramed}
use Rattle.ss_code.specs.Sections.{IsDeepened, AreAllDeepened, HasPutSection, HasPutRoutines, HasPutEvents}
use Rattle.ss_code.specs.Sifted.{AreAllAlike}
use Rattle.ss_code_generator.proofs.Emitting.{piece_long}
use Rattle.ss_code.proofs.Alike.{all_alike_long}
use Rattle.ss_code_generator.proofs.Bodies.{has_prints_old}
use Rattle.ss_code.proofs.Sections.{put_around}
use Rattle.ss_code.proofs.Whole.{Parts, all_added, routines_begin, events_begin, is_code}
use Rattle.ss_code.proofs.Nodes.{code_small}

-- how all of it was made
pub record All (g0 g1 g2 g3 : Generator) (c1 c2 c3 : Lined) (p1 p2 p3 : List RunningLines) (main : SectionEntry) (routines events : List SectionEntry) : Type 0 where
  pub constants : g0.constants.items ≡ Whole (pos 0) ∷ (Whole (pos 1) ∷ [])
  pub puts_main : HasPutSection g0 g1 no_code c1 [] p1 (record { place = length no_code; given = []; yielding = 0; others = g0.program.now.locals.items }) (view_body g0.program.now.main.items) main
  pub puts_routines : HasPutRoutines g1 g2 c1 c2 p1 p2 (map view_routine g1.program.now.routines.items) routines
  pub puts_events : HasPutEvents g2 g3 c2 c3 p2 p3 (map view_event g2.program.now.events.items) events
  pub small : g3.deepest < 2 ^ 32

module _ {g0 g1 g2 g3 : Generator} {c1 c2 c3 : Lined} {p1 p2 p3 : List RunningLines} {main : SectionEntry} {routines events : List SectionEntry} (a : All g0 g1 g2 g3 c1 c2 c3 p1 p2 p3 main routines events) where
  abbrev program : Program
  program = view_program g0.program.now

  abbrev final : Final
  final = record { program = program; constants = g3.constants.items; prints = p3; depth = g3.deepest }

  same1 : g1.program.now ≡ g0.program.now
  same1 = (a.puts_main.puts true).program

  same2 : g2.program.now ≡ g0.program.now
  same2 = a.puts_routines.puts.program ∙ same1

  same3 : g3.program.now ≡ g0.program.now
  same3 = a.puts_events.puts.program ∙ same2

  routines_there : HasPutRoutines g1 g2 c1 c2 p1 p2 program.routines routines
  routines_there = subst (λ (h : Held). HasPutRoutines g1 g2 c1 c2 p1 p2 (map view_routine h.routines.items) routines) same1 a.puts_routines

  events_there : HasPutEvents g2 g3 c2 c3 p2 p3 program.events events
  events_there = subst (λ (h : Held). HasPutEvents g2 g3 c2 c3 p2 p3 (map view_event h.events.items) events) same2 a.puts_events

  fixed : (rest : List Value) × (g3.constants.items ≡ Whole (pos 0) ∷ Whole (pos 1) ∷ rest)
  fixed =
      let one = (a.puts_main.puts true).constants in
      let two = routines_there.puts.constants in
      let three = events_there.puts.constants in (
        (one.0 ++ two.0) ++ three.0,
        three.1 ∙ ap (λ (l : List Value). l ++ three.0) (two.1 ∙ ap (λ (l : List Value). l ++ two.0) (one.1 ∙ ap (λ (l : List Value). l ++ one.0) a.constants)),
      )

  module _ (typed : IsWellTyped program) where
    around3 : IsAround final g3
    around3 = record {
      program = ap view_program same3;
      typed = typed;
      fixed = fixed;
      constants = ([], sym (append-nil g3.constants.items));
      depth = omega arith;
      small = a.small;
    }

    around2 : IsAround final g2
    around2 = put_around events_there.puts around3

    around1 : IsAround final g1
    around1 = put_around routines_there.puts around2

    has3 : HasPrints final p3
    has3 = ([], sym (append-nil p3))

    has2 : HasPrints final p2
    has2 = has_prints_old final p2 p3 _ events_there.puts.prints has3

    has1 : HasPrints final p1
    has1 = has_prints_old final p1 p2 _ routines_there.puts.prints has2

    good_routines : Every (IsTypedRoutine (view_program g1.program.now)) program.routines
    good_routines = subst (λ (h : Held). Every (IsTypedRoutine (view_program h)) program.routines) (sym same1) typed.routines

    good_events : Every (IsTypedEvent (view_program g2.program.now)) program.events
    good_events = subst (λ (h : Held). Every (IsTypedEvent (view_program h)) program.events) (sym same2) typed.events

    all_parts : Parts program g3 c1 c2 c3 p1 p2 p3
    all_parts = record {
      main = (a.puts_main.puts true).adds final around1 has1 typed.main;
      routines = subst (λ (h : Held). HasAdded final c1 c2 (routines_code (view_program h) (length p1) program.routines)) same1 (routines_there.puts.adds final around2 has2 good_routines);
      events = subst (λ (h : Held). HasAdded final c2 c3 (events_code (view_program h) (length p2) program.events)) same2 (events_there.puts.adds final around3 has3 good_events);
      main_prints = (a.puts_main.puts true).prints;
      routine_prints = routines_there.puts.prints;
      event_prints = events_there.puts.prints;
    }

    -- there are as many instructions as places
    pub all_long : length c3 ≡ length (code_of program).places
    all_long = piece_long (all_added all_parts)

    -- a small program is never one whose code is too long
    pub small_enough : HasSize → nodes program ≤ 16384 → length c3 ≤ 1048576
    small_enough size few =
        let long : length (code_of program).places ≡ code_size program = size program in
        omega (arith, all_long, long, code_small program, few)

    -- the running code is that of the program
    pub is_made : (instructions : List Running) (main1 : SectionEntry) (routines1 events1 : List SectionEntry) (said : Said) (globals : List Mode) → AreAllAlike (instructions_in c3) instructions → WalksSift (length program.globals + length g3.constants.items) instructions → HasLandings (code_of program) → length c3 ≤ 1048576 → IsDeepened g3.deepest main main1 → AreAllDeepened g3.deepest routines routines1 → AreAllDeepened g3.deepest events events1 → said ≡ said_by program → globals ≡ program.globals → IsFor program (record { run = record { instructions = instructions; lines = (lines_in c3); constants = g3.constants.items; prints = p3; main = main1; routines = routines1; events = events1; depth = g3.deepest }; said = said; globals = globals })
    is_made instructions main1 routines1 events1 said globals alike sifts lands short dm drs des says modes =
        let rs = subst (λ (h : Held). AreAllFramed 0 (z.routine_entries (view_program h) (length c1) (length p1) program.routines) routines) same1 (routines_there.begin final around2 has2 good_routines) in
        let es = subst (λ (h : Held). AreAllFramed 0 (z.event_entries (view_program h) (length c2) (length p2) program.events) events) same2 (events_there.begin final around3 has3 good_events) in
        let few : length instructions ≤ 1048576 = omega (arith, short, all_alike_long (instructions_in c3) instructions alike, length-map c3 (λ (x : LinedInstruction). x.instruction)) in
        record {
          code = is_code all_parts instructions main main1 routines routines1 events events1 alike sifts lands fixed few a.puts_main.begins dm (routines_begin all_parts routines rs) drs (events_begin all_parts events es) des;
          said = says;
          globals = modes;
        }

-- ## The code of the program that was handed in

-- the most cells of a frame, once one has room for them
few_cells : (depth : ℕ) (old new : SectionEntry) → IsDeepened depth old new → depth < 2 ^ 32
few_cells depth old new d = omega (arith, d.small, ap (λ (x : SectionEntry). x.room) d.same)

-- all of it, by what each call ensured
pub all_made : {g0 g1 g2 g3 : Generator} {c0 c1 c2 c3 : Lined} {p0 p1 p2 p3 : List RunningLines} {main deep : SectionEntry} {routines events : List SectionEntry}
    → HasPutSection g0 g1 c0 c1 p0 p1 (record { place = length c0; given = []; yielding = 0; others = g0.program.now.locals.items }) (view_body g0.program.now.main.items) main
    → HasPutRoutines g1 g2 c1 c2 p1 p2 (map view_routine g1.program.now.routines.items) routines
    → HasPutEvents g2 g3 c2 c3 p2 p3 (map view_event g2.program.now.events.items) events
    → IsDeepened g3.deepest main deep
    → g0.constants.items ≡ Whole (pos 0) ∷ (Whole (pos 1) ∷ []) → c0 ≡ no_code → p0 ≡ []
    → All g0 g1 g2 g3 c1 c2 c3 p1 p2 p3 main routines events
all_made {g3 = g3} {main = main} {deep = deep} puts_main puts_routines puts_events deepened constants code prints = record {
  constants = constants;
  puts_main = rw (code, prints) at puts_main;
  puts_routines = puts_routines;
  puts_events = puts_events;
  small = few_cells g3.deepest main deep deepened;
}

module _ {g0 g1 g2 g3 : Generator} {c1 c2 c3 : Lined} {p1 p2 p3 : List RunningLines} {main : SectionEntry} {routines events : List SectionEntry} (a : All g0 g1 g2 g3 c1 c2 c3 p1 p2 p3 main routines events) (held : Held) (same : g0.program.now ≡ held) (typed : IsWellTyped (view_program held)) where
  typed_here : IsWellTyped (view_program g0.program.now)
  typed_here = subst (λ (h : Held). IsWellTyped (view_program h)) (sym same) typed

  pub code_long : length c3 ≡ length (code_of (view_program held)).places
  code_long = all_long a typed_here ∙ ap (λ (h : Held). length (code_of (view_program h)).places) same

  pub never_long : HasSize → nodes (view_program held) ≤ 16384 → length c3 ≤ 1048576
  never_long size few =
      let here : nodes (view_program g0.program.now) ≡ nodes (view_program held) = ap (λ (h : Held). nodes (view_program h)) same in
      small_enough a typed_here size (omega (arith, here, few))

  abbrev pub compiled : (instructions : List Running) (main1 : SectionEntry) (routines1 events1 : List SectionEntry) (said : Said) (globals : List Mode) (lines : List Line) (depth : ℕ) → Generated
  compiled instructions main1 routines1 events1 said globals lines depth = record { run = record { instructions = instructions; lines = lines; constants = g3.constants.items; prints = p3; main = main1; routines = routines1; events = events1; depth = depth }; said = said; globals = globals }

  pub made_for : (before instructions : List Running) (lines : List Line) (depth : ℕ) (main1 : SectionEntry) (routines1 events1 : List SectionEntry) (said : Said) (globals : List Mode) (low : ℕ) → before ≡ instructions_in c3 → lines ≡ lines_in c3 → depth ≡ g3.deepest → AreAllAlike before instructions → WalksSift low instructions → low ≡ length globals + length g3.constants.items → HasLandings (code_of (view_program held)) → length c3 ≤ 1048576 → IsDeepened g3.deepest main main1 → AreAllDeepened g3.deepest routines routines1 → AreAllDeepened g3.deepest events events1 → said ≡ said_by (view_program held) → globals ≡ held.globals.items → IsFor (view_program held) (record { run = record { instructions = instructions; lines = lines; constants = g3.constants.items; prints = p3; main = main1; routines = routines1; events = events1; depth = depth }; said = said; globals = globals })
  made_for before instructions lines depth main1 routines1 events1 said globals low before_is lines_is depth_is alike sifts low_is lands short dm drs des says modes =
      let alike' : AreAllAlike (instructions_in c3) instructions = subst (λ (l : List Running). AreAllAlike l instructions) before_is alike in
      let modes' : globals ≡ g0.program.now.globals.items = modes ∙ sym (ap (λ (h : Held). h.globals.items) same) in
      let sifts' : WalksSift (length g0.program.now.globals.items + length g3.constants.items) instructions = subst (λ k. WalksSift k instructions) (low_is ∙ ap (λ (l : List Mode). length l + length g3.constants.items) modes') sifts in
      let here : IsFor (view_program held) (compiled instructions main1 routines1 events1 said globals (lines_in c3) g3.deepest) = subst (λ (h : Held). IsFor (view_program h) (compiled instructions main1 routines1 events1 said globals (lines_in c3) g3.deepest)) same
      (is_made a typed_here instructions main1 routines1 events1 said globals alike' sifts' (subst (λ (h : Held). HasLandings (code_of (view_program h))) (sym same) lands) short dm drs des (says ∙ sym (ap (λ (h : Held). said_by (view_program h)) same)) modes') in
      subst (λ (ls : List Line). IsFor (view_program held) (compiled instructions main1 routines1 events1 said globals ls depth)) (sym lines_is)
      (subst (λ k. IsFor (view_program held) (compiled instructions main1 routines1 events1 said globals (lines_in c3) k)) (sym depth_is) here)
