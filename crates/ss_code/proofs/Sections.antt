-- Sections one after another.
use Rattle.std.proofs.Common.{◌≡◌, ℕ, ◌+◌, ◌≤◌, false, List, [], ◌∷◌, ◌++◌, length, refl, sym, ap, ◌∙◌, subst, arith, append_assoc, append-nil, length-append}
use Rattle.std.specs.List.{AllByRecursion as Every}
use Rattle.ss_base.specs.declared.layout.Mode.{Mode}
use Rattle.ss_base.specs.declared.value.Value.{Value}
use Rattle.ss_program.specs.Program.{Program, Block, Routine, Event}
use Rattle.ss_program.specs.View.{view_program}
use Rattle.ss_program.specs.WellTyped.{TypedScope, IsTypedBlock, IsTypedRoutine, IsTypedEvent}
use Rattle.ss_code_instructions.specs.declared.entry.SectionEntry.{SectionEntry}
use Rattle.ss_code_instructions.specs.Instructions.{Placed, EntryPoint, Lines, Leave}
use Rattle.ss_code_instructions.specs.Carried.{RunningLines}
use Rattle.ss_code_instructions.specs.Translation.{Site, place, first_site, block_code, block_prints, section_code, routine_code, event_code, routines_code, events_code, routines_prints, events_prints, routine_entry, event_entry, routine_entries, event_entries}
use Rattle.ss_code_generator.specs.declared.generator.Generator.{Generator}
use Rattle.ss_code_pieces.specs.Lined.{Lined, no_code}
use Rattle.ss_code_generator.specs.Emitted.{Final, IsAround, IsLocated, HasPrints, HasAdded}
use Rattle.ss_code_generator.specs.Printed.{HasPrinted, statement_site, HasPrintedBy}
use Rattle.ss_code.specs.Running.{HasFrameOf, AreAllFramed}
use Rattle.ss_code.specs.Sections.{scope_of_section, HasPut, HasPutSection, HasPutRoutines, HasPutEvents}
use Rattle.ss_code_generator.proofs.Emitting.{around_less, runs_long, adds_none, adds_then, adds_piece, adds_same}
use Rattle.ss_code_generator.proofs.PrintLines.{prints_then, prints_long}
use Rattle.ss_code_generator.proofs.Bodies.{has_prints_old}
use Rattle.ss_code_generator.proofs.Listed.{every_split}

-- ## A section

-- the code of a section, which was made apart, after what was made before
pub section_adds : (g0 g1 g2 : Generator) (c0 c1 own : Lined) (p0 p1 : List RunningLines) (s : TypedScope) (b : Block) → HasPrintedBy g1 g2 no_code own (statement_site 0) p0 p1 (λ k. IsTypedBlock k b) (block_prints b) (λ first t. block_code t first b ++ place t Leave ∷ []) → g1.program.now ≡ g0.program.now → s.program ≡ view_program g0.program.now → s.locals ≡ g1.locals.items → c1 ≡ c0 ++ own → (f : Final) → IsAround f g2 → HasPrints f p1 → IsTypedBlock s b → HasAdded f c0 c1 (section_code s (length p0) b)
section_adds g0 g1 g2 c0 c1 own p0 p1 s b made same program locals is f around prints good =
    let g = made.code.grows in
    let t : Site = first_site s in
    let flat : 0 ≤ f.depth = omega arith in
    let located : IsLocated f g2 (statement_site 0) t = record {
      program = program ∙ sym (ap view_program (g.program ∙ same)) ∙ around.program;
      locals = locals ∙ sym g.locals;
      line = refl;
      high = refl;
      deep = flat;
    } in
    adds_piece is (made.code.adds f t tt around located (prints, good))

-- ## One section more

pub routines_code_more : (p : Program) (first : ℕ) (rs : List Routine) (r : Routine) → routines_code p first (rs ++ r ∷ []) ≡ routines_code p first rs ++ routine_code p (first + length (routines_prints rs)) r
routines_code_more p first [] r =
    let n : first ≡ first + 0 = omega arith in
    append-nil (routine_code p first r) ∙ ap (λ k. routine_code p k r) n
routines_code_more p first (x ∷ rs) r =
    let next : ℕ = first + length (block_prints x.body) in
    let n : next + length (routines_prints rs) ≡ first + length (routines_prints (x ∷ rs)) = omega (arith, length-append (block_prints x.body) (routines_prints rs)) in
    ap (λ (c : List Placed). routine_code p first x ++ c) (routines_code_more p next rs r ∙ ap (λ k. routines_code p next rs ++ routine_code p k r) n)
    ∙ sym (append_assoc (routine_code p first x) (routines_code p next rs) (routine_code p (first + length (routines_prints (x ∷ rs))) r))

pub events_code_more : (p : Program) (first : ℕ) (es : List Event) (e : Event) → events_code p first (es ++ e ∷ []) ≡ events_code p first es ++ event_code p (first + length (events_prints es)) e
events_code_more p first [] e =
    let n : first ≡ first + 0 = omega arith in
    append-nil (event_code p first e) ∙ ap (λ k. event_code p k e) n
events_code_more p first (x ∷ es) e =
    let next : ℕ = first + length (block_prints x.body) in
    let n : next + length (events_prints es) ≡ first + length (events_prints (x ∷ es)) = omega (arith, length-append (block_prints x.body) (events_prints es)) in
    ap (λ (c : List Placed). event_code p first x ++ c) (events_code_more p next es e ∙ ap (λ k. events_code p next es ++ event_code p k e) n)
    ∙ sym (append_assoc (event_code p first x) (events_code p next es) (event_code p (first + length (events_prints (x ∷ es))) e))

pub routines_prints_more : (rs : List Routine) (r : Routine) → routines_prints (rs ++ r ∷ []) ≡ routines_prints rs ++ block_prints r.body
routines_prints_more [] r = append-nil (block_prints r.body)
routines_prints_more (x ∷ rs) r =
    ap (λ (l : List Lines). block_prints x.body ++ l) (routines_prints_more rs r) ∙ sym (append_assoc (block_prints x.body) (routines_prints rs) (block_prints r.body))

pub events_prints_more : (es : List Event) (e : Event) → events_prints (es ++ e ∷ []) ≡ events_prints es ++ block_prints e.body
events_prints_more [] e = append-nil (block_prints e.body)
events_prints_more (x ∷ es) e =
    ap (λ (l : List Lines). block_prints x.body ++ l) (events_prints_more es e) ∙ sym (append_assoc (block_prints x.body) (events_prints es) (block_prints e.body))

pub routine_entries_more : (p : Program) (at first : ℕ) (rs : List Routine) (r : Routine) → routine_entries p at first (rs ++ r ∷ []) ≡ routine_entries p at first rs ++ routine_entry (at + length (routines_code p first rs)) r ∷ []
routine_entries_more p at first [] r =
    let n : at ≡ at + 0 = omega arith in
    ap (λ k. routine_entry k r ∷ []) n
routine_entries_more p at first (x ∷ rs) r =
    let here : ℕ = at + length (routine_code p first x) in
    let next : ℕ = first + length (block_prints x.body) in
    let n : here + length (routines_code p next rs) ≡ at + length (routines_code p first (x ∷ rs)) = omega (arith, length-append (routine_code p first x) (routines_code p next rs)) in
    ap (λ (l : List EntryPoint). routine_entry at x ∷ l) (routine_entries_more p here next rs r ∙ ap (λ k. routine_entries p here next rs ++ routine_entry k r ∷ []) n)

pub event_entries_more : (p : Program) (at first : ℕ) (es : List Event) (e : Event) → event_entries p at first (es ++ e ∷ []) ≡ event_entries p at first es ++ event_entry (at + length (events_code p first es)) e ∷ []
event_entries_more p at first [] e =
    let n : at ≡ at + 0 = omega arith in
    ap (λ k. event_entry k e ∷ []) n
event_entries_more p at first (x ∷ es) e =
    let here : ℕ = at + length (event_code p first x) in
    let next : ℕ = first + length (block_prints x.body) in
    let n : here + length (events_code p next es) ≡ at + length (events_code p first (x ∷ es)) = omega (arith, length-append (event_code p first x) (events_code p next es)) in
    ap (λ (l : List EntryPoint). event_entry at x ∷ l) (event_entries_more p here next es e ∙ ap (λ k. event_entries p here next es ++ event_entry k e ∷ []) n)

-- one entry more
pub begin_more : (room : ℕ) (es : List EntryPoint) (olds : List SectionEntry) (e : EntryPoint) (x : SectionEntry) → AreAllFramed room es olds → HasFrameOf room e x → AreAllFramed room (es ++ e ∷ []) (olds ++ x ∷ [])
begin_more room [] [] e x h b = (b, tt)
begin_more room (y ∷ es) (o ∷ os) e x h b = (h.0, begin_more room es os e x h.1 b)
begin_more room _ _ e x h b = absurd h

-- ## A section, put after others

pub section_put : (g0 g1 g2 : Generator) (c0 c1 own : Lined) (p0 p1 : List RunningLines) (e : EntryPoint) (body : Block) (entry : SectionEntry) → g1.program.now ≡ g0.program.now → g1.constants.items ≡ g0.constants.items → g1.deepest ≡ g0.deepest → g1.locals.items ≡ e.given ++ e.others → HasPrintedBy g1 g2 no_code own (statement_site 0) p0 p1 (λ k. IsTypedBlock k body) (block_prints body) (λ first t. block_code t first body ++ place t Leave ∷ []) → c1 ≡ c0 ++ own → HasFrameOf 0 e entry → HasPutSection g0 g2 c0 c1 p0 p1 e body entry
section_put g0 g1 g2 c0 c1 own p0 p1 e body entry program constants deepest locals m is begins = record {
  puts = λ is_main. record {
    constants = (m.code.grows.constants.0, m.code.grows.constants.1 ∙ ap (λ (l : List Value). l ++ m.code.grows.constants.0) constants);
    depth = omega (arith, m.code.grows.depth, deepest);
    program = m.code.grows.program ∙ program;
    adds = λ f around has good. section_adds g0 g1 g2 c0 c1 own p0 p1 (scope_of_section g0 e is_main) body m program refl (sym locals) is f around has good;
    prints = m.prints;
  };
  begins = begins;
}

-- where it begins, and the room of its frame before it is known how many cells it has
pub section_begins : (e : EntryPoint) (entry : SectionEntry) → entry.place ≡ e.place → entry.given.items ≡ e.given → entry.yielding ≡ e.yielding → entry.others.items ≡ e.others → entry.room ≡ length (e.given ++ e.others) → HasFrameOf 0 e entry
section_begins e entry place given yielding others room = record { place = place; given = given; yielding = yielding; others = others; room = omega (arith, room, length-append e.given e.others) }

-- ## One after another

pub put_around : {f : Final} {g0 g1 : Generator} {c0 c1 : Lined} {p0 p1 : List RunningLines} {Good : Type 0} {ls : List Lines} {c : ℕ → List Placed} → HasPut g0 g1 c0 c1 p0 p1 Good ls c → IsAround f g1 → IsAround f g0
put_around h around = around_less h.constants.0 h.constants.1 h.depth h.program around

adds_long : (f : Final) (a b : Lined) (c : List Placed) → HasAdded f a b c → length b ≡ length a + length c
adds_long f a b c h = ap length h.added ∙ length-append a h.more ∙ ap (λ n. length a + n) (runs_long f c h.more h.run)

-- One section more, of several that are alike: its body, the local variables that it is given, how many of the others it yields, and the others.
module _ {X : Type 0} (body : X → Block) (given : X → List Mode) (yielding : X → ℕ) (others : X → List Mode) (codes : Program → (first : ℕ) → List X → List Placed) (lines : List X → List Lines) (starts : Program → (at first : ℕ) → List X → List EntryPoint) (Good : Program → X → Type 0) (good_body : (p : Program) (x : X) → Good p x → IsTypedBlock (record { program = p; locals = given x ++ others x; is_main = false }) (body x)) where
  abbrev scope_in : Program → X → TypedScope
  scope_in p x = record { program = p; locals = given x ++ others x; is_main = false }

  abbrev code_in : Program → (first : ℕ) → X → List Placed
  code_in p first x = section_code (scope_in p x) first (body x)

  abbrev entry_at : (at : ℕ) → X → EntryPoint
  entry_at at x = record { place = at; given = given x; yielding = yielding x; others = others x }

  module _ (codes_more : (p : Program) (first : ℕ) (xs : List X) (x : X) → codes p first (xs ++ x ∷ []) ≡ codes p first xs ++ code_in p (first + length (lines xs)) x) (lines_more : (xs : List X) (x : X) → lines (xs ++ x ∷ []) ≡ lines xs ++ block_prints (body x)) (starts_more : (p : Program) (at first : ℕ) (xs : List X) (x : X) → starts p at first (xs ++ x ∷ []) ≡ starts p at first xs ++ entry_at (at + length (codes p first xs)) x ∷ []) (g0 g1 g2 : Generator) (c0 c1 c2 : Lined) (p0 p1 p2 : List RunningLines) (xs : List X) (x : X) (entries : List SectionEntry) (entry : SectionEntry) (m : HasPut g0 g1 c0 c1 p0 p1 (Every (Good (view_program g0.program.now)) xs) (lines xs) (λ first. codes (view_program g0.program.now) first xs)) (n : HasPutSection g1 g2 c1 c2 p1 p2 (entry_at (length c1) x) (body x) entry) where
    abbrev whole : Program
    whole = view_program g0.program.now

    last_adds : (f : Final) → IsAround f g2 → HasPrints f p2 → Good whole x → HasAdded f c1 c2 (code_in whole (length p0 + length (lines xs)) x)
    last_adds f around has good =
        let k = n.puts false in
        let same : view_program g1.program.now ≡ whole = ap view_program m.program in
        let long : length p1 ≡ length p0 + length (lines xs) = prints_long p0 p1 (lines xs) m.prints in
        let typed : IsTypedBlock (scope_in (view_program g1.program.now) x) (body x) = subst (λ (p : Program). IsTypedBlock (scope_in p x) (body x)) (sym same) (good_body whole x good) in
        adds_same (ap (λ (p : Program). code_in p (length p1) x) same ∙ ap (λ k. code_in whole k x) long) (k.adds f around has typed)

    before_adds : (f : Final) → IsAround f g2 → HasPrints f p2 → Every (Good whole) xs → HasAdded f c0 c1 (codes whole (length p0) xs)
    before_adds f around has good =
        let k = n.puts false in
        m.adds f (put_around k around) (has_prints_old f p1 p2 (block_prints (body x)) k.prints has) good

    sections_put : HasPut g0 g2 c0 c2 p0 p2 (Every (Good whole) (xs ++ x ∷ [])) (lines (xs ++ x ∷ [])) (λ first. codes whole first (xs ++ x ∷ []))
    sections_put =
        let k = n.puts false in
        record {
          constants = (
            m.constants.0 ++ k.constants.0,
            k.constants.1 ∙ ap (λ (l : List Value). l ++ k.constants.0) m.constants.1 ∙ append_assoc g0.constants.items m.constants.0 k.constants.0,
          );
          depth = omega (arith, m.depth, k.depth);
          program = k.program ∙ m.program;
          adds = λ f around has good.
              let both = every_split (Good whole) xs x good in
              adds_same (sym (codes_more whole (length p0) xs x))
              (adds_then (before_adds f around has both.0) (last_adds f around has both.1));
          prints = subst (HasPrinted p0 p2) (sym (lines_more xs x)) (prints_then p0 p1 p2 (lines xs) (block_prints (body x)) m.prints k.prints);
        }

    sections_begin : ((f : Final) → IsAround f g1 → HasPrints f p1 → Every (Good whole) xs → AreAllFramed 0 (starts whole (length c0) (length p0) xs) entries) → (f : Final) → IsAround f g2 → HasPrints f p2 → Every (Good whole) (xs ++ x ∷ []) → AreAllFramed 0 (starts whole (length c0) (length p0) (xs ++ x ∷ [])) (entries ++ entry ∷ [])
    sections_begin begin f around has good =
        let k = n.puts false in
        let both = every_split (Good whole) xs x good in
        let old : AreAllFramed 0 (starts whole (length c0) (length p0) xs) entries = begin f (put_around k around) (has_prints_old f p1 p2 (block_prints (body x)) k.prints has) both.0 in
        let place : length c1 ≡ length c0 + length (codes whole (length p0) xs) = adds_long f c0 c1 (codes whole (length p0) xs) (before_adds f around has both.0) in
        let new : HasFrameOf 0 (entry_at (length c0 + length (codes whole (length p0) xs)) x) entry = subst (λ k. HasFrameOf 0 (entry_at k x) entry) place n.begins in
        subst (λ (es : List EntryPoint). AreAllFramed 0 es (entries ++ entry ∷ [])) (sym (starts_more whole (length c0) (length p0) xs x))
        (begin_more 0 (starts whole (length c0) (length p0) xs) entries (entry_at (length c0 + length (codes whole (length p0) xs)) x) entry old new)

-- no section
nothing_put : {g : Generator} {c : Lined} {prints : List RunningLines} {Good : Type 0} → HasPut g g c c prints prints Good [] (λ first. [])
nothing_put {g} {prints = prints} = record {
  constants = ([], sym (append-nil g.constants.items));
  depth = omega arith;
  program = refl;
  adds = λ f around has good. adds_none;
  prints = ([], sym (append-nil prints), refl);
}

-- the routines
pub no_routines_put : {g : Generator} {c : Lined} {prints : List RunningLines} → HasPutRoutines g g c c prints prints [] []
no_routines_put = record { puts = nothing_put; begin = λ f around has good. tt }

pub routines_put : {g0 g1 g2 : Generator} {c0 c1 c2 : Lined} {p0 p1 p2 : List RunningLines} {rs : List Routine} (r : Routine) {entries : List SectionEntry} {entry : SectionEntry} → HasPutRoutines g0 g1 c0 c1 p0 p1 rs entries → HasPutSection g1 g2 c1 c2 p1 p2 (routine_entry (length c1) r) r.body entry → HasPutRoutines g0 g2 c0 c2 p0 p2 (rs ++ r ∷ []) (entries ++ entry ∷ [])
routines_put {rs = rs} r {entries} m n = record {
  puts = sections_put (λ (x : Routine). x.body) (λ (x : Routine). x.given) (λ (x : Routine). length x.yielding) (λ (x : Routine). x.yielding ++ x.others) routines_code routines_prints routine_entries IsTypedRoutine (λ p x good. good) routines_code_more routines_prints_more routine_entries_more _ _ _ _ _ _ _ _ _ rs r entries _ m.puts n;
  begin = sections_begin (λ (x : Routine). x.body) (λ (x : Routine). x.given) (λ (x : Routine). length x.yielding) (λ (x : Routine). x.yielding ++ x.others) routines_code routines_prints routine_entries IsTypedRoutine (λ p x good. good) routines_code_more routines_prints_more routine_entries_more _ _ _ _ _ _ _ _ _ rs r entries _ m.puts n m.begin;
}

-- and those of events
pub no_events_put : {g : Generator} {c : Lined} {prints : List RunningLines} → HasPutEvents g g c c prints prints [] []
no_events_put = record { puts = nothing_put; begin = λ f around has good. tt }

pub events_put : {g0 g1 g2 : Generator} {c0 c1 c2 : Lined} {p0 p1 p2 : List RunningLines} {es : List Event} (e : Event) {entries : List SectionEntry} {entry : SectionEntry} → HasPutEvents g0 g1 c0 c1 p0 p1 es entries → HasPutSection g1 g2 c1 c2 p1 p2 (event_entry (length c1) e) e.body entry → HasPutEvents g0 g2 c0 c2 p0 p2 (es ++ e ∷ []) (entries ++ entry ∷ [])
events_put {es = es} e {entries} m n = record {
  puts = sections_put (λ (x : Event). x.body) (λ (x : Event). x.given) (λ (x : Event). 0) (λ (x : Event). x.others) events_code events_prints event_entries IsTypedEvent (λ p x good. good.body) events_code_more events_prints_more event_entries_more _ _ _ _ _ _ _ _ _ es e entries _ m.puts n;
  begin = sections_begin (λ (x : Event). x.body) (λ (x : Event). x.given) (λ (x : Event). 0) (λ (x : Event). x.others) events_code events_prints event_entries IsTypedEvent (λ p x good. good.body) events_code_more events_prints_more event_entries_more _ _ _ _ _ _ _ _ _ es e entries _ m.puts n m.begin;
}
