-- What is emitted for sections.
use Rattle.std.specs.Prelude.{◌≡◌, ◌+◌, ◌<◌, ◌≤◌, ◌^◌, ◌++◌, ℕ, Bool, List, [], ◌∷◌, length}
use Rattle.ss_base.specs.declared.value.Value.{Value}
use Rattle.ss_program.specs.Program.{Block, Routine, Event}
use Rattle.ss_program.specs.View.{view_program}
use Rattle.ss_program.specs.WellTyped.{TypedScope, IsTypedBlock, IsTypedRoutine, IsTypedEvent}
use Rattle.std.specs.List.{AllByRecursion as Every}
use Rattle.ss_code_instructions.specs.declared.entry.SectionEntry.{SectionEntry}
use Rattle.ss_code_instructions.specs.Instructions.{Placed, EntryPoint, Lines}
use Rattle.ss_code_instructions.specs.Carried.{RunningLines}
use Rattle.ss_code_instructions.specs.Translation.{section_code, block_prints, routines_code, events_code, routines_prints, events_prints, routine_entries, event_entries}
use Rattle.ss_code_generator.specs.declared.generator.Generator.{Generator}
use Rattle.ss_code_pieces.specs.Lined.{Lined}
use Rattle.ss_code_generator.specs.Emitted.{Final, IsAround, HasPrints, HasAdded}
use Rattle.ss_code_generator.specs.Printed.{HasPrinted}
use Rattle.ss_code.specs.Running.{HasFrameOf, AreAllFramed}

-- ## Room for cells

-- a section gets room for so many cells
pub record IsDeepened (depth : ℕ) (old new : SectionEntry) : Type 0 where
  pub same : new ≡ record old { room = old.room + depth }
  pub small : new.room < 2 ^ 32

abbrev pub AreAllDeepened : (depth : ℕ) → (old new : List SectionEntry) → Type 0
AreAllDeepened depth [] [] = Unit {0}
AreAllDeepened depth [] (y ∷ ys) = ⊥
AreAllDeepened depth (x ∷ xs) [] = ⊥
AreAllDeepened depth (x ∷ xs) (y ∷ ys) = IsDeepened depth x y × AreAllDeepened depth xs ys

-- ## Sections one after another

-- code of several sections, with what is so of each of its parts
pub record HasPut (old new : Generator) (before after : Lined) (old_prints new_prints : List RunningLines) (Good : Type 0) (ls : List Lines) (c : (first : ℕ) → List Placed) : Type 0 where
  pub constants : (more : List Value) × (new.constants.items ≡ old.constants.items ++ more)
  pub depth : old.deepest ≤ new.deepest
  pub program : new.program.now ≡ old.program.now
  pub adds : (f : Final) → IsAround f new → HasPrints f new_prints → Good → HasAdded f before after (c (length old_prints))
  pub prints : HasPrinted old_prints new_prints ls

-- the scope of a section in a program
abbrev pub scope_of_section : Generator → EntryPoint → Bool → TypedScope
scope_of_section g e is_main = record { program = view_program g.program.now; locals = e.given ++ e.others; is_main = is_main }

-- a section, of which the entry says where it begins
pub record HasPutSection (old new : Generator) (before after : Lined) (old_prints new_prints : List RunningLines) (e : EntryPoint) (body : Block) (entry : SectionEntry) : Type 0 where
  pub puts : (is_main : Bool) → HasPut old new before after old_prints new_prints (IsTypedBlock (scope_of_section old e is_main) body) (block_prints body) (λ first. section_code (scope_of_section old e is_main) first body)
  pub begins : HasFrameOf 0 e entry

pub record HasPutRoutines (old new : Generator) (before after : Lined) (old_prints new_prints : List RunningLines) (rs : List Routine) (entries : List SectionEntry) : Type 0 where
  pub puts : HasPut old new before after old_prints new_prints (Every (IsTypedRoutine (view_program old.program.now)) rs) (routines_prints rs) (λ first. routines_code (view_program old.program.now) first rs)
  pub begin : (f : Final) → IsAround f new → HasPrints f new_prints → Every (IsTypedRoutine (view_program old.program.now)) rs → AreAllFramed 0 (routine_entries (view_program old.program.now) (length before) (length old_prints) rs) entries

pub record HasPutEvents (old new : Generator) (before after : Lined) (old_prints new_prints : List RunningLines) (es : List Event) (entries : List SectionEntry) : Type 0 where
  pub puts : HasPut old new before after old_prints new_prints (Every (IsTypedEvent (view_program old.program.now)) es) (events_prints es) (λ first. events_code (view_program old.program.now) first es)
  pub begin : (f : Final) → IsAround f new → HasPrints f new_prints → Every (IsTypedEvent (view_program old.program.now)) es → AreAllFramed 0 (event_entries (view_program old.program.now) (length before) (length old_prints) es) entries
