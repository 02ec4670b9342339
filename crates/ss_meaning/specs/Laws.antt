-- What holds of a well-typed program.
use Rattle.std.specs.Prelude.{◌≢◌, ℕ, Bool, List}
use Rattle.ss_base.specs.declared.layout.Mode.{Mode}
use Rattle.ss_program.specs.Program.{Block, Program}
use Rattle.ss_program.specs.WellTyped.{IsWellTyped, IsTypedBlock}
use Rattle.ss_meaning.specs.Parts.{RunState, Returned, Stopped, Faulted, OutOfTicks, Wrong, Outcome, WentOn, Left}
use Rattle.ss_meaning.specs.Statements.{effects}
use Rattle.ss_meaning.specs.Meaning.{calls, first_store, meaning, WentWrong}
use Rattle.ss_meaning.specs.Fitting.{IsSoundStore, IsFittingStore}

-- it never goes wrong
abbrev pub NeverWrong : Type 0
NeverWrong = (p : Program) → IsWellTyped p → (input : List ℕ) (n : ℕ) → (meaning p input n).ending ≢ WentWrong

-- the store that some statements leave fits; where they stop the run, in a fault or out of ticks, the local variables may be those of a
-- routine that they called
abbrev pub IsFittingAfter : Program → List Mode → Outcome (Unit {0}) → Type 0
IsFittingAfter p modes (WentOn u w) = IsFittingStore p modes w.store
IsFittingAfter p modes (Left Returned w) = IsFittingStore p modes w.store
IsFittingAfter p modes (Left Stopped w) = IsSoundStore p w.store
IsFittingAfter p modes (Left (Faulted kind line) w) = IsSoundStore p w.store
IsFittingAfter p modes (Left OutOfTicks w) = IsSoundStore p w.store
IsFittingAfter p modes (Left Wrong w) = ⊥

-- variables and attributes keep their modes: the first store fits, and statements leave a store that fits where they began with one
abbrev pub BeginsFit : Type 0
BeginsFit = (p : Program) (input : List ℕ) → IsFittingStore p p.locals (first_store p input)

abbrev pub KeepsModes : Type 0
KeepsModes =
    (p : Program) → IsWellTyped p → (main : Bool) (modes : List Mode) (b : Block) → IsTypedBlock (record { program = p; locals = modes; is_main = main }) b
    → (n : ℕ) (w : RunState) → IsFittingStore p modes w.store → IsFittingAfter p modes (effects (calls p n) n b w)
