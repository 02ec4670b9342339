-- What an instruction that writes does to a machine that holds a state of the definition.
use Rattle.std.specs.Prelude.{◌≡◌, ◌≢◌, ℕ, List, [], ◌++◌, ◌⊎◌, Option, Some, None}
use Rattle.std.specs.Io.KnownBytes.{Appends, Keeps}
use Rattle.ss_code_instructions.specs.declared.instruction.Instruction.{Instruction as Running}
use Rattle.ss_code_instructions.specs.States.{Core, Sends, Rest, Breaks}
use Rattle.ss_code_instructions.specs.Machine.{act}
use Rattle.ss_code_instructions.specs.Reached.{input_of}
use Rattle.ss_machine_instructions.specs.declared.flow.Ending.{Ending}
use Rattle.ss_machine_instructions.specs.declared.flow.Ending.TheVariants.{Ended, Paused, Faulted, NoMemory, NoOutput, NoInput}
use Rattle.ss_machine_instructions.specs.declared.flow.Here.{Here}
use Rattle.ss_machine_instructions.specs.declared.state.State.{State}
use Rattle.ss_machine_instructions.specs.Doing.{Compiled, IsHeld, IsReadyFor, line_or}

-- why lines were not all sent
abbrev pub IsUnsent : Ending → Type 0
IsUnsent NoMemory = Unit {0}
IsUnsent NoOutput = Unit {0}
IsUnsent Ended = ⊥
IsUnsent Paused = ⊥
IsUnsent Faulted = ⊥
IsUnsent NoInput = ⊥

module _ (here : Here) (old : State) (i : Running) where
  -- the definition sends these bytes, and the rest of the input stays
  pub record IsSending (w : Compiled) (c : Core) (r : IsReadyFor w c here old i) (bytes : List ℕ) : Type 0 where
    pub core : Core
    pub sends : act w.code r.placed.line r.placed.instruction c ≡ Sends bytes core
    pub input : input_of core ≡ input_of c

  -- and the machine goes on
  pub record IsSendingOn (w : Compiled) (c : Core) (r : IsReadyFor w c here old i) (bytes : List ℕ) (new : State) (there : Here) : Type 0 where
    pub sending : IsSending w c r bytes
    pub holds : IsHeld w sending.core there new

-- P says of what is run what a function is handed of it, as the lines of a PRINT
module _ (P : Compiled → Type 0) (here : Here) (old : State) (i : Running) (before after : Option (List ℕ)) where
  abbrev pub ForReady : ((w : Compiled) → (c : Core) → IsReadyFor w c here old i → Type 0) → Type 0
  ForReady So = (w : Compiled) (c : Core) → P w → (r : IsReadyFor w c here old i) → So w c r

  -- the writer took all of them
  pub record HasWrittenAll (new : State) (there : Here) : Type 0 where
    pub bytes : List ℕ
    pub took : Appends before after bytes
    pub goes : ForReady (λ w c r. IsSendingOn here old i w c r bytes new there)

  -- the writer took nothing, or the first of them
  pub record HasWrittenPart : Type 0 where
    pub part : List ℕ
    pub took : Appends before after part
    pub within : (part ≡ []) ⊎ ForReady (λ w c r. (rest : List ℕ) × IsSending here old i w c r (part ++ rest))

  -- it took the first of them, but not all
  pub record HasWrittenLess : Type 0 where
    pub part : List ℕ
    pub took : Appends before after part
    pub within : ForReady (λ w c r. (rest : List ℕ) × (rest ≢ []) × IsSending here old i w c r (part ++ rest))

  abbrev pub HasStoppedWriting : State → Ending → Type 0
  HasStoppedWriting new Faulted =
      Keeps before after × ForReady (λ w c r. act w.code r.placed.line r.placed.instruction c ≡ Rest (Breaks new.fault (line_or r.placed.line new.fault_line)))
  HasStoppedWriting new NoMemory = HasWrittenPart
  HasStoppedWriting new NoOutput = HasWrittenLess
  HasStoppedWriting new Ended = ⊥
  HasStoppedWriting new Paused = ⊥
  HasStoppedWriting new NoInput = ⊥

  -- the result
  abbrev pub HasWritten : State → Option Here → Type 0
  HasWritten new (Some there) = HasWrittenAll new there
  HasWritten new None = HasStoppedWriting new new.ending
