-- What is shown of the code of each statement and of each list of them, and what is assumed of calls and of events.
use Rattle.std.proofs.Common.{◌≡◌, ℕ, suc, ◌+◌, List, [], ◌∷◌, ◌++◌, length}
use Rattle.ss_code_instructions.proofs.Common.{act, block_code, block_prints, Code, core_at, Frame, height, Line, place, RunState, Site, statement_code, statement_prints, Value}
use Rattle.ss_meaning.specs.Statements.{Calls, effects, effect}
use Rattle.ss_program.specs.Program.{Block, Statement, Then, Done}
use Rattle.ss_code_instructions.specs.Instructions as i
use Rattle.ss_code_instructions.proofs.Steps.{HasAt, has_front, has_back, at, arrive}
use Rattle.ss_code_instructions.proofs.Parts.{Within, Leads, Runs, same, done, onto, seq, none}
use Rattle.ss_code_instructions.proofs.Following.{IfWentOn}

-- what is yielded on the cells, the first on top
abbrev pub heap_on : List Value → List Value → List Value
heap_on us cells = us ++ cells

-- The instruction that calls does what h says, and yields as many values as are wanted. With a tick to take, the one that takes an event does what h says.
pub record CallsRun (code : Code) (n : ℕ) (h : Calls) : Type 0 where
  pub by : (u : Site) (routine cell yielding : ℕ) (vs : List Value) → Runs code n cell (onto vs) (place u (i.Call routine cell) ∷ []) heap_on (h.call routine vs yielding)
  pub such : (routine yielding : ℕ) (vs : List Value) (w : RunState) → IfWentOn (λ (us : List Value). length us ≡ yielding) (h.call routine vs yielding w)
  pub event : (m : ℕ) → n ≡ suc m → (l : Line) (cell p : ℕ) (cells : List Value) (frames : List Frame) (w : RunState) → length cells ≡ cell → Within code m w → Leads code w (act code l (i.TakeEvent cell) (core_at p cells frames w.store)) (arrive (λ (o : Unit {0}) w'. at (p + 1) cells frames w') frames (h.event w))

module _ (code : Code) (n : ℕ) (h : Calls) where
  -- of each statement: where its PRINTs are among those of the program, its code does what it means, above the cells of its site
  abbrev pub StatementRuns : Site → ℕ → Statement → Type 0
  StatementRuns t first s = HasAt code.prints first (statement_prints s) → Runs code n (height t) same (statement_code t first s) done (effect h n s)

  -- of each list of statements
  abbrev pub BlockRuns : Site → ℕ → Block → Type 0
  BlockRuns t first b = HasAt code.prints first (block_prints b) → Runs code n (height t) same (block_code t first b) done (effects h n b)

  pub done_runs : (t : Site) (first : ℕ) → BlockRuns t first Done
  done_runs t first prints = none code n (height t) tt

  -- a statement, and then the others
  pub then_runs : (t : Site) (first : ℕ) (s : Statement) (rest : Block) → StatementRuns t first s → BlockRuns t (first + length (statement_prints s)) rest → BlockRuns t first (Then s rest)
  then_runs t first s rest one others prints =
      seq code n (height t) {mid = λ o cells. cells}
      (one (has_front code.prints first (statement_prints s) (block_prints rest) prints))
      (λ _. others (has_back code.prints first (statement_prints s) (block_prints rest) prints))
