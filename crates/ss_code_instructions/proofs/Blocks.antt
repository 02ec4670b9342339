-- The code of statements, one by one and in lists.
use Rattle.std.proofs.Common.{◌≡◌, ℕ, ◌+◌, List, [], ◌∷◌, length, refl, subst}
use Rattle.ss_code_instructions.proofs.Common.{after_values, block_code, block_prints, Calls, choose, Code, condition_code, effects, height, holds, if_code, in_loop, Line, look, no_line, outcome_then, Part, Placed, Site, site_at_line, statement_prints, Value}
use Rattle.ss_program.specs.Program.{Block, Call, Cancel, Change, Condition, Create, CreateEvery, Destroy, File, Find, For, Head, If, Let, Loop, Members, Print, Read, Remove, RemoveEnd, Reset, Return, Schedule, ScheduleNew, Simulate, Skip, Statement, Stop, Then, TheSystem, Done}
use Rattle.ss_code_instructions.proofs.Steps.{has_front, has_back}
use Rattle.ss_code_instructions.proofs.Parts.{Runs, same, done, onto, seq}
use Rattle.ss_code_instructions.proofs.Branching.{if_run, if_alone_run}
use Rattle.ss_code_instructions.proofs.Conditions.{condition_lands}
use Rattle.ss_code_instructions.proofs.Letting.{let_runs, change_runs_at}
use Rattle.ss_code_instructions.proofs.Receiving.{reads_run, create_runs}
use Rattle.ss_code_instructions.proofs.Removing.{remove_runs, remove_end_runs}
use Rattle.ss_code_instructions.proofs.Placing.{Sited, file_runs}
use Rattle.ss_code_instructions.proofs.Plain.{destroy_runs, cancel_runs, skip_runs, creates_run, restarts_run}
use Rattle.ss_code_instructions.proofs.Giving.{values_run}
use Rattle.ss_code_instructions.proofs.Looping.{guarded_runs}
use Rattle.ss_code_instructions.proofs.Heads.{head_for}
use Rattle.ss_code_instructions.proofs.Finding.{for_runs, find_runs}
use Rattle.ss_code_instructions.proofs.Printing.{print_runs}
use Rattle.ss_code_instructions.proofs.Following.{seq_such}
use Rattle.ss_code_instructions.proofs.Assuming.{heap_on, CallsRun, StatementRuns, BlockRuns, done_runs, then_runs}
use Rattle.ss_code_instructions.proofs.Results.{gives_run}
use Rattle.ss_code_instructions.proofs.Simulating.{simulate_runs, stop_run, return_run}
use Rattle.ss_code_instructions.proofs.Scheduling.{schedule_runs, schedule_new_runs}

-- the cells of a loop are as many at each line
line_high : (t : Site) (l : Line) (head : Head) → height (in_loop t head) ≡ height (in_loop (site_at_line t l) head)
line_high t l (Members x set TheSystem start reverse) = refl
line_high t l _ = refl

module _ (code : Code) (n : ℕ) where
  -- IF
  if_runs : (t : Site) (c : Condition) (ca cb : List Placed) (ma mb : Part (Unit {0})) → Runs code n (height t) same ca done ma → Runs code n (height t) same cb done mb → Runs code n (height t) same (if_code t c ca cb) done (λ w. outcome_then (look t.line (holds c) w) (λ b. choose b ma mb))
  if_runs t c ca [] ma mb ra rb = if_alone_run code n t (λ skip. condition_code t skip c) (look t.line (holds c)) (λ skip. condition_lands code n t skip c) {ca = ca} {ma = ma} {mb = mb} ra rb
  if_runs t c ca (x ∷ cb) ma mb ra rb = if_run code n t (λ skip. condition_code t skip c) (look t.line (holds c)) (λ skip. condition_lands code n t skip c) {ca = ca} {cb = x ∷ cb} {ma = ma} {mb = mb} ra rb

  -- what is assumed: of calls and events; and of a site, that the code is that of its program
  module _ (h : Calls) (ok : CallsRun code n h) where
    mutual
      pub statement_runs : (t : Site) → Sited code t → (first : ℕ) (s : Statement) → StatementRuns code n h t first s
      statement_runs t sited first (Let l p e) prints = let_runs code n (site_at_line t l) p e
      statement_runs t sited first (Change l sign p e) prints = change_runs_at code n (site_at_line t l) sign p e
      statement_runs t sited first (Call l routine given yielding) prints =
          seq code n (height t) {mid = onto} (values_run code n (site_at_line t l) given) (λ vs.
          seq_such code n (height t) {mid = heap_on} (λ (us : List Value). length us ≡ length yielding) (λ w. ok.such routine (length yielding) vs w)
          (ok.by (after_values (site_at_line t l) given) routine (height t) (length yielding) vs) (λ us many.
          gives_run code n (site_at_line t l) yielding us many))
      statement_runs t sited first Return prints = return_run code n (site_at_line t no_line)
      statement_runs t sited first Stop prints = stop_run code n (site_at_line t no_line)
      statement_runs t sited first (Read l targets) prints = reads_run code n (site_at_line t l) targets
      statement_runs t sited first Simulate prints = simulate_runs code n (site_at_line t no_line) h ok
      statement_runs t sited first (If l c a b) prints =
          if_runs (site_at_line t l) c (block_code t first a) (block_code t (first + length (block_prints a)) b) (effects h n a) (effects h n b)
          (block_runs t sited first a (has_front code.prints first (block_prints a) (block_prints b) prints))
          (block_runs t sited (first + length (block_prints a)) b (has_back code.prints first (block_prints a) (block_prints b) prints))
      statement_runs t sited first (Loop l gs a) prints =
          guarded_runs code n (site_at_line t l) gs (block_code t first a) (effects h n a) (block_runs t sited first a prints)
      statement_runs t sited first (For l head ps a) prints =
          for_runs code n (site_at_line t l) head (head_for code n (site_at_line t l) head) ps (block_code (in_loop t head) first a) (effects h n a)
          (subst (λ k. Runs code n k same (block_code (in_loop t head) first a) done (effects h n a)) (line_high t l head)
          (block_runs (in_loop t head) sited first a prints))
      statement_runs t sited first (Find l head ps a b) prints =
          find_runs code n (site_at_line t l) head (head_for code n (site_at_line t l) head) ps
          (block_code t first a) (block_code t (first + length (block_prints a)) b) (effects h n a) (effects h n b)
          (block_runs t sited first a (has_front code.prints first (block_prints a) (block_prints b) prints))
          (block_runs t sited (first + length (block_prints a)) b (has_back code.prints first (block_prints a) (block_prints b) prints))
      statement_runs t sited first (Create l class p) prints = create_runs code n (site_at_line t l) class p
      statement_runs t sited first (CreateEvery l classes) prints = creates_run code n (site_at_line t l) classes
      statement_runs t sited first (Destroy l class e) prints = destroy_runs code n (site_at_line t l) class e
      statement_runs t sited first (File l set e position o) prints = file_runs code n (site_at_line t l) set e position o sited
      statement_runs t sited first (RemoveEnd l end set p o) prints = remove_end_runs code n (site_at_line t l) end set p o
      statement_runs t sited first (Remove l set e o) prints = remove_runs code n (site_at_line t l) set e o
      statement_runs t sited first (ScheduleNew l class p given when) prints = schedule_new_runs code n (site_at_line t l) class p given when
      statement_runs t sited first (Schedule l class e given when) prints = schedule_runs code n (site_at_line t l) class e given when
      statement_runs t sited first (Cancel l class e) prints = cancel_runs code n (site_at_line t l) class e
      statement_runs t sited first (Reset l restarts) prints = restarts_run code n (site_at_line t l) restarts
      statement_runs t sited first (Print l items pictures) prints = print_runs code n (site_at_line t l) first items pictures prints.0
      statement_runs t sited first (Skip l e) prints = skip_runs code n (site_at_line t l) e

      pub block_runs : (t : Site) → Sited code t → (first : ℕ) (b : Block) → BlockRuns code n h t first b
      block_runs t sited first Done prints = done_runs code n h t first prints
      block_runs t sited first (Then s rest) prints =
          then_runs code n h t first s rest (λ prints. statement_runs t sited first s prints) (λ prints. block_runs t sited (first + length (statement_prints s)) rest prints) prints
