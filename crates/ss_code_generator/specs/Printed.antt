-- What is emitted for statements, with the lines of their PRINTs.
use Rattle.std.specs.Prelude.{◌≡◌, ℕ, List, [], ◌∷◌, ◌++◌, length, map}
use Rattle.std.specs.List.{AllByRecursion as Every}
use Rattle.ss_base.specs.declared.line.Line.{Line}
use Rattle.ss_program.specs.Program.{PrintItem, Statement, Let, Change, Call, Return, Stop, Read, Simulate, If, Loop, For, Find, Create, CreateEvery, Destroy, File, RemoveEnd, Remove, ScheduleNew, Schedule, Cancel, Reset, Print as APrint, Skip, Block}
use Rattle.ss_program.specs.WellTyped.{TypedScope, IsTypedStatement, IsTypedBlock}
use Rattle.ss_code_instructions.specs.Instructions.{Lines, Print, Placed}
use Rattle.ss_code_instructions.specs.Carried.{RunningLines, lines_of_running as run_as}
use Rattle.ss_code_instructions.specs.Translation.{Site, height, place, no_line, items_code, after_items, lines_of_items, statement_code, statement_prints, block_code, block_prints}
use Rattle.ss_code_generator.specs.declared.generator.Generator.{Generator}
use Rattle.ss_code_generator.specs.declared.generator.Site.{Site as Here}
use Rattle.ss_code_pieces.specs.Lined.{Lined, no_code}
use Rattle.ss_code_generator.specs.Emitted.{HasEmittedPrinting}
use Rattle.ss_code_generator.specs.Items.{IsTypedItem}

-- the lines of PRINTs that were put down: after those before come these
abbrev pub HasPrinted : (before after : List RunningLines) → List Lines → Type 0
HasPrinted before after ls = (more : List RunningLines) × (after ≡ before ++ more) × (map run_as more ≡ ls)

-- the line of a statement; one that never faults has none
abbrev pub line_or_none : Statement → Line
line_or_none (Let l x e) = l
line_or_none (Change l sign x e) = l
line_or_none (Call l routine given yielding) = l
line_or_none Return = no_line
line_or_none Stop = no_line
line_or_none (Read l targets) = l
line_or_none Simulate = no_line
line_or_none (If l c a b) = l
line_or_none (Loop l gs a) = l
line_or_none (For l head ps a) = l
line_or_none (Find l head ps a b) = l
line_or_none (Create l class x) = l
line_or_none (CreateEvery l classes) = l
line_or_none (Destroy l class e) = l
line_or_none (File l set e position o) = l
line_or_none (RemoveEnd l end set x o) = l
line_or_none (Remove l set e o) = l
line_or_none (ScheduleNew l class x given when) = l
line_or_none (Schedule l class e given when) = l
line_or_none (Cancel l class e) = l
line_or_none (Reset l restarts) = l
line_or_none (APrint l items pictures) = l
line_or_none (Skip l e) = l

-- where statements begin: they have lines of their own
abbrev pub statement_site : (height : ℕ) → Here
statement_site h = record { line = no_line; height = h }

-- code, and the lines of its PRINTs
pub record HasPrintedBy (old new : Generator) (before after : Lined) (here : Here) (old_prints new_prints : List RunningLines) (IsTypedStatement : TypedScope → Type 0) (ls : List Lines) (c : (first : ℕ) → Site → List Placed) : Type 0 where
  pub code : HasEmittedPrinting old new before after here new_prints IsTypedStatement (c (length old_prints))
  pub prints : HasPrinted old_prints new_prints ls

abbrev pub HasPrintedLines : (old new : Generator) → (before after : Lined) → Here → (old_prints new_prints : List RunningLines) → List PrintItem → (pictures : List (List ℕ)) → Type 0
HasPrintedLines old new before after here old_prints new_prints items pictures =
    HasPrintedBy old new before after here old_prints new_prints (λ s. Every (λ x. IsTypedItem x s) items) (lines_of_items items pictures ∷ [])
    (λ first t. items_code t items ++ place (after_items t items) (Print first (height t)) ∷ [])

-- a statement
abbrev pub HasEmittedStatement : (old new : Generator) → (before after : Lined) → (height : ℕ) → (old_prints new_prints : List RunningLines) → Statement → Type 0
HasEmittedStatement old new before after h old_prints new_prints s =
    HasPrintedBy old new before after (statement_site h) old_prints new_prints (λ scope. IsTypedStatement scope s) (statement_prints s) (λ first t. statement_code t first s)

-- and a block of them
abbrev pub HasEmittedBlock : (old new : Generator) → (after : Lined) → (height : ℕ) → (old_prints new_prints : List RunningLines) → Block → Type 0
HasEmittedBlock old new after h old_prints new_prints b =
    HasPrintedBy old new no_code after (statement_site h) old_prints new_prints (λ scope. IsTypedBlock scope b) (block_prints b) (λ first t. block_code t first b)
