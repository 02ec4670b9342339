-- What is emitted for loops.
use Rattle.std.specs.Prelude.{◌≡◌, ◌≤◌, ◌+◌, ℕ, Bool, true, false, List, ◌∷◌, ◌++◌, length, Option, Some, None}
use Rattle.ss_program.specs.declared.expression.Variable.{Variable}
use Rattle.ss_program.specs.Program.{SetOwner, TheSystem, Entity, Head, Numbers, Each, Members, Start, AtEnd, From, After}
use Rattle.ss_program.specs.WellTyped.{IsTypedStart}
use Rattle.ss_code_instructions.specs.declared.instruction.Instruction.{Instruction as Running}
use Rattle.ss_code_instructions.specs.declared.instruction.Instruction.TheVariants.{BeginSet, BeginAt, Begin, BeginClass}
use Rattle.ss_code_instructions.specs.Instructions.{Bearer, Next, NextMember, Placed}
use Rattle.ss_code_instructions.specs.Instructions as i
use Rattle.ss_code_instructions.specs.Facts.{expression_of}
use Rattle.ss_code_instructions.specs.Translation.{Site, height, place, forget_to, number_loop, take_code, turns_code, owner_code, owner_cell, owner_kept, start_code}
use Rattle.ss_code_generator.specs.declared.expressions.Operand.{Operand as Read}
use Rattle.ss_code_generator.specs.declared.generator.Generator.{Generator}
use Rattle.ss_code_generator.specs.declared.generator.Site.{Site as Here}
use Rattle.ss_code_generator.specs.declared.loops.MemberLoop.{MemberLoop}
use Rattle.ss_code_generator.specs.declared.targets.VariableSpot.{VariableSpot}
use Rattle.ss_code_pieces.specs.Lined.{Lined, no_code}
use Rattle.ss_code_generator.specs.Emitted.{Final, HasGenerated, HasNoMore, HasAdded, IsSiteBearer, IsSiteCell, AreNumbers}
use Rattle.ss_code_generator.specs.Spots.{IsVariable}

-- how many cells a FOR keeps
abbrev pub loop_width : Head → ℕ
loop_width (Numbers x a b c) = 3
loop_width (Each x class) = 3
loop_width (Members x set TheSystem start reverse) = 2
loop_width (Members x set (Entity e) start reverse) = 3

-- whether a walk that begins at a member begins after it
abbrev pub is_after : Start → Option Bool
is_after AtEnd = None
is_after (From e) = Some false
is_after (After e) = Some true

abbrev pub begin_of : MemberLoop → Option Bool → (skip : ℕ) → Running
begin_of w None skip = BeginSet w.set w.owner w.cell skip w.reverse
begin_of w (Some after) skip = BeginAt w.set w.owner w.cell skip w.reverse after

-- ## Items

-- a variable, the height of the cell of the item or member, and the turn
pub record Turning : Type 0 where
  pub variable : Variable
  pub cell : ℕ
  pub turn : List Placed

-- the cell of the item has this number, and lies below others
abbrev pub IsFittingItem : (cell : ℕ) → VariableSpot → Final → Site → Turning → Type 0
IsFittingItem n spot f u x = IsVariable u x.variable spot × IsSiteCell f u x.cell n

abbrev pub HasTakenLoopItem : Generator → (before after : Lined) → Here → (cell : ℕ) → VariableSpot → Type 0
HasTakenLoopItem g before after here n spot = HasGenerated g g before after here (IsFittingItem n spot) (λ u x. take_code u x.cell x.variable) HasNoMore

-- a turn was made before
abbrev pub HasTakenItems : Generator → (after : Lined) → Here → (cell : ℕ) → VariableSpot → (turn : Lined) → Type 0
HasTakenItems g after here n spot turn =
    HasGenerated g g no_code after here (λ f u x. IsFittingItem n spot f u x × HasAdded f no_code turn x.turn) (λ u x. turns_code u x.cell x.variable x.turn (Next x.cell)) HasNoMore

-- the instruction that begins a FOR over numbers, or over a class
abbrev pub items_begin : (class : Option ℕ) → (cell skip : ℕ) → Running
items_begin None cell skip = Begin cell skip
items_begin (Some class) cell skip = BeginClass class cell skip

-- what it carries out: numbers begin above their range
abbrev pub begins_items : Site → (class : Option ℕ) → (skip : ℕ) → Placed
begins_items t None skip = place (number_loop t) (i.Begin (height t) skip)
begins_items t (Some class) skip = place t (i.BeginClass class (height t) skip)

-- a FOR over a class, or over numbers once their range is there
abbrev pub item_loop_code : Site → (class : Option ℕ) → Variable → (turn : List Placed) → List Placed
item_loop_code t class x turn =
    let turns : List Placed = turns_code (number_loop t) (height t) x turn (Next (height t)) in
    begins_items t class (length turns) ∷ (turns ++ forget_to t (number_loop t))

-- ## Members

-- a walk: its variable, its set, its owner, the height of the cell of the member, and the turn
pub record Walking : Type 0 where
  pub variable : Variable
  pub set : ℕ
  pub owner : Bearer
  pub cell : ℕ
  pub turn : List Placed

abbrev pub IsFittingWalk : MemberLoop → Final → Site → Walking → Type 0
IsFittingWalk w f u x = IsVariable u x.variable w.variable × (w.set ≡ x.set) × IsSiteBearer f u x.owner w.owner × IsSiteCell f u x.cell w.cell

abbrev pub HasTakenMembers : Generator → (after : Lined) → Here → MemberLoop → (turn : Lined) → Type 0
HasTakenMembers g after here w turn =
    HasGenerated g g no_code after here (λ f u x. IsFittingWalk w f u x × HasAdded f no_code turn x.turn)
    (λ u x. turns_code u x.cell x.variable x.turn (NextMember w.reverse x.set x.owner x.cell)) HasNoMore

-- the owner of a walk, which stays in a cell
abbrev pub HasKeptOwner : (old new : Generator) → (before after : Lined) → Here → SetOwner → Read → Type 0
HasKeptOwner old new before after here o r =
    HasGenerated old new before after here (λ f t (u : Unit {0}). AreNumbers (expression_of o) t.scope) (λ t u. owner_code t o)
    (λ f t u. IsSiteBearer f t (owner_kept t o) r.address × (height (owner_cell t o) ≡ height t + r.cells) × (height (owner_cell t o) ≤ f.depth))

-- the member with which a walk begins, or after which
abbrev pub HasStartedWalk : (old new : Generator) → (before after : Lined) → Here → MemberLoop → Start → Type 0
HasStartedWalk old new before after here w start =
    HasGenerated old new before after here (λ f u x. IsFittingWalk w f u x × IsTypedStart u.scope start) (λ u x. start_code u x.set x.owner start) HasNoMore
