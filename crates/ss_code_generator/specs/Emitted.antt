-- When the generator's instructions carry out a piece of the definition.
--
-- There is one form for all functions of the generator, `HasGenerated`. An address of a constant is right, and a frame has room for a cell, only once all code is
-- made. So each function promises something of every end that may come of it: `Final` is what is known at the end, and `IsAround` says that it came of what the
-- generator has so far. What is around more is around less, and so pieces fit together.
use Rattle.std.specs.Prelude.{◌≡◌, ℕ, ◌+◌, ◌<◌, ◌≤◌, ◌^◌, List, [], ◌∷◌, ◌++◌, length, pos, Option, Some, None, slice_get}
use Rattle.ss_base.specs.declared.layout.Mode.{Mode}
use Rattle.ss_base.specs.declared.layout.Mode.TheVariants.{Integer}
use Rattle.ss_base.specs.declared.value.Value.{Value}
use Rattle.ss_base.specs.declared.value.Value.TheVariants.{Whole}
use Rattle.ss_program.specs.Program.{Program, Expression}
use Rattle.ss_program.specs.View.{view_program}
use Rattle.ss_program.specs.WellTyped.{TypedScope, HasMode, IsWellTyped}
use Rattle.ss_code_instructions.specs.declared.address.Address.{Address}
use Rattle.ss_code_instructions.specs.declared.instruction.Instruction.{Instruction as Running}
use Rattle.ss_code_instructions.specs.Instructions.{Operand, Bearer, Target, Instruction, Print, Leave, Placed}
use Rattle.ss_code_instructions.specs.Translation.{Site, height, place, leaf, operand, operand_code, after, bearer, bearer_code, after_bearer, code_of}
use Rattle.ss_code_instructions.specs.Carried.{RunningLines, IsOperandAt, IsBearerAt, IsTargetAt, IsCellAt, IsCarriedOut, item_modes, onto}
use Rattle.ss_code_generator.specs.declared.expressions.Operand.{Operand as Read}
use Rattle.ss_code_generator.specs.declared.generator.Generator.{Generator}
use Rattle.ss_code_generator.specs.declared.generator.Site.{Site as Here}
use Rattle.ss_code_pieces.specs.Lined.{Lined, no_code}

-- ## What is known at the end

-- the program, all constants, the lines of all PRINTs, and the most cells of a frame
pub record Final : Type 0 where
  pub program : Program
  pub constants : List Value
  pub prints : List RunningLines
  pub depth : ℕ

-- the generator has come to that
pub record IsAround (f : Final) (g : Generator) : Type 0 where
  pub program : view_program g.program.now ≡ f.program
  pub typed : IsWellTyped f.program
  pub fixed : (rest : List Value) × (f.constants ≡ Whole (pos 0) ∷ Whole (pos 1) ∷ rest)
  pub constants : (rest : List Value) × (f.constants ≡ g.constants.items ++ rest)
  pub depth : g.deepest ≤ f.depth
  pub small : f.depth < 2 ^ 32

-- the generator has made something more
pub record HasGrown (old new : Generator) : Type 0 where
  pub program : new.program.now ≡ old.program.now
  pub locals : new.locals.items ≡ old.locals.items
  pub constants : (more : List Value) × (new.constants.items ≡ old.constants.items ++ more)
  pub depth : old.deepest ≤ new.deepest

-- ## Where code is generated

-- the definition's site is where the generator is; the frame has room for the cells there
pub record IsLocated (f : Final) (g : Generator) (here : Here) (t : Site) : Type 0 where
  pub program : t.scope.program ≡ f.program
  pub locals : t.scope.locals ≡ g.locals.items
  pub line : t.line ≡ here.line
  pub high : height t ≡ here.height
  pub deep : height t ≤ f.depth

-- addresses of what the definition has at a site
abbrev pub IsSiteOperand : Final → Site → Operand → Address → Type 0
IsSiteOperand f t = IsOperandAt (code_of f.program) f.constants (place t Leave)

abbrev pub IsSiteBearer : Final → Site → Bearer → Address → Type 0
IsSiteBearer f t = IsBearerAt (code_of f.program) f.constants (place t Leave)

abbrev pub IsSiteTarget : Final → Site → Target → Address → Type 0
IsSiteTarget f t = IsTargetAt (code_of f.program) f.constants (place t Leave)

abbrev pub IsSiteCell : Final → Site → (height cell : ℕ) → Type 0
IsSiteCell f t = IsCellAt (code_of f.program) f.constants (place t Leave)

-- ## Pieces

-- the cells from which a PRINT takes its values have the modes that its items say
abbrev pub HasPrintModes : List RunningLines → List Mode → Instruction → Type 0
HasPrintModes prints cells (Print n h) = (l : RunningLines) × (slice_get prints n ≡ Some l) × ((rest : List Mode) × (cells ≡ onto (item_modes l.items) rest))
HasPrintModes prints cells _ = Unit {0}

-- an instruction carries out the one of a place
pub record IsRunBy (f : Final) (x : Placed) (y : Running) : Type 0 where
  pub carries : IsCarriedOut (code_of f.program) f.constants x y
  pub deep : length x.cells ≤ f.depth
  pub shown : HasPrintModes f.prints x.cells x.instruction

-- and so one after another, each on the line of its place
abbrev pub AreAllRun : Final → List Placed → Lined → Type 0
AreAllRun f [] [] = Unit {0}
AreAllRun f [] (y ∷ ys) = ⊥
AreAllRun f (x ∷ xs) [] = ⊥
AreAllRun f (x ∷ xs) (y ∷ ys) = (y.line ≡ x.line) × IsRunBy f x y.instruction × AreAllRun f xs ys

-- what was added to a piece carries out these places
pub record HasAdded (f : Final) (before after : Lined) (c : List Placed) : Type 0 where
  pub more : Lined
  pub added : after ≡ before ++ more
  pub run : AreAllRun f c more

-- The form of each contract. From here on, at each site and for whatever fits there, the code c was added to a piece, and more is so.
pub record HasGenerated {I : Type 0} (old new : Generator) (before after : Lined) (here : Here) (Fit : Final → Site → I → Type 0) (c : Site → I → List Placed) (More : Final → Site → I → Type 0) : Type 0 where
  pub grows : HasGrown old new
  pub adds : (f : Final) (t : Site) (i : I) → IsAround f new → IsLocated f new here t → Fit f t i → HasAdded f before after (c t i)
  pub more : (f : Final) (t : Site) (i : I) → IsAround f new → IsLocated f new here t → Fit f t i → More f t i

-- ## Its cases

abbrev pub HasNoMore : {I : Type 0} → Final → Site → I → Type 0
HasNoMore f t i = Unit {0}

-- code, where something is well typed
abbrev pub HasEmitted : (old new : Generator) → (before after : Lined) → Here → (Good : TypedScope → Type 0) → (Site → List Placed) → Type 0
HasEmitted old new before after here Good c = HasGenerated old new before after here (λ f t (u : Unit {0}). Good t.scope) (λ t u. c t) HasNoMore

-- code that leaves something at a target, which has this address
abbrev pub HasEmittedTo : (old new : Generator) → (before after : Lined) → Here → Address → (Good : TypedScope → Type 0) → (Site → Target → List Placed) → Type 0
HasEmittedTo old new before after here to Good c = HasGenerated old new before after here (λ f t x. IsSiteTarget f t x to × Good t.scope) c HasNoMore

-- code around a piece that was made before
abbrev pub HasEmittedAround : (old new : Generator) → (before after : Lined) → Here → (inner : Lined) → (Good : TypedScope → Type 0) → (Site → List Placed → List Placed) → Type 0
HasEmittedAround old new before after here inner Good c = HasGenerated old new before after here (λ f t b. HasAdded f no_code inner b × Good t.scope) c HasNoMore

-- and around two
pub record Sides : Type 0 where
  pub first : List Placed
  pub second : List Placed

abbrev pub HasEmittedAroundBoth : (old new : Generator) → (before after : Lined) → Here → (first second : Lined) → (Good : TypedScope → Type 0) → (Site → Sides → List Placed) → Type 0
HasEmittedAroundBoth old new before after here first second Good c =
    HasGenerated old new before after here (λ f t b. HasAdded f no_code first b.first × HasAdded f no_code second b.second × Good t.scope) c HasNoMore

-- code with these PRINTs so far
abbrev pub HasPrints : Final → List RunningLines → Type 0
HasPrints f prints = (rest : List RunningLines) × (f.prints ≡ prints ++ rest)

abbrev pub HasEmittedPrinting : (old new : Generator) → (before after : Lined) → Here → (prints : List RunningLines) → (Good : TypedScope → Type 0) → (Site → List Placed) → Type 0
HasEmittedPrinting old new before after here prints Good c = HasGenerated old new before after here (λ f t (u : Unit {0}). HasPrints f prints × Good t.scope) (λ t u. c t) HasNoMore

-- ## Operands

abbrev pub IsTyped : Expression → TypedScope → Type 0
IsTyped e s = (m : Mode) × HasMode s e m

abbrev pub IsInteger : Expression → TypedScope → Type 0
IsInteger e s = HasMode s e Integer

abbrev pub AreNumbers : Option Expression → TypedScope → Type 0
AreNumbers None s = Unit {0}
AreNumbers (Some e) s = HasMode s e Integer

-- a constant or a variable has an address, and anything else needs code
abbrev pub IsLeaf : Generator → Expression → Option Address → Type 0
IsLeaf g e None = leaf e ≡ None
IsLeaf g e (Some a) = (y : Operand) × (leaf e ≡ Some y) × ((f : Final) (t : Site) → IsAround f g → IsSiteOperand f t y a)

-- where an operand lies, and how many cells it takes
pub record IsRead (f : Final) (t : Site) (e : Expression) (o : Read) : Type 0 where
  pub at : IsSiteOperand f t (operand t e) o.address
  pub high : height (after t e) ≡ height t + o.cells
  pub deep : height (after t e) ≤ f.depth

pub record IsBorne (f : Final) (t : Site) (e : Option Expression) (o : Read) : Type 0 where
  pub at : IsSiteBearer f t (bearer t e) o.address
  pub high : height (after_bearer t e) ≡ height t + o.cells
  pub deep : height (after_bearer t e) ≤ f.depth

-- the code of an operand, and where it lies; the code may look at it as well
abbrev pub HasReadBy : (old new : Generator) → (before after : Lined) → Here → (Good : TypedScope → Type 0) → Expression → Read → (Site → List Placed) → Type 0
HasReadBy old new before after here Good e o c = HasGenerated old new before after here (λ f t (u : Unit {0}). Good t.scope) (λ t u. c t) (λ f t u. IsRead f t e o)

abbrev pub HasReadOperand : (old new : Generator) → (before after : Lined) → Here → Expression → Read → Type 0
HasReadOperand old new before after here e o = HasReadBy old new before after here (IsTyped e) e o (λ t. operand_code t e)

-- the code of an owner, or of the entity of a statistic, and where it lies
abbrev pub HasBorne : (old new : Generator) → (before after : Lined) → Here → Option Expression → Read → Type 0
HasBorne old new before after here e o = HasGenerated old new before after here (λ f t (u : Unit {0}). AreNumbers e t.scope) (λ t u. bearer_code t e) (λ f t u. IsBorne f t e o)
