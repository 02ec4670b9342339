-- What is assigned, as the generator holds it.
use Rattle.std.specs.Prelude.{◌≡◌, ◌<◌, ℕ, Bool, true, false, List, [], ◌∷◌, Option, Some, None, if◌then◌else◌}
use Rattle.ss_base.specs.declared.layout.Mode.{Mode}
use Rattle.ss_base.specs.declared.layout.Mode.TheVariants.{Integer}
use Rattle.ss_program.specs.declared.expression.Variable.{Variable}
use Rattle.ss_program.specs.declared.expression.Variable.TheVariants.{Global}
use Rattle.ss_program.specs.declared.sections.Subject.TheVariants.{OfAttribute}
use Rattle.ss_program.specs.Program.{Expression, Place, ToVariable, ToAttribute, ToCount}
use Rattle.ss_program.specs.WellTyped.{TypedScope, CanTakeMode, mode_at, field_mode}
use Rattle.ss_code_instructions.specs.Facts.{watch}
use Rattle.ss_code_instructions.specs.declared.address.Address.{Address}
use Rattle.ss_code_instructions.specs.Instructions.{Operand, Taken, Target, Into, Onto, Placed}
use Rattle.ss_code_instructions.specs.Instructions as i
use Rattle.ss_code_instructions.specs.Carried.{IsVariableAt, mode_here}
use Rattle.ss_code_instructions.specs.Translation.{Site, height, above, place, next, operand, operand_code, is_kept, or_integer, assignment, count_code, code_of}
use Rattle.ss_code_generator.specs.declared.targets.VariableSpot.{VariableSpot}
use Rattle.ss_code_generator.specs.declared.targets.AttributeSpot.{AttributeSpot}
use Rattle.ss_code_generator.specs.declared.targets.Spot.{Spot}
use Rattle.ss_code_generator.specs.declared.targets.Spot.TheVariants as spots
use Rattle.ss_code_generator.specs.declared.generator.Generator.{Generator}
use Rattle.ss_code_generator.specs.declared.generator.Site.{Site as Here}
use Rattle.ss_code_pieces.specs.Lined.{Lined}
use Rattle.ss_code_generator.specs.Emitted.{Final, HasGenerated, HasNoMore, IsSiteOperand, IsSiteTarget, IsRead}

-- ## Spots

-- the number of a variable where a statistic watches it
abbrev pub IsWatchedAs : (kept : Bool) → Variable → Option ℕ → Type 0
IsWatchedAs kept x None = kept ≡ false
IsWatchedAs kept x (Some k) = (kept ≡ true) × (x ≡ Global k)

pub record IsVariable (t : Site) (x : Variable) (s : VariableSpot) : Type 0 where
  pub at : IsVariableAt x s.address
  pub mode : s.mode ≡ or_integer (mode_at t.scope x)
  pub watched : IsWatchedAs (is_kept t x) x s.watched

pub record IsAttribute (f : Final) (t : Site) (k n : ℕ) (r : Expression) (s : AttributeSpot) : Type 0 where
  pub class : s.class ≡ k
  pub field : s.field ≡ n
  pub mode : s.mode ≡ or_integer (field_mode t.scope.program k n)
  pub noted : s.is_watched ≡ watch t.scope.program.statistics (OfAttribute k n)
  pub entity : IsRead f t r (record { address = s.entity; cells = s.cells })

abbrev pub IsSpot : Final → Site → Place → Spot → Type 0
IsSpot f t (ToVariable x) (spots.Variable s) = IsVariable t x s
IsSpot f t (ToVariable x) (spots.Attribute s) = ⊥
IsSpot f t (ToVariable x) (spots.Count class s) = ⊥
IsSpot f t (ToAttribute class field r) (spots.Variable s) = ⊥
IsSpot f t (ToAttribute class field r) (spots.Attribute s) = IsAttribute f t class field r s
IsSpot f t (ToAttribute class field r) (spots.Count k s) = ⊥
IsSpot f t (ToCount c) (spots.Variable s) = ⊥
IsSpot f t (ToCount c) (spots.Attribute s) = ⊥
IsSpot f t (ToCount c) (spots.Count class s) = (class ≡ c.class) × IsVariable t (Global c.variable) s

-- how many cells a spot takes
abbrev pub spot_cells : Spot → ℕ
spot_cells (spots.Variable s) = 0
spot_cells (spots.Attribute s) = s.cells
spot_cells (spots.Count class s) = 0

-- ## Code of a place, in parts

-- the reference to the entity of an attribute
abbrev pub spot_code : Site → Place → List Placed
spot_code t (ToVariable x) = []
spot_code t (ToAttribute class field r) = operand_code t r
spot_code t (ToCount c) = []

-- where the value lies at first that comes on top of the cells of u
abbrev pub landing : (u : Site) → Place → Target
landing u (ToVariable x) = if is_kept u x then next u else Into x
landing u (ToAttribute class field r) = next u
landing u (ToCount c) = next u

-- an operand is assigned at u to a place that was resolved at t
abbrev pub assigned_code : (t u : Site) → Place → Operand → List Placed
assigned_code t u (ToVariable x) y = place u (assignment u x y) ∷ []
assigned_code t u (ToAttribute class field r) y = place u (i.SetAttribute class field (operand t r) y) ∷ []
assigned_code t u (ToCount c) y = count_code u c y

-- what is left to do at u once a value of this mode lies where it comes at first: nothing where that is the variable itself
abbrev pub landed_code : (t u : Site) → Place → Mode → List Placed
landed_code t u (ToVariable x) m = if is_kept u x then place (above u Integer) (i.Keep (Taken (height u)) x) ∷ [] else []
landed_code t u (ToAttribute class field r) m = place (above u m) (i.SetAttribute class field (operand t r) (Taken (height u))) ∷ []
landed_code t u (ToCount c) m = count_code (above u m) c (Taken (height u))

-- ## Places that are well typed

abbrev pub IsTypedPlace : Place → TypedScope → Type 0
IsTypedPlace p s = (m : Mode) × CanTakeMode s p m

-- ## The contracts of what assigns

-- a place, where it was resolved, and the operand that it takes; the operand has this mode where it is read
pub record Assignment : Type 0 where
  pub resolved : Site
  pub place : Place
  pub from : Operand
  pub mode : Mode

-- a variable alone, as a place
abbrev pub IsPlaceOf : Site → Place → VariableSpot → Type 0
IsPlaceOf t (ToVariable x) s = IsVariable t x s
IsPlaceOf t (ToAttribute class field r) s = ⊥
IsPlaceOf t (ToCount c) s = ⊥

-- what a place holds has this mode
abbrev pub HasHeldMode : TypedScope → Place → Mode → Type 0
HasHeldMode s (ToVariable x) m = mode_at s x ≡ Some m
HasHeldMode s (ToAttribute class field r) m = field_mode s.program class field ≡ Some m
HasHeldMode s (ToCount c) m = mode_at s (Global c.variable) ≡ Some m

-- the frame has room for a target
abbrev pub HasTargetRoom : Final → Target → Type 0
HasTargetRoom f (Into x) = Unit {0}
HasTargetRoom f (Onto h) = h < f.depth

abbrev pub IsFittingGiven : (IsIt : Final → Site → Place → Type 0) → Address → Final → Site → Assignment → Type 0
IsFittingGiven IsIt from f u g =
    IsIt f g.resolved g.place × (g.resolved.scope ≡ u.scope) × IsSiteOperand f u g.from from × HasHeldMode u.scope g.place g.mode
    × (mode_here (code_of f.program) f.constants (place u i.Leave) g.from ≡ Some g.mode)

-- an operand goes to what is assigned
abbrev pub HasAssigned : Generator → (before after : Lined) → Here → Address → (IsIt : Final → Site → Place → Type 0) → Type 0
HasAssigned g before after here from IsIt = HasGenerated g g before after here (IsFittingGiven IsIt from) (λ u x. assigned_code x.resolved u x.place x.from) HasNoMore

-- a value that lies where it comes at first goes to what is assigned; here are the cells below it
pub record Taking : Type 0 where
  pub resolved : Site
  pub place : Place
  pub mode : Mode

abbrev pub IsFittingTaking : (IsIt : Final → Site → Place → Type 0) → Address → Final → Site → Taking → Type 0
IsFittingTaking IsIt from f u g =
    IsIt f g.resolved g.place × (g.resolved.scope ≡ u.scope) × IsSiteTarget f u (landing u g.place) from × HasTargetRoom f (landing u g.place)
    × HasHeldMode u.scope g.place g.mode

abbrev pub HasAssignedLanded : Generator → (before after : Lined) → Here → Address → (IsIt : Final → Site → Place → Type 0) → Type 0
HasAssignedLanded g before after here from IsIt = HasGenerated g g before after here (IsFittingTaking IsIt from) (λ u x. landed_code x.resolved u x.place x.mode) HasNoMore

-- a variable that ADD or SUBTRACT changes, and the place that it is
pub record Changed : Type 0 where
  pub place : Place
  pub variable : Variable

abbrev pub place_variable : Place → Option Variable
place_variable (ToVariable x) = Some x
place_variable (ToAttribute class field r) = None
place_variable (ToCount c) = Some (Global c.variable)

abbrev pub IsHeldBy : Changed → Type 0
IsHeldBy c = place_variable c.place ≡ Some c.variable
