-- Notices, and the simulation.
use Rattle.std.specs.Prelude.{◌≡◌, ℕ, zero, suc, Bool, true, false, List, [], ◌∷◌, if◌then◌else◌}
use Rattle.ss_base.specs.declared.layout.Mode.TheVariants.{Integer}
use Rattle.ss_program.specs.Program.{Place, ToVariable, ToAttribute, ToCount}
use Rattle.ss_program.specs.declared.sections.Statistic.{Statistic}
use Rattle.ss_program.specs.declared.sections.Subject.TheVariants.{OfAttribute}
use Rattle.ss_code_instructions.specs.Facts.{watch}
use Rattle.ss_code_instructions.specs.Instructions.{Placed, Stays, Await, TakeEvent, NextEvent, SetAttribute}
use Rattle.ss_code_instructions.specs.declared.address.Address.{Address}
use Rattle.ss_code_generator.specs.declared.targets.Spot.{Spot}
use Rattle.ss_code_generator.specs.declared.targets.Spot.TheVariants as spots
use Rattle.ss_code_instructions.specs.Translation.{Site, height, place, above, operand, stay, count_code}
use Rattle.ss_code_generator.specs.declared.generator.Generator.{Generator}
use Rattle.ss_code_generator.specs.declared.generator.Site.{Site as Here}
use Rattle.ss_code_pieces.specs.Lined.{Lined}
use Rattle.ss_code_generator.specs.Emitted.{Final, HasGenerated, HasNoMore, IsSiteTarget}
use Rattle.ss_code_generator.specs.Spots.{Taking, HasTargetRoom, HasHeldMode, landing, landed_code}

-- the statistics watch one of the first attributes of a class, so many
abbrev pub any_watched : List Statistic → (class given : ℕ) → Bool
any_watched ss class zero = false
any_watched ss class (suc k) = if any_watched ss class k then true else watch ss (OfAttribute class k)

-- START SIMULATION
abbrev pub simulate_code : Site → List Placed
simulate_code t = place t (Await 2) ∷ (place t (TakeEvent (height t)) ∷ (place t (NextEvent 1) ∷ []))

-- where a new notice lies once it is assigned
abbrev pub named_at : Spot → Address → Address
named_at (spots.Variable s) to = s.address
named_at (spots.Attribute s) to = to
named_at (spots.Count class s) to = to

-- a new notice that lies where it comes at first goes to its place; what lies in cells stays there
abbrev pub named_code : (t u : Site) → Place → List Placed
named_code t u (ToVariable x) = landed_code t u (ToVariable x) Integer
named_code t u (ToAttribute class field r) = place (above u Integer) (SetAttribute class field (stay (operand t r)) (Stays (height u))) ∷ []
named_code t u (ToCount c) = count_code (above u Integer) c (Stays (height u))

abbrev pub IsFittingNaming : (IsIt : Final → Site → Place → Type 0) → Address → Final → Site → Taking → Type 0
IsFittingNaming IsIt from f u g =
    IsIt f g.resolved g.place × (g.resolved.scope ≡ u.scope) × IsSiteTarget f u (landing u g.place) from × HasTargetRoom f (landing u g.place)
    × HasHeldMode u.scope g.place Integer

abbrev pub HasNamed : Generator → (before after : Lined) → Here → Address → (IsIt : Final → Site → Place → Type 0) → Type 0
HasNamed g before after here from IsIt = HasGenerated g g before after here (IsFittingNaming IsIt from) (λ u x. named_code x.resolved u x.place) HasNoMore
