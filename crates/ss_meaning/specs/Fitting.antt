-- When a store fits a program: variables and attributes hold values of their modes, what is pending lives, and statistics have their histories.
use Rattle.std.specs.Prelude.{◌≡◌, ℕ, ◌<◌, suc, List, map, length, ℤ, pos, negsuc, zero, Option, Some, None, Ok, slice_get}
use Rattle.std.specs.List.{AllByRecursion as Every}
use Rattle.ss_base.specs.declared.layout.ClassKind.{ClassKind}
use Rattle.ss_base.specs.declared.layout.ClassKind.TheVariants.{Permanent, Temporary, Notice}
use Rattle.ss_base.specs.declared.layout.Mode.{Mode}
use Rattle.ss_base.specs.declared.layout.Owner.{Owner}
use Rattle.ss_base.specs.declared.layout.Owner.TheVariants.{System, Class}
use Rattle.ss_base.specs.declared.layout.Layout.{Layout}
use Rattle.ss_base.specs.declared.value.Value.{Value}
use Rattle.ss_base.specs.Layout.{mode_of}
use Rattle.ss_world.specs.State.{Record, State, kind_of, modes_of, records_in}
use Rattle.ss_stats.specs.History.{History}
use Rattle.ss_program.specs.declared.sections.Subject.{Subject}
use Rattle.ss_program.specs.declared.sections.Statistic.{Statistic}
use Rattle.ss_program.specs.Program.{Program}
use Rattle.ss_meaning.specs.Store.{Column, World, Store}
use Rattle.ss_meaning.specs.Histories.{home}
use Rattle.ss_meaning.specs.Meaning.{setting_of}

-- the values hold these modes, and are as many
abbrev pub AreOfModes : List Value → List Mode → Type 0
AreOfModes vs modes = map mode_of vs ≡ modes

-- ## Entities

-- the record of an entity that lives has values of the modes of its class
abbrev pub IsFittingRecord : Layout → Option Record → Type 0
IsFittingRecord l None = Unit {0}
IsFittingRecord l (Some r) = AreOfModes r.values (modes_of l r.class)

abbrev pub IsFittingHeap : State → Type 0
IsFittingHeap h =
    Every (IsFittingRecord h.layout) h.records
    × ((k : ℕ) (rs : List Record) → slice_get h.permanents k ≡ Some (Some rs) → Every (λ (r : Record). AreOfModes r.values (modes_of h.layout k)) rs)

-- the class of the living entity of a creation number
abbrev pub class_of_record : Option (Option Record) → Option ℕ
class_of_record None = None
class_of_record (Some None) = None
class_of_record (Some (Some r)) = Some r.class

abbrev pub living : State → ℤ → Option ℕ
living h (pos zero) = None
living h (pos (suc i)) = class_of_record (slice_get h.records i)
living h (negsuc k) = None

-- how many entities of a permanent class there are
abbrev pub made : State → ℕ → ℕ
made h class = length (records_in (slice_get h.permanents class))

abbrev pub IsIndex : ℕ → ℤ → Type 0
IsIndex n (pos zero) = ⊥
IsIndex n (pos (suc i)) = i < n
IsIndex n (negsuc k) = ⊥

-- an entity of a class lives
abbrev pub IsLivingAs : ClassKind → State → (class : ℕ) → ℤ → Type 0
IsLivingAs Permanent h class x = IsIndex (made h class) x
IsLivingAs Temporary h class x = living h x ≡ Some class
IsLivingAs Notice h class x = living h x ≡ Some class

abbrev pub IsLiving : State → (class : ℕ) → ℤ → Type 0
IsLiving h class x = IsLivingAs (kind_of h.layout class) h class x

-- it is a living notice
abbrev pub IsNotice : State → ℤ → Type 0
IsNotice h x = (class : ℕ) × (living h x ≡ Some class) × (kind_of h.layout class ≡ Notice)

-- ## Histories

-- an entity has a subject: the system as 0, or one that lives
abbrev pub IsLivingOwner : Owner → State → ℤ → Type 0
IsLivingOwner System h x = x ≡ pos 0
IsLivingOwner (Class class) h x = IsLiving h class x

abbrev pub IsSubjectOwner : State → Subject → ℤ → Type 0
IsSubjectOwner h subject x = IsLivingOwner (home h.layout subject) h x

-- a statistic has a history of an entity
abbrev pub Has : Column → ℤ → Type 0
Has c x = (history : History) × (c x ≡ Some history)

-- the histories of a statistic are there, with one for each of these entities
abbrev pub HasHistories : (statistic : ℕ) → List Column → (ℤ → Type 0) → Type 0
HasHistories j cs these = (c : Column) × (slice_get cs j ≡ Some c) × ((x : ℤ) → these x → Has c x)

abbrev pub HasAllHistories : List Statistic → State → List Column → Type 0
HasAllHistories ss h cs = (j : ℕ) (t : Statistic) → slice_get ss j ≡ Some t → HasHistories j cs (IsSubjectOwner h t.subject)

-- ## Stores

pub record IsFittingWorld (p : Program) (c : World) : Type 0 where
  pub setting : c.setting ≡ setting_of p
  pub layout : c.heap.layout ≡ p.layout
  pub heap : IsFittingHeap c.heap
  -- each notice that is pending lives
  pub pending : Every (λ e. IsNotice c.heap e.notice) c.pending.entries
  pub histories : HasAllHistories p.statistics c.heap c.histories

-- a store apart from its local variables
pub record IsSoundStore (p : Program) (s : Store) : Type 0 where
  pub globals : AreOfModes s.globals p.globals
  pub world : IsFittingWorld p s.world

-- with local variables of these modes
pub record IsFittingStore (p : Program) (modes : List Mode) (s : Store) : Type 0 where
  pub sound : IsSoundStore p s
  pub locals : AreOfModes s.locals modes
