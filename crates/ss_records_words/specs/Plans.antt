-- What follows from a layout for the words of its classes and sets.
use Rattle.std.specs.Prelude.{◌≡◌, ℕ, ◌<◌, Bool, true, false, List, length, slice_get, Some}
use Rattle.ss_base.specs.declared.layout.ClassKind.{ClassKind}
use Rattle.ss_base.specs.declared.layout.ClassKind.TheVariants.{Permanent, Temporary, Notice}
use Rattle.ss_base.specs.declared.layout.Owner.{Owner}
use Rattle.ss_base.specs.declared.layout.Owner.TheVariants.{System, Class}
use Rattle.ss_base.specs.declared.layout.SetLayout.{SetLayout}
use Rattle.ss_base.specs.declared.layout.Layout.{Layout}
use Rattle.ss_records_words.specs.declared.plan.Extent.{Extent}
use Rattle.ss_records_words.specs.declared.plan.Bases.{Bases}
use Rattle.ss_world.specs.State.{kind_of}
use Rattle.ss_records_words.specs.Shape.{links_start, owned_start, block_words, joins, owned_by, count_sets}
use Rattle.ss_records_words.specs.Kept.{IsSmall}
use Rattle.ss_records_words.specs.Slotted.{member_base, owner_base}

-- where the words of a class are
abbrev pub extent_of : Layout → ℕ → Extent
extent_of l c = record { links = links_start l c; owned = owned_start l (Class c); joined = count_sets (joins c) l.sets; sets = count_sets (owned_by (Class c)) l.sets; words = block_words l (Class c) }

-- whether a class is permanent
abbrev pub is_permanent_kind : ClassKind → Bool
is_permanent_kind Permanent = true
is_permanent_kind Temporary = false
is_permanent_kind Notice = false

-- whether an owner is the system
abbrev pub is_system : Owner → Bool
is_system System = true
is_system (Class c) = false

-- where the words of a set are, and the facts of its members and its owner
abbrev pub bases_of : Layout → ℕ → SetLayout → Bases
bases_of l s t = record { member = member_base l s t; owner = owner_base l s t; class = t.member; permanent = is_permanent_kind (kind_of l t.member); system = is_system t.owner }

-- those of each class, and of each set
abbrev pub AreExtents : Layout → List Extent → Type 0
AreExtents l xs = (c : ℕ) → c < length l.classes → slice_get xs c ≡ Some (extent_of l c)

abbrev pub AreBases : Layout → List Bases → Type 0
AreBases l xs = (s : ℕ) (t : SetLayout) → slice_get l.sets s ≡ Some t → slice_get xs s ≡ Some (bases_of l s t)

-- what a plan holds of a layout
pub record IsPlan (l : Layout) (cs : List Extent) (ss : List Bases) (n : ℕ) : Type 0 where
  pub small : IsSmall l
  pub classes : AreExtents l cs
  pub sets : AreBases l ss
  pub system : n ≡ count_sets (owned_by System) l.sets
