-- The parts of a heap, and what its contracts see of them.
use Rattle.std.specs.Prelude.{◌≡◌, ℕ, suc, ℤ, pos, Bool, true, false, List, [], ◌∷◌, ◌++◌, length, slice_get, Some, Ok}
use Rattle.ss_records_blocks.specs.declared.store.BlockPlace.{BlockPlace}
use Rattle.ss_records_entities.specs.declared.records.Records.{Records}
use Rattle.ss_records_blocks.specs.declared.links.EntityBlock.{EntityBlock}
use Rattle.ss_world.specs.State.{State, Heaped, entity_in, notice, members_of}
use Rattle.ss_world.specs.Sets.{member_class, owner_kind}
use Rattle.ss_world.specs.Lists.{head0, last_or}
use Rattle.ss_records_blocks.specs.Cells.{words_at}
use Rattle.ss_records_words.specs.Reading.{record_of}
use Rattle.ss_records_words.specs.Kept.{ArePartsKept, state_of}
use Rattle.ss_records_words.specs.Places.{Directory, lying, IsListedAt, class_at_place, entity_at, owner_at}
use Rattle.ss_records_words.specs.Slotted.{IsEntityOf, MayOwn}

-- where the entities lie
abbrev pub places : Records → Directory
places r = lying r.directory.places r.permanents.items

abbrev pub IsKept : Records → Type 0
IsKept r = ArePartsKept r.layout r.blocks.cells r.system.at (places r) r.notes.lists

abbrev pub state : Records → State
state r = state_of r.layout r.blocks.cells (places r) r.notes.lists

abbrev pub heaped : Records → Heaped
heaped r = record { state = state r; touches = r.blocks.touches; total = r.blocks.total; pages = r.directory.pages; blocks = length r.blocks.cells }

-- p is the place of the entity x of the class c
pub record IsEntityPlace (r : Records) (c : ℕ) (x : ℤ) (p : BlockPlace) : Type 0 where
  pub index : ℕ
  pub is : x ≡ pos (suc index)
  pub entry : IsListedAt (places r) index p
  pub class : class_at_place r.blocks.cells p ≡ c
  pub entity : entity_in (state r) c x ≡ Ok (record_of r.layout (words_at r.blocks.cells p.at))

-- p is the place of the notice x
pub record IsNoticePlace (r : Records) (x : ℤ) (p : BlockPlace) : Type 0 where
  pub index : ℕ
  pub is : x ≡ pos (suc index)
  pub entry : slice_get r.directory.places index ≡ Some (Some p)
  pub notice : notice (state r) x ≡ Ok (record_of r.layout (words_at r.blocks.cells p.at))

-- e is where the block of its number lies, as an entity of the class of the members of the set s; 0 is the end
abbrev pub IsInPlace : Records → ℕ → EntityBlock → Type 0
IsInPlace r s e = e.place.at ≡ entity_at r.system.at (places r) (member_class r.layout s) e.number

-- e is an owner of the set s
pub record IsOwnerBlock (r : Records) (s : ℕ) (e : EntityBlock) : Type 0 where
  pub lies : e.place.at ≡ owner_at r.system.at (places r) (owner_kind r.layout s) e.number
  pub may : MayOwn r.blocks.cells (places r) (owner_kind r.layout s) e.number

-- e is of the class of the members of the set s
pub record CanJoin (r : Records) (s : ℕ) (e : EntityBlock) : Type 0 where
  pub lies : IsInPlace r s e
  pub is : IsEntityOf r.blocks.cells (places r) (member_class r.layout s) e.number

-- the set s of o has the members xs and then ys, of which a is the last and b the first
pub record AreNeighbours (r : Records) (s o : ℕ) (a b : EntityBlock) (xs ys : List ℕ) : Type 0 where
  pub list : members_of r.notes.lists s o ≡ xs ++ ys
  pub before : IsInPlace r s a
  pub last : a.number ≡ last_or 0 xs
  pub after : IsInPlace r s b
  pub first : b.number ≡ head0 ys

-- the set s of o has the members xs, then x, then ys
pub record HasNeighbours (r : Records) (s o x : ℕ) (a b : EntityBlock) (xs ys : List ℕ) : Type 0 where
  pub list : members_of r.notes.lists s o ≡ xs ++ x ∷ ys
  pub before : IsInPlace r s a
  pub last : a.number ≡ last_or 0 xs
  pub after : IsInPlace r s b
  pub first : b.number ≡ head0 ys

-- the members of a list before an end of it, the last or the first, and those after it
abbrev pub before_end : Bool → List ℕ → List ℕ
before_end true l = l
before_end false l = []

abbrev pub after_end : Bool → List ℕ → List ℕ
after_end true l = []
after_end false l = l

-- what a call that only looks leaves: all but the counts of touches
abbrev pub uncounted : Records → Records
uncounted r = record r { blocks = record { cells = r.blocks.cells; touches = 0; total = 0 } }
