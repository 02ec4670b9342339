-- Where the words of each set name are, and which lists its links make.
use Rattle.std.specs.Prelude.{◌≡◌, ℕ, zero, suc, ◌+◌, ◌*◌, length, List, Option, Some, None, slice_get, ◌⊎◌}
use denote.RawPtr.{Ptr}
use Rattle.ss_base.specs.declared.layout.Owner.{Owner}
use Rattle.ss_base.specs.declared.layout.Owner.TheVariants.{System, Class}
use Rattle.ss_base.specs.declared.layout.SetLayout.{SetLayout}
use Rattle.ss_base.specs.declared.layout.Layout.{Layout}
use Rattle.ss_records_blocks.specs.declared.store.BlockPlace.{BlockPlace}
use Rattle.ss_records_blocks.specs.Cells.{Cells, words_at, word_at}
use Rattle.ss_world.specs.State.{Members, members_of}
use Rattle.ss_records_words.specs.Shape.{links_start, owned_start, joins, owned_by, count_before}
use Rattle.ss_records_words.specs.Places.{Directory, listing, entity_at, owner_at, class_at_place}
use Rattle.ss_records_blocks.specs.Links.{Slots}
use Rattle.ss_records_words.specs.Links.{AreShowing, words_of, IsOfMember, IsOfOwner}

abbrev pub member_base : Layout → ℕ → SetLayout → ℕ
member_base l s t = links_start l t.member + 3 * count_before (joins t.member) l.sets s

abbrev pub owner_base : Layout → ℕ → SetLayout → ℕ
owner_base l s t = owned_start l t.owner + 3 * count_before (owned_by t.owner) l.sets s

-- the words of the set name s: three in each member's block, three in each owner's
abbrev pub slots_of : Layout → ℕ → SetLayout → Slots
slots_of l s t = record {
  next = member_base l s t;
  prev = member_base l s t + 1;
  owner = member_base l s t + 2;
  first = owner_base l s t;
  last = owner_base l s t + 1;
  count = owner_base l s t + 2;
}

abbrev pub is_entry : Cells → ℕ → Option (Option BlockPlace) → Type 0
is_entry cs c None = ⊥
is_entry cs c (Some None) = ⊥
is_entry cs c (Some (Some p)) = class_at_place cs p ≡ c

-- n is an entity of the class c
abbrev pub IsEntityOf : Cells → Directory → ℕ → ℕ → Type 0
IsEntityOf cs d c zero = ⊥
IsEntityOf cs d c (suc i) = is_entry cs c (slice_get (listing d c) i)

-- n may own sets of this owner: 0 is the system
abbrev pub MayOwn : Cells → Directory → Owner → ℕ → Type 0
MayOwn cs d System n = n ≡ 0
MayOwn cs d (Class c) n = IsEntityOf cs d c n

-- the links of the name s show its lists
abbrev pub IsNameKept : Layout → Cells → Ptr → Directory → List Members → ℕ → SetLayout → Type 0
IsNameKept l cs sys d ms s t = AreShowing (words_of (slots_of l s t) cs (entity_at sys d t.member) (owner_at sys d t.owner)) (entity_at sys d t.member) (owner_at sys d t.owner) (IsEntityOf cs d t.member) (MayOwn cs d t.owner) (members_of ms s)

-- a word of the name s, in the block of a member or of an owner
abbrev pub IsOfName : Layout → Cells → Ptr → Directory → ℕ → SetLayout → Ptr → ℕ → Type 0
IsOfName l cs sys d s t p k = ((x : ℕ) × (IsEntityOf cs d t.member x) × (p ≡ entity_at sys d t.member x) × (IsOfMember (slots_of l s t) k)) ⊎ ((o : ℕ) × (MayOwn cs d t.owner o) × (p ≡ owner_at sys d t.owner o) × (IsOfOwner (slots_of l s t) k))

-- the blocks but for words of one kind are as they were
pub record AreSpared (Of : Ptr → ℕ → Type 0) (cs ds : Cells) : Type 0 where
  pub word : (q : Ptr) (j : ℕ) → (Of q j → ⊥) → word_at ds q j ≡ word_at cs q j
  pub size : (q : Ptr) → length (words_at ds q) ≡ length (words_at cs q)
  pub count : length ds ≡ length cs
