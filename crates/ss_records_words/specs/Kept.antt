-- What holds between the blocks and the state of a heap.
use Rattle.std.specs.Prelude.{◌≡◌, ℕ, zero, suc, ◌+◌, ◌<◌, ◌≤◌, ◌^◌, IsTrue, List, map, length, ℤ, pos, negsuc, Option, Some, None, Result, Ok, Err, slice_get}
use denote.RawPtr.{Ptr}
use Rattle.ss_base.specs.declared.fault.FaultKind.{FaultKind}
use Rattle.ss_base.specs.declared.fault.FaultKind.TheVariants.{NoEntity, NeverCreated, DestroyedEntity, Index}
use Rattle.ss_base.specs.declared.layout.ClassKind.{ClassKind}
use Rattle.ss_base.specs.declared.layout.ClassKind.TheVariants.{Permanent, Temporary, Notice}
use Rattle.ss_base.specs.declared.layout.Layout.{Layout}
use Rattle.ss_base.specs.declared.layout.Owner.TheVariants.{System, Class}
use Rattle.ss_base.specs.Layout.{is_sound}
use Rattle.ss_records_blocks.specs.declared.store.BlockPlace.{BlockPlace}
use Rattle.ss_records_blocks.specs.Cells.{Word, number, Cells, IsNumber, words_at, word_of}
use Rattle.ss_world.specs.State.{State, Members, kind_of, modes_of}
use Rattle.ss_records_words.specs.Shape.{links_start, block_words}
use Rattle.ss_records_words.specs.Reading.{record_at, records_at}
use Rattle.ss_records_blocks.specs.Places.{Numbers, living_count}
use Rattle.ss_records_words.specs.Places.{Made, Directory, IsMade, IsListedAt, class_at_place, permanent_count}
use Rattle.ss_records_words.specs.Slotted.{IsNameKept}
use Rattle.ss_base.specs.declared.layout.SetLayout.{SetLayout}

abbrev pub IsPermanent : ClassKind → Type 0
IsPermanent Permanent = Unit {0}
IsPermanent Temporary = ⊥
IsPermanent Notice = ⊥

-- the layout is no larger than a heap can serve
pub record IsSmall (l : Layout) : Type 0 where
  pub sound : IsTrue (is_sound l)
  pub classes : length l.classes ≤ 2 ^ 20
  pub sets : length l.sets ≤ 2 ^ 20
  pub fields : (c : ℕ) → length (modes_of l c) ≤ 2 ^ 20

-- the words of the block of the entity n of the class c
pub record AreFormed (l : Layout) (c n : ℕ) (ws : List Word) : Type 0 where
  pub size : length ws ≡ block_words l (Class c)
  pub class : word_of ws 0 ≡ number c
  pub number : word_of ws 1 ≡ number n
  pub values : (k : ℕ) → k < links_start l c → IsNumber (word_of ws k)

-- the state that blocks, directory and lists show
abbrev pub state_of : Layout → Cells → Directory → List Members → State
state_of l cs d ms = record { layout = l; records = map (record_at l cs) d.numbers; permanents = map (records_at l cs) d.classes; lists = ms }

-- the permanent entities of a class are of it
pub record AreOfClass (l : Layout) (cs : Cells) (c : ℕ) (ps : List BlockPlace) : Type 0 where
  pub permanent : IsPermanent (kind_of l c)
  pub class : (i : ℕ) (p : BlockPlace) → slice_get ps i ≡ Some p → class_at_place cs p ≡ c
  pub few : length ps ≤ 2 ^ 20

pub record ArePartsKept (l : Layout) (cs : Cells) (sys : Ptr) (d : Directory) (ms : List Members) : Type 0 where
  pub small : IsSmall l
  pub issued : length d.numbers < 2 ^ 62
  pub width : length d.classes ≡ length l.classes
  pub system : length (words_at cs sys) ≡ block_words l System
  pub end : word_of (words_at cs sys) 1 ≡ number 0
  pub kinds : (i : ℕ) (p : BlockPlace) → slice_get d.numbers i ≡ Some (Some p) → IsPermanent (kind_of l (class_at_place cs p)) → ⊥
  pub made : (c : ℕ) (ps : List BlockPlace) → slice_get d.classes c ≡ Some (Some ps) → AreOfClass l cs c ps
  pub classes : (i : ℕ) (p : BlockPlace) → IsListedAt d i p → class_at_place cs p < length l.classes
  pub formed : (i : ℕ) (p : BlockPlace) → IsListedAt d i p → AreFormed l (class_at_place cs p) (suc i) (words_at cs p.at)
  pub apart : (i j : ℕ) (p q : BlockPlace) → IsListedAt d i p → IsListedAt d j q → p.at ≡ q.at → i ≡ j
  pub off_system : (i : ℕ) (p : BlockPlace) → IsListedAt d i p → p.at ≡ sys → ⊥
  pub counted : length cs ≡ living_count d.numbers + permanent_count d.classes + 1
  pub names : (s : ℕ) (t : SetLayout) → slice_get l.sets s ≡ Some t → IsNameKept l cs sys d ms s t

-- the blocks of the permanent entities are apart from one another and from that of the system, and no other is left
pub record AreRowsHeld (l : Layout) (cs : Cells) (sys : Ptr) (ms : Made) : Type 0 where
  pub width : length ms ≡ length l.classes
  pub size : (c i : ℕ) (ps : List BlockPlace) (p : BlockPlace) → slice_get ms c ≡ Some (Some ps) → slice_get ps i ≡ Some p → length (words_at cs p.at) ≡ block_words l (Class c)
  pub apart : (c b i j : ℕ) (ps qs : List BlockPlace) (p q : BlockPlace) → slice_get ms c ≡ Some (Some ps) → slice_get ms b ≡ Some (Some qs) → slice_get ps i ≡ Some p → slice_get qs j ≡ Some q → p.at ≡ q.at → (i ≡ j) × (c ≡ b)
  pub off_system : (i : ℕ) (p : BlockPlace) → IsMade ms i p → p.at ≡ sys → ⊥
  pub counted : length cs ≡ permanent_count ms + 1

abbrev pub place_or : Option BlockPlace → Result BlockPlace FaultKind
place_or None = Err Index
place_or (Some p) = Ok p

-- where the block of an index lies, or why there is none
abbrev pub indexed_place : List BlockPlace → ℤ → Result BlockPlace FaultKind
indexed_place ps (pos zero) = Err Index
indexed_place ps (pos (suc i)) = place_or (slice_get ps i)
indexed_place ps (negsuc k) = Err Index

abbrev pub issued_place : Option (Option BlockPlace) → Result BlockPlace FaultKind
issued_place None = Err NeverCreated
issued_place (Some None) = Err DestroyedEntity
issued_place (Some (Some p)) = Ok p

-- where the block of a creation number lies, or why there is none
abbrev pub numbered_place : Numbers → ℤ → Result BlockPlace FaultKind
numbered_place d (pos zero) = Err NoEntity
numbered_place d (pos (suc i)) = issued_place (slice_get d i)
numbered_place d (negsuc k) = Err NeverCreated
