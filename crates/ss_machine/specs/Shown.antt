-- The items of a PRINT.
use Rattle.std.specs.Prelude.{◌≡◌, ℕ, ◌+◌, ◌<◌, true, List, [], ◌∷◌, ◌++◌, ◌⊎◌, length, map, ℤ, pos, Option, Some, None}
use Rattle.std.specs.List.{flat_map}
use Rattle.std.specs.Io.KnownBytes.{Appends}
use Rattle.ss_base.specs.declared.value.Value.{Value}
use Rattle.ss_base.specs.declared.value.Value.TheVariants.{Whole}
use Rattle.ss_picture.specs.declared.items.Item.{Item}
use Rattle.ss_picture.specs.declared.items.Item.TheVariants.{Is, Mean}
use Rattle.ss_picture.specs.Pictures.{picture_fields}
use Rattle.ss_picture.specs.Suited.{IsMean}
use Rattle.ss_meaning.specs.Values.{lines_with, take_all}
use Rattle.ss_meaning.specs.Store.{Store}
use Rattle.ss_meaning.specs.Fitting.{AreOfModes}
use Rattle.ss_code_instructions.specs.declared.item.ItemKind.{ItemKind}
use Rattle.ss_code_instructions.specs.declared.item.ItemKind.TheVariants as shows
use Rattle.ss_code_instructions.specs.Machine.{values_shown}
use Rattle.ss_code_instructions.specs.Carried.{RunningLines, item_modes, kind_of_item}
use Rattle.ss_machine_world.specs.Seen.{Seen, with_seen}
use Rattle.ss_machine_world.specs.Numbers.{HasValidSubject, IsReferenceToSubject}
use Rattle.ss_machine_frames.specs.Rows.{TwoRows}
use Rattle.ss_machine_frames.specs.Holding.{AreValuesAt}
use Rattle.ss_machine.specs.Sent.{HasTakenLess}

-- an item that can be printed in a field that takes it
abbrev pub IsPrintable : Item → Type 0
IsPrintable (Is v) = Unit {0}
IsPrintable (Mean sum number) = IsMean sum number

-- the system has the subject of a statistic; or entities have it, each of which its number refers to
abbrev pub IsOfSystem : Seen → (statistic : ℕ) → Type 0
IsOfSystem e j = HasValidSubject e j × IsReferenceToSubject e j None (pos 0)

abbrev pub IsOfNumbers : Seen → (statistic : ℕ) → Type 0
IsOfNumbers e j = HasValidSubject e j × ((n : ℤ) → IsReferenceToSubject e j (Some (Whole n)) n)

-- how many cells an item takes
abbrev pub cells_of : ItemKind → ℕ
cells_of shows.Number = 1
cells_of shows.Text = 1
cells_of (shows.Mean j) = 0
cells_of (shows.MeanOf j) = 1

-- the item of a kind can be made of what lies at a place
abbrev pub CanShowOne : Seen → TwoRows → (at : ℕ) → ItemKind → Type 0
CanShowOne e r at shows.Number = at < length r.numbers
CanShowOne e r at shows.Text = at < length r.numbers
CanShowOne e r at (shows.Mean j) = IsOfSystem e j
CanShowOne e r at (shows.MeanOf j) = (at < length r.numbers) × IsOfNumbers e j

-- and the items of several kinds
abbrev pub CanShow : Seen → TwoRows → (at : ℕ) → List ItemKind → Type 0
CanShow e r at [] = Unit {0}
CanShow e r at (k ∷ ks) = CanShowOne e r at k × CanShow e r (at + cells_of k) ks

-- what the definition shows of the values that lie from a place on, where it shows anything, are these items
abbrev pub AreShown : Seen → TwoRows → (at : ℕ) → List ItemKind → List Item → Type 0
AreShown e r at kinds items =
    (s : Store) (vs : List Value) (given : List Item) → AreValuesAt r at vs → AreOfModes vs (item_modes kinds) →
    values_shown (map kind_of_item kinds) vs (with_seen s e) ≡ Some given → given ≡ items

-- ## One item after the other

-- the items begin with this one, and the others are shown of what lies after its cells
pub record IsShownFirst (e : Seen) (r : TwoRows) (after : ℕ) (ks : List ItemKind) (item : Item) (s : Store) (given : List Item) : Type 0 where
  pub later : List Item
  pub rest : List Value
  pub is : given ≡ item ∷ later
  pub lie : AreValuesAt r after rest
  pub modes : AreOfModes rest (item_modes ks)
  pub shown : values_shown (map kind_of_item ks) rest (with_seen s e) ≡ Some later

-- this is the item of a kind, before those of any others
abbrev pub IsShown : Seen → TwoRows → (at : ℕ) → ItemKind → Item → Type 0
IsShown e r at k item =
    (s : Store) (ks : List ItemKind) (vs : List Value) (given : List Item) → AreValuesAt r at vs → AreOfModes vs (item_modes (k ∷ ks)) →
    values_shown (map kind_of_item (k ∷ ks)) vs (with_seen s e) ≡ Some given → IsShownFirst e r (at + cells_of k) ks item s given

-- ## Lines

-- nothing was sent, or the first bytes of the lines with items that are shown
pub record HasSentPart (e : Seen) (r : TwoRows) (at : ℕ) (l : RunningLines) (before after : Option (List ℕ)) : Type 0 where
  pub part : List ℕ
  pub took : Appends before after part
  pub within : (part ≡ []) ⊎ ((items : List Item) × (rest : List ℕ) × AreShown e r at l.items items × (lines_with l.pictures items ≡ part ++ rest))

-- the first bytes of the lines were sent, but not all of them
pub record HasSentLess (e : Seen) (r : TwoRows) (at : ℕ) (l : RunningLines) (before after : Option (List ℕ)) : Type 0 where
  pub items : List Item
  pub shown : AreShown e r at l.items items
  pub less : HasTakenLess before after (lines_with l.pictures items)

-- all lines were sent
pub record HasSentAll (e : Seen) (r : TwoRows) (at : ℕ) (l : RunningLines) (before after : Option (List ℕ)) : Type 0 where
  pub items : List Item
  pub shown : AreShown e r at l.items items
  pub took : Appends before after (lines_with l.pictures items)

-- the fields of the lines take the items that are shown
abbrev pub CanTakeAll : Seen → TwoRows → (at : ℕ) → RunningLines → Type 0
CanTakeAll e r at l = (items : List Item) → AreShown e r at l.items items → take_all (flat_map picture_fields l.pictures) items ≡ true
