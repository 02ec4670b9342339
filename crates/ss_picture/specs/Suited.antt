-- Which items the fields of a picture take.
use Rattle.std.specs.Prelude.{◌≡◌, ◌≢◌, ℕ, ◌≤◌, ◌^◌, List, [], ◌∷◌, ℤ, pos, neg_ℤ, ◌*ℤ◌, ◌≤ℤ◌, ⊤}
use Rattle.ss_picture.specs.declared.field.Field.{Field}
use Rattle.ss_picture.specs.declared.items.Item.{Item}
use Rattle.ss_picture.specs.declared.items.Item.TheVariants.{Is, Mean}

-- a sum and a number whose mean can be printed: the number is not below 0, and their quotient, where the number is not 0,
-- lies from -2^63 to 2^63
pub record IsMean (sum number : ℤ) : Type 0 where
  pub count : pos 0 ≤ℤ number
  pub low : number ≢ pos 0 → neg_ℤ (pos (2 ^ 63) *ℤ number) ≤ℤ sum
  pub high : number ≢ pos 0 → sum ≤ℤ (pos (2 ^ 63) *ℤ number)

-- an item that a field of so many decimals takes: a value where it has none, a mean where they are at most 9
abbrev pub IsSuitedItem : ℕ → Item → Type 0
IsSuitedItem decimals (Is value) = decimals ≡ 0
IsSuitedItem decimals (Mean sum number) = (decimals ≤ 9) × IsMean sum number

-- each of these fields takes its item, as far as there are items
abbrev pub AreSuitedItems : List Field → List Item → Type 0
AreSuitedItems fields [] = ⊤
AreSuitedItems [] (item ∷ items) = ⊤
AreSuitedItems (field ∷ fields) (item ∷ items) = IsSuitedItem field.decimals item × AreSuitedItems fields items
