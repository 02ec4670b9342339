-- The directory in pages: a map from page numbers to pages, and the page that takes the next numbers.
use Rattle.std.specs.Prelude.{◌≡◌, ℕ, zero, suc, ◌+◌, ◌-◌, ◌*◌, ◌/◌, ◌%◌, ◌<◌, ◌≤◌, nat_le, cond, List, [], ◌∷◌, ◌++◌, length, Option, Some, None, slice_get}
use Rattle.std.specs.Ordering.{nat_cmp}
use Rattle.std.specs.BTreeMap.{is_at}
use Rattle.std.specs.List.Sorted.{IsStrictlySortedBy}
use Rattle.std.specs.Map.{lookup, keys_of, values_of}
use Rattle.std.specs.List.{sum_by}
use Rattle.ss_records_blocks.specs.declared.store.BlockPlace.{BlockPlace}
use Rattle.ss_records_blocks.specs.Places.{living_count}

-- what a contract sees of the directory: the place of each number, none where it is destroyed; how many pages
-- are held; where the page of the next number begins
pub record Listed : Type 0 where
  pub places : List (Option BlockPlace)
  pub pages : ℕ
  pub start : ℕ

abbrev pub Page : Type 0
Page = List (Option BlockPlace)

abbrev pub Pages : Type 0
Pages = List (ℕ × Page)

abbrev pub in_page : Option (Option BlockPlace) → Option BlockPlace
in_page None = None
in_page (Some p) = p

-- the place of the number k of a page, none where there is no page
abbrev pub slot : Option Page → ℕ → Option BlockPlace
slot None k = None
slot (Some p) k = in_page (slice_get p k)

-- what a list has under a number
abbrev pub under : {A : Type 0} → List (ℕ × A) → ℕ → Option A
under xs q = lookup (is_at (nat_cmp q)) xs

abbrev pub page_of : Pages → ℕ → Option Page
page_of ps q = under ps q

-- the numbers rise
abbrev pub AreRising : {A : Type 0} → List (ℕ × A) → Type 0
AreRising xs = IsStrictlySortedBy nat_cmp (keys_of xs)

-- a row of spots, each with a number, and with a page or empty
abbrev pub Spots : Type 0
Spots = List (ℕ × Option Page)

abbrev pub with_page : ℕ → Option Page → Pages → Pages
with_page q None ps = ps
with_page q (Some p) ps = (q, p) ∷ ps

-- the pages of a row that are held
abbrev pub pages_held : Spots → Pages
pages_held [] = []
pages_held (s ∷ ss) = with_page s.0 s.1 (pages_held ss)

-- the place of the number i, from 0 on. The current page begins at `start`
abbrev pub entry : Pages → Page → ℕ → ℕ → Option BlockPlace
entry ps cur start i = cond (nat_le start i) (slot (Some cur) (i - start)) (slot (page_of ps (i / 256)) (i % 256))

-- f 0, f 1 .. up to f (n - 1)
abbrev pub tabulate : {A : Type 0} → (ℕ → A) → ℕ → List A
tabulate f zero = []
tabulate f (suc n) = tabulate f n ++ f n ∷ []

-- the pages of numbers before the current one have a living number each
pub record IsPaged (ps : Pages) (cur : Page) (start issued : ℕ) : Type 0 where
  pub pages : (q : ℕ) (p : Page) → page_of ps q ≡ Some p → (length p ≡ 256) × (1 ≤ living_count p) × (q * 256 < start)
  pub size : length cur ≡ 256
  pub whole : start % 256 ≡ 0
  pub low : start ≤ issued
  pub high : issued ≤ start + 256
  pub rest : (k : ℕ) → issued ≤ start + k → slot (Some cur) k ≡ None
  pub total : sum_by living_count (values_of ps) + living_count cur ≡ living_count (tabulate (entry ps cur start) issued)
