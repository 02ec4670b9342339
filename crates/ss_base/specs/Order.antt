-- The order of values, and its laws.
use Rattle.std.specs.Prelude.{◌≡◌, refl}
use Rattle.std.specs.Ordering.{nat_cmp, int_cmp, ordering_reverse}
use Rattle.std.specs.Cmp.{IsTotalOrder, int_cmp_total}
use Rattle.std.specs.Cmp.Lexicographic.{slice_cmp, nat_list_cmp_total}
use Rattle.std.specs.declared.cmp.Ordering.{Ordering}
use Rattle.std.specs.declared.cmp.Ordering.TheVariants.{Less, Equal, Greater}
use Rattle.ss_base.specs.declared.value.Value.{Value}
use Rattle.ss_base.specs.declared.value.Value.TheVariants.{Whole, Text}

-- two values in order: numbers by their size, texts by their bytes, a number before a text
abbrev pub value_cmp : Value → Value → Ordering
value_cmp (Whole x) (Whole y) = int_cmp x y
value_cmp (Text s) (Text t) = slice_cmp nat_cmp s t
value_cmp (Whole _) (Text _) = Less
value_cmp (Text _) (Whole _) = Greater

-- ---- its laws
pub value_cmp_total : IsTotalOrder value_cmp
value_cmp_total = record { antisymm = turned; trans = through; congr = alike } where
  turned : (x y : Value) → value_cmp x y ≡ ordering_reverse (value_cmp y x)
  turned (Whole x) (Whole y) = int_cmp_total.antisymm x y
  turned (Text s) (Text t) = nat_list_cmp_total.antisymm s t
  turned (Whole x) (Text t) = refl
  turned (Text s) (Whole y) = refl

  through : (x y z : Value) → value_cmp x y ≡ Less → value_cmp y z ≡ Less → value_cmp x z ≡ Less
  through (Whole x) (Whole y) (Whole z) p q = int_cmp_total.trans x y z p q
  through (Whole x) (Whole y) (Text u) p q = refl
  through (Whole x) (Text t) (Whole z) p q = cc
  through (Whole x) (Text t) (Text u) p q = refl
  through (Text s) (Whole y) (Whole z) p q = cc
  through (Text s) (Whole y) (Text u) p q = cc
  through (Text s) (Text t) (Whole z) p q = cc
  through (Text s) (Text t) (Text u) p q = nat_list_cmp_total.trans s t u p q

  alike : (x y z : Value) → value_cmp x y ≡ Equal → value_cmp x z ≡ value_cmp y z
  alike (Whole x) (Whole y) (Whole z) p = int_cmp_total.congr x y z p
  alike (Whole x) (Whole y) (Text u) p = refl
  alike (Whole x) (Text t) z p = cc
  alike (Text s) (Whole y) z p = cc
  alike (Text s) (Text t) (Whole z) p = refl
  alike (Text s) (Text t) (Text u) p = nat_list_cmp_total.congr s t u p
