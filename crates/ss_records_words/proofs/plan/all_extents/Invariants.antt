use Rattle.std.proofs.Common.{◌≡◌, ℕ, ◌<◌, length, slice_get, Some}
use Rattle.ss_records_words.specs.Plans.{extent_of}
use Rattle.ss_records_words.proofs.plan.all_extents.Given as goal

abbrev pub invariant-loop-class : goal.invariant-loop-class
invariant-loop-class l = record {
  many : length l.extents.items ≡ l.class;
  each : (c : ℕ) → c < l.class → slice_get l.extents.items c ≡ Some (extent_of l.layout c);
}
