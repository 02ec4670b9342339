use Rattle.std.proofs.Common.{◌≡◌, ℕ, ◌<◌, length, slice_get, Some}
use Rattle.ss_records_words.proofs.Common.{bases_of, SetLayout}
use Rattle.ss_records_words.proofs.plan.all_bases.Given as goal

abbrev pub invariant-loop-s : goal.invariant-loop-s
invariant-loop-s l = record {
  many : length l.bases.items ≡ l.s;
  each : (k : ℕ) → k < l.s → (t : SetLayout) → slice_get l.layout.sets k ≡ Some t → slice_get l.bases.items k ≡ Some (bases_of l.layout k t);
}
