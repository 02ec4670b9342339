use Rattle.std.proofs.Common.{◌≡◌, ℕ, ◌+◌, ◌≤◌, List, Some, slice_get, length, drop}
use Rattle.ss_records_entities.proofs.Common.{BlockPlace, permanent_count, words_at}
use Rattle.ss_records_entities.proofs.records.give_rows_back.Given as goal

abbrev pub invariant-loop-class : goal.invariant-loop-class
invariant-loop-class l = record {
  kept : (c j : ℕ) (ps : List BlockPlace) (p : BlockPlace) → l.class ≤ c → slice_get l.permanents c ≡ Some (Some ps) → slice_get ps j ≡ Some p → words_at l.blocks.cells p.at ≡ words_at l.initial.blocks.cells p.at;
  system : words_at l.blocks.cells l.fn.system.at ≡ words_at l.initial.blocks.cells l.fn.system.at;
  count : length l.blocks.cells ≡ permanent_count (drop l.class l.permanents) + 1;
}
