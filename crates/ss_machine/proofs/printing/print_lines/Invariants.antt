use Rattle.std.proofs.Common.{◌≡◌, ◌++◌, ℕ, List, drop}
use Rattle.ss_machine.proofs.Common.{Appends, AreSuitedItems, flat_map, HasRisenBy, lines_with, picture_fields}
use Rattle.ss_machine.proofs.printing.print_lines.Given as goal

abbrev pub invariant-loop-picture : goal.invariant-loop-picture
invariant-loop-picture g l = record {
  done : List ℕ;
  so_far : lines_with l.pictures l.items ≡ done ++ lines_with (drop l.picture-index l.pictures) l.rest;
  suited : AreSuitedItems (flat_map picture_fields (drop l.picture-index l.pictures)) l.rest;
  took : Appends (g.W.FaultyWrite.contents l.initial.sink.writer) (g.W.FaultyWrite.contents l.sink.writer) done;
  risen : HasRisenBy 0 (g.W.Faulty.faults l.initial.sink.writer) (g.W.Faulty.faults l.sink.writer);
}
