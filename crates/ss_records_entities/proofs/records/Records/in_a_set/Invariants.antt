use Rattle.std.proofs.Common.{◌≡◌, ◌+◌, ◌*◌, ◌-◌}
use Rattle.ss_records_words.specs.Shape.{links_start}
use Rattle.ss_records_entities.proofs.Linked.{From}
use Rattle.ss_records_entities.proofs.records.Records.in_a_set.Given as goal

abbrev pub invariant-links : goal.invariant-links
invariant-links l =
    let r = l.fn.self in
    record {
      same : l.self ≡ record r { blocks = l.self.blocks };
      cells : l.self.blocks.cells ≡ r.blocks.cells;
      left : From r.layout l.class l.number r.notes.lists l.k;
      touches : (3 * l.self.blocks.touches + links_start r.layout l.class ≡ 3 * r.blocks.touches + l.k) × (l.self.blocks.total + r.blocks.touches ≡ r.blocks.total + l.self.blocks.touches);
    }

abbrev pub decreases-links : goal.decreases-links
decreases-links l = l.end - l.k
