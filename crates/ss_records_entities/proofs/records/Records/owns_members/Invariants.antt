use Rattle.std.proofs.Common.{◌≡◌, ◌+◌, ◌≤◌, drop}
use Rattle.ss_records_entities.proofs.Common.{Class, count_sets, owned_by, owns_members}
use Rattle.ss_records_entities.proofs.records.Records.owns_members.Given as goal

abbrev pub invariant-loop-s : goal.invariant-loop-s
invariant-loop-s l =
    let r = l.fn.self in
    record {
      same : l.self ≡ record r { blocks = l.self.blocks };
      cells : l.self.blocks.cells ≡ r.blocks.cells;
      rest : owns_members (drop l.s r.layout.sets) l.s r.notes.lists l.class l.number ≡ owns_members r.layout.sets 0 r.notes.lists l.class l.number;
      left : l.left ≡ count_sets (owned_by (Class l.class)) (drop l.s r.layout.sets);
      touches : (l.self.blocks.touches ≤ r.blocks.touches + l.s) × (l.self.blocks.total + r.blocks.touches ≡ r.blocks.total + l.self.blocks.touches);
      looked : l.self.blocks.touches + l.left ≡ r.blocks.touches + count_sets (owned_by (Class l.class)) r.layout.sets;
    }
