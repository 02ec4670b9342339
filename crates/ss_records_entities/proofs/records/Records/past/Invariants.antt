use Rattle.std.proofs.Common.{◌≡◌, ◌+◌, ◌-◌, suc, length}
use Rattle.ss_records_entities.proofs.Common.{member_class, members_of, ranks_past, state, Whole}
use Rattle.ss_records_entities.proofs.Passing.{WalkState}
use Rattle.ss_records_entities.proofs.records.Records.past.Given as goal

abbrev pub invariant-members : goal.invariant-members
invariant-members l =
    let r = l.fn.self in
    record {
      same : l.self ≡ record r { blocks = l.self.blocks };
      cells : l.self.blocks.cells ≡ r.blocks.cells;
      walk : WalkState r l.s l.fn.owner.number (ranks_past (state r) (member_class r.layout l.s) l.fn.field l.fn.high (Whole l.fn.own)) l.member l.self.blocks.touches;
      total : l.self.blocks.total ≡ r.blocks.total + l.self.blocks.touches;
    }

-- the members that it has not passed
abbrev pub decreases-members : goal.decreases-members
decreases-members l = suc (length (members_of l.fn.self.notes.lists l.s l.fn.owner.number)) - l.self.blocks.touches
