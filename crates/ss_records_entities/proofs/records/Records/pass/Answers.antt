use Rattle.std.proofs.Common.{sym, ◌∙◌}
use Rattle.ss_records_entities.proofs.Common.{kind_of, member_class}
use Rattle.ss_records_entities.proofs.Remembered.{comes_and_goes, numbered_entry}
use Rattle.ss_records_entities.proofs.records.Records.pass.Goals as goal

pub remember-requires : goal.remember-requires
remember-requires c =
    let r = c.args.self.now in
    numbered_entry r c.requires.kept c.args.s c.args.member c.requires.joins (comes_and_goes (kind_of r.layout (member_class r.layout c.args.s)) (sym c.holds_permanent.ensures ∙ c.if-holds_permanent.false))

pub expect-requires : goal.expect-requires
expect-requires c =
    let r = c.args.self.now in
    rw c.remember.ensures (numbered_entry r c.requires.kept c.args.s c.args.next (c.requires.next c.if-next-ne0.true) (comes_and_goes (kind_of r.layout (member_class r.layout c.args.s)) (sym c.holds_permanent.ensures ∙ c.if-holds_permanent.false)))
