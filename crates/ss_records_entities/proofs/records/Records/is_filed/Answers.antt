use Rattle.std.proofs.Common.{false}
use Rattle.ss_records_entities.proofs.Looks.{beside_leads, is_filed_value}
use Rattle.ss_records_entities.proofs.records.Records.is_filed.Goals as goal

pub follow-next-requires-clause-leads : goal.follow-next-requires-clause-leads
follow-next-requires-clause-leads c = beside_leads c.args.self.now c.requires.kept c.args.s c.requires.set c.args.x c.requires.joins c.member_base-base.result c.member_base-base.ensures.at false

pub returns-clause-value : goal.returns-clause-value
returns-clause-value c = is_filed_value c.args.self.now c.requires.kept c.args.s c.requires.set c.args.x c.requires.joins c.member_base-base.result c.member_base-base.ensures.at c.follow-next.result c.follow-next.ensures.there false c.follow-next.ensures.word
