use Rattle.std.proofs.Common.{◌≡◌, ◌+◌, sym, ◌∙◌}
use Rattle.ss_records_blocks.specs.Cells.{link, number, word_at}
use Rattle.ss_records_entities.proofs.Looks.{owner_leads, owner_has}
use Rattle.ss_records_entities.proofs.Files.{not_among, among_by}
use Rattle.ss_records_entities.proofs.records.Records.is_in.Goals as goal

pub returns-then-not-is_filed-clause-value : goal.returns-then-not-is_filed-clause-value
returns-then-not-is_filed-clause-value c = sym (not_among c.args.self.now.notes.lists c.args.s c.args.owner.number c.args.x.number (sym c.is_filed.ensures.value ∙ c.if-not-is_filed.true))

pub follow-its_owner-requires-clause-leads : goal.follow-its_owner-requires-clause-leads
follow-its_owner-requires-clause-leads c =
    let b = c.member_base-base in let same = c.is_filed.ensures.same in
    rw c.is_filed.ensures.cells (owner_leads c.args.self.now c.requires.kept c.args.s c.requires.set c.args.x c.requires.joins b.result (rw same at b.ensures.at) (sym c.is_filed.ensures.value ∙ c.if-not-is_filed.false))

pub returns-clause-value : goal.returns-clause-value
returns-clause-value c =
    let b = c.member_base-base in let same = c.is_filed.ensures.same in let cells = c.is_filed.ensures.cells in let q = c.follow-its_owner.result in
    let w : word_at c.args.self.now.blocks.cells c.args.x.place.at (b.result + 2) ≡ link q.place.at = (λ i. word_at (sym cells i) c.args.x.place.at (b.result + 2)) ∙ c.follow-its_owner.ensures.word in
    let v : word_at c.args.self.now.blocks.cells q.place.at 1 ≡ number q.number = (λ i. word_at (sym cells i) q.place.at 1) ∙ c.follow-its_owner.ensures.there in
    let h = owner_has c.args.self.now c.requires.kept c.args.s c.requires.set c.args.x c.requires.joins b.result (rw same at b.ensures.at) (sym c.is_filed.ensures.value ∙ c.if-not-is_filed.false) q w v in
    among_by c.args.self.now c.requires.kept c.args.s c.requires.set c.args.owner.number c.args.x.number q.number h.1
