use Rattle.std.proofs.Common.{inl, ◌≡◌, ◌+◌, sym, ap, subst, ◌∙◌}
use Rattle.ss_records_entities.proofs.Common.{get_there, has_members, members_of, nat_eq, not, places, word_at}
use Rattle.ss_records_words.proofs.Tied.{may_count, owns_value}
use Rattle.ss_records_entities.proofs.records.Records.owns_in.Goals as goal

pub count-requires-clause-word : goal.count-requires-clause-word
count-requires-clause-word c =
    let r = c.args.self.now in let y = get_there r.layout.sets c.args.s c.requires.set in let t = y.0 in let g = y.1 in let e = c.requires.entry in
    rw (c.owner_base-base.ensures.at t g) (may_count r.layout r.blocks.cells r.system.at (places r) r.notes.lists c.requires.kept c.args.s t g e.0 c.args.place (inl e.1) (c.requires.class t g))

pub returns-clause-value : goal.returns-clause-value
returns-clause-value c =
    let r = c.args.self.now in let s = c.args.s in let y = get_there r.layout.sets s c.requires.set in let t = y.0 in let g = y.1 in let e = c.requires.entry in
    let w = ap (λ k. word_at r.blocks.cells c.args.place.at (k + 2)) (sym (c.owner_base-base.ensures.at t g)) ∙ c.count.ensures.word in
    subst (λ n. not (nat_eq c.count.result 0) ≡ has_members (members_of r.notes.lists s n)) (sym e.2)
    (owns_value r.layout r.blocks.cells r.system.at (places r) r.notes.lists c.requires.kept s t g e.0 c.args.place (inl e.1) (c.requires.class t g) c.count.result w)
