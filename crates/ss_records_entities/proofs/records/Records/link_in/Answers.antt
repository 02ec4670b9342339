use Rattle.std.proofs.Common.{arith}
use Rattle.ss_records_entities.proofs.Looks.{counts, how_many, how_many_small}
use Rattle.ss_records_entities.proofs.Files.{owner_words, member_words, before_word, after_word, kept_in, state_in}
use Rattle.ss_records_entities.proofs.records.Records.link_in.Goals as goal

pub count-count-requires-clause-word : goal.count-count-requires-clause-word
count-count-requires-clause-word c = counts c.args.self.now c.requires.kept c.args.s c.requires.set c.args.owner c.requires.owns c.owner_base-set.result c.owner_base-set.ensures.at

pub link_between-requires-clause-member : goal.link_between-requires-clause-member
link_between-requires-clause-member c =
    rw c.count-count.ensures.cells (member_words c.args.self.now c.requires.kept c.args.s c.requires.set c.args.owner c.args.x c.requires.owns c.member_base-member.result c.owner_base-set.result c.member_base-member.ensures.at c.owner_base-set.ensures.at c.requires.joins c.requires.free)

pub link_between-requires-clause-owner : goal.link_between-requires-clause-owner
link_between-requires-clause-owner c =
    rw c.count-count.ensures.cells (owner_words c.args.self.now c.requires.kept c.args.s c.requires.set c.args.owner c.args.x c.requires.owns c.member_base-member.result c.owner_base-set.result c.member_base-member.ensures.at c.owner_base-set.ensures.at)

pub link_between-requires-clause-before : goal.link_between-requires-clause-before
link_between-requires-clause-before c =
    let w = c.requires.between in
    λ e. rw c.count-count.ensures.cells (before_word c.args.self.now c.requires.kept c.args.s c.requires.set c.args.owner c.args.x c.requires.owns c.member_base-member.result c.owner_base-set.result c.member_base-member.ensures.at c.owner_base-set.ensures.at c.requires.joins c.requires.free c.args.before c.args.after w.0 w.1 w.2 e)

pub link_between-requires-clause-after : goal.link_between-requires-clause-after
link_between-requires-clause-after c =
    let w = c.requires.between in
    λ e. rw c.count-count.ensures.cells (after_word c.args.self.now c.requires.kept c.args.s c.requires.set c.args.owner c.args.x c.requires.owns c.member_base-member.result c.owner_base-set.result c.member_base-member.ensures.at c.owner_base-set.ensures.at c.requires.joins c.requires.free c.args.before c.args.after w.0 w.1 w.2 e)

pub link_between-requires-clause-counts : goal.link_between-requires-clause-counts
link_between-requires-clause-counts c =
    let h = how_many_small c.args.self.now c.requires.kept c.args.s c.requires.set c.args.owner c.requires.owns c.owner_base-set.result c.owner_base-set.ensures.at c.count-count.result c.count-count.ensures.word in
    omega (arith, h)

pub returns-clause-kept : goal.returns-clause-kept
returns-clause-kept c =
    let w = c.requires.between in
    rw (c.link_between.ensures.cells, c.count-count.ensures.cells, c.put_before.ensures) (kept_in c.args.self.now c.requires.kept c.args.s c.requires.set c.args.owner c.args.x c.requires.owns c.member_base-member.result c.owner_base-set.result c.member_base-member.ensures.at c.owner_base-set.ensures.at c.requires.joins c.requires.free c.args.before c.args.after w.0 w.1 w.2 c.count-count.result (how_many c.args.self.now c.requires.kept c.args.s c.requires.set c.args.owner c.requires.owns c.owner_base-set.result c.owner_base-set.ensures.at c.count-count.result c.count-count.ensures.word))

pub returns-clause-done : goal.returns-clause-done
returns-clause-done c = λ xs ys w.
    rw (c.link_between.ensures.cells, c.count-count.ensures.cells, c.put_before.ensures) (state_in c.args.self.now c.requires.kept c.args.s c.requires.set c.args.owner c.args.x c.requires.owns c.member_base-member.result c.owner_base-set.result c.member_base-member.ensures.at c.owner_base-set.ensures.at c.requires.joins c.requires.free c.args.before c.args.after xs ys w c.count-count.result (how_many c.args.self.now c.requires.kept c.args.s c.requires.set c.args.owner c.requires.owns c.owner_base-set.result c.owner_base-set.ensures.at c.count-count.result c.count-count.ensures.word))
