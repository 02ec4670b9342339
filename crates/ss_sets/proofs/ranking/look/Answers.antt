use Rattle.std.proofs.Common.{sym, subst}
use Rattle.ss_sets.proofs.Common.{State}
use Rattle.ss_sets.proofs.Walking.{others_fit}
use Rattle.ss_world.specs.Disciplines.{AreFields}
use Rattle.ss_sets.proofs.ranking.look.Goals as goal

pub looked-requires : goal.looked-requires
looked-requires c = record {
  keys = subst (λ (s : State). AreFields s.layout c.args.rank.now.class c.args.others.now) (sym c.whole_member.ensures.same) (others_fit c.args.heap.now.state c.args.set c.args.rank.now c.args.others.now c.requires.rank);
}

pub looked-requires-in-Ok-member : goal.looked-requires-in-Ok-member
looked-requires-in-Ok-member c = record {
  keys = subst (λ (s : State). AreFields s.layout c.args.rank.now.class c.args.others.now) (sym c.member.ensures.same) (others_fit c.args.heap.now.state c.args.set c.args.rank.now c.args.others.now c.requires.rank);
}
