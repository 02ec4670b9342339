use Rattle.std.proofs.Common.{rules, ◌≡◌, List, length, Ok, Err, ap, sym, subst}
use Rattle.ss_sets.proofs.Common.{member_class, owned, owner, pos, RankKey, to_z-of_z}
use Rattle.ss_sets.proofs.Ranked.{looked, none_after}
use Rattle.ss_world.specs.Disciplines.{AreFields}
use Rattle.ss_sets.proofs.ranking.first_after.Goals as goal

pub first_after_by-requires-clause-keys : goal.first_after_by-requires-clause-keys
first_after_by-requires-clause-keys c =
    let st = c.args.heap.now.state in subst (λ (ks : List RankKey). AreFields st.layout (member_class st.layout c.args.set) ks) c.in-Some.ensures.cases.0 c.requires.keys

pub returns-in-Ok-clause-found : goal.returns-in-Ok-clause-found
returns-in-Ok-clause-found c =
    let st = c.args.heap.now.state in let fo = c.ranges.o in let none : length c.args.keys.now ≡ 0 = search rules in
    (looked (owner st c.args.set c.args.o) (Ok tt) (simp to_z-of_z at c.in-Ok.ensures), ap pos (sym (none_after st (member_class st.layout c.args.set) c.args.keys.now c.args.x (owned st c.args.set c.args.o) none)))

pub returns-in-Err-clause-found : goal.returns-in-Err-clause-found
returns-in-Err-clause-found c = let fo = c.ranges.o in looked (owner c.args.heap.now.state c.args.set c.args.o) (Err c.in-Err.fault) (simp to_z-of_z at c.in-Err.ensures)
