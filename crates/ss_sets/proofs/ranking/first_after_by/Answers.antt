use Rattle.std.proofs.Common.{rules, ◌≡◌, ℕ, Bool, ◌+◌, ◌≤◌, Err, subst, arith, w64, to_z, of_z}
use Rattle.ss_sets.proofs.Common.{before_where, first_where, IsOk, MatchResult, member_class, owned, owner, pos, to_z-of_z, Whole}
use Rattle.ss_sets.proofs.Ranked.{is_past}
use Rattle.ss_sets.proofs.ranking.first_after_by.Goals as goal

pub returns-in-empty-clause-found : goal.returns-in-empty-clause-found
returns-in-empty-clause-found c =
    let st = c.args.heap.now.state in let fo = c.ranges.o in let fx = c.ranges.x in let own : to_z w64 (of_z w64 c.whole-own.result) ≡ c.whole-own.result = search rules in
    subst (λ (t : ℕ → Bool). MatchResult c.first_past.result (λ y. IsOk (owner st c.args.set c.args.o) × (y ≡ pos (first_where t (owned st c.args.set c.args.o)))) (λ e. owner st c.args.set c.args.o ≡ Err e))
    (is_past st (member_class st.layout c.args.set) c.args.key c.args.others.now c.args.x (Whole c.whole-own.result) c.in-empty.len_below (simp (to_z-of_z, c.class_of-class.ensures) at c.whole-own.ensures)) (simp (to_z-of_z, own) at c.first_past.ensures.found)

pub returns-in-empty-clause-touches : goal.returns-in-empty-clause-touches
returns-in-empty-clause-touches c =
    let st = c.args.heap.now.state in let fo = c.ranges.o in let fx = c.ranges.x in let own : to_z w64 (of_z w64 c.whole-own.result) ≡ c.whole-own.result = search rules in
    let h = simp (to_z-of_z, own) at c.first_past.ensures.touches in
    let more = subst (λ (t : ℕ → Bool). c.first_past.new.self.touches ≤ 1 + before_where t (owned st c.args.set c.args.o))
    (is_past st (member_class st.layout c.args.set) c.args.key c.args.others.now c.args.x (Whole c.whole-own.result) c.in-empty.len_below (simp (to_z-of_z, c.class_of-class.ensures) at c.whole-own.ensures)) h.0 in
    (omega (arith, h.1), omega (arith, h.1, more))
