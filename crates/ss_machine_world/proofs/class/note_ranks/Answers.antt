use Rattle.std.proofs.Common.{arith, ◌≡◌, ◌-◌, ◌+◌, List, length, drop, Some, refl, sym, subst}
use Rattle.ss_machine_world.proofs.Common.{AreSaidFrom, Notices, slice_get, slice_get_read}
use Rattle.ss_machine_world.proofs.Said.{drop_one, one_ranked}
use Rattle.ss_machine_world.proofs.class.note_ranks.Goals as goal

pub loop-rank-preserved : goal.loop-rank-preserved
loop-rank-preserved c =
    let es = c.args.notices.now in let k = c.loop-rank.rank - 1 in let n = c.index-notices-rank.result in
    let has : slice_get es k ≡ Some n = slice_get_read es (length es) k n refl (omega (arith, c.loop-rank-test.true, c.loop-rank.invariant.within)) c.index-notices-rank.is in
    let next : k + 1 ≡ c.loop-rank.rank = omega (arith, c.loop-rank-test.true) in
    record {
      within = omega (arith, c.loop-rank.invariant.within);
      said = λ l ss said.
          subst (λ (rest : List Notices). AreSaidFrom k l rest ss c.note_rank.new.classes) (sym (drop_one es k n has))
          (one_ranked k l n (drop (k + 1) es) ss c.loop-rank.classes c.note_rank.new.classes c.note_rank.ensures.known c.note_rank.ensures.unknown
          (subst (λ j. AreSaidFrom j l (drop j es) ss c.loop-rank.classes) (sym next) (c.loop-rank.invariant.said l ss said)));
    }

pub returns : goal.returns
returns c = λ l ss said.
    let none : c.loop-rank.rank ≡ 0 = omega (arith, c.loop-rank-test.false) in
    subst (λ k. AreSaidFrom k l (drop k c.args.notices.now) ss c.loop-rank.classes) none (c.loop-rank.invariant.said l ss said)
