use Rattle.std.proofs.Common.{rules, ◌≡◌, ◌++◌, ◌+◌, ℤ, List, Ok, ap, sym, ◌∙◌, append-nil, arith, to_z, of_z, w64}
use Rattle.std.proofs.lemmas.List.{drop_all}
use Rattle.ss_base.specs.declared.layout.RankKey.{RankKey}
use Rattle.ss_base.specs.declared.value.Value.TheVariants.{Whole}
use Rattle.ss_world.specs.declared.ties.Tie.{Tie}
use Rattle.ss_meaning.specs.Values.{turned}
use Rattle.ss_meaning.specs.Events.{ties_of}
use Rattle.ss_machine_world.specs.Seen.{with_seen}
use Rattle.ss_machine_events.proofs.scheduling.frozen.Goals as goal

pub returns : goal.returns
returns c = λ s.
    let class = c.args.class in let n = c.args.notice in let e = c.args.world.now in let keys = c.args.keys.now in let at = c.loop-key.key-index in
    let number : to_z w64 (of_z w64 n) ≡ n = search rules in
    let x = Whole (to_z w64 (of_z w64 n)) in
    ap (λ (m : ℤ). ties_of class (Whole m) (with_seen s e) keys) (sym number)
    ∙ c.loop-key.invariant s
    ∙ ap (λ (ks : List RankKey). turned (λ ts. c.loop-key.ties.items ++ ts) (ties_of class x (with_seen s e) ks)) (drop_all at keys (omega (arith, c.loop-key-test.false)))
    ∙ ap (λ (us : List Tie). Ok us) (append-nil c.loop-key.ties.items)
