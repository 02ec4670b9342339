use Rattle.std.proofs.Common.{◌≡◌, ◌+◌, ◌-◌, List, [], ◌∷◌, length, map, drop, get_or, refl, ap, sym, ◌∙◌, arith}
use Rattle.std.proofs.lemmas.List.{drop_all, drop_more, nil_from_length}
use Rattle.ss_program.specs.declared.condition.Conjunction.{Conjunction}
use Rattle.ss_program.specs.View.{view_conjunction}
use Rattle.ss_code_generator.proofs.Listed.{next_before}
use Rattle.ss_code_generator.proofs.Testing.{alternatives_step, emits_where}
use Rattle.ss_code_generator.proofs.generator.Generator.alternatives.Goals as goal

pub returns-then-count-eq0 : goal.returns-then-count-eq0
returns-then-count-eq0 c = rw (nil_from_length c.args.alternatives.now c.if-count-eq0.true) c.jump.ensures

pub loop-i-init : goal.loop-i-init
loop-i-init c =
    let alts = c.args.alternatives.now in
    let x = c.index-alternatives-count.result in
    let drops : drop (length alts - 1) alts ≡ x ∷ [] = next_before alts (length alts) x (omega arith) (omega arith) c.index-alternatives-count.is ∙ ap (λ (ys : List Conjunction). x ∷ ys) (drop_all (length alts) alts (omega arith)) in
    let tests = c.deref.ensures.value ∙ ap (λ (y : Conjunction). y.tests.items) (sym c.index-alternatives-count.is) in
    rw (drops, c.of-rest.ensures) (emits_where (λ f t u good. good.0) (λ f t u around located. refl) (rw tests at c.in_ok-last.ensures))

pub loop-i-preserved : goal.loop-i-preserved
loop-i-preserved c =
    let l = c.loop-i in
    let alts = c.args.alternatives.now in
    let x = c.index-alternatives-i.result in
    let y = get_or alts l.i x in
    let rest = drop (l.i + 1) alts in
    let after : drop l.i alts ≡ y ∷ rest = drop_more alts l.i x (omega arith) in
    let tests = c.deref-in-loop-i.ensures.value ∙ ap (λ (y : Conjunction). y.tests.items) (sym c.index-alternatives-i.is) in
    rw (next_before alts l.i x (omega arith) (omega arith) c.index-alternatives-i.is ∙ ap (λ (ys : List Conjunction). x ∷ ys) after)
    (alternatives_step c.args.skip (view_conjunction x) (view_conjunction y) (map view_conjunction rest) (rw after at l.invariant) (rw tests at c.in_ok-front.ensures) (c.in_ok-past.ensures ∙ c.len.ensures.value) c.in_ok-put.ensures c.in_ok-put_before.ensures)

pub returns : goal.returns
returns c =
    let zero : c.loop-i.i ≡ 0 = omega arith in
    rw c.into_piece.ensures (rw zero at c.loop-i.invariant)
