use Rattle.std.proofs.Common.{rules, ◌≡◌, ℕ, zero, suc, ◌+◌, ◌-◌, [], ◌∷◌, ◌++◌, replicate, refl, ap, arith}
use Rattle.ss_machine.proofs.Common.{HasSentFirst, line_end}
use Rattle.ss_machine.proofs.Known.{less_of, less_after}
use Rattle.ss_machine.proofs.printing.send_empty.Goals as goal

split : (i k n : ℕ) → n ≡ i + (k + 1) → replicate n line_end ≡ replicate i line_end ++ (line_end ∷ replicate k line_end)
split zero k zero e = absurd (omega (arith, e))
split zero k (suc n) e = let q : n ≡ k = omega (arith, e) in ap (λ j. line_end ∷ replicate j line_end) q
split (suc i) k zero e = absurd (omega (arith, e))
split (suc i) k (suc n) e = ap (λ l. line_end ∷ l) (split i k n (omega (arith, e)))

pub returns-then-is_err-clause-err : goal.returns-then-is_err-clause-err
returns-then-is_err-clause-err g c =
    let i = c.loop-line.invariant in
    let k = c.args.lines - (c.loop-line._line + 1) in
    let whole = split c.loop-line._line k c.args.lines (omega (arith, c.loop-line-test.true)) in
    let sent : HasSentFirst g.W.FaultyWrite.contents c.loop-line.sink c.write.new.self (line_end ∷ []) = search rules in
    let one = less_of g.W.FaultyWrite.contents c.loop-line.sink c.write.new.self (line_end ∷ []) (line_end ∷ []) refl sent in
    less_after _ _ _ (replicate c.loop-line._line line_end) (line_end ∷ []) (replicate c.args.lines line_end) (replicate k line_end) i.took whole one
