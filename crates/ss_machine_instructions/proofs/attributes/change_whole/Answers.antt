use Rattle.std.proofs.Common.{◌≡◌, Err, sym, subst}
use Rattle.ss_machine_instructions.proofs.Common.{changed_number, computed, IsChanged, MatchResult, operator_of, Sign, value_in}
use Rattle.std.proofs.lemmas.Int.{to_z-of_z}
use Rattle.ss_machine_instructions.proofs.attributes.change_whole.Goals as goal

pub returns-in-Plus-clause-done : goal.returns-in-Plus-clause-done
returns-in-Plus-clause-done c =
    let fn = c.ranges.entity in let fb = c.ranges.by in let h = simp to_z-of_z at c.add_whole.ensures.done in
    subst (λ (s : Sign). MatchResult c.add_whole.result (λ _. IsChanged (λ z. computed (operator_of s) z c.args.by) c.args.population.now c.args.class c.args.field c.args.entity c.add_whole.new.self) (λ kind. (changed_number (λ z. computed (operator_of s) z c.args.by) (value_in c.args.population.now c.args.class c.args.field c.args.entity) ≡ Err kind) × (c.add_whole.new.self ≡ c.args.population.now))) (sym c.in-Plus.is) h

pub returns-in-Minus-clause-done : goal.returns-in-Minus-clause-done
returns-in-Minus-clause-done c =
    let fn = c.ranges.entity in let fb = c.ranges.by in let h = simp to_z-of_z at c.subtract_whole.ensures.done in
    subst (λ (s : Sign). MatchResult c.subtract_whole.result (λ _. IsChanged (λ z. computed (operator_of s) z c.args.by) c.args.population.now c.args.class c.args.field c.args.entity c.subtract_whole.new.self) (λ kind. (changed_number (λ z. computed (operator_of s) z c.args.by) (value_in c.args.population.now c.args.class c.args.field c.args.entity) ≡ Err kind) × (c.subtract_whole.new.self ≡ c.args.population.now))) (sym c.in-Minus.is) h
