use Rattle.std.proofs.Common.{rules, ◌≡◌, ℤ, Some, None, sym, ◌∙◌, subst, to_z, of_z, w64}
use Rattle.std.specs.Prelude.{slice_get}
use Rattle.ss_machine_instructions.proofs.state.State.held.Goals as goal

pub number_at-requires : goal.number_at-requires
number_at-requires c = let within = c.requires.within c.in-Some.number (sym c.variable_of.ensures ∙ c.in-Some.is) in search rules

pub returns-in-None : goal.returns-in-None
returns-in-None c = λ k e. let not_so : None ≡ Some k = sym c.in-None.is ∙ c.variable_of.ensures ∙ e in absurd cc

pub returns-in-Some : goal.returns-in-Some
returns-in-Some c = λ k e.
    let q : Some c.in-Some.number ≡ Some k = sym c.in-Some.is ∙ c.variable_of.ensures ∙ e in
    let same : c.in-Some.number ≡ k = cc in
    let back : to_z w64 (of_z w64 c.number_at.result) ≡ c.number_at.result = search rules in
    subst (λ (z : ℤ). slice_get c.args.self.now.rows.numbers k ≡ Some z) (sym back)
    (subst (λ n. slice_get c.args.self.now.rows.numbers n ≡ Some c.number_at.result) same c.number_at.ensures)
