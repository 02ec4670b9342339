-- The resolved form of a program that breaks no rule.
use Rattle.std.proofs.Common.{◌≡◌, ◌≤◌, Option, Some, None, sym, ap, subst, ◌∙◌}
use Rattle.ss_tree.specs.Nodes.{tree_nodes}
use Rattle.ss_tree.specs.Tree.{ProgramTree}
use Rattle.ss_tables_rules.specs.Broken.{refusal_of_declarations as declared_refusal}
use Rattle.ss_check_rules.specs.declared.error.CheckError.{CheckError}
use Rattle.ss_check_rules.specs.declared.error.CheckError.TheVariants as errors
use Rattle.ss_program.specs.declared.sections.Program.{Program as ProgramValue}
use Rattle.ss_program.specs.Nodes.{nodes}
use Rattle.ss_program.specs.View.{view_program}
use Rattle.ss_program.specs.WellTyped.{IsWellTyped}
use Rattle.ss_check_laws.specs.ProgramLaws.{ProgramsResolve}
use Rattle.ss_check_laws.specs.SizeLaws.{ProgramsStaySmall}
use Rattle.ss_check.specs.Checking.{HasProgram, IsReportedBreach, resolved_program, refusal_of}
use Rattle.std.specs.Option.{option_map}

-- a breach that is found is reported
pub reports : (e : CheckError) (found : Option CheckError) → found ≡ Some e → IsReportedBreach e found
reports errors.Memory found h = tt
reports e found h = h

pub typed : ProgramsResolve → (p : ProgramTree) (found : Option ProgramValue) (r : ProgramValue) → declared_refusal p ≡ None → refusal_of p ≡ None →
    option_map view_program found ≡ resolved_program p → found ≡ Some r → IsWellTyped (view_program r)
typed law p found r declared kept h g =
    let known = law p declared kept in
    let same : Some known.0 ≡ Some (view_program r) = sym known.1 ∙ sym h ∙ ap (option_map view_program) g in
    let one : known.0 ≡ view_program r = cc in
    subst IsWellTyped one known.2

pub not_missing : ProgramsResolve → (p : ProgramTree) (found : Option ProgramValue) → declared_refusal p ≡ None → refusal_of p ≡ None →
    option_map view_program found ≡ resolved_program p → found ≡ None → ⊥
not_missing law p found declared kept h g =
    let known = law p declared kept in
    let same : None ≡ Some known.0 = sym (ap (option_map view_program) g) ∙ h ∙ known.1 in
    cc

pub small : ProgramsStaySmall → (p : ProgramTree) (found : Option ProgramValue) (r made : ProgramValue) →
    option_map view_program found ≡ resolved_program p → found ≡ Some r → made ≡ r → nodes (view_program made) ≤ tree_nodes p
small law p found r made h g same =
    subst (λ z. nodes (view_program z) ≤ tree_nodes p) (sym same) (law p (view_program r) (sym h ∙ ap (option_map view_program) g))

-- a program that breaks no rule becomes what it is resolved to
pub becomes : (p : ProgramTree) (found : Option ProgramValue) (r made : ProgramValue) → refusal_of p ≡ None →
    option_map view_program found ≡ resolved_program p → found ≡ Some r → made ≡ r → HasProgram p made
becomes p found r made kept h g same = record {
  kept = kept;
  resolved = sym h ∙ ap (option_map view_program) g ∙ ap (λ (z : ProgramValue). Some (view_program z)) (sym same);
}
