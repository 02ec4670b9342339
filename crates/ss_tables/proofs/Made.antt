-- The tables of a program that breaks no rule, and why another has none.
use Rattle.std.proofs.Common.{◌≡◌, List, Option, Some, None, Result, Ok, Err, sym, ap, subst, ◌∙◌}
use Rattle.std.specs.Prelude.{IfOk, IfErr}
use Rattle.ss_tree.specs.Tree.{ProgramTree}
use Rattle.ss_names_declarations.specs.declared.declaration.Declaration.{Declaration}
use Rattle.ss_names_declarations.specs.Declarations.{declarations}
use Rattle.ss_tables_rules.specs.Broken.{refusal_of_declarations}
use Rattle.ss_tables_rules.specs.declared.error.TableError.{TableError}
use Rattle.ss_tables_rules.specs.declared.error.TableError.TheVariants as errors
use Rattle.ss_base.specs.Plain.{PlainLayout}
use Rattle.ss_names.specs.Table.{Table, declared}
use Rattle.ss_names_meaning.specs.Layouts.{layout}
use Rattle.ss_names_laws.specs.Laws.{LayoutsAreThere}
use Rattle.ss_tables.specs.Tables.{AreTablesOf, AreNamesUnless, IsReportedError}

-- a breach that is found is reported
reports : (e : TableError) (found : Option TableError) → found ≡ Some e → IsReportedError e found
reports errors.Memory found h = tt
reports e found h = h

pub unless_refused : {E : Type 0} (names : Table) (b : Result (Option TableError) E) (wanted : Option TableError) (r : Result Table TableError) →
    AreNamesUnless names b r → IfOk b (λ found. found ≡ wanted) → IfErr r (λ e. IsReportedError e wanted)
unless_refused names (Ok None) wanted r h k = subst (λ z. IfErr z (λ e. IsReportedError e wanted)) (sym h) tt
unless_refused names (Ok (Some e)) wanted r h k = subst (λ z. IfErr z (λ f. IsReportedError f wanted)) (sym h) (reports e wanted (sym k))
unless_refused names (Err e) wanted r h k = subst (λ z. IfErr z (λ f. IsReportedError f wanted)) (sym h) tt

-- the names are the tables, if no rule is broken
pub unless_made : {E : Type 0} (p : ProgramTree) (ds : List Declaration) (names : Table) (b : Result (Option TableError) E) (r : Result Table TableError) →
    ds ≡ declarations p → names ≡ declared ds → AreNamesUnless names b r → IfOk b (λ found. found ≡ refusal_of_declarations p) → IfOk r (λ made. AreTablesOf p made)
unless_made p ds names (Ok None) r d e h k =
    let tables : AreTablesOf p names = record { kept = sym k; is_of_program = e ∙ ap declared d } in
    subst (λ z. IfOk z (λ made. AreTablesOf p made)) (sym h) tables
unless_made p ds names (Ok (Some error)) r d e h k = subst (λ z. IfOk z (λ made. AreTablesOf p made)) (sym h) tt
unless_made p ds names (Err error) r d e h k = subst (λ z. IfOk z (λ made. AreTablesOf p made)) (sym h) tt

-- the tables have a layout
pub layout_there : LayoutsAreThere → (p : ProgramTree) (t : Table) → AreTablesOf p t → (found : Option PlainLayout) → found ≡ layout t → found ≡ None → ⊥
layout_there law p t a found h none =
    let known = law p a.kept in
    let same : None ≡ Some known.0 = sym none ∙ h ∙ ap layout a.is_of_program ∙ known.1 in
    cc
