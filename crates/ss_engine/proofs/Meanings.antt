-- A well-formed text has one program, which is well typed, and one meaning.
use Rattle.std.proofs.Common.{◌≡◌, ◌≢◌, ℕ, ◌+◌, List, Option, Some, None, refl, sym, ap, subst, ◌∙◌}
use Rattle.ss_lex.specs.Laws.{OneList, OneAnswer}
use Rattle.ss_engine.proofs.Common.{EndingsStay, IsProgramOf, IsRefusedWith, IsReportPrefix, IsTreeOf, IsWellTyped, meaning, ParseError, Prefixes, Program, ProgramTree, Refusal, Run, Token, WentWrong}
use Rattle.ss_parse.specs.declared.error.ParseError.TheVariants as parsing
use Rattle.ss_parse.specs.Promise.{One_tree, Is_refused}
use Rattle.ss_parse.specs.SpelledPrograms.{Is_spelling}
use Rattle.ss_check.specs.Checking.{resolved_program, refusal_of as use_refusal}
use Rattle.ss_check.specs.ProgramLaws.{ProgramsResolve}
use Rattle.ss_meaning.specs.Laws.{NeverWrong}
use Rattle.ss_parse.specs.Openers.{nesting_limit}
use Rattle.ss_tables_rules.specs.Broken.{refusal_of_declarations as declaration_refusal}
use Rattle.ss_engine.specs.declared.refusal.Refusal.TheVariants.{Lexed, Parsed, Declared, Used, CodeTooLong, Memory}
use Rattle.ss_engine.specs.Laws.{OneProgram, OneMeaning, EachHasOne, ProgramsAreTyped, NeverGoesWrong, ReportsGrow, TextEndingsStay, RefusedIsIllFormed}

same_program : (p q : Program) → Some p ≡ Some q → p ≡ q
same_program p q e = cc

-- a text has one tree at most
pub same_tree : OneList → One_tree → (text : List ℕ) (tree other : ProgramTree) → IsTreeOf text tree → IsTreeOf text other → tree ≡ other
same_tree one_list one_tree text tree other a b =
    let tokens = one_list text a.tokens b.tokens a.are b.are in
    one_tree b.tokens nesting_limit nesting_limit tree other (subst (λ (ts : List Token). Is_spelling ts nesting_limit tree) tokens a.spelled) b.spelled

pub one_program : OneList → One_tree → OneProgram
one_program one_list one_tree text p q m n =
    let trees = same_tree one_list one_tree text m.tree n.tree m.keeps.read n.keeps.read in
    same_program p q (sym m.resolved ∙ ap resolved_program trees ∙ n.resolved)

none_is_no_some : {A : Type 0} (o : Option A) (x : A) → o ≡ None → o ≡ Some x → ⊥
none_is_no_some o x none some = cc

-- tokens that are refused for another cause than memory spell no tree
spells_none : (ts : List Token) (e : ParseError) (tree : ProgramTree) → e ≢ parsing.Memory → Is_refused ts e → Is_spelling ts nesting_limit tree → ⊥
spells_none ts (parsing.Syntax line) tree other refused spelled = refused nesting_limit tree spelled
spells_none ts (parsing.TooDeep line) tree other refused spelled = refused.0 tree spelled
spells_none ts parsing.Memory tree other refused spelled = other refl

pub refused_is_ill_formed : OneList → OneAnswer → One_tree → RefusedIsIllFormed
refused_is_ill_formed one_list answers one_tree text (Lexed e) r memory long (tree, keeps) = answers.never_both text keeps.read.tokens e keeps.read.are r
refused_is_ill_formed one_list answers one_tree text (Parsed e) r memory long (tree, keeps) =
    let tokens = one_list text keeps.read.tokens r.tokens keeps.read.are r.are in
    spells_none r.tokens e tree r.other r.refused (subst (λ (ts : List Token). Is_spelling ts nesting_limit tree) tokens keeps.read.spelled)
refused_is_ill_formed one_list answers one_tree text (Declared e) r memory long (tree, keeps) =
    let same = same_tree one_list one_tree text r.tree tree r.read keeps.read in
    none_is_no_some (declaration_refusal r.tree) e (ap declaration_refusal same ∙ keeps.declared) r.broken
refused_is_ill_formed one_list answers one_tree text (Used e) r memory long (tree, keeps) =
    let same = same_tree one_list one_tree text r.tree tree r.read keeps.read in
    none_is_no_some (use_refusal r.tree) e (ap use_refusal same ∙ keeps.kept) r.broken
refused_is_ill_formed one_list answers one_tree text CodeTooLong r memory long well = long refl
refused_is_ill_formed one_list answers one_tree text Memory r memory long well = memory refl

pub one_meaning : OneProgram → OneMeaning
one_meaning one text input n run other a b =
    sym a.is_run ∙ ap (λ p. meaning p input n) (one text a.program b.program a.is_program b.is_program) ∙ b.is_run

pub each_has_one : ProgramsResolve → EachHasOne
each_has_one resolves text (tree, keeps) input n =
    let r = resolves tree keeps.declared keeps.kept in
    (meaning r.0 input n, record { program = r.0; is_program = record { tree = tree; keeps = keeps; resolved = r.1 }; is_run = refl })

pub programs_are_typed : ProgramsResolve → ProgramsAreTyped
programs_are_typed resolves text p m =
    let r = resolves m.tree m.keeps.declared m.keeps.kept in
    subst IsWellTyped (same_program r.0 p (sym r.1 ∙ m.resolved)) r.2

pub never_goes_wrong : ProgramsAreTyped → NeverWrong → NeverGoesWrong
never_goes_wrong typed never text input n run h e =
    never h.program (typed text h.program h.is_program) input n (ap (λ (r : Run). r.ending) h.is_run ∙ e)

-- a program of a text doesn't go wrong
pub program_never_wrong : NeverGoesWrong → (text : List ℕ) (p : Program) → IsProgramOf text p → (input : List ℕ) (n : ℕ) → (meaning p input n).ending ≢ WentWrong
program_never_wrong never text p is_program input n =
    never text input n (meaning p input n) (record { program = p; is_program = is_program; is_run = refl })

pub reports_grow : OneProgram → NeverGoesWrong → Prefixes → ReportsGrow
reports_grow one never prefixes text input n more run longer a b =
    let p = a.program in
    let right = program_never_wrong never text p a.is_program input in
    let same : meaning p input (n + more) ≡ longer = ap (λ q. meaning q input (n + more)) (one text p b.program a.is_program b.is_program) ∙ b.is_run in
    subst (λ (r : Run). IsReportPrefix run.report r.report) same (subst (λ (r : Run). IsReportPrefix r.report (meaning p input (n + more)).report) a.is_run (prefixes p input n more (right n) (right (n + more))))

pub endings_stay : NeverGoesWrong → EndingsStay → TextEndingsStay
endings_stay never stay text input n more run a going =
    let p = a.program in
    let later = stay p input n more (λ e. going (ap (λ (r : Run). r.ending) (sym a.is_run) ∙ e)) (program_never_wrong never text p a.is_program input n) (program_never_wrong never text p a.is_program input (n + more)) in
    record { program = p; is_program = a.is_program; is_run = later ∙ ap (λ (r : Run). record r { ticks = r.ticks + more }) a.is_run }
