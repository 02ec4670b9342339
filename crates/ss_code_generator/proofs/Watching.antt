-- What statistics watch in a program that is well typed.
use Rattle.std.proofs.Common.{◌≡◌, ℕ, Bool, true, false, List, [], ◌∷◌, Some, refl, sym, ap, ◌∙◌, subst, if◌then◌else◌}
use Rattle.ss_code_generator.proofs.Common.{Alpha, CountedClass, Global, Integer, Local, Program, Statistic, true≢false, Variable}
use Rattle.std.specs.Prelude.{slice_get, Contains}
use Rattle.std.specs.List.{AllByRecursion as Every}
use Rattle.ss_code_instructions.specs.Facts.{watch, is_watched}
use Rattle.ss_program.specs.WellTyped.{field_mode, mode_at, TypedScope, IsWellTyped, IsTypedSubject, IsTypedCount}
use Rattle.ss_program.specs.declared.sections.Subject.TheVariants.{OfAttribute, OfVariable}
use Rattle.ss_program.specs.declared.sections.Subject.{Subject}
use Rattle.ss_meaning.specs.Histories.{same_subject}
use Rattle.ss_meaning.proofs.Lists.{every_get}
use Rattle.ss_meaning.proofs.Kept.{same_subject_is}
use Rattle.ss_meaning.proofs.Entities.{contains_get}

not_both : (p : Program) (class field : ℕ) → field_mode p class field ≡ Some Alpha → field_mode p class field ≡ Some Integer → ⊥
not_both p class field e f = differ (sym e ∙ f)
  where
    differ : Some Alpha ≡ Some Integer → ⊥
    differ q = cc

-- what they watch is a number
watched_typed : (p : Program) (x : Subject) (ss : List Statistic) → Every (λ s. IsTypedSubject p s.subject) ss → watch ss x ≡ true → IsTypedSubject p x
watched_typed p x [] good h = absurd (true≢false (sym h))
watched_typed p x (s ∷ ss) good h = by (same_subject s.subject x) refl h (watched_typed p x ss good.1)
  where
    by : (b : Bool) → same_subject s.subject x ≡ b → (if b then true else watch ss x) ≡ true → (watch ss x ≡ true → IsTypedSubject p x) → IsTypedSubject p x
    by false q h rest = rest h
    by true q h rest = subst (λ (y : Subject). IsTypedSubject p y) (same_subject_is s.subject x q) good.0

-- no statistic watches a text
pub text_unwatched : (p : Program) (class field : ℕ) → field_mode p class field ≡ Some Alpha → (ss : List Statistic) → Every (λ s. IsTypedSubject p s.subject) ss → watch ss (OfAttribute class field) ≡ false
text_unwatched p class field e ss good = by (watch ss (OfAttribute class field)) refl
  where
    by : (b : Bool) → watch ss (OfAttribute class field) ≡ b → watch ss (OfAttribute class field) ≡ false
    by false q = q
    by true q = absurd (not_both p class field e (watched_typed p (OfAttribute class field) ss good q))

pub kept_integer : (p : Program) → IsWellTyped p → (s : TypedScope) → s.program ≡ p → (x : Variable) → is_watched s.program.statistics x ≡ true → mode_at s x ≡ Some Integer
kept_integer p typed s same (Global k) w =
    ap (λ (q : Program). slice_get q.globals k) same ∙ (watched_typed p (OfVariable k) p.statistics typed.statistics (sym (ap (λ (q : Program). watch q.statistics (OfVariable k)) same) ∙ w)).0
kept_integer p typed s same (Local k) w = absurd (true≢false (sym w))

-- N. of a class is one too
pub count_integer : (p : Program) → IsWellTyped p → (s : TypedScope) → s.program ≡ p → (c : CountedClass) → Contains s.program.counts c → mode_at s (Global c.variable) ≡ Some Integer
count_integer p typed s same c has =
    let there : Contains p.counts c = subst (λ (q : Program). Contains q.counts c) same has in
    let at = contains_get p.counts c there in
    let good : IsTypedCount p c = every_get (IsTypedCount p) p.counts at.0 c typed.counts at.1 in
    ap (λ (q : Program). slice_get q.globals c.variable) same ∙ good.1
