-- Classes whose uses break no rule are there.
use Rattle.std.proofs.Common.{◌≡◌, ℕ, Bool, true, false, not, [], length, Option, Some, None, refl, ap, subst, ◌∙◌}
use Rattle.std.specs.Prelude.{◌||◌, get_or}
use Rattle.ss_check_laws.proofs.Common.{class_number, ClassKind, ClassNeed, first_holds, goes, holds_unless, Integer, is_kind, is_text, IsLinked, Line, Meaning, meaning_mode, meaning_of_name, NamedClass, not-true, Scope, suits_class, ToVariable, unless, value_for, variable_named, variable_of, where_holds}
use Rattle.ss_check_laws.specs.BodyLaws.{ClassesResolve}
use Rattle.ss_program.specs.WellTyped.{CanTakeMode, TypedScope as Place}
use Rattle.ss_base.specs.declared.layout.ClassKind.TheVariants as kinds
use Rattle.ss_names_uses.specs.declared.used.ClassNeed.TheVariants as needs
use Rattle.ss_names.specs.declared.meaning.Meaning.TheVariants as meanings
use Rattle.ss_check_rules.specs.declared.error.CheckError.TheVariants as errors
use Rattle.ss_check_laws.proofs.Steps.{alike}
use Rattle.ss_check_laws.proofs.Linked.{IsVariable, class_variable, meant_here}

pub permanent_kind : (kind : ClassKind) → is_kind needs.Permanent kind ≡ true → kind ≡ kinds.Permanent
permanent_kind kinds.Permanent h = refl
permanent_kind _ h = absurd cc

class_meant : (o : Option Meaning) (need : ClassNeed) → suits_class o need ≡ true → (class : ℕ) × (kind : ClassKind) × (n : ℕ) × (o ≡ Some (meanings.Class class kind n)) × (is_kind need kind ≡ true)
class_meant (Some (meanings.Class class kind n)) need h = (class, kind, n, refl, h)
class_meant _ need h = absurd cc

module _ (s : Scope) (g : Place) (k : IsLinked s g) (line : Line) where
  -- where no entity is named, the variable takes numbers
  numeric : (is_called : Bool) (o : Option Meaning) (m : Meaning) (v : IsVariable s g k m) → unless (is_called || not (is_text o)) (errors.Mode line) ≡ None → o ≡ Some m → is_called ≡ false → CanTakeMode g (ToVariable v.0) Integer
  numeric is_called o m v h e f =
      let plain = not-true (is_text o) (subst (λ b. (b || not (is_text o)) ≡ true) f (holds_unless (is_called || not (is_text o)) (errors.Mode line) h)) in
      subst (λ n. CanTakeMode g (ToVariable v.0) n) (alike (meaning_mode o) (Some Integer) v.1 Integer plain (ap meaning_mode e ∙ v.3) refl) v.4

pub classes_resolve : ClassesResolve
classes_resolve s g k line need name is_called h =
    let global = value_for s.table.meanings name in
    let here = meaning_of_name s name in
    let kept = first_holds (suits_class global need) (unless (is_called || not (is_text here)) (errors.Mode line)) (errors.Unknown line) h.0 in
    let c = class_meant global need kept.0 in
    let there = meant_here s g k (meanings.Class c.0 c.1 c.2) (k.table.meanings name (meanings.Class c.0 c.1 c.2) c.3) in
    let v = class_variable s g k name c.0 c.1 c.2 c.3 in
    let made : NamedClass = record { class = c.0; attributes = length (get_or s.table.fields c.0 []); variable = v.2.0 } in (
      made,
      c.1,
      goes (class_number need global) _ c.0 made (ap (class_number need) c.3 ∙ ap (λ b. where_holds b c.0) c.4)
          (goes (variable_named s name) _ v.2.0 made (goes here variable_of v.0 v.2.0 v.1 v.2.2) refl),
      there.1,
      c.4,
      numeric s g k line is_called here v.0 v.2 kept.1 v.1,
    )
