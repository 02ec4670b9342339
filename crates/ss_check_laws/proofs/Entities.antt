-- Classes by what their names mean, and CREATE, DESTROY, FILE and REMOVE.
use Rattle.std.proofs.Common.{◌≡◌, ℕ, true, List, [], ◌∷◌, length, get_or, map, Option, Some, None, is_some, Contains, refl, sym, ap, subst, ◌∙◌}
use Rattle.std.specs.List.{AllByRecursion as Every}
use Rattle.ss_check_laws.proofs.Common.{AreValid, ClassKind, ClassNeed, CountedClass, got, Integer, is_kind, IsLinked, IsResolvedClass, Line, Meaning, NameBytes, NamedClass, same_Some, Scope, use_breaks, value_for, Variable}
use Rattle.ss_names_meaning.specs.Classes.{class_named, variable_named, class_number, count_of, counted}
use Rattle.ss_program.specs.Program.{Fetch, ToVariable, ByDiscipline, AsFirst, AsLast}
use Rattle.ss_program.specs.WellTyped.{CanTakeMode, HasMode, TypedScope as Place, IsTypedPosition, is_created_singly}
use Rattle.ss_tree.specs.Tree.{ExpressionTree, NamedTree, PositionTree, by_discipline, at_first, at_last, before, after as after_member}
use Rattle.ss_base.specs.declared.layout.ClassKind.TheVariants as kinds
use Rattle.ss_names_uses.specs.declared.used.ClassNeed.TheVariants as needs
use Rattle.ss_names_uses.specs.declared.used.Role.TheVariants as roles
use Rattle.ss_names_uses.specs.Uses as uses
use Rattle.ss_names.specs.declared.meaning.Meaning.TheVariants as meanings
use Rattle.ss_names.specs.Entries.{count_name}
use Rattle.ss_names_meaning.specs.Answers.{◌>>=◌, each}
use Rattle.ss_names_meaning.specs.Statements.{entity_called, new_place, position}
use Rattle.std.proofs.lemmas.Option.{cond_some}
use Rattle.ss_check_laws.proofs.Steps.{GoesWell, after_one, after_two}
use Rattle.ss_check_laws.proofs.Expressions.{number_kept}
use Rattle.ss_check_laws.proofs.Classes.{classes_resolve, permanent_kind}
use Rattle.ss_check_laws.proofs.Values.{takes_number}

-- ---- kinds

-- a class whose entities come one by one
pub single_kind : (kind : ClassKind) → is_kind needs.Single kind ≡ true → is_created_singly (Some kind) ≡ true
single_kind kinds.Permanent h = h
single_kind _ h = h

-- ---- names of classes

class_meant : (need : ClassNeed) (o : Option Meaning) (n : ℕ) → class_number need o ≡ Some n → (kind : ClassKind) × (x : ℕ) × (o ≡ Some (meanings.Class n kind x)) × (is_kind need kind ≡ true)
class_meant need (Some (meanings.Class class kind x)) n e =
    let h = cond_some (is_kind need kind) class n e in
    (kind, x, ap (λ (c : ℕ). Some (meanings.Class c kind x)) h.1, h.0)
class_meant need _ n e = absurd cc

abbrev class_as : Scope → ℕ → Variable → NamedClass
class_as s class variable = record { class = class; attributes = length (get_or s.table.fields class []); variable = variable }

-- what the name of a class means, with its number and its kind
abbrev pub IsClassOf : Scope → ClassNeed → NameBytes → NamedClass → Type 0
IsClassOf s need name c =
    (kind : ClassKind) × (x : ℕ) × (value_for s.table.meanings name ≡ Some (meanings.Class c.class kind x)) × (is_kind need kind ≡ true) × (c.attributes ≡ length (get_or s.table.fields c.class []))

pub class_is : (s : Scope) (need : ClassNeed) (name : NameBytes) (c : NamedClass) → class_named s need name ≡ Some c → IsClassOf s need name c
class_is s need name c e =
    let p = got (class_number need (value_for s.table.meanings name)) (λ class. variable_named s name >>= λ v. Some (class_as s class v)) c e in
    let q = got (variable_named s name) (λ v. Some (class_as s p.0 v)) c p.2 in
    let m = class_meant need (value_for s.table.meanings name) p.0 p.1 in
    subst (IsClassOf s need name) (same_Some (class_as s p.0 q.0) c q.2) (m.0, m.1, m.2, m.3, refl)

module _ (s : Scope) (g : Place) (linked : IsLinked s g) (line : Line) where
  -- ---- what follows CALLED

  pub new_resolves : (need : ClassNeed) (name : NameBytes) (called : Option NamedTree) (c : IsResolvedClass s g need name (is_some called)) →
      AreValid s g.is_main (uses.in_option (uses.in_named line roles.Target true) called) → GoesWell (λ x. CanTakeMode g x Integer) (new_place s c.0.variable called)
  new_resolves need name None c k = (ToVariable c.0.variable, refl, c.5 refl)
  new_resolves need name (Some n) c k = takes_number s g linked line n k

  pub old_resolves : (need : ClassNeed) (name : NameBytes) (called : Option ExpressionTree) (c : IsResolvedClass s g need name (is_some called)) →
      AreValid s g.is_main (uses.in_option (uses.in_expression line true) called) → GoesWell (λ x. HasMode g x Integer) (entity_called s c.0.variable called)
  old_resolves need name None c k = (Fetch c.0.variable, refl, (c.5 refl).0)
  old_resolves need name (Some e) c k = number_kept s g linked line e k

  -- ---- CREATE EVERY

  counted_there : (name : NameBytes) → use_breaks s g.is_main (uses.class_used line needs.Permanent name true) ≡ None → GoesWell (Contains g.program.counts) (counted s name)
  counted_there name k =
      let c = classes_resolve s g linked line needs.Permanent name true (k, tt) in
      let m = class_is s needs.Permanent name c.0 c.2 in
      let permanent : value_for s.table.meanings name ≡ Some (meanings.Class c.0.class kinds.Permanent m.1) =
      m.2 ∙ ap (λ (kind : ClassKind). Some (meanings.Class c.0.class kind m.1)) (permanent_kind m.0 m.3) in
      let count = linked.table.counts name c.0.class m.1 permanent in
      let meant = linked.table.meanings (count_name name) (meanings.Count count.0) count.1 in
      (count.0, ap count_of count.1, subst (λ (all : List CountedClass). Contains all count.0) (sym linked.counts) meant.0)

  pub all_counted : (names : List NameBytes) → AreValid s g.is_main (map (λ (name : NameBytes). uses.class_used line needs.Permanent name true) names) → GoesWell (Every (Contains g.program.counts)) (each (counted s) names)
  unfolding each
  all_counted [] k = ([], refl, tt)
  all_counted (name ∷ names) k =
      after_two (Every (Contains g.program.counts)) _ _ _ (counted_there name k.0) (all_counted names k.1) (λ y ys h hs. (h, hs))

  -- ---- FILE and REMOVE

  pub position_resolves : (t : PositionTree) → AreValid s g.is_main (uses.in_position line t) → GoesWell (IsTypedPosition g) (position s t)
  position_resolves by_discipline k = (ByDiscipline, refl, tt)
  position_resolves at_first k = (AsFirst, refl, tt)
  position_resolves at_last k = (AsLast, refl, tt)
  position_resolves (before e) k = after_one (IsTypedPosition g) _ _ (number_kept s g linked line e k) (λ x h. h)
  position_resolves (after_member e) k = after_one (IsTypedPosition g) _ _ (number_kept s g linked line e k) (λ x h. h)
