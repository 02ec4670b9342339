-- What the names of classes mean, and N. of permanent ones.
use Rattle.std.proofs.Common.{◌≡◌, ℕ, List, Some, None, inl, inr, refl, sym, ap, subst, ◌∙◌}
use Rattle.ss_names_laws.proofs.Common.{at_line, attributes, class_by, class_entry, class_meaning, class_variables, classes, ClassKind, count_entry, count_meaning, count_name, CountedClass, Declaration, declarations, Declared, declares, entry_if, global_variables, Integer, Line, NameBytes, numbered, Permanent, place_in, place_of_value, ProgramTree, refusal_of_declarations, table, value_for, variable_by}
use Rattle.ss_names_declarations.specs.declared.declaration.Declared.TheVariants as d
use Rattle.ss_names.specs.declared.meaning.Meaning.TheVariants as m
use Rattle.ss_names_laws.proofs.NameTable.{declared_value, entry_here, value_declared}
use Rattle.ss_names_laws.proofs.Items.{Among, in_left, in_right}
use Rattle.ss_names_laws.proofs.Kept.{declared_once, meant}

class_from : (w : Declared) (name : NameBytes) (kind : ClassKind) → Among (class_by w) (name, kind) → w ≡ d.Class name kind
class_from (d.Class n k) name kind (inl same) = λ i. d.Class (same i).0 (same i).1
class_from (d.Class n k) name kind (inr none) = absurd none
class_from _ name kind a = absurd a

own_variable : (kind : ClassKind) (name : NameBytes) → Among (class_variables kind name) (name, Integer)
own_variable Permanent name = inl refl
own_variable _ name = inl refl

abbrev kind_or : ClassKind → Declared → ClassKind
kind_or other (d.Class name kind) = kind
kind_or other _ = other

module _ (ds : List Declaration) where
  -- a class with this kind is declared
  pub class_said : (name : NameBytes) (kind : ClassKind) → value_for (classes ds) name ≡ Some kind → (line : Line) × Among ds (at_line line (d.Class name kind))
  class_said name kind h =
      let x = value_declared class_by ds name kind h in
      (x.0.line, subst (λ (w : Declared). Among ds (at_line x.0.line w)) (class_from x.0.what name kind x.2) x.1)

  -- the number, the kind and the variable of a class
  abbrev pub ClassThere : NameBytes → Type 0
  ClassThere name = (class : ℕ) × (kind : ClassKind) × (variable : ℕ) × (place_in (classes ds) name ≡ Some class) × (value_for (classes ds) name ≡ Some kind) × (place_in (global_variables ds) name ≡ Some variable)

  -- the variable of a class, or N. of it, has a number
  variable_there : (line : Line) (n name : NameBytes) (kind : ClassKind) → Among ds (at_line line (d.Class n kind)) → Among (class_variables kind n) (name, Integer) → (k : ℕ) × (place_in (global_variables ds) name ≡ Some k)
  variable_there line n name kind a b =
      let v = declared_value (variable_by (attributes ds)) ds (at_line line (d.Class n kind)) name Integer a b in
      let found = place_of_value (global_variables ds) name v.0 v.1 in
      (found.0, found.1.0)

  pub class_there : (line : Line) (name : NameBytes) (kind : ClassKind) → Among ds (at_line line (d.Class name kind)) → ClassThere name
  class_there line name kind a =
      let known = declared_value class_by ds (at_line line (d.Class name kind)) name kind a (inl refl) in
      let class = place_of_value (classes ds) name known.0 known.1 in
      let variable = variable_there line name name kind a (own_variable kind name) in
      (class.0, known.0, variable.0, class.1.0, known.1, variable.1)

  class_entered : (name : NameBytes) (kind : ClassKind) (c : ClassThere name) → Among (declares (numbered ds) (d.Class name kind)) (name, m.Class c.0 c.1 c.2)
  class_entered name kind c =
      in_left (entry_if name (class_entry (numbered ds) name)) (entry_if (count_name name) (count_entry (numbered ds) name)) (name, m.Class c.0 c.1 c.2)
      (entry_here name (class_entry (numbered ds) name) (m.Class c.0 c.1 c.2) (λ i. class_meaning (c.3 i) (c.4 i) (c.5 i)))

module _ (p : ProgramTree) (kept : refusal_of_declarations p ≡ None) where
  -- the name of a class that is declared means the class
  pub class_meant : (line : Line) (name : NameBytes) (kind : ClassKind) → Among (declarations p) (at_line line (d.Class name kind)) → (c : ClassThere (declarations p) name) → value_for (table p).meanings name ≡ Some (m.Class c.0 c.1 c.2)
  class_meant line name kind a c = meant p kept (at_line line (d.Class name kind)) name (m.Class c.0 c.1 c.2) refl a (class_entered (declarations p) name kind c)

  -- a class is declared with one kind
  kind_once : (line : Line) (name : NameBytes) (kind : ClassKind) → Among (declarations p) (at_line line (d.Class name kind)) → (c : ClassThere (declarations p) name) → kind ≡ c.1
  kind_once line name kind a c =
      let ds = declarations p in
      let said = class_said ds name c.1 c.4 in
      ap (λ (x : Declaration). kind_or kind x.what)
      (declared_once p kept (at_line line (d.Class name kind)) (at_line said.0 (d.Class name c.1)) name (m.Class c.0 c.1 c.2) (m.Class c.0 c.1 c.2) refl refl a said.1
      (class_entered ds name kind c) (class_entered ds name c.1 c))

  -- N. of a permanent class means its count
  pub count_meant : (line : Line) (name : NameBytes) → Among (declarations p) (at_line line (d.Class name Permanent)) → (count : CountedClass) × (value_for (table p).meanings (count_name name) ≡ Some (m.Count count))
  count_meant line name a =
      let ds = declarations p in
      let c = class_there ds line name Permanent a in
      let variable = variable_there ds line name (count_name name) Permanent a (inr (inl refl)) in
      let kind : value_for (classes ds) name ≡ Some Permanent = c.4 ∙ ap Some (sym (kind_once line name Permanent a c)) in
      let count : CountedClass = record { class = c.0; variable = variable.0 } in
      let named : count_entry (numbered ds) name ≡ Some (m.Count count) = λ i. count_meaning (c.3 i) (kind i) (variable.1 i) in (
        count,
        meant p kept (at_line line (d.Class name Permanent)) (count_name name) (m.Count count) refl a
            (in_right (entry_if name (class_entry (numbered ds) name)) (entry_if (count_name name) (count_entry (numbered ds) name)) (count_name name, m.Count count)
            (entry_here (count_name name) (count_entry (numbered ds) name) (m.Count count) named)),
      )
