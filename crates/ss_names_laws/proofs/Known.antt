-- What a table has of a name, by what the name means.
use Rattle.std.proofs.Common.{◌≡◌, ℕ, ◌<◌, Bool, true, false, cond, List, length, Option, Some, None, option_map, is_some, ⊎_elim, refl, sym, ap, subst, ◌∙◌}
use Rattle.ss_names_laws.proofs.Common.{ClassKind, count_name, Declaration, Declared, entry_if, Global, Meaning, Mode, NameBytes, Permanent, place_among, place_in, same_Some, value_for, value_mode}
use Rattle.ss_names.specs.Table.{declares, numbered, Table, attribute_meaning, class_meaning, class_entry, count_meaning, count_entry, fold_of, meanings, set_meanings, variable_meaning}
use Rattle.ss_names_declarations.specs.declared.declaration.Declared.TheVariants as d
use Rattle.ss_names.specs.declared.meaning.Meaning.TheVariants as m
use Rattle.ss_names_laws.proofs.NameTable.{entry_from, place_below, value_declared}
use Rattle.ss_names_laws.proofs.Items.{Among, at_item, in_one_of}
use Rattle.ss_names_laws.proofs.Steps.{mapped}

-- what a table has of a name that is declared as this
abbrev pub IsKnown : Table → NameBytes → Meaning → Type 0
IsKnown t name (m.Variable (Global k) mode) = place_in t.variables name ≡ Some k
IsKnown t name (m.Class class kind variable) = (place_in t.classes name ≡ Some class) × (value_for t.classes name ≡ Some kind) × (place_in t.variables name ≡ Some variable)
IsKnown t name (m.Count count) =
    (class : NameBytes) × (count_name class ≡ name) × (place_in t.classes class ≡ Some count.class) × (value_for t.classes class ≡ Some Permanent) × (place_in t.variables name ≡ Some count.variable)
IsKnown t name (m.Attribute class field mode) = value_for t.attributes name ≡ Some (record { class = class; field = field; mode = mode })
IsKnown t name (m.Set set) = set < length t.set_names
IsKnown t name (m.OfSet query set) = set < length t.set_names
IsKnown t name (m.OfMember query set) = set < length t.set_names
IsKnown t name (m.Statistic fold k) = (subject : NameBytes) × (place_in t.histories subject ≡ Some k)
IsKnown t name (m.Routine k) = place_in t.routines name ≡ Some k
IsKnown t name _ = ⊥

module _ (t : Table) (n name : NameBytes) (meaning : Meaning) where
  class_known : (a : Option ℕ) (b : Option ClassKind) (c : Option ℕ) → place_in t.classes n ≡ a → value_for t.classes n ≡ b → place_in t.variables n ≡ c → n ≡ name → class_meaning a b c ≡ Some meaning → IsKnown t name meaning
  class_known (Some class) (Some kind) (Some variable) f g h same e =
      subst (IsKnown t name) (same_Some (m.Class class kind variable) meaning e) (ap (place_in t.classes) (sym same) ∙ f, ap (value_for t.classes) (sym same) ∙ g, ap (place_in t.variables) (sym same) ∙ h)
  class_known _ _ _ f g h same e = absurd cc

  count_known : (a : Option ℕ) (b : Option ClassKind) (c : Option ℕ) → place_in t.classes n ≡ a → value_for t.classes n ≡ b → place_in t.variables (count_name n) ≡ c → count_name n ≡ name → count_meaning a b c ≡ Some meaning → IsKnown t name meaning
  count_known (Some class) (Some Permanent) (Some variable) f g h same e =
      subst (IsKnown t name) (same_Some (m.Count (record { class = class; variable = variable })) meaning e) (n, same, f, g, ap (place_in t.variables) (sym same) ∙ h)
  count_known _ _ _ f g h same e = absurd cc

  set_known : (o : Option ℕ) → place_among t.set_names n ≡ o → Among (set_meanings n o) (name, meaning) → IsKnown t name meaning
  set_known None is a = absurd a
  set_known (Some set) is a =
      let below = place_below t.set_names n set is in
      at_item (λ (e : NameBytes × Meaning). IsKnown t name e.1) (set_meanings n (Some set)) (name, meaning) (below, (below, (below, (below, (below, (below, (below, tt))))))) a

  variable_known : (mode : Mode) (b : Bool) → n ≡ name → cond b None (option_map (λ k. m.Variable (Global k) mode) (place_in t.variables n)) ≡ Some meaning → IsKnown t name meaning
  variable_known mode true same e = absurd cc
  variable_known mode false same e =
      let found = mapped (λ (k : ℕ). m.Variable (Global k) mode) (place_in t.variables n) meaning e in
      subst (IsKnown t name) found.2 (ap (place_in t.variables) (sym same) ∙ found.1)

entry_known : (t : Table) (w : Declared) (name : NameBytes) (meaning : Meaning) → Among (declares t w) (name, meaning) → IsKnown t name meaning
entry_known t (d.Class n kind) name meaning a =
    let first = entry_if n (class_entry t n) in
    let second = entry_if (count_name n) (count_entry t n) in
    ⊎_elim
    (λ (b : Among first (name, meaning)).
    let e = entry_from n name (class_entry t n) meaning b in
    class_known t n name meaning (place_in t.classes n) (value_for t.classes n) (place_in t.variables n) refl refl refl e.0 e.1)
    (λ (b : Among second (name, meaning)).
    let e = entry_from (count_name n) name (count_entry t n) meaning b in
    count_known t n name meaning (place_in t.classes n) (value_for t.classes n) (place_in t.variables (count_name n)) refl refl refl e.0 e.1)
    (in_one_of first second (name, meaning) a)
entry_known t (d.Attribute n class) name meaning a =
    let e = entry_from n name (option_map attribute_meaning (value_for t.attributes n)) meaning a in
    let found = mapped attribute_meaning (value_for t.attributes n) meaning e.1 in
    subst (IsKnown t name) found.2 (ap (value_for t.attributes) (sym e.0) ∙ found.1)
entry_known t (d.Owner n class) name meaning a = set_known t n name meaning (place_among t.set_names n) refl a
entry_known t (d.Member n class) name meaning a = set_known t n name meaning (place_among t.set_names n) refl a
entry_known t (d.Variable n mode) name meaning a =
    let e = entry_from n name (variable_meaning t n (value_mode mode)) meaning a in
    variable_known t n name meaning (value_mode mode) (is_some (value_for t.attributes n)) e.0 e.1
entry_known t (d.Statistic n kind subject) name meaning a =
    let e = entry_from n name (option_map (m.Statistic (fold_of kind)) (place_in t.histories subject)) meaning a in
    let found = mapped (m.Statistic (fold_of kind)) (place_in t.histories subject) meaning e.1 in
    subst (IsKnown t name) found.2 (subject, found.1)
entry_known t (d.Routine n section given yielding) name meaning a =
    let e = entry_from n name (option_map m.Routine (place_in t.routines n)) meaning a in
    let found = mapped m.Routine (place_in t.routines n) meaning e.1 in
    subst (IsKnown t name) found.2 (ap (place_in t.routines) (sym e.0) ∙ found.1)
entry_known t _ name meaning a = absurd a

pub name_known : (ds : List Declaration) (name : NameBytes) (meaning : Meaning) → value_for (meanings ds) name ≡ Some meaning → IsKnown (numbered ds) name meaning
name_known ds name meaning h = let x = value_declared (declares (numbered ds)) ds name meaning h in entry_known (numbered ds) x.0.what name meaning x.2
