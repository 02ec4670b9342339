-- Global variables: their modes, and which of them are N. of a class.
use Rattle.std.proofs.Common.{◌≡◌, ◌≢◌, ℕ, Bool, true, false, cond, [], ◌∷◌, slice_get, Some, None, option_map, is_some, inl, inr, refl, sym, ap, subst, ◌∙◌}
use Rattle.std.specs.List.{AllByRecursion as Every}
use Rattle.ss_names_laws.proofs.Common.{at_line, attributes, class_variables, ClassKind, count_by, CountedClass, counts, declarations, Declared, declares, given_by, Global, global_variables, Integer, Line, Meaning, Mode, mode_of_meaning, NameBytes, Notice, numbered, Permanent, place_in, place_of_value, ProgramTree, refusal_of_declarations, table, Temporary, value_at, value_by_place, value_for, value_mode, values_of, variable_by, variable_meaning}
use Rattle.std.proofs.lemmas.Option.{same_Some, some_pair_parts}
use Rattle.ss_tree.specs.declared.preamble.ModeWord.{ModeWord}
use Rattle.ss_names_declarations.specs.declared.declaration.Declared.TheVariants as d
use Rattle.ss_names.specs.declared.meaning.Meaning.TheVariants as m
use Rattle.ss_names_laws.proofs.Classes.{class_meant, class_there, count_meant}
use Rattle.ss_names_laws.proofs.NameTable.{declared_value, entry_here, value_declared, value_of_entry}
use Rattle.ss_names_laws.proofs.Items.{Among, at_item, each_item, from_image, from_pieces}
use Rattle.ss_names_laws.proofs.Kept.{meant}
use Rattle.ss_names_laws.proofs.Known.{name_known}

count_from : (meaning : Meaning) (count : CountedClass) → Among (count_by meaning) count → meaning ≡ m.Count count
count_from (m.Count known) count (inl same) = ap m.Count same
count_from (m.Count known) count (inr none) = absurd none
count_from _ count a = absurd a

module _ (p : ProgramTree) (kept : refusal_of_declarations p ≡ None) where
  -- ---- modes

  -- a name means something of this mode
  abbrev HasMode : NameBytes × Mode → Type 0
  HasMode e = (meaning : Meaning) × (value_for (table p).meanings e.0 ≡ Some meaning) × (mode_of_meaning meaning ≡ Some e.1)

  class_has_mode : (line : Line) (name : NameBytes) (kind : ClassKind) → Among (declarations p) (at_line line (d.Class name kind)) → HasMode (name, Integer)
  class_has_mode line name kind a = let c = class_there (declarations p) line name kind a in (m.Class c.0 c.1 c.2, class_meant p kept line name kind a c, refl)

  class_modes : (line : Line) (name : NameBytes) (kind : ClassKind) → Among (declarations p) (at_line line (d.Class name kind)) → Every HasMode (class_variables kind name)
  class_modes line name Permanent a =
      let count = count_meant p kept line name a in
      (class_has_mode line name Permanent a, ((m.Count count.0, count.1, refl), tt))
  class_modes line name Temporary a = (class_has_mode line name Temporary a, tt)
  class_modes line name Notice a = (class_has_mode line name Notice a, tt)

  -- a DEFINE, where its name may be that of an attribute
  define_modes : (line : Line) (name : NameBytes) (word : ModeWord) (b : Bool) → is_some (value_for (attributes (declarations p)) name) ≡ b → Among (declarations p) (at_line line (d.Variable name word)) → Every HasMode (cond b [] ((name, value_mode word) ∷ []))
  define_modes line name word true is a = tt
  define_modes line name word false is a =
      let ds = declarations p in
      let x = at_line line (d.Variable name word) in
      let mode = value_mode word in
      let entry : Among (variable_by (attributes ds) (d.Variable name word)) (name, mode) = subst (λ (b : Bool). Among {A = NameBytes × Mode} (cond b [] ((name, mode) ∷ [])) (name, mode)) (sym is) (inl refl) in
      let v = declared_value (variable_by (attributes ds)) ds x name mode a entry in
      let place = place_of_value (global_variables ds) name v.0 v.1 in
      let meaning : Meaning = m.Variable (Global place.0) mode in
      let named : variable_meaning (numbered ds) name mode ≡ Some meaning =
      ap (λ (b : Bool). cond b None (option_map (λ (k : ℕ). m.Variable (Global k) mode) (place_in (global_variables ds) name))) is
      ∙ ap (option_map (λ (k : ℕ). m.Variable (Global k) mode)) place.1.0 in
      ((meaning, meant p kept x name meaning refl a (entry_here name (variable_meaning (numbered ds) name mode) meaning named), refl), tt)

  modes_of : (line : Line) (w : Declared) → Among (declarations p) (at_line line w) → Every HasMode (variable_by (attributes (declarations p)) w)
  modes_of line (d.Variable name word) a = define_modes line name word (is_some (value_for (attributes (declarations p)) name)) refl a
  modes_of line (d.Class name kind) a = class_modes line name kind a
  modes_of line _ a = tt

  -- the mode of a variable is that of what its name means
  pub mode_at : (name : NameBytes) (meaning : Meaning) (k : ℕ) (mode : Mode) → value_for (table p).meanings name ≡ Some meaning → place_in (global_variables (declarations p)) name ≡ Some k → mode_of_meaning meaning ≡ Some mode → slice_get (values_of (global_variables (declarations p))) k ≡ Some mode
  mode_at name meaning k mode h at is =
      let ds = declarations p in
      let v = value_by_place (global_variables ds) name k at in
      let x = value_declared (variable_by (attributes ds)) ds name v.0 v.1 in
      let known = at_item HasMode (variable_by (attributes ds) x.0.what) (name, v.0) (modes_of x.0.line x.0.what x.1) x.2 in
      let same : known.0 ≡ meaning = same_Some known.0 meaning (sym known.1 ∙ h) in
      value_at (global_variables ds) k name v.0 v.2 ∙ sym known.2 ∙ ap mode_of_meaning same ∙ is

  -- ---- N. of classes

  -- the variable of a name that means no N. of a class is none
  pub no_count : (name : NameBytes) (meaning : Meaning) (k : ℕ) → value_for (table p).meanings name ≡ Some meaning → place_in (global_variables (declarations p)) name ≡ Some k → count_by meaning ≡ [] → Every (λ (c : CountedClass). c.variable ≢ k) (counts (table p))
  no_count name meaning k h at none =
      let ds = declarations p in
      let ms = (table p).meanings in
      each_item (λ (c : CountedClass). c.variable ≢ k) (counts (table p)) (λ c a same.
      let from = from_pieces count_by (values_of ms) c a in
      let e = from_image (λ (e : NameBytes × Meaning). e.1) ms from.0 from.1 in
      let means : value_for ms e.0.0 ≡ Some (m.Count c) = value_of_entry (given_by (declares (numbered ds)) ds) e.0.0 e.0.1 e.1 ∙ ap Some (e.2 ∙ count_from from.0 c from.2) in
      let there = value_by_place (global_variables ds) e.0.0 k ((name_known ds e.0.0 (m.Count c) means).4 ∙ ap Some same) in
      let here = value_by_place (global_variables ds) name k at in
      let one : e.0.0 ≡ name = (some_pair_parts e.0.0 name there.0 here.0 (sym there.2 ∙ here.2)).0 in
      let alike : m.Count c ≡ meaning = same_Some (m.Count c) meaning (sym means ∙ ap (value_for ms) one ∙ h) in
      let empty : c ∷ [] ≡ [] = ap count_by alike ∙ none in
      cc)
