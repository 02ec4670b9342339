-- Attributes: each is in the row of its class, at its number.
use Rattle.std.proofs.Common.{◌≡◌, ℕ, ◌<◌, nat_eq, Bool, true, false, cond, List, [], ◌∷◌, ◌++◌, length, get_or, slice_get, Some, refl, sym, ap, subst, ◌∙◌, append_assoc, arith}
use Rattle.ss_names_laws.proofs.Common.{Attribute, attribute_after, attribute_by, attribute_classes, attributes, attributes_after, attributes_of_class, bytes_decides, classes, ClassKind, Declaration, Declared, eq-eqb, fields, filter, filter-append, get_or-map-range_with_len, keys_append, keys_of, Mode, mode_of_name, NameBytes, place_in, same_name, same_Some, value_for}
use Rattle.ss_names_declarations.specs.declared.declaration.Declared.TheVariants as d
use Rattle.ss_names_laws.proofs.NameTable.{entry_from, place_in_below, value_declared}
use Rattle.ss_names_laws.proofs.Items.{Among}

at_seam : {A : Type 0} (xs : List A) (y : A) (ys : List A) → slice_get (xs ++ y ∷ ys) (length xs) ≡ Some y
at_seam [] y ys = refl
at_seam (x ∷ xs) y ys = at_seam xs y ys

-- an attribute comes after those of its class that were there
next_in_class : (before : List (NameBytes × ℕ)) (e : NameBytes × ℕ) (es : List (NameBytes × ℕ)) → slice_get (attributes_of_class (before ++ e ∷ es) e.1) (length (attributes_of_class before e.1)) ≡ Some e.0
next_in_class before e es =
    let here : NameBytes × ℕ → Bool = λ f. nat_eq f.1 e.1 in
    let parts : attributes_of_class (before ++ e ∷ es) e.1 ≡ attributes_of_class before e.1 ++ e.0 ∷ attributes_of_class es e.1 =
    ap keys_of (filter-append here before (e ∷ es)) ∙ keys_append (filter here before) (filter here (e ∷ es))
    ∙ ap (λ (b : Bool). attributes_of_class before e.1 ++ keys_of (cond b (e ∷ filter here es) (filter here es))) (eq-eqb e.1 e.1 refl) in
    ap (λ (names : List NameBytes). slice_get names (length (attributes_of_class before e.1))) parts ∙ at_seam (attributes_of_class before e.1) e.0 (attributes_of_class es e.1)

-- an attribute of these, after some, has the class of its name and is in its row
abbrev InRow : List (NameBytes × ℕ) → NameBytes → Attribute → Type 0
InRow owned name a = slice_get (attributes_of_class owned a.class) a.field ≡ Some name

in_row : (mode : NameBytes → Mode) (before es : List (NameBytes × ℕ)) (name : NameBytes) (a : Attribute) → value_for (attributes_after mode before es) name ≡ Some a → (value_for es name ≡ Some a.class) × InRow (before ++ es) name a
in_row mode before [] name a h = absurd cc
in_row mode before (e ∷ es) name a h = by (same_name name e.0) refl (in_row mode (before ++ e ∷ []) es name a) h
  where
    by : (b : Bool) → same_name name e.0 ≡ b → (value_for (attributes_after mode (before ++ e ∷ []) es) name ≡ Some a → (value_for es name ≡ Some a.class) × InRow ((before ++ e ∷ []) ++ es) name a) →
        cond b (Some (attribute_after mode before e).1) (value_for (attributes_after mode (before ++ e ∷ []) es) name) ≡ Some a → (cond b (Some e.1) (value_for es name) ≡ Some a.class) × InRow (before ++ e ∷ es) name a
    by true is next g =
        let same : (attribute_after mode before e).1 ≡ a = same_Some (attribute_after mode before e).1 a g in
        let there : InRow (before ++ e ∷ es) name (attribute_after mode before e).1 = next_in_class before e es ∙ ap Some (sym ((bytes_decides name e.0).0 is)) in
        (ap (λ (x : Attribute). Some x.class) same, subst (InRow (before ++ e ∷ es) name) same there)
    by false is next g = let rest = next g in (rest.0, subst (λ (owned : List (NameBytes × ℕ)). InRow owned name a) (append_assoc before (e ∷ []) es) rest.1)

class_numbered : (cs : List (NameBytes × ClassKind)) (w : Declared) (name : NameBytes) (n : ℕ) → Among (attribute_by cs w) (name, n) → (class : NameBytes) × (place_in cs class ≡ Some n)
class_numbered cs (d.Attribute own class) name n a = (class, (entry_from own name (place_in cs class) n a).1)
class_numbered cs _ name n a = absurd a

pub row_of : (ds : List Declaration) (class : ℕ) → class < length (classes ds) → get_or (fields ds) class [] ≡ attributes_of_class (attribute_classes ds) class
row_of ds class lt = get_or-map-range_with_len (attributes_of_class (attribute_classes ds)) 0 (length (classes ds)) class class [] lt (omega arith)

-- the class of an attribute is there, and the attribute is in its row
pub attribute_there : (ds : List Declaration) (name : NameBytes) (a : Attribute) → value_for (attributes ds) name ≡ Some a → (a.class < length (classes ds)) × (slice_get (get_or (fields ds) a.class []) a.field ≡ Some name)
attribute_there ds name a h =
    let owned = attribute_classes ds in
    let found = in_row (mode_of_name ds) [] owned name a h in
    let x = value_declared (attribute_by (classes ds)) ds name a.class found.0 in
    let class = class_numbered (classes ds) x.0.what name a.class x.2 in
    let below : a.class < length (classes ds) = place_in_below (classes ds) class.0 a.class class.1 in
    (below, ap (λ (names : List NameBytes). slice_get names a.field) (row_of ds a.class below) ∙ found.1)
