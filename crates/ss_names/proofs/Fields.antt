-- Attributes and the rows of their classes, one more at a time.
use Rattle.std.proofs.Common.{◌≡◌, ℕ, inl, inr, ◌+◌, ◌<◌, nat_eq, Bool, true, false, cond, List, [], ◌∷◌, ◌++◌, length, get_or, slice_set, Option, Some, None, is_some, refl, sym, ap, subst, ◌∙◌, append_assoc, append-nil, arith}
use Rattle.std.specs.List.{filter, fold}
use Rattle.ss_names.proofs.Common.{Attribute, ClassKind, Declaration, Declared, entry_beside, entry_if, field_pushed, Fields, first_entries, keys_append, keys_of, Mode, NameBytes, place_among, place_in, same_name, value_for, with_field, with_first}
use Rattle.std.proofs.lemmas.Bool.{ne_eqb}
use Rattle.std.proofs.lemmas.Bool.Decides.{eqb_tells}
use Rattle.std.proofs.lemmas.List.{ext_get_or, get_or-set_same, get_or-set_other, length-set}
use Rattle.std.proofs.lemmas.List.Elements.{filter-append}
use Rattle.std.proofs.lemmas.List.FromFn.{length-map-range_with_len, get_or-map-range_with_len}
use Rattle.std.proofs.lemmas.Map.Entries.{length-keys_of}
use Rattle.std.proofs.lemmas.List.Quantifiers.{position-Some}
use Rattle.ss_names_declarations.specs.declared.declaration.Declared.TheVariants as declared
use Rattle.ss_names.specs.Entries.{attribute_after, attribute_by, attributes_after, attributes_of_class, fields_by_class, given_by}

-- ---- rows

-- an attribute of another class, and an attribute of this class
chosen : (name : NameBytes) (c d : ℕ) (same : Bool) → nat_eq c d ≡ same → keys_of (filter (λ (e : NameBytes × ℕ). nat_eq e.1 d) ((name, c) ∷ [])) ≡ cond same (name ∷ []) []
chosen name c d true e = ap (λ b. keys_of (cond b ((name, c) ∷ []) [])) e
chosen name c d false e = ap (λ b. keys_of (cond b ((name, c) ∷ []) [])) e

fields_more : (owned : List (NameBytes × ℕ)) (name : NameBytes) (c d : ℕ) (same : Bool) → nat_eq c d ≡ same → attributes_of_class (owned ++ (name, c) ∷ []) d ≡ attributes_of_class owned d ++ cond same (name ∷ []) []
fields_more owned name c d same e =
    let here : NameBytes × ℕ → Bool = λ f. nat_eq f.1 d in
    ap keys_of (filter-append here owned ((name, c) ∷ []))
    ∙ keys_append (filter here owned) (filter here ((name, c) ∷ []))
    ∙ ap (λ l. attributes_of_class owned d ++ l) (chosen name c d same e)

same_row : (owned : List (NameBytes × ℕ)) (name : NameBytes) (c : ℕ) → attributes_of_class (owned ++ (name, c) ∷ []) c ≡ attributes_of_class owned c ++ name ∷ []
same_row owned name c =
    elim (eqb_tells c c) [
      | inl h ↦ fields_more owned name c c true h.0
      | inr h ↦ absurd (h.1 refl)
    ]

other_row : (owned : List (NameBytes × ℕ)) (name : NameBytes) (c d : ℕ) → (d ≡ c → ⊥) → attributes_of_class (owned ++ (name, c) ∷ []) d ≡ attributes_of_class owned d
other_row owned name c d ne = fields_more owned name c d false (ne_eqb c d (λ e. ne (sym e))) ∙ append-nil (attributes_of_class owned d)

row_at : (owned : List (NameBytes × ℕ)) (name : NameBytes) (n c i : ℕ) → c < n → i < n → get_or (slice_set (fields_by_class owned n) c (get_or (fields_by_class owned n) c [] ++ name ∷ [])) i [] ≡ attributes_of_class (owned ++ (name, c) ∷ []) i
row_at owned name n c i lc li =
    let rows = fields_by_class owned n in
    let new = get_or rows c [] ++ name ∷ [] in
    let long : length rows ≡ n = length-map-range_with_len (attributes_of_class owned) 0 n in
    let at : (j : ℕ) → j < n → get_or rows j [] ≡ attributes_of_class owned j = λ j l. get_or-map-range_with_len (attributes_of_class owned) 0 n j j [] l (omega arith) in
    elim (eqb_tells i c) [
      | inl h ↦ ap (λ j. get_or (slice_set rows c new) j []) h.1
          ∙ get_or-set_same rows c new [] (omega (arith, long))
          ∙ ap (λ r. r ++ name ∷ []) (at c lc) ∙ sym (same_row owned name c)
          ∙ ap (attributes_of_class (owned ++ (name, c) ∷ [])) (sym h.1)
      | inr h ↦ get_or-set_other rows c i new [] h.1 ∙ at i li ∙ sym (other_row owned name c i h.1)
    ]

-- one more attribute
pub rows_more : (owned : List (NameBytes × ℕ)) (name : NameBytes) (n c : ℕ) → c < n → slice_set (fields_by_class owned n) c (get_or (fields_by_class owned n) c [] ++ name ∷ []) ≡ fields_by_class (owned ++ (name, c) ∷ []) n
rows_more owned name n c lc =
    let rows = fields_by_class owned n in
    let after = slice_set rows c (get_or rows c [] ++ name ∷ []) in
    let more = owned ++ (name, c) ∷ [] in
    let long : length after ≡ n = length-set rows c (get_or rows c [] ++ name ∷ []) ∙ length-map-range_with_len (attributes_of_class owned) 0 n in
    ext_get_or [] after (fields_by_class more n) (long ∙ sym (length-map-range_with_len (attributes_of_class more) 0 n))
    (λ i l. row_at owned name n c i lc (omega (arith, long)) ∙ sym (get_or-map-range_with_len (attributes_of_class more) 0 n i i [] (omega (arith, long)) (omega arith)))

-- the length of a row
pub row_length : (owned : List (NameBytes × ℕ)) (n c : ℕ) → c < n → length (get_or (fields_by_class owned n) c []) ≡ length (attributes_of_class owned c)
row_length owned n c lc = ap length (get_or-map-range_with_len (attributes_of_class owned) 0 n c c [] lc (omega arith))

-- ---- entries

-- one more attribute comes after the others
attributes_more : (mode : NameBytes → Mode) (before es : List (NameBytes × ℕ)) (e : NameBytes × ℕ) → attributes_after mode before (es ++ e ∷ []) ≡ attributes_after mode before es ++ attribute_after mode (before ++ es) e ∷ []
attributes_more mode before [] e = ap (λ b. attribute_after mode b e ∷ []) (sym (append-nil before))
attributes_more mode before (f ∷ es) e =
    ap (λ l. attribute_after mode before f ∷ l)
    (attributes_more mode (before ++ f ∷ []) es e
    ∙ ap (λ b. attributes_after mode (before ++ f ∷ []) es ++ attribute_after mode b e ∷ []) (append_assoc before (f ∷ []) es))

some_if : {A B : Type 0} (b : Bool) (a : A) (c : B) (x : Option A) (y : Option B) → is_some x ≡ is_some y → is_some (cond b (Some a) x) ≡ is_some (cond b (Some c) y)
some_if true a c x y h = refl
some_if false a c x y h = h

-- a name is among the attributes exactly if it is among their classes
same_names_known : (mode : NameBytes → Mode) (before es : List (NameBytes × ℕ)) (name : NameBytes) → is_some (value_for (attributes_after mode before es) name) ≡ is_some (value_for es name)
same_names_known mode before [] name = refl
same_names_known mode before (e ∷ es) name =
    some_if (same_name name e.0) _ _ _ _ (same_names_known mode (before ++ e ∷ []) es name)

-- the attributes of so many classes
abbrev pub fields_at : (NameBytes → Mode) → ℕ → List (NameBytes × ℕ) → Fields
fields_at mode n owned = record { entries = attributes_after mode [] owned; rows = fields_by_class owned n }

-- an attribute of this number in its class
abbrev attribute_at : (NameBytes → Mode) → NameBytes × ℕ → ℕ → NameBytes × Attribute
attribute_at mode e k = (e.0, record { class = e.1; field = k; mode = mode e.0 })

pushed_at : (mode : NameBytes → Mode) (n : ℕ) (owned : List (NameBytes × ℕ)) (e : NameBytes × ℕ) → e.1 < n → field_pushed mode (fields_at mode n owned) e ≡ fields_at mode n (owned ++ e ∷ [])
pushed_at mode n owned e lt =
    λ i. record {
      entries = (ap (λ k. attributes_after mode [] owned ++ attribute_at mode e k ∷ []) (row_length owned n e.1 lt) ∙ sym (attributes_more mode [] owned e)) i;
      rows = rows_more owned e.0 n e.1 lt i;
    }

one_field : (mode : NameBytes → Mode) (n : ℕ) (owned : List (NameBytes × ℕ)) (e : NameBytes × ℕ) (known : Option ℕ) → e.1 < n → cond (is_some known) (fields_at mode n owned) (field_pushed mode (fields_at mode n owned) e) ≡ fields_at mode n (entry_beside owned e known)
one_field mode n owned e None lt = pushed_at mode n owned e lt
one_field mode n owned e (Some k) lt = refl

-- one more attribute, unless its name has an entry
field_more : (mode : NameBytes → Mode) (n : ℕ) (owned : List (NameBytes × ℕ)) (e : NameBytes × ℕ) → e.1 < n → with_field mode (fields_at mode n owned) e ≡ fields_at mode n (with_first owned e)
field_more mode n owned e lt =
    ap (λ b. cond b (fields_at mode n owned) (field_pushed mode (fields_at mode n owned) e)) (same_names_known mode [] owned e.0)
    ∙ one_field mode n owned e (value_for owned e.0) lt

-- ---- attributes of classes that are declared

abbrev pub AllBelow : ℕ → List (NameBytes × ℕ) → Type 0
AllBelow n [] = Unit {0}
AllBelow n (e ∷ es) = (e.1 < n) × AllBelow n es

below_append : (n : ℕ) (xs ys : List (NameBytes × ℕ)) → AllBelow n xs → AllBelow n ys → AllBelow n (xs ++ ys)
below_append n [] ys h k = k
below_append n (x ∷ xs) ys h k = (h.0, below_append n xs ys h.1 k)

pub place_below : (names : List NameBytes) (name : NameBytes) (k : ℕ) → place_among names name ≡ Some k → k < length names
place_below names name k h = (position-Some (same_name name) names k [] h).0

pub class_below : {V : Type 0} (cs : List (NameBytes × V)) (class : NameBytes) (k : ℕ) → place_in cs class ≡ Some k → k < length cs
class_below cs class k h = subst (λ n. k < n) (length-keys_of cs) (place_below (keys_of cs) class k h)

entry_below : {V : Type 0} (cs : List (NameBytes × V)) (name class : NameBytes) (o : Option ℕ) → place_in cs class ≡ o → AllBelow (length cs) (entry_if name o)
entry_below cs name class None h = tt
entry_below cs name class (Some k) h =
    (class_below cs class k h, tt)

attribute_below : (cs : List (NameBytes × ClassKind)) (w : Declared) → AllBelow (length cs) (attribute_by cs w)
attribute_below cs (declared.Attribute name class) = entry_below cs name class (place_in cs class) refl
attribute_below cs _ = tt

pub attributes_below : (cs : List (NameBytes × ClassKind)) (ds : List Declaration) → AllBelow (length cs) (given_by (attribute_by cs) ds)
attributes_below cs [] = tt
attributes_below cs (x ∷ ds) =
    below_append (length cs) (attribute_by cs x.what) (given_by (attribute_by cs) ds) (attribute_below cs x.what) (attributes_below cs ds)

fields_folded : (mode : NameBytes → Mode) (n : ℕ) (owned es : List (NameBytes × ℕ)) → AllBelow n es → fold (with_field mode) (fields_at mode n owned) es ≡ fields_at mode n (fold with_first owned es)
fields_folded mode n owned [] h = refl
fields_folded mode n owned (e ∷ es) h =
    ap (λ fs. fold (with_field mode) fs es) (field_more mode n owned e h.0) ∙ fields_folded mode n (with_first owned e) es h.1

-- the attributes that the second pass enters
pub attributes_filled : (mode : NameBytes → Mode) (n : ℕ) (es : List (NameBytes × ℕ)) → AllBelow n es → fold (with_field mode) (fields_at mode n []) es ≡ fields_at mode n (first_entries es)
attributes_filled mode n es h = fields_folded mode n [] es h

-- ---- how many rows there are

row_count : (mode : NameBytes → Mode) (fs : Fields) (e : NameBytes × ℕ) (b : Bool) → length (cond b fs (field_pushed mode fs e)).rows ≡ length fs.rows
row_count mode fs e true = refl
row_count mode fs e false = length-set fs.rows e.1 (get_or fs.rows e.1 [] ++ e.0 ∷ [])

pub rows_kept : (mode : NameBytes → Mode) (fs : Fields) (es : List (NameBytes × ℕ)) → length (fold (with_field mode) fs es).rows ≡ length fs.rows
rows_kept mode fs [] = refl
rows_kept mode fs (e ∷ es) = rows_kept mode (with_field mode fs e) es ∙ row_count mode fs e (is_some (value_for fs.entries e.0))
