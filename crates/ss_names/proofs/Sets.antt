-- The sets: the properties of each, by one declaration after the other.
use Rattle.std.proofs.Common.{◌≡◌, ℕ, suc, Bool, true, false, cond, List, [], ◌∷◌, ◌++◌, length, map, Option, Some, None, option_map, refl, sym, ap, ◌∙◌}
use Rattle.ss_names.proofs.Common.{ClassKind, Declaration, Declared, fold-append, length-set, NameBytes, Set, slice_get}
use Rattle.std.specs.List.{AllByRecursion as Every, IsDistinct, fold, position_or_len}
use Rattle.std.proofs.Math.Path.{fun_ext}
use Rattle.std.proofs.lemmas.Cmp.{nat_list_eq_equiv}
use Rattle.std.proofs.lemmas.Map.Keys.{IsDistinct-push}
use Rattle.ss_names_declarations.specs.NameTable.{entry_if, is_one_of, place_among, place_in, same_name, value_for, with_name}
use Rattle.ss_names_declarations.specs.declared.declaration.Declared.TheVariants as declared
use Rattle.ss_names_declarations.proofs.Entries.{number, or_assoc, or_none, value_append}
use Rattle.ss_names.specs.Entries.{given_by, member_by, order_by, owner_entry, owner_named, set_names, set_by, set_of}
use Rattle.ss_names.specs.Filling.{merged, merged_if, merged_with, no_set, set_part, with_set}

-- ---- each set has one name

with_once : (names : List NameBytes) (name : NameBytes) (b : Bool) → is_one_of names name ≡ b → IsDistinct same_name names → IsDistinct same_name (cond b names (names ++ name ∷ []))
with_once names name true is d = d
with_once names name false is d = IsDistinct-push nat_list_eq_equiv names name d is

folded_once : (names more : List NameBytes) → IsDistinct same_name names → IsDistinct same_name (fold with_name names more)
folded_once names [] d = d
folded_once names (m ∷ ms) d = folded_once (with_name names m) ms (with_once names m (is_one_of names m) refl d)

none_once : IsDistinct same_name []
unfolding IsDistinct
none_once = tt

pub set_names_once : (ds : List Declaration) → IsDistinct same_name (set_names ds)
set_names_once ds = folded_once [] (given_by set_by ds) none_once

-- ---- a declaration adds to one set

-- what is known of each name, and of one more
abbrev said_more : (NameBytes → Set) → NameBytes × Set → NameBytes → Set
said_more known e name = cond (same_name e.0 name) (merged (known name) e.1) (known name)

-- nothing is added to the others
others_same : (known : NameBytes → Set) (e : NameBytes × Set) (names : List NameBytes) → Every (λ other. same_name e.0 other ≡ false) names → map known names ≡ map (said_more known e) names
others_same known e [] h = refl
others_same known e (n ∷ ns) h =
    λ i. cond (sym h.0 i) (merged (known n) e.1) (known n) ∷ others_same known e ns h.1 i

place_more : (name n : NameBytes) (ns : List NameBytes) → place_among (n ∷ ns) name ≡ cond (same_name name n) (Some 0) (option_map suc (place_among ns name))
place_more name n ns = number (same_name name n) (position_or_len (same_name name) ns) (length ns)

after_first : (s : Set) (ss : List Set) (more : Set) (o : Option ℕ) → merged_if (s ∷ ss) more (option_map suc o) ≡ s ∷ merged_if ss more o
after_first s ss more None = refl
after_first s ss more (Some k) = refl

same_apart : (name n : NameBytes) (ns : List NameBytes) → same_name name n ≡ true → Every (λ other. same_name n other ≡ false) ns → Every (λ other. same_name name other ≡ false) ns
same_apart name n [] is h = tt
same_apart name n (m ∷ ms) is h = (nat_list_eq_equiv.congr name n m is ∙ h.0, same_apart name n ms is h.1)

set_changed : (known : NameBytes → Set) (names : List NameBytes) (e : NameBytes × Set) → IsDistinct same_name names → with_set names (map known names) e ≡ map (said_more known e) names
unfolding IsDistinct
set_changed known [] e d = refl
set_changed known (n ∷ ns) e d = ap (merged_if (known n ∷ map known ns) e.1) (place_more e.0 n ns) ∙ by (same_name e.0 n) refl d.0 (set_changed known ns e d.1)
  where
    by : (b : Bool) → same_name e.0 n ≡ b → Every (λ other. same_name n other ≡ false) ns → with_set ns (map known ns) e ≡ map (said_more known e) ns → merged_if (known n ∷ map known ns) e.1 (cond b (Some 0) (option_map suc (place_among ns e.0))) ≡ said_more known e n ∷ map (said_more known e) ns
    by true is h next =
        λ i. cond (sym is i) (merged (known n) e.1) (known n) ∷ others_same known e ns (same_apart e.0 n ns is h) i
    by false is h next =
        after_first (known n) (map known ns) e.1 (place_among ns e.0)
        ∙ (λ i. cond (sym is i) (merged (known n) e.1) (known n) ∷ next i)

sets_folded : (known : NameBytes → Set) (names : List NameBytes) (es : List (NameBytes × Set)) → IsDistinct same_name names → fold (with_set names) (map known names) es ≡ map (fold said_more known es) names
sets_folded known names [] d = refl
sets_folded known names (e ∷ es) d =
    ap (λ sets. fold (with_set names) sets es) (set_changed known names e d) ∙ sets_folded (said_more known e) names es d

-- ---- the properties of a set in the end

merged_none : (s : Set) → merged s no_set ≡ s
merged_none s = λ i. record { owner = or_none s.owner i; member = or_none s.member i; order = or_none s.order i }

merged_assoc : (a b c : Set) → merged (merged a b) c ≡ merged a (merged b c)
merged_assoc a b c =
    λ i. record {
      owner = or_assoc a.owner b.owner c.owner i;
      member = or_assoc a.member b.member c.member i;
      order = or_assoc a.order b.order c.order i;
    }

-- what one declaration says of the set of this name
abbrev said_of : List (NameBytes × ClassKind) → Declared → NameBytes → Set
said_of cs w name =
    record { owner = value_for (owner_entry cs w) name; member = value_for (member_by cs w) name; order = value_for (order_by w) name }

value_if : {V : Type 0} (o : Option V) (set name : NameBytes) (b : Bool) → same_name name set ≡ b → value_for (entry_if set o) name ≡ cond b o None
value_if None set name true is = refl
value_if None set name false is = refl
value_if (Some v) set name b is = ap (λ c. cond c (Some v) None) is

-- a test on a set of which this is said
tested : (known s : Set) (b : Bool) → cond b (merged known s) known ≡ merged known (record { owner = cond b s.owner None; member = cond b s.member None; order = cond b s.order None })
tested known s true = refl
tested known s false = sym (merged_none known)

part_said : (known s : Set) (set name : NameBytes) → cond (same_name set name) (merged known s) known ≡ merged known (record { owner = value_for (entry_if set s.owner) name; member = value_for (entry_if set s.member) name; order = value_for (entry_if set s.order) name })
part_said known s set name =
    let is = same_name name set in
    ap (λ b. cond b (merged known s) known) (nat_list_eq_equiv.symm set name)
    ∙ tested known s is
    ∙ (λ i. merged known (record {
      owner = sym (value_if s.owner set name is refl) i;
      member = sym (value_if s.member set name is refl) i;
      order = sym (value_if s.order set name is refl) i;
    }))

part_is : (cs : List (NameBytes × ClassKind)) (known : NameBytes → Set) (w : Declared) (name : NameBytes) → fold said_more known (set_part cs w) name ≡ merged (known name) (said_of cs w name)
part_is cs known (declared.Owner set class) name = part_said (known name) (record { owner = owner_named cs class; member = None; order = None }) set name
part_is cs known (declared.Member set class) name = part_said (known name) (record { owner = None; member = place_in cs class; order = None }) set name
part_is cs known (declared.Order set rule statement) name = part_said (known name) (record { owner = None; member = None; order = Some (record { rule = rule; statement = statement }) }) set name
part_is cs known _ name = sym (merged_none (known name))

said_append : (cs : List (NameBytes × ClassKind)) (x : Declaration) (ds : List Declaration) (name : NameBytes) → merged (said_of cs x.what name) (set_of cs ds name) ≡ set_of cs (x ∷ ds) name
said_append cs x ds name =
    λ i. record {
      owner = sym (value_append (owner_entry cs x.what) (given_by (owner_entry cs) ds) name) i;
      member = sym (value_append (member_by cs x.what) (given_by (member_by cs) ds) name) i;
      order = sym (value_append (order_by x.what) (given_by order_by ds) name) i;
    }

said_in_all : (cs : List (NameBytes × ClassKind)) (known : NameBytes → Set) (ds : List Declaration) (name : NameBytes) → fold said_more known (given_by (set_part cs) ds) name ≡ merged (known name) (set_of cs ds name)
said_in_all cs known [] name = sym (merged_none (known name))
said_in_all cs known (x ∷ ds) name =
    let first : NameBytes → Set = fold said_more known (set_part cs x.what) in
    ap (λ (f : NameBytes → Set). f name) (fold-append said_more known (set_part cs x.what) (given_by (set_part cs) ds))
    ∙ said_in_all cs first ds name
    ∙ ap (λ s. merged s (set_of cs ds name)) (part_is cs known x.what name)
    ∙ merged_assoc (known name) (said_of cs x.what name) (set_of cs ds name)
    ∙ ap (merged (known name)) (said_append cs x ds name)

-- the sets that the second pass leaves
pub sets_filled : (cs : List (NameBytes × ClassKind)) (ds : List Declaration) → fold (with_set (set_names ds)) (map (λ (name : NameBytes). no_set) (set_names ds)) (given_by (set_part cs) ds) ≡ map (set_of cs ds) (set_names ds)
sets_filled cs ds =
    let none : NameBytes → Set = λ name. no_set in
    let said : (name : NameBytes) → fold said_more none (given_by (set_part cs) ds) name ≡ set_of cs ds name = said_in_all cs none ds in
    sets_folded none (set_names ds) (given_by (set_part cs) ds) (set_names_once ds)
    ∙ ap (λ (f : NameBytes → Set). map f (set_names ds)) (fun_ext said)

-- ---- how many sets there are

merged_count : (sets : List Set) (more : Set) (o : Option ℕ) → length (merged_if sets more o) ≡ length sets
merged_count sets more None = refl
merged_count sets more (Some number) = length-set sets number (merged_with (slice_get sets number) more)

pub sets_kept : (names : List NameBytes) (sets : List Set) (es : List (NameBytes × Set)) → length (fold (with_set names) sets es) ≡ length sets
sets_kept names sets [] = refl
sets_kept names sets (e ∷ es) = sets_kept names (with_set names sets e) es ∙ merged_count sets e.1 (place_among names e.0)
