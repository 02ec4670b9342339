-- A name is found at its place, and it is at the place where it is found.
use Rattle.std.proofs.Common.{◌≡◌, ℕ, List, [], Option, Some, None, refl, sym, ap, subst, ◌∙◌}
use Rattle.std.specs.Prelude.{slice_get, option_map, get_or, is_some, IfSome}
use Rattle.std.specs.Map.{keys_of}
use Rattle.std.specs.Cmp.Lexicographic.{bytes_decides}
use Rattle.std.proofs.lemmas.List.Quantifiers.{position-Some}
use Rattle.std.proofs.lemmas.Option.{slice_get-get_or}
use Rattle.ss_tree.specs.Tree.{ProgramTree}
use Rattle.ss_tree.specs.Names.{NameBytes}
use Rattle.ss_names_declarations.specs.Declarations.{declarations}
use Rattle.ss_names_declarations.specs.NameTable.{first_entries, place_among, place_in, same_name, value_for}
use Rattle.ss_names_declarations.proofs.Entries.{entry_of_key, firsts_once, no_place, place_from, place_of_value}
use Rattle.ss_names.specs.declared.meaning.Meaning.{Meaning}
use Rattle.ss_names.specs.declared.names.NameId.{NameId}
use Rattle.ss_names.specs.Entries.{given_by}
use Rattle.ss_names.specs.Table.{Table, declares, numbered, table}
use Rattle.ss_tables.specs.Tables.{AreTablesOf, is_declared}

is_there : (names : List NameBytes) (name : NameBytes) (n : ℕ) → place_among names name ≡ Some n → slice_get names n ≡ Some name
is_there names name n h =
    let p = position-Some (same_name name) names n [] h in
    let same : name ≡ get_or names n [] = (bytes_decides name (get_or names n [])).0 p.1 in
    slice_get-get_or names n [] p.0 ∙ ap (λ x. Some x) (sym same)

pub found_is_there : (found : Option NameId) (entries : List (NameBytes × Meaning)) (name : NameBytes) →
    option_map (λ id. id.0) found ≡ place_in entries name → IfSome found (λ id. slice_get (keys_of entries) id.0 ≡ Some name)
found_is_there None entries name h = tt
found_is_there (Some id) entries name h = is_there (keys_of entries) name id.0 (sym h)

-- each name has one entry: the place of its entry is the one that is found
one_entry : (all : List (NameBytes × Meaning)) (n : ℕ) (name : NameBytes) → slice_get (keys_of (first_entries all)) n ≡ Some name → place_in (first_entries all) name ≡ Some n
one_entry all n name h =
    let at = entry_of_key (first_entries all) n name h in
    place_from (first_entries all) n name at.0 (firsts_once all) at.1

pub there_is_found : (p : ProgramTree) (t : Table) → t ≡ table p → (n : ℕ) (name : NameBytes) →
    slice_get (keys_of t.meanings) n ≡ Some name → place_in t.meanings name ≡ Some n
there_is_found p t e n name h =
    let ds = declarations p in
    subst (λ (z : Table). place_in z.meanings name ≡ Some n) (sym e)
    (one_entry (given_by (declares (numbered ds)) ds) n name (subst (λ (z : Table). slice_get (keys_of z.meanings) n ≡ Some name) e h))

-- ---- names that are declared

same_answer : (found : Option NameId) → is_some found ≡ is_some (option_map (λ (id : NameId). id.0) found)
same_answer None = refl
same_answer (Some id) = refl

-- a name has a place if it has a value
placed : (entries : List (NameBytes × Meaning)) (name : NameBytes) (o : Option Meaning) → value_for entries name ≡ o → is_some (place_in entries name) ≡ is_some o
placed entries name None e = ap is_some (no_place entries name e)
placed entries name (Some m) e = ap is_some (place_of_value entries name m e).1.0

pub found_if_declared : (p : ProgramTree) (t : Table) → AreTablesOf p t → (found : Option NameId) (name : NameBytes) →
    option_map (λ id. id.0) found ≡ place_in t.meanings name → is_some found ≡ is_declared p name
found_if_declared p t a found name h =
    same_answer found ∙ ap is_some h ∙ ap (λ (z : Table). is_some (place_in z.meanings name)) a.is_of_program
    ∙ placed (table p).meanings name (value_for (table p).meanings name) refl
