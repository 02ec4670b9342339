-- Names, each once, as entries of which the first of each name counts.
use Rattle.std.proofs.Common.{◌≡◌, Bool, List, [], ◌∷◌, ◌++◌, map, Option, Some, None, is_some, refl, sym, ap, subst, ◌∙◌}
use Rattle.std.specs.Prelude.{if◌then◌else◌}
use Rattle.std.specs.List.{AllByRecursion as Every, fold}
use Rattle.std.proofs.lemmas.Map.Made.{is_some-lookup}
use Rattle.ss_names_laws.proofs.Common.{keys_append, keys_of, NameBytes}
use Rattle.ss_names_declarations.specs.NameTable.{first_entries, same_name, value_for, each_once, entry_beside, is_one_of, with_first, with_name}
use Rattle.ss_names_laws.proofs.Each.{every_image, every_named}
use Rattle.ss_names_laws.proofs.Items.{at_item}

abbrev pub entry_of : NameBytes → NameBytes × NameBytes
entry_of name = (name, name)

abbrev Entries : Type 0
Entries = List (NameBytes × NameBytes)

one_more : (es : Entries) (name : NameBytes) (known : Option NameBytes) → is_one_of (keys_of es) name ≡ is_some known → with_name (keys_of es) name ≡ keys_of (entry_beside es (entry_of name) known)
one_more es name None h = ap (λ (b : Bool). if b then keys_of es else keys_of es ++ name ∷ []) h ∙ sym (keys_append es (entry_of name ∷ []))
one_more es name (Some known) h = ap (λ (b : Bool). if b then keys_of es else keys_of es ++ name ∷ []) h

as_entries : (es : Entries) (names : List NameBytes) → fold with_name (keys_of es) names ≡ keys_of (fold with_first es (map entry_of names))
as_entries es [] = refl
as_entries es (name ∷ names) =
    ap (λ (keys : List NameBytes). fold with_name keys names) (one_more es name (value_for es name) (sym (is_some-lookup (same_name name) es))) ∙ as_entries (with_first es (entry_of name)) names

pub once_as_entries : (names : List NameBytes) → each_once names ≡ keys_of (first_entries (map entry_of names))
once_as_entries names = as_entries [] names

pub every_once : (P : NameBytes → Type 0) (names : List NameBytes) → Every P names → Every P (each_once names)
every_once P names h =
    let es = first_entries (map entry_of names) in
    subst (Every P) (sym (once_as_entries names)) (every_image P (λ (e : NameBytes × NameBytes). e.0) es (λ e a. at_item (λ (f : NameBytes × NameBytes). P f.0) es e (every_named P entry_of (λ name k. k) names h) a))
