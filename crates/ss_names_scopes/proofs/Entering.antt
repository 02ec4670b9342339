-- Names that are entered one after another, with their modes.
use Rattle.std.proofs.Common.{◌≡◌, ℕ, ◌+◌, ◌<◌, List, [], Option, length, get_or, map, take, sym, ap, ◌∙◌}
use Rattle.std.specs.List.{flat_map, fold}
use Rattle.std.specs.Option.{option_or}
use Rattle.std.proofs.Math.Path.{fun_ext}
use Rattle.std.proofs.lemmas.List.{map-append}
use Rattle.std.proofs.lemmas.List.Sums.{fold-append}
use Rattle.ss_base.specs.declared.layout.Mode.{Mode}
use Rattle.ss_tree.specs.Names.{NameBytes}
use Rattle.ss_names_declarations.specs.NameTable.{first_entries, with_first}
use Rattle.ss_names_declarations.proofs.Entries.{value_in_firsts}
use Rattle.ss_names_scopes.specs.Locals.{moded_in}
use Rattle.ss_names_scopes.proofs.Finding.{list_more}

-- the mode of a name is found among the first entries
pub moded_found : (usual : Option Mode) (all modes : List (NameBytes × Mode)) → modes ≡ first_entries all → moded_in usual modes ≡ moded_in usual all
moded_found usual all modes is =
    fun_ext (λ name.
    ap (λ (l : List (NameBytes × Mode)). moded_in usual l name) is
    ∙ ap (λ (mode : Option Mode). (name, option_or mode usual)) (value_in_firsts all name))

-- the entries of one more item come last, each with what is known of its name
pub mapped_firsts_after : {X V : Type 0} (g : NameBytes → NameBytes × V) (f : X → List NameBytes) (xs : List X) (i : ℕ) (x : X) (before after : List (NameBytes × V)) → i < length xs → x ≡ get_or xs i x
    → before ≡ first_entries (map g (flat_map f (take i xs))) → after ≡ fold with_first before (map g (f x)) → after ≡ first_entries (map g (flat_map f (take (i + 1) xs)))
mapped_firsts_after g f xs i x before after lt is b a =
    a ∙ ap (λ l. fold with_first l (map g (f x))) b
    ∙ sym (fold-append with_first [] (map g (flat_map f (take i xs))) (map g (f x)))
    ∙ ap first_entries (sym (map-append g (flat_map f (take i xs)) (f x)) ∙ ap (map g) (list_more f xs i x lt is))
