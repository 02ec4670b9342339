-- The uses and the local variables of each section, side by side with the sections.
use mathlib.Core.List.{map-map}
use Rattle.std.proofs.Common.{◌≡◌, ℕ, ◌<◌, ◌||◌, Bool, List, [], ◌∷◌, length, get_or, map, refl, sym, ap, subst, ◌∙◌}
use Rattle.ss_check_rules.proofs.Common.{breaches_in_section, breaks, flat_map, is_main_section, list_any, locals, locals_of, Moded, Scope, Section, Table, Use, uses, uses_seen, Vec, view_section}
use Rattle.std.proofs.lemmas.List.{get_or-map, length-map}
use Rattle.ss_tree.specs.Tree.{SectionTree}

-- ---- items in the same place

at_mapped : {Y Z : Type 0} (g : Y → Z) (zs : List Z) (ys : List Y) (i : ℕ) (z : Z) (y : Y) → zs ≡ map g ys → i < length ys → z ≡ get_or zs i z → y ≡ get_or ys i y → z ≡ g y
at_mapped g zs ys i z y e lt z_is y_is =
    z_is ∙ ap (λ l. get_or l i z) e ∙ get_or-map g ys i y z lt ∙ ap g (sym y_is)

viewed_at : {X Y : Type 0} (f : X → Y) (xs : List X) (i : ℕ) (x : X) → i < length xs → x ≡ get_or xs i x → f x ≡ get_or (map f xs) i (f x)
viewed_at f xs i x lt is = ap f is ∙ sym (get_or-map f xs i x (f x) lt)

-- a scope of these local variables
abbrev scope_with : Table → List Moded → Moded → Scope
scope_with t sections ls = record { table = t; locals = ls; sections = sections }

-- the uses of one section break what they break in its scope
pub section_more : (t : Table) (sections : List Section) (all : List (Vec Use)) (every : List Moded) (i : ℕ) (x : Section) (us : Vec Use) (ls : Moded) (main : Bool) → i < length sections → i < length all
    → x ≡ get_or sections i x → us ≡ get_or all i us → ls ≡ get_or every i ls → main ≡ is_main_section (view_section x)
    → map uses_seen all ≡ map uses (map view_section sections) → every ≡ map (locals_of t) (map view_section sections)
    → flat_map (breaks (scope_with t every ls) main) us.items ≡ breaches_in_section t (map view_section sections) (view_section x)
section_more t sections all every i x us ls main lt lt_all x_is us_is ls_is main_is uses_are locals_are =
    let vs : List SectionTree = map view_section sections in
    let s : SectionTree = view_section x in
    let here : s ≡ get_or vs i s = viewed_at view_section sections i x lt x_is in
    let long : i < length vs = subst (λ n. i < n) (sym (length-map sections view_section)) lt in
    let own : ls ≡ locals_of t s = at_mapped (locals_of t) every vs i ls s locals_are long ls_is here in
    let used : us.items ≡ uses s = at_mapped uses (map uses_seen all) vs i us.items s uses_are long (viewed_at uses_seen all i us lt_all us_is) here in
    λ k. flat_map (breaks (scope_with t (locals_are k) (own k)) (main_is k)) (used k)

-- ---- all sections

-- the local variables by the uses of each section
pub locals_by_uses : (t : Table) (ss : List SectionTree) → map (locals t) (map uses ss) ≡ map (locals_of t) ss
locals_by_uses t ss = map-map (locals t) uses ss

pub any_viewed : {X Y : Type 0} (p : Y → Bool) (f : X → Y) (xs : List X) → list_any (λ x. p (f x)) xs ≡ list_any p (map f xs)
any_viewed p f [] = refl
any_viewed p f (x ∷ xs) = ap (λ b. p (f x) || b) (any_viewed p f xs)
