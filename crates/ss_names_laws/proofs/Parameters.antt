-- The parameters of a section differ, and are its first local variables.
use Rattle.std.proofs.Common.{◌≡◌, ℕ, ◌+◌, List, [], ◌∷◌, ◌++◌, length, map, take, Bool, cond, false, Option, Some, None, refl, sym, ap, subst, ◌∙◌, append_assoc, append-nil}
use Rattle.std.specs.Prelude.{option_to_list, slice_get, ◌&&◌}
use Rattle.std.specs.List.{AllByRecursion as Every, IsDistinct, flat_map, fold}
use Rattle.ss_names_laws.proofs.Common.{as_attribute, at_line, Declaration, defined, entry_beside, eq-eqb, event, first_entries, flat_map_from, in_body, in_definition, in_kind, in_places, in_preamble_statement, in_section, in_section_head, keys_append, keys_of, Line, local_used, locals_of, main, map-append, Mode, moded_in, NameBytes, Once, once_of, option_or, parameter_declaration, parameters_of, ProgramTree, refusal_of_declarations, routine, same_name, same_once, SectionKindTree, SectionTree, Table, table, uses, value_append, value_for, with_first}
use Rattle.std.proofs.lemmas.Cmp.{nat_list_eq_equiv}
use Rattle.std.proofs.lemmas.Grind.{flat_map-append}
use Rattle.std.proofs.lemmas.List.Sums.{fold-append}
use Rattle.std.proofs.Math.Seq.{take-append_seam}
use Rattle.ss_names_declarations.specs.declared.declaration.Declared.TheVariants as d
use Rattle.ss_names_uses.specs.Uses as used
use Rattle.ss_tables_rules.specs.declared.once.Once.TheVariants as once
use Rattle.ss_names_laws.proofs.Each.{at_number, in_parts}
use Rattle.ss_names_laws.proofs.Items.{at_item, each_item, in_image}
use Rattle.ss_names_laws.proofs.Kept.{onces, said_once}

-- ---- the first uses of a section

module _ (t : Table) (line : Line) where
  of_parameters : (names : List NameBytes) → flat_map (local_used t) (map (used.parameter_use line) names) ≡ names
  of_parameters [] = refl
  of_parameters (n ∷ names) = ap (λ l. n ∷ l) (of_parameters names)

  of_attributes : (class : NameBytes) (i : ℕ) (names : List NameBytes) → flat_map (local_used t) (in_places (as_attribute line class) i names) ≡ []
  of_attributes class i [] = refl
  of_attributes class i (n ∷ names) = of_attributes class (i + 1) names

  of_head : (kind : SectionKindTree) → flat_map (local_used t) (in_kind line kind) ≡ parameters_of kind
  of_head main = refl
  of_head (routine name given yielding) =
      flat_map-append (local_used t) (map (used.parameter_use line) given) (map (used.parameter_use line) yielding) ∙ (λ i. of_parameters given i ++ of_parameters yielding i)
  of_head (event name given saving) =
      flat_map-append (local_used t) (map (used.parameter_use line) given) (in_places (as_attribute line name) 0 given)
      ∙ (λ i. of_parameters given i ++ of_attributes name 0 given i) ∙ append-nil given

-- the names that a section uses as local variables begin with its parameters
parameters_first : (t : Table) (s : SectionTree) → (rest : List NameBytes) × (flat_map (local_used t) (uses s) ≡ parameters_of s.kind ++ rest)
parameters_first t s =
    let head = in_kind s.line s.kind in
    let ds = flat_map used.in_local_definition s.definitions in
    let body = in_body s.body in
    let rest = flat_map (local_used t) (ds ++ body) in
    (rest, ap (flat_map (local_used t)) (append_assoc head ds body) ∙ flat_map-append (local_used t) head (ds ++ body) ∙ ap (λ l. l ++ rest) (of_head t s.line s.kind))

-- ---- parameters differ

distinct_parts : {K : Type 0} (e : K → K → Bool) (xs ys : List K) → IsDistinct e (xs ++ ys) → IsDistinct e xs × IsDistinct e ys
unfolding IsDistinct
distinct_parts e [] ys h = (tt, h)
distinct_parts e (x ∷ xs) ys h =
    let rest = distinct_parts e xs ys h.1 in
    (((in_parts (λ y. e x y ≡ false) xs ys h.0).0, rest.0), rest.1)

abbrev AllOnce : Table → List Declaration → Type 0
AllOnce t ds = IsDistinct (λ (b a : Once). same_once a b) (onces t ds)

once_parts : (t : Table) (xs ys : List Declaration) → AllOnce t (xs ++ ys) → AllOnce t xs × AllOnce t ys
once_parts t xs ys h =
    let e = λ (b a : Once). same_once a b in
    distinct_parts e (onces t xs) (onces t ys) (subst (IsDistinct e) (flat_map-append (λ (x : Declaration). option_to_list (once_of t x.what)) xs ys) h)

onces_of_parameters : (t : Table) (line : Line) (k : ℕ) (names : List NameBytes) → onces t (map (parameter_declaration line k) names) ≡ map (λ n. once.Parameter n k) names
onces_of_parameters t line k [] = refl
onces_of_parameters t line k (n ∷ names) = ap (λ l. once.Parameter n k ∷ l) (onces_of_parameters t line k names)

names_differ : (k : ℕ) (names : List NameBytes) → IsDistinct (λ (b a : Once). same_once a b) (map (λ n. once.Parameter n k) names) → IsDistinct same_name names
unfolding IsDistinct
names_differ k [] h = tt
names_differ k (n ∷ names) h = (
  each_item (λ (x : NameBytes). same_name n x ≡ false) names
      (λ x a. nat_list_eq_equiv.symm n x ∙ sym (ap (λ b. b && same_name x n) (eq-eqb k k refl))
      ∙ at_item (λ (y : Once). same_once y (once.Parameter n k) ≡ false) (map (λ y. once.Parameter y k) names) (once.Parameter x k) h.0 (in_image (λ y. once.Parameter y k) names x a)),
  names_differ k names h.1,
)

of_names : (t : Table) (line : Line) (k : ℕ) (names : List NameBytes) → AllOnce t (map (parameter_declaration line k) names) → IsDistinct same_name names
of_names t line k names h = names_differ k names (subst (IsDistinct (λ (b a : Once). same_once a b)) (onces_of_parameters t line k names) h)

none_twice : (t : Table) (line : Line) (k : ℕ) (kind : SectionKindTree) → AllOnce t (in_section_head line k kind) → IsDistinct same_name (parameters_of kind)
unfolding IsDistinct
none_twice t line k main h = tt
none_twice t line k (routine name given yielding) h = of_names t line k (given ++ yielding) (subst (AllOnce t) (sym (map-append (parameter_declaration line k) given yielding)) h)
none_twice t line k (event name given saving) h =
    of_names t line k given (once_parts t (at_line line (d.Event name k (length given) saving) ∷ []) (map (parameter_declaration line k) given) h).1

parameters_differ : (p : ProgramTree) → refusal_of_declarations p ≡ None → (k : ℕ) (s : SectionTree) → slice_get p.sections k ≡ Some s → IsDistinct same_name (parameters_of s.kind)
parameters_differ p kept k s at =
    let t = table p in
    let all = once_parts t (flat_map_from in_preamble_statement 0 p.preamble) (flat_map_from in_section 0 p.sections) (said_once p kept) in
    let here = at_number in_section (AllOnce t) (once_parts t) p.sections k s all.1 at in
    none_twice t s.line k s.kind (once_parts t (in_section_head s.line k s.kind) (flat_map (in_definition k) s.definitions) here).0

-- ---- the first entries

module _ {V : Type 0} where
  -- entries of new names, each of which there is one, come last
  entered : (start xs : List (NameBytes × V)) → Every (λ (e : NameBytes × V). value_for start e.0 ≡ None) xs → IsDistinct same_name (keys_of xs) → fold with_first start xs ≡ start ++ xs
  unfolding IsDistinct
  entered start [] h d = sym (append-nil start)
  entered start (e ∷ xs) h d =
      let others = each_item (λ (f : NameBytes × V). value_for (start ++ e ∷ []) f.0 ≡ None) xs
      (λ f a. value_append start (e ∷ []) f.0 ∙ ap (λ (o : Option V). option_or o (value_for (e ∷ []) f.0)) (at_item (λ (g : NameBytes × V). value_for start g.0 ≡ None) xs f h.1 a)
      ∙ ap (λ b. cond b (Some e.1) None) (nat_list_eq_equiv.symm f.0 e.0 ∙ at_item (λ (n : NameBytes). same_name e.0 n ≡ false) (keys_of xs) f.0 d.0 (in_image (λ (g : NameBytes × V). g.0) xs f a))) in
      ap (λ (o : Option V). fold with_first (entry_beside start e o) xs) h.0 ∙ entered (start ++ e ∷ []) xs others d.1 ∙ append_assoc start (e ∷ []) xs

  beside : (start : List (NameBytes × V)) (e : NameBytes × V) (o : Option V) → (more : List (NameBytes × V)) × (entry_beside start e o ≡ start ++ more)
  beside start e None = (e ∷ [], refl)
  beside start e (Some v) = ([], sym (append-nil start))

  -- what is there stays first
  stays : (start xs : List (NameBytes × V)) → (more : List (NameBytes × V)) × (fold with_first start xs ≡ start ++ more)
  stays start [] = ([], sym (append-nil start))
  stays start (e ∷ xs) =
      let one = beside start e (value_for start e.0) in
      let rest = stays (with_first start e) xs in
      (one.0 ++ rest.0, rest.1 ∙ ap (λ l. l ++ rest.0) one.1 ∙ append_assoc start one.0 rest.0)

  front : (xs ys : List (NameBytes × V)) → IsDistinct same_name (keys_of xs) → (more : List (NameBytes × V)) × (first_entries (xs ++ ys) ≡ xs ++ more)
  front xs ys d =
      let rest = stays xs ys in
      (rest.0, fold-append with_first [] xs ys ∙ ap (λ l. fold with_first l ys) (entered [] xs (each_item (λ (e : NameBytes × V). value_for {V = V} [] e.0 ≡ None) xs (λ e a. refl)) d) ∙ rest.1)

keys_moded : (usual : Option Mode) (modes : List (NameBytes × Mode)) (names : List NameBytes) → keys_of (map (moded_in usual modes) names) ≡ names
keys_moded usual modes [] = refl
keys_moded usual modes (n ∷ names) = ap (λ l. n ∷ l) (keys_moded usual modes names)

pub parameters_there : (p : ProgramTree) → refusal_of_declarations p ≡ None → (k : ℕ) (s : SectionTree) → slice_get p.sections k ≡ Some s →
    take (length (parameters_of s.kind)) (keys_of (locals_of (table p) s)) ≡ parameters_of s.kind
parameters_there p kept k s at =
    let names = parameters_of s.kind in
    let moded = moded_in (table p).usual (defined (uses s)) in
    let named = parameters_first (table p) s in
    let first = map moded names in
    let keys = keys_moded (table p).usual (defined (uses s)) names in
    let found = front first (map moded named.0) (subst (IsDistinct same_name) (sym keys) (parameters_differ p kept k s at)) in
    let all : keys_of (locals_of (table p) s) ≡ names ++ keys_of found.0 =
    ap (λ l. keys_of (first_entries (map moded l))) named.1 ∙ ap (λ l. keys_of (first_entries l)) (map-append moded names named.0) ∙ ap keys_of found.1
    ∙ keys_append first found.0 ∙ ap (λ l. l ++ keys_of found.0) keys in
    ap (take (length names)) all ∙ take-append_seam names (keys_of found.0)
