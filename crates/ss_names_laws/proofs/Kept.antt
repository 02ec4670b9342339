-- What holds where a program breaks no rule on declarations.
use Rattle.std.proofs.Common.{◌≡◌, ℕ, Bool, true, false, cond, List, [], ◌∷◌, ◌++◌, map, Option, Some, None, ◌⊎◌, inl, inr, ⊎_elim, refl, sym, ap, subst, ◌∙◌, append-nil, append_assoc}
use Rattle.std.specs.List.{AllByRecursion as Every, IsDistinct, flat_map}
use Rattle.ss_names_laws.proofs.Common.{both_ways, broken_by, bytes_decides, Declaration, declarations, given_by, Line, map-append, Meaning, NameBytes, not-false, Once, option_or, option_to_list, ProgramTree, value_append, value_for, value_in_firsts}
use Rattle.std.proofs.lemmas.Option.{none-some}
use Rattle.ss_names.specs.Table.{declares, numbered, Table, table, Entered, clashes, clashes_after, entered_in_line, entered_by, is_another, same_of_set}
use Rattle.ss_tables_rules.specs.Broken.{refusal_of_declarations, table_breaches, declaration_breaches, unmoded}
use Rattle.ss_base.specs.Lines.{line_if}
use Rattle.ss_names_declarations.specs.Earliest.{precedes, earlier_of, earliest}
use Rattle.ss_names_declarations.proofs.EarliestBreach.{found_and_rest}
use Rattle.ss_names.specs.declared.meaning.Meaning.TheVariants as m
use Rattle.ss_tables_rules.specs.declared.error.TableError.TheVariants as errors
use Rattle.ss_tables_rules.specs.Keys.{misranked}
use Rattle.ss_tables_rules.specs.Once.{is_among, once_of, repeats, repeats_after, repeated_breach, same_once, again, once_added}
use Rattle.ss_tables_rules.specs.Order.{table_error_order}
use Rattle.ss_names_laws.proofs.NameTable.{has_value}
use Rattle.ss_names_laws.proofs.Each.{each_none, in_parts, none_of_any}
use Rattle.ss_names_laws.proofs.Items.{Among, both_empty, in_image, in_pieces, in_right}

-- ---- nothing is found

one_of_two : {E : Type 0} (b : Bool) (found new : E) → cond b (Some new) (Some found) ≡ None → ⊥
one_of_two true found new h = none-some new (sym h)
one_of_two false found new h = none-some found (sym h)

still_found : {E : Type 0} (order : E → ℕ × ℕ) (found : E) (rest : Option E) → earlier_of order (Some found) rest ≡ None → ⊥
still_found order found None h = none-some found (sym h)
still_found order found (Some new) h = one_of_two (precedes (order new) (order found)) found new h

pub nothing_found : {E : Type 0} (order : E → ℕ × ℕ) (es : List E) → earliest order es ≡ None → es ≡ []
nothing_found order [] h = refl
nothing_found order (x ∷ es) h = absurd (still_found order x (earliest order es) (sym (found_and_rest order (Some x) es) ∙ h))

-- ---- empty lists

five_empty : {A : Type 0} (vs ws xs ys zs : List A) → vs ++ (ws ++ (xs ++ (ys ++ zs))) ≡ [] → (vs ≡ []) × (ws ≡ []) × (xs ≡ []) × (ys ≡ []) × (zs ≡ [])
five_empty vs ws xs ys zs h =
    let p = both_empty vs (ws ++ (xs ++ (ys ++ zs))) h in
    let q = both_empty ws (xs ++ (ys ++ zs)) p.1 in
    let r = both_empty xs (ys ++ zs) q.1 in
    let s = both_empty ys zs r.1 in
    (p.0, q.0, r.0, s.0, s.1)

no_images : {A B : Type 0} (f : A → B) (xs : List A) → map f xs ≡ [] → xs ≡ []
no_images f [] h = refl
no_images f (x ∷ xs) h = absurd cc

-- ---- a name that is declared again

-- before some entries and with them, the first that a name means is this, or both are of one set
abbrev Fits : List (NameBytes × Meaning) → List (NameBytes × Meaning) → NameBytes → Meaning → Type 0
Fits before more name meaning =
    (first : Meaning) × (value_for (before ++ more) name ≡ Some first) × (((value_for before name ≡ None) × (first ≡ meaning)) ⊎ (same_of_set first meaning ≡ true))

abbrev pair_of : Entered → NameBytes × Meaning
pair_of e = (e.name, e.meaning)

no_line : (b : Bool) (line : Line) → line_if b line ≡ [] → b ≡ false
no_line true line h = absurd cc
no_line false line h = refl

none_before : (o rest : Option Meaning) → option_or o rest ≡ None → o ≡ None
none_before None rest h = refl
none_before (Some first) rest h = h

first_here : (before after : List (NameBytes × Meaning)) (name : NameBytes) (meaning : Meaning) (o : Option Meaning) →
    value_for before name ≡ o → is_another o meaning ≡ false → Fits before ((name, meaning) ∷ after) name meaning
first_here before after name meaning None is h =
    let rest : List (NameBytes × Meaning) = (name, meaning) ∷ after in (
      meaning,
      value_append before rest name ∙ ap (λ (o : Option Meaning). option_or o (value_for rest name)) is
          ∙ ap (λ (b : Bool). cond b (Some meaning) (value_for after name)) ((bytes_decides name name).1 refl),
      inl (is, refl),
    )
first_here before after name meaning (Some known) is h =
    let rest : List (NameBytes × Meaning) = (name, meaning) ∷ after in
    (known, value_append before rest name ∙ ap (λ (o : Option Meaning). option_or o (value_for rest name)) is, inr (not-false (same_of_set known meaning) h))

first_fits : (before : List (NameBytes × Meaning)) (es : List Entered) (e : Entered) → clashes_after before es ≡ [] → Among es e → Fits before (map pair_of es) e.name e.meaning
first_fits before [] e h a = absurd a
first_fits before (x ∷ es) e h (inl same) =
    let clash = is_another (value_for before x.name) x.meaning in
    let parts = both_empty (line_if clash x.line) (clashes_after (before ++ pair_of x ∷ []) es) h in
    subst (λ (y : Entered). Fits before (pair_of x ∷ map pair_of es) y.name y.meaning) same
    (first_here before (map pair_of es) x.name x.meaning (value_for before x.name) refl (no_line clash x.line parts.0))
first_fits before (x ∷ es) e h (inr later) =
    let clash = is_another (value_for before x.name) x.meaning in
    let parts = both_empty (line_if clash x.line) (clashes_after (before ++ pair_of x ∷ []) es) h in
    let found = first_fits (before ++ pair_of x ∷ []) es e parts.1 later in (
      found.0,
      ap (λ (ms : List (NameBytes × Meaning)). value_for ms e.name) (sym (append_assoc before (pair_of x ∷ []) (map pair_of es))) ∙ found.1,
      ⊎_elim
          (λ (r : (value_for (before ++ pair_of x ∷ []) e.name ≡ None) × (found.0 ≡ e.meaning)).
          inl (none_before (value_for before e.name) (value_for (pair_of x ∷ []) e.name) (sym (value_append before (pair_of x ∷ []) e.name) ∙ r.0), r.1))
          inr found.2,
    )

-- a meaning that isn't of a set is no other's
apart : (first meaning : Meaning) → same_of_set meaning meaning ≡ false → same_of_set first meaning ≡ false
apart (m.Set set) (m.Set other) h = h
apart (m.OfSet query set) (m.OfSet asked other) h = h
apart (m.OfMember query set) (m.OfMember asked other) h = h
apart _ _ h = refl

-- what comes after these entries
after_these : (before : List (NameBytes × Meaning)) (xs ys : List Entered) → clashes_after before (xs ++ ys) ≡ [] → clashes_after (before ++ map pair_of xs) ys ≡ []
after_these before [] ys h = ap (λ (ms : List (NameBytes × Meaning)). clashes_after ms ys) (append-nil before) ∙ h
after_these before (x ∷ xs) ys h =
    let parts = both_empty (line_if (is_another (value_for before x.name) x.meaning) x.line) (clashes_after (before ++ pair_of x ∷ []) (xs ++ ys)) h in
    ap (λ (ms : List (NameBytes × Meaning)). clashes_after ms ys) (sym (append_assoc before (pair_of x ∷ []) (map pair_of xs)))
    ∙ after_these (before ++ pair_of x ∷ []) xs ys parts.1

pairs_back : (line : Line) (es : List (NameBytes × Meaning)) → map pair_of (map (entered_in_line line) es) ≡ es
pairs_back line [] = refl
pairs_back line (e ∷ es) = ap (λ l. e ∷ l) (pairs_back line es)

module _ (t : Table) where
  pairs_of_all : (ds : List Declaration) → map pair_of (flat_map (entered_by t) ds) ≡ given_by (declares t) ds
  pairs_of_all [] = refl
  pairs_of_all (x ∷ ds) = map-append pair_of (entered_by t x) (flat_map (entered_by t) ds) ∙ (λ i. pairs_back x.line (declares t x.what) i ++ pairs_of_all ds i)

  is_entered : (ds : List Declaration) (x : Declaration) (name : NameBytes) (meaning : Meaning) → Among ds x → Among (declares t x.what) (name, meaning) → Among (flat_map (entered_by t) ds) (entered_in_line x.line (name, meaning))
  is_entered ds x name meaning a b = in_pieces (entered_by t) ds x (entered_in_line x.line (name, meaning)) a (in_image (entered_in_line x.line) (declares t x.what) (name, meaning) b)

  -- a name that a declaration declares isn't declared by a later one as something that isn't of a set
  never_later : (before : List (NameBytes × Meaning)) (x y : Declaration) (ds : List Declaration) (name : NameBytes) (first second : Meaning) → clashes_after before (entered_by t x ++ flat_map (entered_by t) ds) ≡ [] →
      same_of_set second second ≡ false → Among (declares t x.what) (name, first) → Among ds y → Among (declares t y.what) (name, second) → ⊥
  never_later before x y ds name first second h alone a b c =
      let passed = before ++ map pair_of (entered_by t x) in
      let found = first_fits passed (flat_map (entered_by t) ds) (entered_in_line y.line (name, second)) (after_these before (entered_by t x) (flat_map (entered_by t) ds) h) (is_entered ds y name second b c) in
      let here = subst (λ (l : List (NameBytes × Meaning)). Among l (name, first)) (sym (pairs_back x.line (declares t x.what))) a in
      let known = has_value passed name first (in_right before (map pair_of (entered_by t x)) (name, first) here) in
      ⊎_elim
      (λ (r : (value_for passed name ≡ None) × (found.0 ≡ second)). none-some known.0 (sym r.0 ∙ known.1))
      (λ (r : same_of_set found.0 second ≡ true). both_ways (same_of_set found.0 second) (apart found.0 second alone) r)
      found.2

  only_one : (before : List (NameBytes × Meaning)) (ds : List Declaration) (x y : Declaration) (name : NameBytes) (first second : Meaning) → clashes_after before (flat_map (entered_by t) ds) ≡ [] →
      same_of_set first first ≡ false → same_of_set second second ≡ false → Among ds x → Among ds y → Among (declares t x.what) (name, first) → Among (declares t y.what) (name, second) → x ≡ y
  only_one before [] x y name first second h f g a b c d = absurd a
  only_one before (z ∷ ds) x y name first second h f g (inl a) (inl b) c d = sym a ∙ b
  only_one before (z ∷ ds) x y name first second h f g (inl a) (inr b) c d =
      absurd (never_later before z y ds name first second h g (subst (λ (w : Declaration). Among (declares t w.what) (name, first)) (sym a) c) b d)
  only_one before (z ∷ ds) x y name first second h f g (inr a) (inl b) c d =
      absurd (never_later before z x ds name second first h f (subst (λ (w : Declaration). Among (declares t w.what) (name, second)) (sym b) d) a c)
  only_one before (z ∷ ds) x y name first second h f g (inr a) (inr b) c d =
      only_one (before ++ map pair_of (entered_by t z)) ds x y name first second (after_these before (entered_by t z) (flat_map (entered_by t) ds) h) f g a b c d

-- ---- what is said again

-- what declarations say that may be said once, in the order of the text
abbrev pub onces : Table → List Declaration → List Once
onces t ds = flat_map (λ (x : Declaration). option_to_list (once_of t x.what)) ds

-- none of the second list is the same as one of the first, or as one before it
abbrev NeverAgain : List Once → List Once → Type 0
NeverAgain said more = Every (λ (a : Once). Every (λ (b : Once). same_once a b ≡ false) said) more × IsDistinct (λ (b a : Once). same_once a b) more

-- of what is apart from these and one more
all_fewer : (once : Once) (said more : List Once) → Every (λ (a : Once). Every (λ (b : Once). same_once a b ≡ false) (said ++ once ∷ [])) more →
    Every (λ (a : Once). Every (λ (b : Once). same_once a b ≡ false) said) more × Every (λ (a : Once). same_once a once ≡ false) more
all_fewer once said [] h = (tt, tt)
all_fewer once said (a ∷ more) h =
    let here = in_parts (λ (b : Once). same_once a b ≡ false) said (once ∷ []) h.0 in
    let rest = all_fewer once said more h.1 in
    ((here.0, rest.0), (here.1.0, rest.1))

said_anew : (t : Table) (said : List Once) (x : Declaration) (ds : List Declaration) (once : Once) (b : Bool) → is_among said once ≡ b →
    ((more : List Once) → repeats_after t more ds ≡ [] → NeverAgain more (onces t ds)) →
    option_to_list (cond b (Some (repeated_breach x.line x.what)) None) ++ repeats_after t (cond b said (said ++ once ∷ [])) ds ≡ [] → NeverAgain said (once ∷ onces t ds)
unfolding IsDistinct
said_anew t said x ds once true is next h = absurd cc
said_anew t said x ds once false is next h =
    let rest = next (said ++ once ∷ []) h in
    let parts = all_fewer once said (onces t ds) rest.0 in
    ((none_of_any (same_once once) said is, parts.0), (parts.1, rest.1))

said_next : (t : Table) (said : List Once) (x : Declaration) (ds : List Declaration) (o : Option Once) →
    ((more : List Once) → repeats_after t more ds ≡ [] → NeverAgain more (onces t ds)) →
    option_to_list (again said x.line x.what o) ++ repeats_after t (once_added said o) ds ≡ [] → NeverAgain said (option_to_list o ++ onces t ds)
said_next t said x ds None next h = next said h
said_next t said x ds (Some once) next h = said_anew t said x ds once (is_among said once) refl next h

never_again : (t : Table) (said : List Once) (ds : List Declaration) → repeats_after t said ds ≡ [] → NeverAgain said (onces t ds)
unfolding IsDistinct
never_again t said [] h = (tt, tt)
never_again t said (x ∷ ds) h = said_next t said x ds (once_of t x.what) (λ more. never_again t more ds) h

-- ---- a program that breaks no rule

module _ (p : ProgramTree) (kept : refusal_of_declarations p ≡ None) where
  parts : (map errors.Twice (clashes (declarations p)) ≡ []) × (repeats (table p) (declarations p) ≡ []) × (flat_map (declaration_breaches (table p)) (declarations p) ≡ []) × (misranked (table p) p.preamble ≡ []) × (unmoded (table p) p.sections ≡ [])
  parts =
      five_empty (map errors.Twice (clashes (declarations p))) (repeats (table p) (declarations p)) (flat_map (declaration_breaches (table p)) (declarations p))
      (misranked (table p) p.preamble) (unmoded (table p) p.sections)
      (nothing_found table_error_order (table_breaches (table p) (declarations p) p) kept)

  pub no_clash : clashes (declarations p) ≡ []
  no_clash = no_images errors.Twice (clashes (declarations p)) parts.0

  pub none_broken : Every (λ (x : Declaration). broken_by (table p) x ≡ None) (declarations p)
  none_broken = each_none (broken_by (table p)) (declarations p) parts.2

  pub none_misranked : misranked (table p) p.preamble ≡ []
  none_misranked = parts.3

  pub none_unmoded : unmoded (table p) p.sections ≡ []
  none_unmoded = parts.4

  -- what may be said once is said once: of all such things, in the order of the text, none is the same as one before it
  pub said_once : IsDistinct (λ (b a : Once). same_once a b) (onces (table p) (declarations p))
  said_once = (never_again (table p) [] (declarations p) parts.1).1

  -- the first that a name means is what a declaration declares it as, or both are of one set
  pub first_meant : (x : Declaration) (name : NameBytes) (meaning : Meaning) → Among (declarations p) x → Among (declares (numbered (declarations p)) x.what) (name, meaning) →
      (first : Meaning) × (value_for (table p).meanings name ≡ Some first) × ((first ≡ meaning) ⊎ (same_of_set first meaning ≡ true))
  first_meant x name meaning a b =
      let ds = declarations p in
      let t = numbered ds in
      let found = first_fits [] (flat_map (entered_by t) ds) (entered_in_line x.line (name, meaning)) no_clash (is_entered t ds x name meaning a b) in (
        found.0,
        value_in_firsts (given_by (declares t) ds) name ∙ ap (λ (ms : List (NameBytes × Meaning)). value_for ms name) (sym (pairs_of_all t ds)) ∙ found.1,
        ⊎_elim (λ (r : (value_for {V = Meaning} [] name ≡ None) × (found.0 ≡ meaning)). inl r.1) inr found.2,
      )

  -- a name that is declared as something that isn't of a set means that
  pub meant : (x : Declaration) (name : NameBytes) (meaning : Meaning) → same_of_set meaning meaning ≡ false → Among (declarations p) x → Among (declares (numbered (declarations p)) x.what) (name, meaning) → value_for (table p).meanings name ≡ Some meaning
  meant x name meaning alone a b =
      let found = first_meant x name meaning a b in
      let same : found.0 ≡ meaning =
      ⊎_elim (λ (it : found.0 ≡ meaning). it) (λ (alike : same_of_set found.0 meaning ≡ true). absurd (both_ways (same_of_set found.0 meaning) (apart found.0 meaning alone) alike)) found.2 in
      found.1 ∙ ap Some same

  -- and no other declaration declares it
  pub declared_once : (x y : Declaration) (name : NameBytes) (first second : Meaning) → same_of_set first first ≡ false → same_of_set second second ≡ false → Among (declarations p) x → Among (declarations p) y →
      Among (declares (numbered (declarations p)) x.what) (name, first) → Among (declares (numbered (declarations p)) y.what) (name, second) → x ≡ y
  declared_once x y name first second = only_one (numbered (declarations p)) [] (declarations p) x y name first second no_clash
