-- The parts of a layout that is there.
use Rattle.std.proofs.Common.{◌≡◌, ℕ, suc, List, [], ◌∷◌, length, get_or, slice_get, Option, Some, sym, ap, ◌∙◌, true, subst}
use Rattle.ss_names_laws.proofs.Common.{class_layout, cond_some, counts, disciplines, layout, mode_of_attribute, PlainClass, PlainLayout, resolved_layout, resolved_statistic, ResolvedLayout, same_Some, Set, set_layout, SetLayout, Statistic, statistics, Table, values_of}
use Rattle.ss_names_meaning.specs.Answers.{upto, ◌>>=◌, each}
use Rattle.ss_base.specs.Layout.{is_layout, is_sound}
use Rattle.std.proofs.lemmas.Bool.{and_parts}
use Rattle.ss_names_laws.proofs.Steps.{got, got_two, upto_length}

pub each_length : {A B : Type 0} (step : A → Option B) (xs : List A) (ys : List B) → each step xs ≡ Some ys → length ys ≡ length xs
unfolding each
each_length step [] ys e = ap length (sym (same_Some [] ys e))
each_length step (x ∷ xs) ys e =
    let p = got_two (step x) (each step xs) (λ z zs. z ∷ zs) ys e in
    ap length (sym p.4) ∙ ap suc (each_length step xs p.1 p.3)

-- there are as many results as numbers below the bound
pub numbers_length : {B : Type 0} (step : ℕ → Option B) (n : ℕ) (ys : List B) → each step (upto n) ≡ Some ys → length ys ≡ n
numbers_length step n ys e = each_length step (upto n) ys e ∙ upto_length n

-- the owner and the class of the members of a set that is laid out
pub set_parts : (known : Set) (laid : SetLayout) → set_layout known ≡ Some laid → (known.owner ≡ Some laid.owner) × (known.member ≡ Some laid.member)
set_parts known laid e =
    let p = got_two {C = SetLayout} known.owner known.member (λ owner member. record { owner = owner; member = member }) laid e in
    (p.2 ∙ ap (λ (l : SetLayout). Some l.owner) p.4, p.3 ∙ ap (λ (l : SetLayout). Some l.member) p.4)

module _ (t : Table) where
  -- what the layout of the table is made of
  pub record IsMadeOf (x : ResolvedLayout) : Type 0 where
    pub are_classes : each (class_layout t) (upto (length t.classes)) ≡ Some x.layout.classes
    pub are_sets : each set_layout t.sets ≡ Some x.layout.sets
    pub are_orders : disciplines t ≡ Some x.disciplines
    pub are_statistics : statistics t ≡ Some x.statistics
    pub are_globals : x.globals ≡ values_of t.variables
    pub are_counts : x.counts ≡ counts t
    pub sound : is_sound x.layout ≡ true

  pub parts_of : (x : ResolvedLayout) → resolved_layout t ≡ Some x → IsMadeOf x
  parts_of x h =
      let laid = got (layout t) _ x h in
      let orders = got (disciplines t) _ x laid.2 in
      let kept = got (statistics t) _ x orders.2 in
      let whole = same_Some _ x kept.2 in
      let classes = got (each (class_layout t) (upto (length t.classes))) _ laid.0 laid.1 in
      let sets = got (each set_layout t.sets) _ laid.0 classes.2 in
      let plain : PlainLayout = record { classes = classes.0; sets = sets.0 } in
      let made = cond_some (is_layout plain) plain laid.0 sets.2 in
      let same : plain ≡ x.layout = made.1 ∙ ap (λ (r : ResolvedLayout). r.layout) whole in
      record {
        are_classes = classes.1 ∙ ap (λ (l : PlainLayout). Some l.classes) same;
        are_sets = sets.1 ∙ ap (λ (l : PlainLayout). Some l.sets) same;
        are_orders = orders.1 ∙ ap (λ (r : ResolvedLayout). Some r.disciplines) whole;
        are_statistics = kept.1 ∙ ap (λ (r : ResolvedLayout). Some r.statistics) whole;
        are_globals = ap (λ (r : ResolvedLayout). r.globals) (sym whole);
        are_counts = ap (λ (r : ResolvedLayout). r.counts) (sym whole);
        sound = subst (λ l. is_sound l ≡ true) same (and_parts (is_sound plain) _ made.0).0;
      }

  -- a class of the layout
  pub class_parts : (n : ℕ) (c : PlainClass) → class_layout t n ≡ Some c → (slice_get (values_of t.classes) n ≡ Some c.kind) × (each (mode_of_attribute t) (get_or t.fields n []) ≡ Some c.fields)
  class_parts n c h =
      let p = got_two {C = PlainClass} (slice_get (values_of t.classes) n) (each (mode_of_attribute t) (get_or t.fields n [])) (λ kind modes. record { kind = kind; fields = modes }) c h in
      (p.2 ∙ ap (λ (x : PlainClass). Some x.kind) p.4, p.3 ∙ ap (λ (x : PlainClass). Some x.fields) p.4)

  -- the subject of a statistic
  pub subject_kept : (n : ℕ) (s : Statistic) → resolved_statistic t n ≡ Some s → slice_get t.subjects n ≡ Some (Some s.subject)
  subject_kept n s h =
      let weighting = got (slice_get (values_of t.histories) n) (λ weighting. slice_get t.subjects n >>= λ known. known >>= λ subject. Some (record { subject = subject; weighting = weighting })) s h in
      let known = got (slice_get t.subjects n) (λ known. known >>= λ subject. Some (record { subject = subject; weighting = weighting.0 })) s weighting.2 in
      let subject = got known.0 (λ subject. Some (record { subject = subject; weighting = weighting.0 })) s known.2 in
      known.1 ∙ ap Some (subject.1 ∙ ap (λ (x : Statistic). Some x.subject) (same_Some _ s subject.2))
