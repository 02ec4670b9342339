-- Histories: which are there, and that they stay.
use Rattle.std.proofs.Common.{arith, ◌≡◌, ℕ, zero, suc, ◌+◌, Bool, true, false, List, [], ◌∷◌, ◌++◌, Option, Some, None, Ok, ℤ, refl, sym, ap, ◌∙◌, subst}
use Rattle.ss_meaning.proofs.Common.{Class, ClassKind, Column, Decides-int_eq, eq-eqb, eqb-true, Has, HasAllHistories, HasHistories, int_eq, Integer, IsIndex, IsLiving, IsLivingAs, IsLivingOwner, IsSubjectOwner, kind_of, Layout, living, made, Notice, number_of, OfAttribute, OfCount, OfVariable, Owner, Permanent, State, Statistic, Subject, sure, System, Temporary, Text, turned, unless_fault, Value, Whole}
use Rattle.std.specs.Prelude.{slice_get, ◌==◌, ◌&&◌, if◌then◌else◌}
use Rattle.ss_base.specs.declared.fault.FaultKind.TheVariants.{Overflow}
use Rattle.ss_base.specs.Layout.{mode_of, same_owner}
use Rattle.ss_stats.specs.History.{History, is_full, with_noted_value, restarted}
use Rattle.ss_meaning.specs.Histories.{same_subject, home, at_start, begun_in, starting, ended_in, ending, with_history, noting_in, noting, all_noting, history_in, history_of_subject, renewed}
use Rattle.ss_meaning.proofs.Fine.{Fine, Any, fine_then, fine_turned, unless_fine}
use Rattle.ss_meaning.proofs.Heaps.{Same, Gone}

-- ## Histories that are there stay

-- what has a history in the one has one in the other
abbrev pub KeepsColumn : Column → Column → Type 0
KeepsColumn c d = (x : ℤ) → Has c x → Has d x

abbrev pub KeepsAll : List Column → List Column → Type 0
KeepsAll cs ds = (j : ℕ) (c : Column) → slice_get cs j ≡ Some c → (d : Column) × (slice_get ds j ≡ Some d) × KeepsColumn c d

pub keeps_same : (cs : List Column) → KeepsAll cs cs
keeps_same cs j c q = (c, q, λ x g. g)

keeps_cons : (c d : Column) (cs ds : List Column) → KeepsColumn c d → KeepsAll cs ds → KeepsAll (c ∷ cs) (d ∷ ds)
keeps_cons c d cs ds keep all zero e q = (d, refl, subst (λ b. KeepsColumn b d) same keep)
  where
    same : c ≡ e
    same = cc
keeps_cons c d cs ds keep all (suc j) e q = all j e q

pub kept_on : (j : ℕ) (cs ds : List Column) (these : ℤ → Type 0) → KeepsAll cs ds → HasHistories j cs these → HasHistories j ds these
kept_on j cs ds these keep k = (d.0, d.1, λ x g. d.2 x (k.2 x g))
  where
    d : (d : Column) × (slice_get ds j ≡ Some d) × KeepsColumn k.0 d
    d = keep j k.0 k.1

history_keeps : (x : ℤ) (h : History) (c : Column) → KeepsColumn c (with_history x h c)
history_keeps x h c y g = by (int_eq x y) g
  where
    by : (b : Bool) → Has c y → (k : History) × ((if b then Some h else c y) ≡ Some k)
    by true a = (h, refl)
    by false a = a

-- ## Values that are noted

pub same_subject_is : (a b : Subject) → same_subject a b ≡ true → a ≡ b
same_subject_is (OfVariable k) (OfVariable j) q = ap OfVariable (eqb-true k j q)
same_subject_is (OfVariable k) (OfAttribute d g) q = absurd cc
same_subject_is (OfVariable k) (OfCount t) q = absurd cc
same_subject_is (OfAttribute c f) (OfVariable j) q = absurd cc
same_subject_is (OfAttribute c f) (OfAttribute d g) q = by (c == d) refl q
  where
    by : (b : Bool) → (c == d) ≡ b → (b && (f == g)) ≡ true → OfAttribute c f ≡ OfAttribute d g
    by true p r = ap (λ n. OfAttribute n f) (eqb-true c d p) ∙ ap (λ n. OfAttribute d n) (eqb-true f g r)
    by false p r = absurd cc
same_subject_is (OfAttribute c f) (OfCount t) q = absurd cc
same_subject_is (OfCount s) (OfVariable j) q = absurd cc
same_subject_is (OfCount s) (OfAttribute d g) q = absurd cc
same_subject_is (OfCount s) (OfCount t) q = ap OfCount (eqb-true s t q)

-- a value that statistics of a subject may note
abbrev pub Noteworthy : List Statistic → Subject → Value → Type 0
Noteworthy ss subject v = (j : ℕ) (t : Statistic) → slice_get ss j ≡ Some t → t.subject ≡ subject → mode_of v ≡ Integer

pub number_fine : (v : Value) → mode_of v ≡ Integer → Fine Any (number_of v)
number_fine (Whole z) q = tt
number_fine (Text t) q = absurd cc

-- the histories of statistics are there, and those of a subject have one of an entity
abbrev pub AreThere : List Statistic → Subject → ℤ → List Column → Type 0
AreThere ss subject x cs = (j : ℕ) (t : Statistic) → slice_get ss j ≡ Some t → (c : Column) × (slice_get cs j ≡ Some c) × (t.subject ≡ subject → Has c x)

noting_fine : (x now : ℤ) (v : Value) (c : Column) → mode_of v ≡ Integer → Has c x → Fine (KeepsColumn c) (noting x now v c)
noting_fine x now v c q g = subst (λ o. Fine (KeepsColumn c) (noting_in x now v o c)) (sym g.1) (by g.0)
  where
    by : (h : History) → Fine (KeepsColumn c) (noting_in x now v (Some h) c)
    by h =
        fine_then (KeepsColumn c) (number_of v) (λ z. unless_fault (is_full h) Overflow (Ok (with_history x (with_noted_value h now z) c))) (number_fine v q) (λ z u.
        unless_fine (KeepsColumn c) (is_full h) Overflow (Ok (with_history x (with_noted_value h now z) c)) (λ p. history_keeps x (with_noted_value h now z) c))

none_there : (c : Column) → slice_get [] zero ≡ Some c → ⊥
none_there c q = absurd cc

pub all_noting_fine : (subject : Subject) (x now : ℤ) (v : Value) (ss : List Statistic) (cs : List Column) → Noteworthy ss subject v → AreThere ss subject x cs → Fine (KeepsAll cs) (all_noting subject x now v ss cs)
all_noting_fine subject x now v [] cs h there = keeps_same cs
all_noting_fine subject x now v (s ∷ ss) [] h there = none_there (there zero s refl).0 (there zero s refl).1
all_noting_fine subject x now v (s ∷ ss) (c ∷ cs) h there =
    fine_then (KeepsAll (c ∷ cs)) (if same_subject s.subject subject then noting x now v c else Ok c) (λ d. turned (λ ds. d ∷ ds) (all_noting subject x now v ss cs)) (by (same_subject s.subject subject) refl) (λ d g.
    fine_turned (KeepsAll (c ∷ cs)) (λ ds. d ∷ ds) (all_noting subject x now v ss cs) (all_noting_fine subject x now v ss cs (λ j t q. h (suc j) t q) (λ j t q. there (suc j) t q)) (λ ds later. keeps_cons c d cs ds g later))
  where
    has : (d : Column) → Some c ≡ Some d → Has d x → Has c x
    has d q g = subst (λ b. Has b x) (sym same) g
      where
        same : c ≡ d
        same = cc

    by : (b : Bool) → same_subject s.subject subject ≡ b → Fine (KeepsColumn c) (if b then noting x now v c else Ok c)
    by true q =
        let same : s.subject ≡ subject = same_subject_is s.subject subject q in
        noting_fine x now v c (h zero s refl same) (has (there zero s refl).0 (there zero s refl).1 ((there zero s refl).2 same))
    by false q = λ y g. g

pub history_fine : (j : ℕ) (x : ℤ) (cs : List Column) (these : ℤ → Type 0) → HasHistories j cs these → these x → Fine Any (history_of_subject j x cs)
history_fine j x cs these k g =
    subst (λ o. Fine Any (history_in o x)) (sym k.1) (subst (λ o. Fine Any (sure o)) (sym (k.2 x g).1) tt)

pub renewed_fine : (j : ℕ) (x now z : ℤ) (cs : List Column) (these : ℤ → Type 0) → HasHistories j cs these → these x → Fine (KeepsAll cs) (renewed j x now z cs)
renewed_fine j x now z [] these k g = absurd (by k.1)
  where
    by : slice_get [] j ≡ Some k.0 → ⊥
    by q = absurd cc
renewed_fine zero x now z (c ∷ cs) these k g =
    fine_turned (KeepsAll (c ∷ cs)) (λ h. with_history x (restarted h now z) c ∷ cs) (sure (c x)) (there k.1) (λ h u.
    keeps_cons c (with_history x (restarted h now z) c) cs cs (history_keeps x (restarted h now z) c) (keeps_same cs))
  where
    there : Some c ≡ Some k.0 → Fine Any (sure (c x))
    there q = subst (λ (b : Column). Fine Any (sure (b x))) (sym same) (subst (λ o. Fine Any (sure o)) (sym (k.2 x g).1) tt)
      where
        same : c ≡ k.0
        same = cc
renewed_fine (suc j) x now z (c ∷ cs) these k g =
    fine_turned (KeepsAll (c ∷ cs)) (λ ds. c ∷ ds) (renewed j x now z cs) (renewed_fine j x now z cs these k g) (λ ds p. keeps_cons c c cs ds (λ y a. a) p)

-- ## Histories that start

same_owner_refl : (o : Owner) → same_owner o o ≡ true
same_owner_refl System = refl
same_owner_refl (Class c) = eq-eqb c c refl

same_owner_is : (a b : Owner) → same_owner a b ≡ true → a ≡ b
same_owner_is System System q = refl
same_owner_is System (Class d) q = absurd cc
same_owner_is (Class c) System q = absurd cc
same_owner_is (Class c) (Class d) q = ap Class (eqb-true c d q)

begun_has : (here : ℤ → Bool) (h : History) (c : Column) (b : Bool) → KeepsColumn c (if b then begun_in here h c else c)
begun_has here h c true x g = by (here x) g
  where
    by : (b : Bool) → Has c x → (k : History) × ((if b then Some h else c x) ≡ Some k)
    by true a = (h, refl)
    by false a = a
begun_has here h c false x g = g

-- the histories of a statistic, with those that start
pub starting_kept : (l : Layout) (whose : Owner) (here : ℤ → Bool) (now : ℤ) (ss : List Statistic) (cs : List Column) (j : ℕ) (t : Statistic) (c : Column)
    → slice_get ss j ≡ Some t → slice_get cs j ≡ Some c
    → (d : Column) × (slice_get (starting l whose here now ss cs) j ≡ Some d) × KeepsColumn c d × ((x : ℤ) → home l t.subject ≡ whose → here x ≡ true → Has d x)
starting_kept l whose here now [] cs j t c q r = absurd cc
starting_kept l whose here now (s ∷ ss) [] j t c q r = absurd cc
starting_kept l whose here now (s ∷ ss) (e ∷ cs) zero t c q r =
    (if same_owner (home l s.subject) whose then begun_in here (at_start s.weighting now) e else e, refl, subst (λ b. KeepsColumn b (if same_owner (home l s.subject) whose then begun_in here (at_start s.weighting now) e else e)) same (begun_has here (at_start s.weighting now) e (same_owner (home l s.subject) whose)), new)
  where
    there : s ≡ t
    there = cc

    same : e ≡ c
    same = cc

    new : (x : ℤ) → home l t.subject ≡ whose → here x ≡ true → Has (if same_owner (home l s.subject) whose then begun_in here (at_start s.weighting now) e else e) x
    new x h p =
        subst (λ b. Has (if b then begun_in here (at_start s.weighting now) e else e) x) (sym fits)
        (at_start s.weighting now, ap (λ b. if b then Some (at_start s.weighting now) else e x) p)
      where
        fits : same_owner (home l s.subject) whose ≡ true
        fits = ap (λ (y : Statistic). same_owner (home l y.subject) whose) there ∙ ap (λ o. same_owner o whose) h ∙ same_owner_refl whose
starting_kept l whose here now (s ∷ ss) (e ∷ cs) (suc j) t c q r = starting_kept l whose here now ss cs j t c q r

-- ## Histories that end

-- the histories of a statistic, without that of an entity that went
ending_kept : (l : Layout) (class : ℕ) (x : ℤ) (ss : List Statistic) (cs : List Column) (j : ℕ) (t : Statistic) (c : Column)
    → slice_get ss j ≡ Some t → slice_get cs j ≡ Some c
    → (d : Column) × (slice_get (ending l class x ss cs) j ≡ Some d) × ((y : ℤ) → (home l t.subject ≡ Class class → x ≡ y → ⊥) → Has c y → Has d y)
ending_kept l class x [] cs j t c q r = absurd cc
ending_kept l class x (s ∷ ss) [] j t c q r = absurd cc
ending_kept l class x (s ∷ ss) (e ∷ cs) zero t c q r =
    (if same_owner (home l s.subject) (Class class) then ended_in x e else e, refl, λ y apart g. by (same_owner (home l s.subject) (Class class)) refl y apart (subst (λ (b : Column). Has b y) (sym same) g))
  where
    there : s ≡ t
    there = cc

    same : e ≡ c
    same = cc

    by : (b : Bool) → same_owner (home l s.subject) (Class class) ≡ b → (y : ℤ) → (home l t.subject ≡ Class class → x ≡ y → ⊥) → Has e y → Has (if b then ended_in x e else e) y
    by true p y apart g = other (int_eq x y) refl
      where
        own : home l t.subject ≡ Class class
        own = ap (λ (u : Statistic). home l u.subject) (sym there) ∙ same_owner_is (home l s.subject) (Class class) p

        other : (b : Bool) → int_eq x y ≡ b → (k : History) × ((if b then None else e y) ≡ Some k)
        other true f = absurd (apart own ((Decides-int_eq x y).0 f))
        other false f = g
    by false p y apart g = g
ending_kept l class x (s ∷ ss) (e ∷ cs) (suc j) t c q r = ending_kept l class x ss cs j t c q r

-- ## Entities that live in two heaps

by_kind : (k : ClassKind) (h t : State) (c : ℕ) (x : ℤ) → (living t x ≡ Some c → living h x ≡ Some c) → made t c ≡ made h c → IsLivingAs k t c x → IsLivingAs k h c x
by_kind Permanent h t c x p q g = subst (λ n. IsIndex n x) q g
by_kind Temporary h t c x p q g = p g
by_kind Notice h t c x p q g = p g

-- what lives in t lived in h
pub lived : (h t : State) (c : ℕ) (x : ℤ) → t.layout ≡ h.layout → (living t x ≡ Some c → living h x ≡ Some c) → made t c ≡ made h c → IsLiving t c x → IsLiving h c x
lived h t c x l p q g = by_kind (kind_of h.layout c) h t c x p q (subst (λ m. IsLivingAs (kind_of m c) t c x) l g)

borne_by : (o : Owner) (h t : State) (x : ℤ) → ((c : ℕ) → IsLiving t c x → IsLiving h c x) → IsLivingOwner o t x → IsLivingOwner o h x
borne_by System h t x f g = g
borne_by (Class c) h t x f g = f c g

pub borne : (h t : State) (subject : Subject) (x : ℤ) → t.layout ≡ h.layout → ((c : ℕ) → IsLiving t c x → IsLiving h c x) → IsSubjectOwner t subject x → IsSubjectOwner h subject x
borne h t subject x l f g = borne_by (home h.layout subject) h t x f (subst (λ m. IsLivingOwner (home m subject) t x) l g)

-- histories that fit go on to fit
pub fit_on : (ss : List Statistic) (h t : State) (cs ds : List Column) → t.layout ≡ h.layout → ((c : ℕ) (x : ℤ) → IsLiving t c x → IsLiving h c x) → KeepsAll cs ds → HasAllHistories ss h cs → HasAllHistories ss t ds
fit_on ss h t cs ds l f keep fit j s q = (k.0, k.1, λ x g. k.2 x (borne h t s.subject x l (λ c. f c x) g))
  where
    k : HasHistories j ds (IsSubjectOwner h s.subject)
    k = kept_on j cs ds (IsSubjectOwner h s.subject) keep (fit j s q)

pub fit_same : (ss : List Statistic) (h t : State) (cs ds : List Column) → Same h t → KeepsAll cs ds → HasAllHistories ss h cs → HasAllHistories ss t ds
fit_same ss h t cs ds same keep fit = fit_on ss h t cs ds same.layout (λ c x. lived h t c x same.layout (λ g. sym (same.living x) ∙ g) (same.made c)) keep fit

single_lives : (k : ClassKind) (t : State) (class : ℕ) (y : ℤ) → (k ≡ Permanent → ⊥) → IsLivingAs k t class y → living t y ≡ Some class
single_lives Permanent t class y other g = absurd (other refl)
single_lives Temporary t class y other g = g
single_lives Notice t class y other g = g

pub fit_gone : (ss : List Statistic) (h t : State) (class : ℕ) (x : ℤ) (cs : List Column) → Gone h x t → (kind_of t.layout class ≡ Permanent → ⊥) → HasAllHistories ss h cs → HasAllHistories ss t (ending t.layout class x ss cs)
fit_gone ss h t class x cs gone single fit j s q =
    (e.0, e.1, λ y g. e.2 y (apart y g) (k.2 y (borne h t s.subject y gone.layout (λ c. lived h t c y gone.layout (gone.before y c) (gone.made c)) g)))
  where
    k : HasHistories j cs (IsSubjectOwner h s.subject)
    k = fit j s q

    e : (d : Column) × (slice_get (ending t.layout class x ss cs) j ≡ Some d) × ((y : ℤ) → (home t.layout s.subject ≡ Class class → x ≡ y → ⊥) → Has k.0 y → Has d y)
    e = ending_kept t.layout class x ss cs j s k.0 q k.1

    apart : (y : ℤ) → IsSubjectOwner t s.subject y → home t.layout s.subject ≡ Class class → x ≡ y → ⊥
    apart y g own same =
        gone.absent class (ap (living t) same ∙ single_lives (kind_of t.layout class) t class y single (subst (λ o. IsLivingOwner o t y) own g))
