-- Stores that fit a program: their variables, and what becomes of the world.
use Rattle.std.proofs.Common.{arith, inl, inr, ◌⊎◌, ◌≡◌, ℕ, zero, suc, ◌+◌, ◌<◌, Bool, true, false, List, [], ◌∷◌, ◌++◌, Some, Ok, Err, ℤ, pos, negsuc, refl, sym, ap, ◌∙◌, subst}
use Rattle.ss_meaning.proofs.Common.{Alpha, AreOfModes, Class, ClassKind, Column, Decides-int_eq, eqb-false, eqb-true, Has, HasAllHistories, HasHistories, int_eq, Integer, IsFittingHeap, IsFittingStore, IsIndex, IsLiving, IsLivingAs, IsLivingOwner, IsNotice, IsSubjectOwner, kind_of, le-leb, made, Mode, mode_of, Notice, Owner, Permanent, Program, put_at, same_mode, State, Statistic, Store, Subject, System, Temporary, TypeError, Value, with_heap, with_histories}
use Rattle.std.proofs.Math.Dec.{leb}
use Rattle.std.specs.Prelude.{slice_get, ◌==◌, ◌&&◌, int_le, if◌then◌else◌}
use Rattle.ss_meaning.specs.Histories.{home, starting, started, all_started, all_noting, noted}
use Rattle.ss_meaning.proofs.Fine.{Fine, There, fine_turned}
use Rattle.ss_meaning.proofs.Lists.{every_weaker}
use Rattle.ss_meaning.proofs.Heaps.{Same, Created, Filled}
use Rattle.ss_meaning.proofs.Kept.{KeepsColumn, KeepsAll, keeps_same, kept_on, Noteworthy, AreThere, all_noting_fine, starting_kept, lived, fit_same}

-- ## Modes

pub same_is : (m : Mode) → same_mode m m ≡ true
same_is Integer = refl
same_is Alpha = refl

pub held_there : (vs : List Value) (ms : List Mode) (k : ℕ) (m : Mode) → AreOfModes vs ms → slice_get ms k ≡ Some m → There (λ v. mode_of v ≡ m) (slice_get vs k)
held_there vs [] k m h q = absurd cc
held_there [] (n ∷ ms) k m h q = absurd cc
held_there (v ∷ vs) (n ∷ ms) zero m h q = cc
held_there (v ∷ vs) (n ∷ ms) (suc k) m h q = let rest : AreOfModes vs ms = cc in held_there vs ms k m rest q

pub put_at_fine : (vs : List Value) (ms : List Mode) (k : ℕ) (m : Mode) (v : Value) → AreOfModes vs ms → slice_get ms k ≡ Some m → mode_of v ≡ m → Fine (λ us. AreOfModes us ms) (put_at vs k v)
put_at_fine vs [] k m v h q g = absurd cc
put_at_fine [] (n ∷ ms) k m v h q g = absurd cc
put_at_fine (w ∷ vs) (n ∷ ms) zero m v h q g =
    let same : mode_of v ≡ mode_of w = cc in
    let all : AreOfModes (v ∷ vs) (n ∷ ms) = cc in
    subst (λ b. Fine (λ us. AreOfModes us (n ∷ ms)) (if b then Ok (v ∷ vs) else Err TypeError)) (sym (ap (λ m. same_mode m (mode_of w)) same ∙ same_is (mode_of w))) all
put_at_fine (w ∷ vs) (n ∷ ms) (suc k) m v h q g =
    let rest : AreOfModes vs ms = cc in
    let here : mode_of w ≡ n = cc in
    fine_turned (λ us. AreOfModes us (n ∷ ms)) (λ us. w ∷ us) (put_at vs k v) (put_at_fine vs ms k m v rest q g) (λ us p. let all : AreOfModes (w ∷ us) (n ∷ ms) = cc in all)

-- ## The world

-- a notice that lives goes on to live
pub notice_same : (h t : State) (x : ℤ) → Same h t → IsNotice h x → IsNotice t x
notice_same h t x same n = (n.0, same.living x ∙ n.1, ap (λ l. kind_of l n.0) same.layout ∙ n.2)

pub heap_fits : (p : Program) (ms : List Mode) (s : Store) (h : State) → IsFittingStore p ms s → IsFittingHeap h × Same s.world.heap h → IsFittingStore p ms (with_heap s h)
heap_fits p ms s h f g = record {
  sound = record {
    globals = f.sound.globals;
    world = record {
      setting = f.sound.world.setting;
      layout = g.1.layout ∙ f.sound.world.layout;
      heap = g.0;
      pending = every_weaker (λ e. IsNotice s.world.heap e.notice) (λ e. IsNotice h e.notice) s.world.pending.entries f.sound.world.pending (λ e n. notice_same s.world.heap h e.notice g.1 n);
      histories = fit_same p.statistics s.world.heap h s.world.histories s.world.histories g.1 (keeps_same s.world.histories) f.sound.world.histories;
    };
  };
  locals = f.locals;
}

pub histories_fit : (p : Program) (ms : List Mode) (s : Store) (ks : List Column) → IsFittingStore p ms s → HasAllHistories p.statistics s.world.heap ks → IsFittingStore p ms (with_histories s ks)
histories_fit p ms s ks f g = record {
  sound = record {
    globals = f.sound.globals;
    world = record { setting = f.sound.world.setting; layout = f.sound.world.layout; heap = f.sound.world.heap; pending = f.sound.world.pending; histories = g };
  };
  locals = f.locals;
}

pub kept_fit : (p : Program) (ms : List Mode) (s : Store) (ks : List Column) → IsFittingStore p ms s → KeepsAll s.world.histories ks → IsFittingStore p ms (with_histories s ks)
kept_fit p ms s ks f g = histories_fit p ms s ks f (λ j t q. kept_on j s.world.histories ks (IsSubjectOwner s.world.heap t.subject) g (f.sound.world.histories j t q))

pub statistics_are : (p : Program) (ms : List Mode) (s : Store) → IsFittingStore p ms s → s.world.setting.statistics ≡ p.statistics
statistics_are p ms s f = ap (λ t. t.statistics) f.sound.world.setting

-- what lives goes on to live
pub lives_on : (h t : State) (c : ℕ) (x : ℤ) → Same h t → IsLiving h c x → IsLiving t c x
lives_on h t c x same g = lived t h c x (sym same.layout) (λ e. same.living x ∙ e) (sym (same.made c)) g

all_there : (ss : List Statistic) (h : State) (cs : List Column) (subject : Subject) (x : ℤ) → HasAllHistories ss h cs → IsSubjectOwner h subject x → AreThere ss subject x cs
all_there ss h cs subject x fit b j t q = (k.0, k.1, λ e. k.2 x (subst (λ u. IsSubjectOwner h u x) (sym e) b))
  where
    k : HasHistories j cs (IsSubjectOwner h t.subject)
    k = fit j t q

pub noted_fine : (p : Program) (ms : List Mode) (subject : Subject) (x : ℤ) (v : Value) (s : Store) → Noteworthy p.statistics subject v → IsSubjectOwner s.world.heap subject x → IsFittingStore p ms s → Fine (IsFittingStore p ms) (noted subject x v s)
noted_fine p ms subject x v s h b f =
    fine_turned (IsFittingStore p ms) (with_histories s) (all_noting subject x s.world.time v s.world.setting.statistics s.world.histories)
    (all_noting_fine subject x s.world.time v s.world.setting.statistics s.world.histories (subst (λ ss. Noteworthy ss subject v) (sym (statistics_are p ms s f)) h)
    (subst (λ ss. AreThere ss subject x s.world.histories) (sym (statistics_are p ms s f)) (all_there p.statistics s.world.heap s.world.histories subject x f.sound.world.histories b)))
    (λ ks g. kept_fit p ms s ks f g)

-- ## Entities that come into being

lives_new : (k : ClassKind) (h : State) (class : ℕ) (b : ℤ × State) (c : ℕ) (x : ℤ) → Created h class b → IsLivingAs k b.1 c x → IsLivingAs k h c x ⊎ ((x ≡ b.0) × (class ≡ c))
lives_new Permanent h class b c x new g = inl (subst (λ n. IsIndex n x) (new.made c) g)
lives_new Temporary h class b c x new g = new.no_other x c g
lives_new Notice h class b c x new g = new.no_other x c g

bears_new : (o : Owner) (h : State) (class : ℕ) (b : ℤ × State) (x : ℤ) → Created h class b → IsLivingOwner o b.1 x → IsLivingOwner o h x ⊎ ((x ≡ b.0) × (o ≡ Class class))
bears_new System h class b x new g = inl g
bears_new (Class c) h class b x new g = by (lives_new (kind_of h.layout c) h class b c x new (subst (λ l. IsLivingAs (kind_of l c) b.1 c x) new.layout g))
  where
    by : IsLivingAs (kind_of h.layout c) h c x ⊎ ((x ≡ b.0) × (class ≡ c)) → IsLivingOwner (Class c) h x ⊎ ((x ≡ b.0) × (Class c ≡ Class class))
    by (inl q) = inl q
    by (inr q) = inr (q.0, ap Class (sym q.1))

fit_created : (ss : List Statistic) (h : State) (class : ℕ) (b : ℤ × State) (now : ℤ) (cs : List Column) → Created h class b → HasAllHistories ss h cs → HasAllHistories ss b.1 (starting b.1.layout (Class class) (int_eq b.0) now ss cs)
fit_created ss h class b now cs new fit j t q = (d.0, d.1, λ x g. by x (bears_new (home b.1.layout t.subject) h class b x new g))
  where
    k : HasHistories j cs (IsSubjectOwner h t.subject)
    k = fit j t q

    d : (d : Column) × (slice_get (starting b.1.layout (Class class) (int_eq b.0) now ss cs) j ≡ Some d) × KeepsColumn k.0 d × ((x : ℤ) → home b.1.layout t.subject ≡ Class class → int_eq b.0 x ≡ true → Has d x)
    d = starting_kept b.1.layout (Class class) (int_eq b.0) now ss cs j t k.0 q k.1

    by : (x : ℤ) → IsLivingOwner (home b.1.layout t.subject) h x ⊎ ((x ≡ b.0) × (home b.1.layout t.subject ≡ Class class)) → Has d.0 x
    by x (inl r) = d.2 x (k.2 x (subst (λ l. IsLivingOwner (home l t.subject) h x) new.layout r))
    by x (inr r) = d.3 x r.1 ((Decides-int_eq b.0 x).1 (sym r.0))

-- a store with a new entity fits
pub created_fits : (p : Program) (ms : List Mode) (s : Store) (class : ℕ) (b : ℤ × State) → IsFittingStore p ms s → Created s.world.heap class b → IsFittingStore p ms (started (Class class) b.0 (with_heap s b.1))
created_fits p ms s class b f new = record {
  sound = record {
    globals = f.sound.globals;
    world = record {
      setting = f.sound.world.setting;
      layout = new.layout ∙ f.sound.world.layout;
      heap = new.fits;
      pending = every_weaker (λ e. IsNotice s.world.heap e.notice) (λ e. IsNotice b.1 e.notice) s.world.pending.entries f.sound.world.pending (λ e n. (n.0, new.kept e.notice n.0 n.1, ap (λ l. kind_of l n.0) new.layout ∙ n.2));
      histories =
          subst (λ ss. HasAllHistories p.statistics b.1 (starting b.1.layout (Class class) (int_eq b.0) s.world.time ss s.world.histories)) (sym (statistics_are p ms s f))
          (fit_created p.statistics s.world.heap class b s.world.time s.world.histories new f.sound.world.histories);
    };
  };
  locals = f.locals;
}

-- ## All entities of a permanent class

-- which entities there are of so many
abbrev is_within : ℕ → ℤ → Bool
is_within n x = int_le (pos 1) x && int_le x (pos n)

within : (n : ℕ) (x : ℤ) → IsIndex n x → is_within n x ≡ true
within n (pos zero) g = absurd g
within n (pos (suc i)) g = ap (λ b. b && leb (suc i) n) (le-leb 1 (suc i) (omega arith)) ∙ le-leb (suc i) n g
within n (negsuc k) g = absurd g

lives_filled : (k : ClassKind) (h t : State) (class c : ℕ) (x : ℤ) → Filled h class t → IsLivingAs k t c x → IsLivingAs k h c x ⊎ ((class ≡ c) × IsIndex (made t class) x)
lives_filled Permanent h t class c x new g = by (class == c) refl
  where
    by : (b : Bool) → (class == c) ≡ b → IsIndex (made h c) x ⊎ ((class ≡ c) × IsIndex (made t class) x)
    by true e = inr (eqb-true class c e, subst (λ d. IsIndex (made t d) x) (sym (eqb-true class c e)) g)
    by false e = inl (subst (λ n. IsIndex n x) (new.others c (eqb-false class c e)) g)
lives_filled Temporary h t class c x new g = inl (sym (new.living x) ∙ g)
lives_filled Notice h t class c x new g = inl (sym (new.living x) ∙ g)

bears_filled : (o : Owner) (h t : State) (class : ℕ) (x : ℤ) → Filled h class t → IsLivingOwner o t x → IsLivingOwner o h x ⊎ ((o ≡ Class class) × IsIndex (made t class) x)
bears_filled System h t class x new g = inl g
bears_filled (Class c) h t class x new g = by (lives_filled (kind_of h.layout c) h t class c x new (subst (λ l. IsLivingAs (kind_of l c) t c x) new.layout g))
  where
    by : IsLivingAs (kind_of h.layout c) h c x ⊎ ((class ≡ c) × IsIndex (made t class) x) → IsLivingOwner (Class c) h x ⊎ ((Class c ≡ Class class) × IsIndex (made t class) x)
    by (inl q) = inl q
    by (inr q) = inr (ap Class (sym q.0), q.1)

-- a store with all entities of a class fits
pub filled_fits : (p : Program) (ms : List Mode) (s : Store) (class : ℕ) (t : State) → IsFittingStore p ms s → Filled s.world.heap class t → IsFittingStore p ms (all_started class (made t class) (with_heap s t))
filled_fits p ms s class t f new = all
  where
    ks : List Column
    ks = (all_started class (made t class) (with_heap s t)).world.histories

    fit : HasAllHistories p.statistics t ks
    fit j u q = (d.0, d.1, λ x g. by x (bears_filled (home t.layout u.subject) s.world.heap t class x new g))
      where
        k : HasHistories j s.world.histories (IsSubjectOwner s.world.heap u.subject)
        k = f.sound.world.histories j u q

        d : (d : Column) × (slice_get ks j ≡ Some d) × KeepsColumn k.0 d × ((x : ℤ) → home t.layout u.subject ≡ Class class → is_within (made t class) x ≡ true → Has d x)
        d = starting_kept t.layout (Class class) (is_within (made t class)) s.world.time s.world.setting.statistics s.world.histories j u k.0 (ap (λ ss. slice_get ss j) (statistics_are p ms s f) ∙ q) k.1

        by : (x : ℤ) → IsLivingOwner (home t.layout u.subject) s.world.heap x ⊎ ((home t.layout u.subject ≡ Class class) × IsIndex (made t class) x) → Has d.0 x
        by x (inl r) = d.2 x (k.2 x (subst (λ l. IsLivingOwner (home l u.subject) s.world.heap x) new.layout r))
        by x (inr r) = d.3 x r.0 (within (made t class) x r.1)

    all : IsFittingStore p ms (with_histories (with_heap s t) ks)
    all = record {
      sound = record {
        globals = f.sound.globals;
        world = record {
          setting = f.sound.world.setting;
          layout = new.layout ∙ f.sound.world.layout;
          heap = new.fits;
          pending = every_weaker (λ e. IsNotice s.world.heap e.notice) (λ e. IsNotice t e.notice) s.world.pending.entries f.sound.world.pending (λ e n. (n.0, new.living e.notice ∙ n.1, ap (λ l. kind_of l n.0) new.layout ∙ n.2));
          histories = fit;
        };
      };
      locals = f.locals;
    }
