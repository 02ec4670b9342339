-- The laws of a reader: it reads what is spelled, and all of it where the next tokens can't continue it.
use Rattle.std.proofs.Common.{◌≡◌, ℕ, suc, ◌+◌, ◌<◌, ◌≤◌, Bool, true, false, cond, ◌||◌, List, [], ◌∷◌, length, Option, Some, None, Ok, Err, refl, sym, ap, subst, ◌∙◌, arith, inl, inr, ◌⊎◌}
use Rattle.ss_parse_expressions.proofs.Common.{Line, openers, opens, Span, Token, TokenKind}
use Rattle.ss_parse_expressions.specs.declared.failure.ParseFault.TheVariants.{Syntax}
use Rattle.ss_parse_expressions.specs.Reading.{Reader, ◌>>=◌, Mark, kind_of_mark, is, begins, skip, expect, taken, found_then, seq, after_dropped, closed, apply, lined, maybe, maybe_list, flag, choose_reader, too_deep, comma, skip_comma}
use Rattle.ss_parse_expressions.specs.ReadWords.{done}
use Rattle.ss_parse_expressions.specs.Shapes.{Shape, ◌▷◌, nothing, never, either_shape, optional, provided, noise, perhaps, flagged, first_token_line}
use Rattle.ss_parse_expressions.proofs.Tools.{bind_ok, which, chosen, carry, or_false}
use Rattle.ss_parse_expressions.proofs.Marks.{token, Mark_is, is_true, is_itself, token_of, mark_begins, token_less, begins_mark, no_skip, mark_skips, skip_openers, In_table, taken_sound, taken_complete}
use Rattle.ss_parse_expressions.proofs.Depth.{Upto, upto_same, upto_bind, upto_if, Bounded, bounded_more, bounded_bind, bounded_if, bounded_opened}

-- The second reader has more levels. Where the first finds it too deep, k tokens at least open a level.
pub record Reads {A : Type 0} (k : ℕ) (read read' : Reader A) (S : A → Shape) (continues : List Token → Bool) : Type 0 where
  pub sound : (ts : List Token) (x : A) (rest : List Token) → read ts ≡ Ok (x, rest) → S x ts rest
  pub complete : (ts : List Token) (x : A) (rest : List Token) → S x ts rest → continues rest ≡ false → read ts ≡ Ok (x, rest)
  pub shorter : (ts : List Token) (x : A) (rest : List Token) → S x ts rest → length rest ≤ length ts
  pub under : (ts : List Token) → Upto (read ts) (read' ts)
  pub opening : (ts : List Token) → Bounded k (openers ts) (read ts)

-- no token continues this
abbrev pub continues_never : List Token → Bool
continues_never ts = false

-- ---- single tokens

-- a reader of one token that passes a test
module _ {P : Shape} {read : Reader (Unit {0})} (k : ℕ) (test : TokenKind → Bool) (none : read [] ≡ Err Syntax) (first : (t : Token) (ts : List Token) → read (t ∷ ts) ≡ cond (test t.kind) (Ok (tt, ts)) (Err Syntax)) (to : (t : Token) (ts : List Token) → test t.kind ≡ true → P (t ∷ ts) ts) (from : (ts rest : List Token) → P ts rest → (t : Token) × (test t.kind ≡ true) × (ts ≡ t ∷ rest)) where
  pub single_reads : Reads k read read (λ u. P) continues_never
  single_reads = record {
    sound = sound;
    complete = λ ts u rest s stop. let p = from ts rest s in ap read p.2 ∙ first p.0 rest ∙ rw p.1 refl;
    shorter = λ ts u rest s. omega (arith, ap length (from ts rest s).2);
    under = λ ts. upto_same _;
    opening = opening;
  }
    where
      sound : (ts : List Token) (u : Unit {0}) (rest : List Token) → read ts ≡ Ok (u, rest) → P ts rest
      sound [] u rest e = absurd cc
      sound (t ∷ ts) u rest e =
          elim (chosen (test t.kind) _ _ _ (sym (first t ts) ∙ e)) [
            | inl p ↦ carry (λ (u : Unit {0}) (r : List Token). P (t ∷ ts) r) tt u ts rest p.1 (to t ts p.0)
            | inr p ↦ let no = p.1 in absurd cc
          ]

      opening : (ts : List Token) → Bounded k (openers ts) (read ts)
      opening [] = rw none tt
      opening (t ∷ ts) = rw (first t ts) (elim (which (test t.kind)) [ inl p ↦ rw p (omega arith) | inr p ↦ rw p tt ])

pub expect_reads : (k : ℕ) (m : Mark) → Reads k (expect m) (expect m) (λ u. Mark_is m) continues_never
expect_reads k m = single_reads k (is m) refl (λ t ts. refl) (λ t ts e. token_of t ts (kind_of_mark m) (is_true m t.kind e)) (λ ts rest s. (token (kind_of_mark m) s.0 s.1, is_itself m, s.2))

pub taken_reads : {A : Type 0} (k : ℕ) (table : TokenKind → Option A) → Reads k (taken table) (taken table) (In_table table) continues_never
taken_reads {A = A} k table = record {
  sound = λ ts x rest e. taken_sound table ts rest x e;
  complete = λ ts x rest s stop. taken_complete table ts rest x s;
  shorter = λ ts x rest s. omega (arith, token_less s.0 ts rest s.2);
  under = λ ts. upto_same _;
  opening = opening;
}
  where
    go : (o : Option A) (n : ℕ) (ts : List Token) → Bounded k (n + openers ts) (found_then o ts)
    go None n ts = tt
    go (Some x) n ts = omega arith

    opening : (ts : List Token) → Bounded k (openers ts) (taken table ts)
    opening [] = tt
    opening (t ∷ ts) = go (table t.kind) (opens t.kind) ts

-- a reader that reads nothing
pub done_reads : {A : Type 0} (k : ℕ) (x : A) → Reads k (done x) (done x) (λ y. provided (x ≡ y) nothing) continues_never
done_reads {A = A} k x = record {
  sound = λ ts y rest e. carry (λ (y : A) (r : List Token). (x ≡ y) × (ts ≡ r)) x y ts rest e (refl, refl);
  complete = λ ts y rest s stop. λ i. Ok (s.0 i, s.1 i);
  shorter = λ ts y rest s. omega (arith, ap length s.1);
  under = λ ts. upto_same _;
  opening = λ ts. omega arith;
}

-- ---- a reader of a shape reads each equivalent shape

pub reshaped_reads : {A : Type 0} {k : ℕ} {r r' : Reader A} {S : A → Shape} {c : List Token → Bool} → Reads k r r' S c → (T : A → Shape) → ((x : A) (ts rest : List Token) → S x ts rest → T x ts rest) → ((x : A) (ts rest : List Token) → T x ts rest → S x ts rest) → Reads k r r' T c
reshaped_reads law T to from = record {
  sound = λ ts x rest e. to x ts rest (law.sound ts x rest e);
  complete = λ ts x rest s stop. law.complete ts x rest (from x ts rest s) stop;
  shorter = λ ts x rest s. law.shorter ts x rest (from x ts rest s);
  under = law.under;
  opening = law.opening;
}

-- a law for more tokens that may follow holds for fewer
pub fewer_reads : {A : Type 0} {k : ℕ} {r r' : Reader A} {S : A → Shape} {c : List Token → Bool} → Reads k r r' S c → (d : List Token → Bool) → ((ts : List Token) → d ts ≡ false → c ts ≡ false) → Reads k r r' S d
fewer_reads law d fewer = record { sound = law.sound; complete = λ ts x rest s stop. law.complete ts x rest s (fewer rest stop); shorter = law.shorter; under = law.under; opening = law.opening }

-- ---- a reader that depends on what was read before

module _ {A B : Type 0} {k : ℕ} {r r' : Reader A} {q q' : A → Reader B} {S : A → Shape} {T : A → B → Shape} {c d : List Token → Bool} (first : Reads k r r' S c) (second : (x : A) → Reads k (q x) (q' x) (T x) d) (stops : (x : A) (y : B) (ts rest : List Token) → T x y ts rest → d rest ≡ false → c ts ≡ false) where
  pub bind_reads : Reads k (λ ts. r ts >>= λ x. q x.0 x.1) (λ ts. r' ts >>= λ x. q' x.0 x.1) (λ y ts rest. (x : A) × (S x ▷ T x y) ts rest) d
  bind_reads = record {
    sound = λ ts y rest e.
        let x = bind_ok (r ts) _ _ e in
        (x.0.0, (x.0.1, first.sound ts x.0.0 x.0.1 x.1, (second x.0.0).sound x.0.1 y rest x.2));
    complete = λ ts y rest s stop.
        let a : r ts ≡ Ok (s.0, s.1.0) = first.complete ts s.0 s.1.0 s.1.1 (stops s.0 y s.1.0 rest s.1.2 stop) in
        rw a ((second s.0).complete s.1.0 y rest s.1.2 stop);
    shorter = λ ts y rest s. omega (arith, first.shorter ts s.0 s.1.0 s.1.1, (second s.0).shorter s.1.0 y rest s.1.2);
    under = λ ts. upto_bind _ _ _ _ (first.under ts) (λ x. (second x.0).under x.1);
    opening = λ ts. bounded_bind k (openers ts) (r ts) _ (first.opening ts) (λ x. (second x.0).opening x.1);
  }

-- ---- a function of what was read

pub apply_reads : {A B : Type 0} {k : ℕ} {r r' : Reader A} {S : A → Shape} {c : List Token → Bool} → Reads k r r' S c → (f : A → B) (T : B → Shape) → ((x : A) (ts rest : List Token) → S x ts rest → T (f x) ts rest) → ((y : B) (ts rest : List Token) → T y ts rest → (x : A) × (f x ≡ y) × S x ts rest) → Reads k (apply f r) (apply f r') T c
apply_reads {B = B} {k = k} {c = c} law f T to from =
    reshaped_reads (bind_reads law (λ x. fewer_reads (done_reads k (f x)) c (λ ts stop. refl)) (λ x y ts rest s stop. ap c s.1 ∙ stop)) T
    (λ y ts rest s. subst (λ (y : B). T y ts rest) s.1.2.0 (subst (λ (r : List Token). T (f s.0) ts r) s.1.2.1 (to s.0 ts s.1.0 s.1.1)))
    (λ y ts rest s. let x = from y ts rest s in (x.0, (rest, x.2, (x.1, refl))))

-- a value that f makes of one with this shape
abbrev pub Made : {A B : Type 0} → (A → B) → (A → Shape) → B → Shape
Made make P y ts rest = (x : _) × (make x ≡ y) × P x ts rest

pub made_reads : {A B : Type 0} {k : ℕ} {r r' : Reader A} {S : A → Shape} {c : List Token → Bool} → Reads k r r' S c → (f : A → B) → Reads k (apply f r) (apply f r') (Made f S) c
made_reads {S = S} law f = apply_reads law f (Made f S) (λ x ts rest s. (x, refl, s)) (λ y ts rest s. s)

-- ---- one after another

pub seq_reads : {A B : Type 0} {k : ℕ} {r r' : Reader A} {q q' : Reader B} {S : A → Shape} {T : B → Shape} {c d : List Token → Bool} → Reads k r r' S c → Reads k q q' T d → ((y : B) (ts rest : List Token) → T y ts rest → d rest ≡ false → c ts ≡ false) → Reads k (seq r q) (seq r' q') (λ p. S p.0 ▷ T p.1) d
seq_reads {A = A} {B = B} {S = S} {T = T} first second stops =
    reshaped_reads (bind_reads first (λ x. made_reads {B = A × B} second (λ y. (x, y))) (λ x p ts rest s stop. stops s.0 ts rest s.2 stop)) (λ p. S p.0 ▷ T p.1)
    (λ p ts rest s. subst (λ (p : A × B). (S p.0 ▷ T p.1) ts rest) s.1.2.1 (s.1.0, s.1.1, s.1.2.2)) (λ p ts rest s. (p.0, (s.0, s.1, (p.1, refl, s.2))))

pub following_reads : {A : Type 0} {k : ℕ} {r r' : Reader (Unit {0})} {q q' : Reader A} {P : Shape} {S : A → Shape} {c d : List Token → Bool} → Reads k r r' (λ u. P) c → Reads k q q' S d → ((x : A) (ts rest : List Token) → S x ts rest → d rest ≡ false → c ts ≡ false) → Reads k (after_dropped r q) (after_dropped r' q') (λ x. P ▷ S x) d
following_reads {P = P} {S = S} first second stops =
    reshaped_reads (bind_reads first (λ u. second) (λ u. stops)) (λ x. P ▷ S x) (λ x ts rest s. s.1) (λ x ts rest s. (tt, s))

pub closed_reads : {A : Type 0} {k : ℕ} {r r' : Reader A} {q q' : Reader (Unit {0})} {S : A → Shape} {P : Shape} {c d : List Token → Bool} → Reads k r r' S c → Reads k q q' (λ u. P) d → ((ts rest : List Token) → P ts rest → d rest ≡ false → c ts ≡ false) → Reads k (closed r q) (closed r' q') (λ x. S x ▷ P) d
closed_reads {A = A} {S = S} {P = P} first second stops =
    reshaped_reads (bind_reads first (λ x. made_reads second (λ (u : Unit {0}). x)) (λ x z ts rest s stop. stops ts rest s.2 stop)) (λ x. S x ▷ P)
    (λ z ts rest s. subst (λ (z : A). (S z ▷ P) ts rest) s.1.2.1 (s.1.0, s.1.1, s.1.2.2)) (λ z ts rest s. (z, (s.0, s.1, (tt, refl, s.2))))

-- a mark, and then what the reader reads
pub marked_reads : {A : Type 0} {k : ℕ} {q q' : Reader A} {S : A → Shape} {d : List Token → Bool} (m : Mark) → Reads k q q' S d → Reads k (after_dropped (expect m) q) (after_dropped (expect m) q') (λ x. Mark_is m ▷ S x) d
marked_reads {k = k} m second = following_reads (expect_reads k m) second (λ x ts rest s stop. refl)

-- what the reader reads, and then a mark
pub before_mark_reads : {A : Type 0} {k : ℕ} {r r' : Reader A} {S : A → Shape} {c : List Token → Bool} (m : Mark) → Reads k r r' S c → ((span : Span) (line : Line) (ts : List Token) → c (token (kind_of_mark m) span line ∷ ts) ≡ false) → Reads k (closed r (expect m)) (closed r' (expect m)) (λ x. S x ▷ Mark_is m) continues_never
before_mark_reads {k = k} {c = c} m first stops = closed_reads first (expect_reads k m) (λ ts rest s stop. ap c s.2 ∙ stops s.0 s.1 rest)

-- a mark that opens a level, and what is read with one level less
module _ {A : Type 0} {k : ℕ} {q q' : Reader A} {S : A → Shape} {d : List Token → Bool} (m : Mark) (opener : opens (kind_of_mark m) ≡ 1) (inside : Reads k q q' S d) where
  opened_bounded : (ts : List Token) → Bounded (suc k) (openers ts) (after_dropped (expect m) q ts)
  opened_bounded [] = tt
  opened_bounded (t ∷ ts) =
      elim (which (is m t.kind)) [
        | inl p ↦
            let kind : t.kind ≡ kind_of_mark m = is_true m t.kind p in
            rw p (bounded_opened k (openers ts) (openers (t ∷ ts)) (q ts) (omega (arith, ap opens kind)) (inside.opening ts))
        | inr p ↦ rw p tt
      ]

  pub opened_reads : Reads (suc k) (after_dropped (expect m) q) (after_dropped (expect m) q') (λ x. Mark_is m ▷ S x) d
  opened_reads =
      let law = marked_reads m inside in
      record { sound = law.sound; complete = law.complete; shorter = law.shorter; under = law.under; opening = opened_bounded }

-- ---- words in front that may be left out

-- Words that may be left out: `starts` says whether they are there, and `past` gives the tokens after them.
pub record Front (starts : List Token → Bool) (past : List Token → List Token) (P : Shape) : Type 0 where
  pub found : (ts : List Token) → starts ts ≡ true → P ts (past ts)
  pub kept : (ts : List Token) → starts ts ≡ false → past ts ≡ ts
  pub skips : (ts a : List Token) → P ts a → past ts ≡ a
  pub takes : (ts a : List Token) → P ts a → suc (length a) ≡ length ts
  pub opened : (ts : List Token) → openers (past ts) ≤ openers ts

pub mark_front : (m : Mark) → Front (begins m) (skip m) (Mark_is m)
mark_front m = record { found = begins_mark m; kept = no_skip m; skips = mark_skips m; takes = token_less (kind_of_mark m); opened = skip_openers m }

module _ {starts : List Token → Bool} {past : List Token → List Token} {P : Shape} (front : Front starts past P) where
  pub past_optional : (ts a : List Token) → optional P ts a → starts a ≡ false → past ts ≡ a
  past_optional ts a (inl e) none_there = ap past e ∙ front.kept a none_there
  past_optional ts a (inr w) none_there = front.skips ts a w

  pub optional_less : (ts a : List Token) → optional P ts a → length a ≤ length ts
  optional_less ts a (inl e) = omega (arith, ap length e)
  optional_less ts a (inr w) = omega (arith, front.takes ts a w)

  -- what follows doesn't begin with such words
  pub skipped_reads : {A : Type 0} {k : ℕ} {q q' : Reader A} {S : A → Shape} {d : List Token → Bool} → Reads k q q' S d → ((x : A) (ts rest : List Token) → S x ts rest → starts ts ≡ false) → Reads k (λ ts. q (past ts)) (λ ts. q' (past ts)) (λ x. optional P ▷ S x) d
  skipped_reads {k = k} {q = q} law first = record {
    sound = λ ts x rest e. (past ts, there ts, law.sound (past ts) x rest e);
    complete = λ ts x rest s stop. ap q (past_optional ts s.0 s.1 (first x s.0 rest s.2)) ∙ law.complete s.0 x rest s.2 stop;
    shorter = λ ts x rest s. omega (arith, optional_less ts s.0 s.1, law.shorter s.0 x rest s.2);
    under = λ ts. law.under (past ts);
    opening = λ ts. bounded_more k (openers (past ts)) (openers ts) (q (past ts)) (front.opened ts) (law.opening (past ts));
  }
    where
      there : (ts : List Token) → optional P ts (past ts)
      there ts = elim (which (starts ts)) [ inl p ↦ inr (front.found ts p) | inr p ↦ inl (sym (front.kept ts p)) ]

pub optional_reads : {A : Type 0} {k : ℕ} {q q' : Reader A} {S : A → Shape} {d : List Token → Bool} → Reads k q q' S d → (m : Mark) → ((x : A) (ts rest : List Token) → S x ts rest → begins m ts ≡ false) → Reads k (λ ts. q (skip m ts)) (λ ts. q' (skip m ts)) (λ x. optional (Mark_is m) ▷ S x) d
optional_reads law m first = skipped_reads (mark_front m) law first

-- ---- optional parts

-- The laws of a reader that is called only where `starts` holds. What it reads starts so and is not empty.
pub record Item {A : Type 0} (k : ℕ) (starts : List Token → Bool) (read read' : Reader A) (S : A → Shape) (continues : List Token → Bool) : Type 0 where
  pub sound : (ts : List Token) (x : A) (rest : List Token) → starts ts ≡ true → read ts ≡ Ok (x, rest) → S x ts rest
  pub complete : (ts : List Token) (x : A) (rest : List Token) → S x ts rest → continues rest ≡ false → read ts ≡ Ok (x, rest)
  pub begins : (ts : List Token) (x : A) (rest : List Token) → S x ts rest → starts ts ≡ true
  pub less : (ts : List Token) (x : A) (rest : List Token) → S x ts rest → length rest < length ts
  pub under : (ts : List Token) → Upto (read ts) (read' ts)
  pub opening : (ts : List Token) → Bounded k (openers ts) (read ts)

pub item_of : {A : Type 0} {k : ℕ} {r r' : Reader A} {S : A → Shape} {c : List Token → Bool} (starts : List Token → Bool) → Reads k r r' S c → ((ts : List Token) (x : A) (rest : List Token) → S x ts rest → starts ts ≡ true) → ((ts : List Token) (x : A) (rest : List Token) → S x ts rest → length rest < length ts) → Item k starts r r' S c
item_of starts law begins less = record { sound = λ ts x rest started e. law.sound ts x rest e; complete = law.complete; begins = begins; less = less; under = law.under; opening = law.opening }

-- an item that begins with a mark
pub item_marked : {A : Type 0} {k : ℕ} {q q' : Reader A} {S : A → Shape} {d : List Token → Bool} (m : Mark) → Reads k q q' S d → Item k (begins m) (after_dropped (expect m) q) (after_dropped (expect m) q') (λ x. Mark_is m ▷ S x) d
item_marked {S = S} m second =
    item_of (begins m) (marked_reads m second) (λ ts x rest s. mark_begins m ts s.0 s.1)
    (λ ts x rest s. omega (arith, token_less (kind_of_mark m) ts s.0 s.1, second.shorter s.0 x rest s.2))

-- an item that begins with a mark that opens a level
pub opened_item : {A : Type 0} {k : ℕ} {q q' : Reader A} {S : A → Shape} {d : List Token → Bool} (m : Mark) → opens (kind_of_mark m) ≡ 1 → Reads k q q' S d → Item (suc k) (begins m) (after_dropped (expect m) q) (after_dropped (expect m) q') (λ x. Mark_is m ▷ S x) d
opened_item m opener inside = let item = item_marked m inside in item_of (begins m) (opened_reads m opener inside) item.begins item.less

-- an item that may have a comma before it
module _ {A : Type 0} {k : ℕ} {q q' : Reader A} {S : A → Shape} {d : List Token → Bool} (law : Reads k q q' S d) (starts : List Token → Bool) (first : (ts : List Token) (x : A) (rest : List Token) → S x ts rest → starts ts ≡ true) (no_comma : (ts : List Token) → starts ts ≡ true → begins comma ts ≡ false) (less : (ts : List Token) (x : A) (rest : List Token) → S x ts rest → length rest < length ts) where
  pub noisy_item : Item k (λ ts. starts (skip_comma ts)) (λ ts. q (skip_comma ts)) (λ ts. q' (skip_comma ts)) (λ x. noise ▷ S x) d
  noisy_item = item_of (λ ts. starts (skip_comma ts)) (optional_reads law comma (λ x ts rest s. no_comma ts (first ts x rest s)))
      (λ ts x rest s. ap starts (past_optional (mark_front comma) ts s.0 s.1 (no_comma s.0 (first s.0 x rest s.2))) ∙ first s.0 x rest s.2)
      (λ ts x rest s. omega (arith, optional_less (mark_front comma) ts s.0 s.1, less s.0 x rest s.2))

-- an item whose mark is skipped before the reader is called
pub item_skipped : {A : Type 0} {k : ℕ} {q q' : Reader A} {S : A → Shape} {d : List Token → Bool} (m : Mark) → Reads k q q' S d → Item k (begins m) (λ r. q (skip m r)) (λ r. q' (skip m r)) (λ x. Mark_is m ▷ S x) d
item_skipped {k = k} {q = q} m law = record {
  sound = λ ts x rest started e. (skip m ts, begins_mark m ts started, law.sound (skip m ts) x rest e);
  complete = λ ts x rest s stop. ap q (mark_skips m ts s.0 s.1) ∙ law.complete s.0 x rest s.2 stop;
  begins = λ ts x rest s. mark_begins m ts s.0 s.1;
  less = λ ts x rest s. omega (arith, token_less (kind_of_mark m) ts s.0 s.1, law.shorter s.0 x rest s.2);
  under = λ ts. law.under (skip m ts);
  opening = λ ts. bounded_more k (openers (skip m ts)) (openers ts) (q (skip m ts)) (skip_openers m ts) (law.opening (skip m ts));
}

-- an item of which f makes a value
module _ {A B : Type 0} {k : ℕ} {starts : List Token → Bool} {r r' : Reader A} {S : A → Shape} {c : List Token → Bool} (law : Item k starts r r' S c) (f : A → B) where
  pub item_apply : Item k starts (apply f r) (apply f r') (Made f S) c
  item_apply = record {
    sound = λ ts y rest started e.
        let x = bind_ok (r ts) _ _ e in
        carry (λ (y : B) (z : List Token). Made f S y ts z) (f x.0.0) y x.0.1 rest x.2 (x.0.0, refl, law.sound ts x.0.0 x.0.1 started x.1);
    complete = λ ts y rest s stop.
        let a : r ts ≡ Ok (s.0, rest) = law.complete ts s.0 rest s.2 stop in
        rw a (ap (λ (z : B). Ok (z, rest)) s.1);
    begins = λ ts y rest s. law.begins ts s.0 rest s.2;
    less = λ ts y rest s. law.less ts s.0 rest s.2;
    under = λ ts. upto_bind _ _ _ _ (law.under ts) (λ x. upto_same _);
    opening = λ ts. bounded_bind k (openers ts) (r ts) _ (law.opening ts) (λ x. omega arith);
  }

-- ---- one of two readers, the second of which may read nothing

-- The second doesn't start as the first does, where the tokens after it can't continue it.
module _ {A : Type 0} {k : ℕ} {starts : List Token → Bool} {r r' q q' : Reader A} {S T : A → Shape} {c d : List Token → Bool} (first : Item k starts r r' S c) (second : Reads k q q' T d) (e : List Token → Bool) (fewer : (ts : List Token) → e ts ≡ false → (c ts ≡ false) × (d ts ≡ false)) (late : (x : A) (ts rest : List Token) → T x ts rest → e rest ≡ false → starts ts ≡ false) where
  pub either_reads : Reads k (choose_reader starts r q) (choose_reader starts r' q') (λ x. either_shape (S x) (T x)) e
  either_reads = record {
    sound = λ ts x rest is.
        elim (chosen (starts ts) _ _ _ is) [
          | inl p ↦ inl (first.sound ts x rest p.0 p.1)
          | inr p ↦ inr (second.sound ts x rest p.1)
        ];
    complete = λ ts x rest u stop.
        elim u [
          | inl s ↦
              let there : starts ts ≡ true = first.begins ts x rest s in
              rw there (first.complete ts x rest s (fewer rest stop).0)
          | inr t ↦
              let none : starts ts ≡ false = late x ts rest t stop in
              rw none (second.complete ts x rest t (fewer rest stop).1)
        ];
    shorter = λ ts x rest u. elim u [ inl s ↦ omega (arith, first.less ts x rest s) | inr t ↦ second.shorter ts x rest t ];
    under = λ ts. upto_if (starts ts) _ _ _ _ (first.under ts) (second.under ts);
    opening = λ ts. bounded_if k (openers ts) (starts ts) _ _ (first.opening ts) (second.opening ts);
  }

-- an item, or nothing where it isn't there
module _ {A : Type 0} {k : ℕ} {starts : List Token → Bool} {r r' : Reader A} {S : A → Shape} {c : List Token → Bool} (item : Item k starts r r' S c) (none : A) where
  pub item_or_none : Reads k (choose_reader starts r (done none)) (choose_reader starts r' (done none)) (λ x. either_shape (S x) (provided (none ≡ x) nothing)) (λ ts. starts ts || c ts)
  item_or_none =
      either_reads item (done_reads k none) (λ ts. starts ts || c ts) (λ ts stop. ((or_false (starts ts) (c ts) stop).1, refl))
      (λ x ts rest s stop. ap starts s.1 ∙ (or_false (starts rest) (c rest) stop).0)

pub maybe_reads : {A : Type 0} {k : ℕ} {starts : List Token → Bool} {r r' : Reader A} {S : A → Shape} {c : List Token → Bool} → Item k starts r r' S c → Reads k (maybe starts r) (maybe starts r') (perhaps S) (λ ts. starts ts || c ts)
maybe_reads {A = A} {S = S} item = reshaped_reads (item_or_none (item_apply item Some) None) (perhaps S) to from
  where
    to : (x : Option A) (ts rest : List Token) → either_shape (Made Some S x) (provided (None ≡ x) nothing) ts rest → perhaps S x ts rest
    to x ts rest (inl (y, is, s)) = subst (λ x. perhaps S x ts rest) is s
    to x ts rest (inr (is, s)) = subst (λ x. perhaps S x ts rest) is s

    from : (x : Option A) (ts rest : List Token) → perhaps S x ts rest → either_shape (Made Some S x) (provided (None ≡ x) nothing) ts rest
    from None ts rest s = inr (refl, s)
    from (Some y) ts rest s = inl (y, refl, s)

-- an optional list: where it is not there, it is empty and takes no token
pub maybe_list_reads : {A : Type 0} {k : ℕ} {starts : List Token → Bool} {r r' : Reader (List A)} {S T : List A → Shape} {c : List Token → Bool} → Item k starts r r' S c → ((xs : List A) (ts rest : List Token) → S xs ts rest → T xs ts rest) → ((xs : List A) (ts rest : List Token) → T xs ts rest → ((xs ≡ []) × (ts ≡ rest)) ⊎ S xs ts rest) → ((ts : List Token) → T [] ts ts) → Reads k (maybe_list starts r) (maybe_list starts r') T (λ ts. starts ts || c ts)
maybe_list_reads {A = A} {S = S} {T = T} item into from_some empty = reshaped_reads (item_or_none item []) T to from
  where
    to : (xs : List A) (ts rest : List Token) → either_shape (S xs) (provided ([] ≡ xs) nothing) ts rest → T xs ts rest
    to xs ts rest (inl s) = into xs ts rest s
    to xs ts rest (inr (is, e)) = subst (λ xs. T xs ts rest) is (subst (λ (r : List Token). T [] ts r) e (empty ts))

    from : (xs : List A) (ts rest : List Token) → T xs ts rest → either_shape (S xs) (provided ([] ≡ xs) nothing) ts rest
    from xs ts rest t = elim (from_some xs ts rest t) [ inl p ↦ inr (sym p.0, p.1) | inr s ↦ inl s ]

-- optional words
pub flag_reads : {k : ℕ} {starts : List Token → Bool} {r r' : Reader (Unit {0})} {P : Shape} {c : List Token → Bool} → Item k starts r r' (λ u. P) c → Reads k (flag starts r) (flag starts r') (flagged P) (λ ts. starts ts || c ts)
flag_reads {P = P} item = reshaped_reads (item_or_none (item_apply item (λ u. true)) false) (flagged P) to from
  where
    to : (x : Bool) (ts rest : List Token) → either_shape (Made (λ (u : Unit {0}). true) (λ u. P) x) (provided (false ≡ x) nothing) ts rest → flagged P x ts rest
    to x ts rest (inl (u, is, s)) = subst (λ x. flagged P x ts rest) is s
    to x ts rest (inr (is, s)) = subst (λ x. flagged P x ts rest) is s

    from : (x : Bool) (ts rest : List Token) → flagged P x ts rest → either_shape (Made (λ (u : Unit {0}). true) (λ u. P) x) (provided (false ≡ x) nothing) ts rest
    from true ts rest s = inl (tt, refl, s)
    from false ts rest s = inr (refl, s)

-- ---- by the line of the first token

pub lined_reads : {A : Type 0} {k : ℕ} {r r' : Line → Reader A} {S : Line → A → Shape} {c : List Token → Bool} → ((line : Line) → Reads k (r line) (r' line) (S line) c) → (T : A → Shape) → ((x : A) (ts rest : List Token) → S (first_token_line ts) x ts rest → T x ts rest) → ((x : A) (ts rest : List Token) → T x ts rest → S (first_token_line ts) x ts rest) → Reads k (lined r) (lined r') T c
lined_reads law T to from = record {
  sound = λ ts x rest e. to x ts rest ((law (first_token_line ts)).sound ts x rest e);
  complete = λ ts x rest s stop. (law (first_token_line ts)).complete ts x rest (from x ts rest s) stop;
  shorter = λ ts x rest s. (law (first_token_line ts)).shorter ts x rest (from x ts rest s);
  under = λ ts. (law (first_token_line ts)).under ts;
  opening = λ ts. (law (first_token_line ts)).opening ts;
}

-- ---- readers that give up

pub too_deep_reads : {A : Type 0} {q : Reader A} {c : List Token → Bool} → Reads 0 too_deep q (λ x. never) c
too_deep_reads = record {
  sound = λ ts x rest e. absurd cc;
  complete = λ ts x rest s stop. absurd s;
  shorter = λ ts x rest s. absurd s;
  under = λ ts. inl refl;
  opening = λ ts. omega arith;
}
