-- Rows of what a reader reads.
use Rattle.std.proofs.Common.{◌≡◌, ℕ, zero, suc, ◌<◌, ◌≤◌, Bool, true, false, ◌||◌, List, [], ◌∷◌, ◌++◌, length, map, drop, Result, Ok, Err, refl, sym, ap, subst, ◌∙◌, append_assoc, arith, inl, inr}
use Rattle.std.proofs.lemmas.Bool.{or_from}
use Rattle.std.proofs.lemmas.List.{append-nil, map_push}
use Rattle.std.specs.Global.{Vec}
use Rattle.std.specs.Prelude.{IsErrAnd}
use Rattle.ss_parse_expressions.proofs.Common.{Line, openers, ParseFault, Span, Token}
use Rattle.ss_parse_expressions.specs.declared.failure.ParseFailure.{ParseFailure}
use Rattle.ss_parse_expressions.specs.declared.failure.ParseFailure.TheVariants as failures
use Rattle.ss_parse_expressions.specs.Reading.{Reader, ◌>>=◌, HasFailedReading, HasGivenReading, row, rows, first_and, comma, word, begins, skip, skip_separator, begins_more, list_of, kind_of_mark}
use Rattle.ss_lex.specs.declared.word.Word.TheVariants as words
use Rattle.ss_parse_expressions.specs.Steps.{AreJoined}
use Rattle.ss_parse_expressions.specs.Shapes as shapes
use Rattle.ss_parse_expressions.specs.Shapes.{Shape, ◌▷◌, each_in_turn, separated_list, separator}
use Rattle.ss_parse_expressions.proofs.Tools.{bind_ok, which, chosen, carry, or_false, and_true, ok_or_err}
use Rattle.ss_parse_expressions.proofs.Marks.{token, Mark_is, begins_mark, no_skip, skip_openers, token_less}
use Rattle.ss_parse_expressions.proofs.Depth.{Upto, upto_same, upto_bind, upto_if, Bounded, bounded_more, bounded_bind, bounded_if}
use Rattle.ss_parse_expressions.proofs.ReaderLaws.{Reads, Item, Made, bind_reads, made_reads, reshaped_reads, fewer_reads}

-- a shape of lists that is item after item, each in the state that the ones before it leave
pub record Is_row {A G : Type 0} (S : G → A → Shape) (next : G → A → G) (T : G → List A → Shape) : Type 0 where
  pub nil : (g : G) (ts : List Token) → T g [] ts ts
  pub none : (g : G) (ts rest : List Token) → T g [] ts rest → ts ≡ rest
  pub cons : (g : G) (x : A) (xs : List A) (ts rest : List Token) → (S g x ▷ T (next g x) xs) ts rest → T g (x ∷ xs) ts rest
  pub parts : (g : G) (x : A) (xs : List A) (ts rest : List Token) → T g (x ∷ xs) ts rest → (S g x ▷ T (next g x) xs) ts rest

module _ {A G : Type 0} {k : ℕ} {starts : List Token → Bool} {item item' : G → Reader A} {S : G → A → Shape} {next : G → A → G} {T : G → List A → Shape} {continues : List Token → Bool} (law : (g : G) → Item k starts (item g) (item' g) (S g) continues) (shape : Is_row S next T) (stops : (g : G) (ts : List Token) (x : A) (rest : List Token) → S g x ts rest → continues ts ≡ false) where
  row_sound : (n : ℕ) (g : G) (ts : List Token) (xs : List A) (rest : List Token) → row starts item next n g ts ≡ Ok (xs, rest) → T g xs ts rest
  row_sound zero g ts xs rest e = carry (λ (y : List A) (z : List Token). T g y ts z) [] xs ts rest e (shape.nil g ts)
  row_sound (suc n) g ts xs rest e =
      elim (chosen (starts ts) _ _ _ e) [
        | inl p ↦
            let x = bind_ok (item g ts) _ _ p.1 in
            let more = bind_ok (row starts item next n (next g x.0.0) x.0.1) _ _ x.2 in
            carry (λ (y : List A) (z : List Token). T g y ts z) (x.0.0 ∷ more.0.0) xs more.0.1 rest more.2
            (shape.cons g x.0.0 more.0.0 ts more.0.1 (x.0.1, (law g).sound ts x.0.0 x.0.1 p.0 x.1, row_sound n (next g x.0.0) x.0.1 more.0.0 more.0.1 more.1))
        | inr p ↦ carry (λ (y : List A) (z : List Token). T g y ts z) [] xs ts rest p.1 (shape.nil g ts)
      ]

  each_shorter : (g : G) (xs : List A) (ts rest : List Token) → T g xs ts rest → length rest ≤ length ts
  each_shorter g [] ts rest s = omega (arith, ap length (shape.none g ts rest s))
  each_shorter g (x ∷ xs) ts rest s =
      let p = shape.parts g x xs ts rest s in
      omega (arith, (law g).less ts x p.0 p.1, each_shorter (next g x) xs p.0 rest p.2)

  -- no further item continues the item before it
  each_stops : (g : G) (xs : List A) (ts rest : List Token) → T g xs ts rest → continues rest ≡ false → continues ts ≡ false
  each_stops g [] ts rest s stop = ap continues (shape.none g ts rest s) ∙ stop
  each_stops g (x ∷ xs) ts rest s stop = let p = shape.parts g x xs ts rest s in stops g ts x p.0 p.1

  row_step : (n : ℕ) (g : G) (ts m rest : List Token) (x : A) (xs : List A) → starts ts ≡ true → item g ts ≡ Ok (x, m) → row starts item next n (next g x) m ≡ Ok (xs, rest) → row starts item next (suc n) g ts ≡ Ok (x ∷ xs, rest)
  row_step n g ts m rest x xs started read others = rw (started, read, others) refl

  row_complete : (n : ℕ) (g : G) (xs : List A) (ts rest : List Token) → T g xs ts rest → length ts ≤ n → starts rest ≡ false → continues rest ≡ false → row starts item next n g ts ≡ Ok (xs, rest)
  row_complete zero g [] ts rest s long over stop = ap (λ (r : List Token). Ok ([], r)) (shape.none g ts rest s)
  row_complete zero g (x ∷ xs) ts rest s long over stop =
      let p = shape.parts g x xs ts rest s in
      absurd (omega (arith, (law g).less ts x p.0 p.1))
  row_complete (suc n) g [] ts rest s long over stop =
      let none : starts ts ≡ false = ap starts (shape.none g ts rest s) ∙ over in
      rw none (ap (λ (r : List Token). Ok ([], r)) (shape.none g ts rest s))
  row_complete (suc n) g (x ∷ xs) ts rest s long over stop =
      let p = shape.parts g x xs ts rest s in
      row_step n g ts p.0 rest x xs ((law g).begins ts x p.0 p.1) ((law g).complete ts x p.0 p.1 (each_stops (next g x) xs p.0 rest p.2 stop))
      (row_complete n (next g x) xs p.0 rest p.2 (omega (arith, (law g).less ts x p.0 p.1)) over stop)

  row_under : (n : ℕ) (g : G) (ts : List Token) → Upto (row starts item next n g ts) (row starts item' next n g ts)
  row_under zero g ts = upto_same _
  row_under (suc n) g ts =
      upto_if (starts ts) _ _ _ _ (upto_bind _ _ _ _ ((law g).under ts) (λ x. upto_bind _ _ _ _ (row_under n (next g x.0) x.1) (λ xs. upto_same _))) (upto_same _)

  row_opening : (n : ℕ) (g : G) (ts : List Token) → Bounded k (openers ts) (row starts item next n g ts)
  row_opening zero g ts = omega arith
  row_opening (suc n) g ts =
      bounded_if k (openers ts) (starts ts) _ _
      (bounded_bind k (openers ts) (item g ts) _ ((law g).opening ts) (λ x. bounded_bind k (openers x.1) (row starts item next n (next g x.0) x.1) _ (row_opening n (next g x.0) x.1) (λ xs. omega arith)))
      (omega arith)

  pub row_reads : (g : G) → Reads k (λ ts. row starts item next (length ts) g ts) (λ ts. row starts item' next (length ts) g ts) (T g) (λ ts. starts ts || continues ts)
  row_reads g = record {
    sound = λ ts xs rest e. row_sound (length ts) g ts xs rest e;
    complete = λ ts xs rest s stop. let both = or_false (starts rest) (continues rest) stop in row_complete (length ts) g xs ts rest s (omega arith) both.0 both.1;
    shorter = λ ts xs rest s. each_shorter g xs ts rest s;
    under = λ ts. row_under (length ts) g ts;
    opening = λ ts. row_opening (length ts) g ts;
  }

-- where no state is kept
in_turn : {A : Type 0} (S : A → Shape) → Is_row (λ (u : Unit {0}). S) (λ u x. u) (λ u. each_in_turn S)
in_turn S = record { nil = λ u ts. refl; none = λ u ts rest s. s; cons = λ u x xs ts rest s. s; parts = λ u x xs ts rest s. s }

pub rows_reads : {A : Type 0} {k : ℕ} {starts : List Token → Bool} {item item' : Reader A} {S : A → Shape} {continues : List Token → Bool} → Item k starts item item' S continues → ((ts : List Token) (x : A) (rest : List Token) → S x ts rest → continues ts ≡ false) → Reads k (rows starts item) (rows starts item') (each_in_turn S) (λ ts. starts ts || continues ts)
unfolding rows
rows_reads {S = S} law stops = row_reads (λ (u : Unit {0}). law) (in_turn S) (λ u. stops) tt

-- a token that can't continue the rest and begins no item doesn't begin the row
pub each_first : {A : Type 0} {S : A → Shape} (c : List Token → Bool) → ((ts : List Token) (x : A) (rest : List Token) → S x ts rest → c ts ≡ false) → (xs : List A) (ts rest : List Token) → each_in_turn S xs ts rest → c rest ≡ false → c ts ≡ false
each_first c stops [] ts rest e stop = ap c e ∙ stop
each_first c stops (x ∷ xs) ts rest (m, one, more) stop = stops ts x m one

-- ---- an item and further ones

module _ {A : Type 0} {k : ℕ} {r r' : Reader A} {S : A → Shape} {starts : List Token → Bool} {item item' : Reader A} {T : A → Shape} {c d : List Token → Bool} (first : Reads k r r' S c) (further : Item k starts item item' T d) (stops : (ts : List Token) (x : A) (rest : List Token) → T x ts rest → (c ts ≡ false) × (d ts ≡ false)) (less : (ts : List Token) (x : A) (rest : List Token) → S x ts rest → length rest < length ts) where
  others : Reads k (rows starts item) (rows starts item') (each_in_turn T) (λ ts. starts ts || d ts)
  others = rows_reads further (λ ts x rest s. (stops ts x rest s).1)

  pub first_less : (ts : List Token) (xs : List A) (rest : List Token) → shapes.first_and_each S T xs ts rest → length rest < length ts
  first_less ts [] rest s = absurd s
  first_less ts (x ∷ xs) rest (m, one, more) = omega (arith, less ts x m one, others.shorter m xs rest more)

  pub first_and_reads : Reads k (first_and r starts item) (first_and r' starts item') (shapes.first_and_each S T) (λ ts. starts ts || (c ts || d ts))
  first_and_reads =
      reshaped_reads (bind_reads first (λ x. fewer_reads (made_reads others (λ (xs : List A). x ∷ xs)) (λ ts. starts ts || (c ts || d ts)) fewer) continued) (shapes.first_and_each S T)
      (λ ys ts rest s. subst (λ (ys : List A). shapes.first_and_each S T ys ts rest) s.1.2.1 (s.1.0, s.1.1, s.1.2.2)) from
    where
      fewer : (ts : List Token) → (starts ts || (c ts || d ts)) ≡ false → (starts ts || d ts) ≡ false
      fewer ts stop = let both = or_false (starts ts) (c ts || d ts) stop in or_from (starts ts) (d ts) both.0 (or_false (c ts) (d ts) both.1).1

      continued : (x : A) (ys : List A) (ts rest : List Token) → Made (λ (xs : List A). x ∷ xs) (each_in_turn T) ys ts rest → (starts rest || (c rest || d rest)) ≡ false → c ts ≡ false
      continued x ys ts rest s stop = each_first c (λ ts x rest s. (stops ts x rest s).0) s.0 ts rest s.2 (or_false (c rest) (d rest) (or_false (starts rest) (c rest || d rest) stop).1).0

      from : (ys : List A) (ts rest : List Token) → shapes.first_and_each S T ys ts rest → (x : A) × (S x ▷ Made (λ (xs : List A). x ∷ xs) (each_in_turn T) ys) ts rest
      from [] ts rest s = absurd s
      from (x ∷ xs) ts rest (m, one, more) = (x, (m, one, (xs, refl, more)))

-- ---- separators

separator_sound : (ts : List Token) → (begins comma ts || begins (word words.And) ts) ≡ true → separator ts (skip_separator ts)
separator_sound ts e =
    elim (which (begins comma ts)) [
      | inl p ↦
          elim (which (begins (word words.And) (skip comma ts))) [
            | inl q ↦ inr (inr (skip comma ts, begins_mark comma ts p, begins_mark (word words.And) (skip comma ts) q))
            | inr q ↦ inl (subst (λ r. Mark_is comma ts r) (sym (no_skip (word words.And) (skip comma ts) q)) (begins_mark comma ts p))
          ]
      | inr p ↦
          let q : begins (word words.And) ts ≡ true = rw p at e in
          let same : skip comma ts ≡ ts = no_skip comma ts p in
          inr (inl (subst (λ r. Mark_is (word words.And) ts (skip (word words.And) r)) (sym same) (begins_mark (word words.And) ts q)))
    ]

separator_less : (ts a : List Token) → separator ts a → length a < length ts
separator_less ts a (inl w) = omega (arith, token_less (kind_of_mark comma) ts a w)
separator_less ts a (inr (inl w)) = omega (arith, token_less (kind_of_mark (word words.And)) ts a w)
separator_less ts a (inr (inr (m, w, v))) = omega (arith, token_less (kind_of_mark comma) ts m w, token_less (kind_of_mark (word words.And)) m a v)

-- A list of items: none begins with a comma or AND, and neither continues one.
module _ {A : Type 0} {k : ℕ} {item item' : Reader A} {S : A → Shape} {c : List Token → Bool} (law : Reads k item item' S c) (starts : List Token → Bool) (first : (ts : List Token) (x : A) (rest : List Token) → S x ts rest → starts ts ≡ true) (no_and : (ts : List Token) → starts ts ≡ true → begins (word words.And) ts ≡ false) where
  separator_complete : (ts a : List Token) → separator ts a → starts a ≡ true → (begins_more starts ts ≡ true) × (skip_separator ts ≡ a)
  separator_complete ts a (inl (span, line, e)) started =
      let no : begins (word words.And) a ≡ false = no_and a started in
      let same : skip (word words.And) a ≡ a = no_skip (word words.And) a no in
      (rw (e, same, started) refl, rw e same)
  separator_complete ts a (inr (inl (span, line, e))) started = (rw (e, started) refl, rw e refl)
  separator_complete ts a (inr (inr (m, (span, line, e), (span', line', e')))) started = (rw (e, e', started) refl, rw (e, e') refl)

  pub separated_item : Item k (begins_more starts) (λ r. item (skip_separator r)) (λ r. item' (skip_separator r)) (λ x. separator ▷ S x) c
  separated_item = record {
    sound = λ ts x rest started e. (skip_separator ts, separator_sound ts (and_true (begins comma ts || begins (word words.And) ts) (starts (skip_separator ts)) started).0, law.sound (skip_separator ts) x rest e);
    complete = λ ts x rest s stop. ap item (separator_complete ts s.0 s.1 (first s.0 x rest s.2)).1 ∙ law.complete s.0 x rest s.2 stop;
    begins = λ ts x rest s. (separator_complete ts s.0 s.1 (first s.0 x rest s.2)).0;
    less = λ ts x rest s. omega (arith, separator_less ts s.0 s.1, law.shorter s.0 x rest s.2);
    under = λ ts. law.under (skip_separator ts);
    opening = λ ts. bounded_more k (openers (skip_separator ts)) (openers ts) (item (skip_separator ts)) (omega (arith, skip_openers comma ts, skip_openers (word words.And) (skip comma ts))) (law.opening (skip_separator ts));
  }

  separator_stops : ((span : Span) (line : Line) (ts : List Token) → c (token (kind_of_mark comma) span line ∷ ts) ≡ false) → ((span : Span) (line : Line) (ts : List Token) → c (token (kind_of_mark (word words.And)) span line ∷ ts) ≡ false) → (ts a : List Token) → separator ts a → c ts ≡ false
  separator_stops on_comma on_and ts a (inl (span, line, e)) = ap c e ∙ on_comma span line a
  separator_stops on_comma on_and ts a (inr (inl (span, line, e))) = ap c e ∙ on_and span line a
  separator_stops on_comma on_and ts a (inr (inr (m, (span, line, e), v))) = ap c e ∙ on_comma span line m

  pub list_reads : ((ts : List Token) (x : A) (rest : List Token) → S x ts rest → length rest < length ts) → ((span : Span) (line : Line) (ts : List Token) → c (token (kind_of_mark comma) span line ∷ ts) ≡ false) → ((span : Span) (line : Line) (ts : List Token) → c (token (kind_of_mark (word words.And)) span line ∷ ts) ≡ false) → Reads k (list_of starts item) (list_of starts item') (separated_list S) (λ ts. begins_more starts ts || (c ts || c ts))
  list_reads less on_comma on_and = first_and_reads law separated_item (λ ts x rest s. let stop = separator_stops on_comma on_and ts s.0 s.1 in (stop, stop)) less

-- ---- a loop that reads a row

-- what a loop has read, and what reading the rest gives
abbrev pub with_front : {A : Type 0} → List A → Result (List A × List Token) ParseFault → Result (List A × List Token) ParseFault
with_front front read = read >>= λ x. Ok (front ++ x.0, x.1)

pub with_front_more : {A : Type 0} (front : List A) (x : A) (read : Result (List A × List Token) ParseFault) → with_front (front ++ x ∷ []) read ≡ with_front front (read >>= λ xs. Ok (x ∷ xs.0, xs.1))
with_front_more front x (Ok xs) = ap (λ ys. Ok (ys, xs.1)) (append_assoc front (x ∷ []) xs.0)
with_front_more front x (Err e) = refl

-- each item takes a token at least
abbrev pub Shrinks : {A : Type 0} → (List Token → Bool) → Reader A → Type 0
Shrinks {A = A} starts read = (ts : List Token) (x : A) (rest : List Token) → starts ts ≡ true → read ts ≡ Ok (x, rest) → length rest < length ts

-- A row whose items take a token each, and that ends where the tokens end.
module _ {A G : Type 0} (starts : List Token → Bool) (item : G → Reader A) (next : G → A → G) (at_end : starts [] ≡ false) (shrinks : (g : G) → Shrinks starts (item g)) where
  pub row_enough : (n m : ℕ) (g : G) (ts : List Token) → length ts ≤ n → length ts ≤ m → row starts item next n g ts ≡ row starts item next m g ts
  row_enough zero zero g ts le le' = refl
  row_enough zero (suc m) g [] le le' = rw at_end refl
  row_enough zero (suc m) g (t ∷ ts) le le' = absurd (omega arith)
  row_enough (suc n) zero g [] le le' = rw at_end refl
  row_enough (suc n) zero g (t ∷ ts) le le' = absurd (omega arith)
  row_enough (suc n) (suc m) g ts le le' =
      elim (which (starts ts)) [
        | inl p ↦
            elim (ok_or_err (item g ts)) [
              | inl x ↦
                  let small : length x.0.1 < length ts = shrinks g ts x.0.0 x.0.1 p x.1 in
                  let e : item g ts ≡ Ok x.0 = x.1 in
                  let same = row_enough n m (next g x.0.0) x.0.1 (omega arith) (omega arith) in
                  rw (p, e, same) refl
              | inr f ↦ let e : item g ts ≡ Err f.0 = f.1 in rw (p, e) refl
            ]
        | inr p ↦ rw p refl
      ]

-- What a loop needs to read a row: its test is false at the end, and each item takes a token.
pub record Loop {A : Type 0} (starts : List Token → Bool) (item : Reader A) : Type 0 where
  pub at_end : starts [] ≡ false
  pub shrinks : Shrinks starts item

pub loop_of : {A : Type 0} {k : ℕ} {starts : List Token → Bool} {item item' : Reader A} {S : A → Shape} {c : List Token → Bool} → Item k starts item item' S c → starts [] ≡ false → Loop starts item
loop_of law at_end = record { at_end = at_end; shrinks = λ ts x rest started e. law.less ts x rest (law.sound ts x rest started e) }

-- the laws of a loop, where the items need no view
module _ {A : Type 0} {starts : List Token → Bool} {item : Reader A} (loop : Loop starts item) where
  rows_more : (ts rest : List Token) (x : A) → starts ts ≡ true → item ts ≡ Ok (x, rest) → rows starts item ts ≡ (rows starts item rest >>= λ xs. Ok (x ∷ xs.0, xs.1))
  unfolding rows
  rows_more [] rest x started e = absurd (let no_more = loop.at_end in cc)
  rows_more (t ∷ ts) rest x started e =
      let small : length rest < length (t ∷ ts) = loop.shrinks (t ∷ ts) x rest started e in
      let same = row_enough starts (λ (u : Unit {0}). item) (λ u x. u) loop.at_end (λ u. loop.shrinks) (length ts) (length rest) tt rest (omega arith) (omega arith) in
      rw (started, e, same) refl

  rows_fail : (ts : List Token) (f : ParseFault) → starts ts ≡ true → item ts ≡ Err f → rows starts item ts ≡ Err f
  unfolding rows
  rows_fail [] f started e = absurd (let no_more = loop.at_end in cc)
  rows_fail (t ∷ ts) f started e = rw (started, e) refl

  rows_done : (ts : List Token) → starts ts ≡ false → rows starts item ts ≡ Ok ([], ts)
  unfolding rows
  rows_done [] e = refl
  rows_done (t ∷ ts) e = rw e refl

  pub grows_plain : (old new : List A) (x : A) (ts rest : List Token) (total : Result (List A × List Token) ParseFault) → new ≡ old ++ x ∷ [] → starts ts ≡ true → item ts ≡ Ok (x, rest) → with_front old (rows starts item ts) ≡ total → with_front new (rows starts item rest) ≡ total
  grows_plain old new x ts rest total pushed started e so_far =
      rw pushed (with_front_more old x (rows starts item rest)) ∙ ap (with_front old) (sym (rows_more ts rest x started e)) ∙ so_far

  pub is_done_plain : (read : List A) (ts : List Token) (total : Result (List A × List Token) ParseFault) → starts ts ≡ false → with_front read (rows starts item ts) ≡ total → total ≡ Ok (read, ts)
  is_done_plain read ts total over so_far = sym so_far ∙ ap (with_front read) (rows_done ts over) ∙ ap (λ ys. Ok (ys, ts)) (append-nil read)

  pub breaks_plain : (read : List A) (ts : List Token) (e : ParseFailure) (total : Result (List A × List Token) ParseFault) → starts ts ≡ true → HasFailedReading e (item ts) → with_front read (rows starts item ts) ≡ total → HasFailedReading e total
  breaks_plain read ts failures.Memory total started f so_far = tt
  breaks_plain read ts (failures.Refused f left) total started e so_far = sym so_far ∙ ap (with_front read) (rows_fail ts f started e)

-- the laws of a loop, where the items are seen through a view
module _ {A V : Type 0} (view : V → A) {starts : List Token → Bool} {item : Reader A} (loop : Loop starts item) where
  -- an item goes to the end of what was read
  pub grows : (old new : List V) (x : V) (ts rest : List Token) (total : Result (List A × List Token) ParseFault) → new ≡ old ++ x ∷ [] → starts ts ≡ true → item ts ≡ Ok (view x, rest) → with_front (map view old) (rows starts item ts) ≡ total → with_front (map view new) (rows starts item rest) ≡ total
  grows old new x ts rest total pushed started e so_far =
      let all : map view new ≡ map view old ++ view x ∷ [] = rw pushed (map_push view old x) in
      grows_plain loop (map view old) (map view new) (view x) ts rest total all started e so_far

  -- no more follows
  pub is_done : (read : List V) (ts : List Token) (total : Result (List A × List Token) ParseFault) → starts ts ≡ false → with_front (map view read) (rows starts item ts) ≡ total → total ≡ Ok (map view read, ts)
  is_done read ts total over so_far = is_done_plain loop (map view read) ts total over so_far

  -- an item fails
  pub breaks : (read : List V) (ts : List Token) (e : ParseFailure) (total : Result (List A × List Token) ParseFault) → starts ts ≡ true → HasFailedReading e (item ts) → with_front (map view read) (rows starts item ts) ≡ total → HasFailedReading e total
  breaks read ts e total started f so_far = breaks_plain loop (map view read) ts e total started f so_far

-- ---- what goes to the end of what was read

-- what was read next
pub next_read : {X Y : Type 0} (view : X → Y) (r : Result X ParseFailure) (read : Result Y ParseFault) (x : X) → HasGivenReading view r read → r ≡ Ok x → read ≡ Ok (view x)
next_read view r read x h is = subst (λ z. HasGivenReading view z read) is h

-- the exit of a `?`
pub failed : {X Y : Type 0} (view : X → Y) (r : Result X ParseFailure) (e : ParseFailure) (read : Result Y ParseFault) → IsErrAnd r (λ f. f ≡ e) → HasFailedReading e read → HasGivenReading view r read
failed view (Ok x) e read is h = absurd is
failed view (Err f) e read is h = subst (λ z. HasFailedReading z read) (sym is) h

-- what was to be read next failed
pub next_fails : {A B Y : Type 0} (view : A × B → Y) (before : Vec A) (r : Result (A × B) ParseFailure) (read : Result Y ParseFault) (e : ParseFailure) → HasGivenReading view r read → AreJoined before r (Err e) → HasFailedReading e read
next_fails view before r read e h (inl is) = subst (λ z. HasFailedReading z read) (sym is) tt
next_fails view before r read e h (inr is) = subst (λ z. HasGivenReading view z read) is h

-- r leaves all tokens but the first, and these are all but the first
pub first_taken : {A : Type 0} (r : Result (A × List Token) ParseFault) (x : A) (ts rest : List Token) → r ≡ Ok (x, drop 1 ts) → rest ≡ drop 1 ts → r ≡ Ok (x, rest)
first_taken r x ts rest e f = e ∙ ap (λ (a : List Token). Ok (x, a)) (sym f)
