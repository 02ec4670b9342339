-- Parts of statements: what is read is spelled, and what is spelled is read.
use Rattle.std.proofs.Common.{◌≡◌, ℕ, zero, suc, ◌<◌, ◌≤◌, pos, Bool, true, false, ◌||◌, List, [], ◌∷◌, length, Some, refl, ap, subst, ◌∙◌, arith, inl, inr}
use Rattle.ss_parse_statements.proofs.Common.{has_word, One_of, or_false, perhaps_listed, Reference_is, Sum_is, Target_is, the, Token, TokenKind, Word}
use Rattle.ss_lex.specs.declared.word.Word.TheVariants as words
use Rattle.ss_lex.specs.declared.token.TokenKind.TheVariants as kinds
use Rattle.ss_tree.specs.Tree.{ExpressionTree, PositionTree, by_discipline, at_first, at_last, before, after, WhenTree, at_time, in_units, now}
use Rattle.ss_parse_expressions.specs.declared.classes.WordClass.TheVariants as classes
use Rattle.ss_parse_expressions.specs.Shapes.{Shape, ◌▷◌, nothing, either_shape, provided, Token_is, Word_is, each_in_turn}
use Rattle.ss_parse_expressions.specs.Reading.{word, is, begins, expect, taken, apply, begins_more}
use Rattle.ss_parse_expressions.specs.ReadWords.{begins_class, begins_among, begins_name}
use Rattle.ss_parse_expressions.specs.ReadExpressions.{begins_sum, sum_in}
use Rattle.ss_parse_expressions.specs.ReadPlaces.{target_in, begins_target}
use Rattle.ss_parse_expressions.proofs.Marks.{mark_begins, token_less, In_table}
use Rattle.ss_parse_expressions.proofs.ReaderLaws.{Reads, Item, continues_never, Made, item_of, item_marked, expect_reads, taken_reads, seq_reads, marked_reads, closed_reads, bind_reads, made_reads, following_reads, reshaped_reads, before_mark_reads, maybe_reads, done_reads, either_reads}
use Rattle.ss_parse_expressions.proofs.WordLaws.{expect_class_reads, one_begins, one_less, perhaps_listed_reads, item_made, no_word, no_class}
use Rattle.ss_parse_expressions.proofs.Beginnings.{In, continues_sum}
use Rattle.ss_parse_expressions.proofs.Sums.{sum_in_reads}
use Rattle.ss_parse_expressions.proofs.PlaceLaws.{target_in_reads, targets_in_reads, sums_in_reads, continues_place, continues_targets, continues_sums}
use Rattle.ss_parse_expressions.proofs.ConditionLaws.{the_set_reads, stops_place}
use Rattle.ss_parse_statements.specs.SpelledParts.{Trigger, Picture_is, CalledName, Position_is, When_is}
use Rattle.ss_parse_statements.specs.ReadSimple.{called, positive_of, trigger, picture_token, pictures_at, given_in, yielding_in, position_in, when_in, due_in, set_reader, print_head}

-- ---- PRINT

pub trigger_reads : (k : ℕ) → Reads k trigger trigger (λ u. Trigger) continues_never
unfolding trigger
trigger_reads k =
    either_reads (item_of (begins (word words.Thus)) (expect_reads k (word words.Thus)) (λ ts u rest s. mark_begins (word words.Thus) ts rest s) (λ ts u rest s. omega (arith, token_less (kinds.Word words.Thus) ts rest s)))
    (either_reads (item_marked (word words.As) (expect_reads k (word words.Follows))) (marked_reads (word words.Like) (expect_reads k (word words.This))) continues_never (λ ts stop. (refl, refl)) (λ u ts rest s stop. ap (begins (word words.As)) s.1.2))
    continues_never (λ ts stop. (refl, refl)) late
  where
    late : (u : Unit {0}) (ts rest : List Token) → either_shape (Word_is words.As ▷ Word_is words.Follows) (Word_is words.Like ▷ Word_is words.This) ts rest → continues_never rest ≡ false → begins (word words.Thus) ts ≡ false
    late u ts rest (inl (m, (span, line, e), s)) stop = ap (begins (word words.Thus)) e
    late u ts rest (inr (m, (span, line, e), s)) stop = ap (begins (word words.Thus)) e

-- a number of pictures
abbrev pub Positive_is : ℕ → Shape
Positive_is n = provided (0 < n) (Token_is (kinds.Number (pos n)))

positive_to : (k : TokenKind) (n : ℕ) (ts rest : List Token) → positive_of k ≡ Some n → Token_is k ts rest → Positive_is n ts rest
positive_to (kinds.Number (pos (suc v))) n ts rest e at = let same : suc v ≡ n = cc in subst (λ n. Positive_is n ts rest) same (omega arith, at)
positive_to _ n ts rest e at = absurd cc

positive_from : (n : ℕ) (ts rest : List Token) → Positive_is n ts rest → In_table positive_of n ts rest
positive_from zero ts rest (some, at) = absurd (omega arith)
positive_from (suc n) ts rest (some, at) = (kinds.Number (pos (suc n)), refl, at)

pub positive_reads : (k : ℕ) → Reads k (taken positive_of) (taken positive_of) Positive_is continues_never
positive_reads k = reshaped_reads (taken_reads k positive_of) Positive_is (λ n ts rest s. positive_to s.0 n ts rest s.1 s.2) positive_from

-- the number of pictures and the items
abbrev pub Print_head_is : ℕ → ℕ × List ExpressionTree → Shape
Print_head_is n h = Positive_is h.0 ▷ Word_is words.Line ▷ perhaps_listed (Word_is words.With) (In n) h.1 ▷ Trigger

pub print_head_reads : (n m : ℕ) → n ≤ m → Reads n (print_head n) (print_head m) (Print_head_is n) continues_never
unfolding print_head
print_head_reads n m le =
    seq_reads (positive_reads n)
    (marked_reads (word words.Line) (closed_reads (perhaps_listed_reads (item_marked (word words.With) (sums_in_reads n m le))) (trigger_reads n) stops))
    (λ xs ts rest s stop. refl)
  where
    stops : (ts rest : List Token) → Trigger ts rest → continues_never rest ≡ false → (begins (word words.With) ts || continues_sums ts) ≡ false
    stops ts rest (inl (span, line, e)) stop = rw e refl
    stops ts rest (inr (inl (m, (span, line, e), s))) stop = rw e refl
    stops ts rest (inr (inr (m, (span, line, e), s))) stop = rw e refl

picture_to : (k : TokenKind) (bytes : List ℕ) (ts rest : List Token) → picture_token k ≡ Some bytes → Token_is k ts rest → Picture_is bytes ts rest
picture_to (kinds.Picture b) bytes ts rest e at = let same : b ≡ bytes = cc in subst (λ b. Picture_is b ts rest) same at
picture_to _ bytes ts rest e at = absurd cc

picture_reads : (k : ℕ) → Reads k (taken picture_token) (taken picture_token) Picture_is continues_never
picture_reads k = reshaped_reads (taken_reads k picture_token) Picture_is (λ bytes ts rest s. picture_to s.0 bytes ts rest s.1 s.2) (λ bytes ts rest s. (kinds.Picture bytes, refl, s))

-- so many pictures
abbrev pub Pictures_are : ℕ → List (List ℕ) → Shape
Pictures_are n ps = provided (length ps ≡ n) (each_in_turn Picture_is ps)

-- a picture, and so many after it
abbrev One_and_more : ℕ → List (List ℕ) → Shape
One_and_more n ps ts rest = (p : List ℕ) × (Picture_is p ▷ Made (λ qs. p ∷ qs) (Pictures_are n) ps) ts rest

none_from : (ps : List (List ℕ)) (ts rest : List Token) → Pictures_are 0 ps ts rest → provided ([] ≡ ps) nothing ts rest
none_from [] ts rest s = (refl, s.1)
none_from (p ∷ ps) ts rest (counts, s) = absurd (omega arith)

more_to : (n : ℕ) (ps : List (List ℕ)) (ts rest : List Token) → One_and_more n ps ts rest → Pictures_are (suc n) ps ts rest
more_to n ps ts rest (p, (m, one, (qs, is, (counts, more)))) = subst (λ ps. Pictures_are (suc n) ps ts rest) is (ap suc counts, (m, one, more))

more_from : (n : ℕ) (ps : List (List ℕ)) (ts rest : List Token) → Pictures_are (suc n) ps ts rest → One_and_more n ps ts rest
more_from n [] ts rest (counts, s) = absurd (omega arith)
more_from n (p ∷ ps) ts rest (counts, (m, one, more)) = (p, (m, one, (ps, refl, (omega arith, more))))

pub pictures_reads : (k n : ℕ) → Reads k (pictures_at n) (pictures_at n) (Pictures_are n) continues_never
unfolding pictures_at
pictures_reads k zero = reshaped_reads (done_reads k []) (Pictures_are 0) (λ ps ts rest s. subst (λ ps. Pictures_are 0 ps ts rest) s.0 (refl, s.1)) none_from
pictures_reads k (suc n) = reshaped_reads (bind_reads (picture_reads k) (λ p. made_reads (pictures_reads k n) (λ qs. p ∷ qs)) (λ p ps ts rest s stop. refl)) (Pictures_are (suc n)) (more_to n) (more_from n)

-- ---- words that may follow a statement and continue it

abbrev pub statement_more : Word → Bool
statement_more words.Called = true
statement_more words.Given = true
statement_more words.Giving = true
statement_more words.Yielding = true
statement_more words.First = true
statement_more words.Last = true
statement_more words.Before = true
statement_more words.After = true
statement_more _ = false

given_more : (w : Word) → has_word classes.Given w ≡ true → statement_more w ≡ true
given_more words.Given e = refl
given_more words.Giving e = refl
given_more _ e = absurd cc

-- what continues a simple statement
abbrev pub continues_simple : List Token → Bool
continues_simple ts = begins_among statement_more ts || (begins_more begins_sum ts || (begins_more begins_target ts || (begins_more begins_name ts || continues_sum ts)))

-- what doesn't continue a simple statement continues none of its parts
pub record Ended (ts : List Token) : Type 0 where
  pub no_more : begins_among statement_more ts ≡ false
  pub no_sums : begins_more begins_sum ts ≡ false
  pub no_targets : begins_more begins_target ts ≡ false
  pub no_names : begins_more begins_name ts ≡ false
  pub no_sum : continues_sum ts ≡ false

pub ended : (ts : List Token) → continues_simple ts ≡ false → Ended ts
ended ts stop =
    let a = or_false (begins_among statement_more ts) _ stop in
    let b = or_false (begins_more begins_sum ts) _ a.1 in
    let c = or_false (begins_more begins_target ts) _ b.1 in
    let d = or_false (begins_more begins_name ts) _ c.1 in
    record { no_more = a.0; no_sums = b.0; no_targets = c.0; no_names = d.0; no_sum = d.1 }

module _ (ts : List Token) (over : Ended ts) where
  pub over_word : (w : Word) → statement_more w ≡ true → begins (word w) ts ≡ false
  over_word w held = no_word statement_more w held ts over.no_more

  pub over_place : continues_place ts ≡ false
  over_place = stops_place ts over.no_sum

  pub over_targets : continues_targets ts ≡ false
  over_targets = rw (over.no_targets, over_place) refl

  pub over_given : (begins_class classes.Given ts || continues_sums ts) ≡ false
  over_given = rw (no_class statement_more classes.Given given_more ts over.no_more, over.no_sums, over.no_sum) refl

  pub over_yielding : (begins (word words.Yielding) ts || continues_targets ts) ≡ false
  over_yielding = rw (over_word words.Yielding refl, over_targets) refl

  pub over_called : (begins (word words.Called) ts || continues_sum ts) ≡ false
  over_called = rw (over_word words.Called refl, over.no_sum) refl

  pub over_called_place : (begins (word words.Called) ts || continues_place ts) ≡ false
  over_called_place = rw (over_word words.Called refl, over_place) refl

-- ---- parts of a statement, where so many levels may be opened after its first word

module _ (n m : ℕ) (le : n ≤ m) where
  pub sum_reads : Reads (suc n) (sum_in (suc n)) (sum_in (suc m)) (λ e. Sum_is n e) continues_sum
  sum_reads = sum_in_reads (suc n) (suc m) (omega arith)

  pub target_reads : Reads (suc n) (target_in (suc n)) (target_in (suc m)) (λ t. Target_is n t) continues_place
  target_reads = target_in_reads (suc n) (suc m) (omega arith)

  pub set_reads : Reads (suc n) (set_reader (suc n)) (set_reader (suc m)) (λ set. the ▷ Reference_is n set) continues_place
  set_reads = the_set_reads n m le

  pub given_reads : Reads (suc n) (given_in (suc n)) (given_in (suc m)) (perhaps_listed (One_of classes.Given) (Sum_is n)) (λ ts. begins_class classes.Given ts || continues_sums ts)
  given_reads = perhaps_listed_reads (item_of (begins_class classes.Given) (following_reads (expect_class_reads (suc n) classes.Given) (sums_in_reads (suc n) (suc m) (omega arith)) (λ xs ts rest s stop. refl)) (λ ts xs rest s. one_begins classes.Given ts s.0 s.1)
      (λ ts xs rest s. omega (arith, one_less classes.Given ts s.0 s.1, (sums_in_reads (suc n) (suc m) (omega arith)).shorter s.0 xs rest s.2)))

  pub yielding_reads : Reads (suc n) (yielding_in (suc n)) (yielding_in (suc m)) (perhaps_listed (Word_is words.Yielding) (Target_is n)) (λ ts. begins (word words.Yielding) ts || continues_targets ts)
  yielding_reads = perhaps_listed_reads (item_marked (word words.Yielding) (targets_in_reads (suc n) (suc m) (omega arith)))

  pub called_sum_reads : Reads (suc n) (called (sum_in (suc n))) (called (sum_in (suc m))) (CalledName (Sum_is n)) (λ ts. begins (word words.Called) ts || continues_sum ts)
  called_sum_reads = maybe_reads (item_marked (word words.Called) sum_reads)

  pub called_target_reads : Reads (suc n) (called (target_in (suc n))) (called (target_in (suc m))) (CalledName (Target_is n)) (λ ts. begins (word words.Called) ts || continues_place ts)
  called_target_reads = maybe_reads (item_marked (word words.Called) target_reads)

  -- ---- where a member is filed: always before IN

  word_item : {A : Type 0} (w : Word) (f : Unit {0} → A) → Item (suc n) (begins (word w)) (apply f (expect (word w))) (apply f (expect (word w))) (Made f (λ u. Word_is w)) continues_never
  word_item w f = item_of (begins (word w)) (made_reads (expect_reads (suc n) (word w)) f) (λ ts x rest s. mark_begins (word w) ts rest s.2) (λ ts x rest s. omega (arith, token_less (kinds.Word w) ts rest s.2))

  -- what continues the place where a member is filed
  abbrev pub continues_position : List Token → Bool
  continues_position ts = begins_among statement_more ts || continues_sum ts

  abbrev After_is : PositionTree → Shape
  After_is x = either_shape (Made after (λ e. Word_is words.After ▷ Sum_is n e) x) (provided (by_discipline ≡ x) nothing)

  abbrev Before_is : PositionTree → Shape
  Before_is x = either_shape (Made before (λ e. Word_is words.Before ▷ Sum_is n e) x) (After_is x)

  abbrev Last_is : PositionTree → Shape
  Last_is x = either_shape (Made (λ (u : Unit {0}). at_last) (λ (u : Unit {0}). Word_is words.Last) x) (Before_is x)

  abbrev First_is : PositionTree → Shape
  First_is x = either_shape (Made (λ (u : Unit {0}). at_first) (λ (u : Unit {0}). Word_is words.First) x) (Last_is x)

  position_word : (ts : List Token) → continues_position ts ≡ false → (w : Word) → statement_more w ≡ true → begins (word w) ts ≡ false
  position_word ts stop w held = no_word statement_more w held ts (or_false (begins_among statement_more ts) (continues_sum ts) stop).0

  position_sum : (ts : List Token) → continues_position ts ≡ false → continues_sum ts ≡ false
  position_sum ts stop = (or_false (begins_among statement_more ts) (continues_sum ts) stop).1

  after_late : (w : Word) → statement_more w ≡ true → is (word w) (kinds.Word words.After) ≡ false → (x : PositionTree) (ts rest : List Token) → After_is x ts rest → continues_position rest ≡ false → begins (word w) ts ≡ false
  after_late w held other x ts rest (inl (e, q, (a, (span, line, f), s))) stop = ap (begins (word w)) f ∙ other
  after_late w held other x ts rest (inr (q, e)) stop = ap (begins (word w)) e ∙ position_word rest stop w held

  before_late : (w : Word) → statement_more w ≡ true → is (word w) (kinds.Word words.After) ≡ false → is (word w) (kinds.Word words.Before) ≡ false → (x : PositionTree) (ts rest : List Token) → Before_is x ts rest → continues_position rest ≡ false → begins (word w) ts ≡ false
  before_late w held other other' x ts rest (inl (e, q, (a, (span, line, f), s))) stop = ap (begins (word w)) f ∙ other'
  before_late w held other other' x ts rest (inr s) stop = after_late w held other x ts rest s stop

  last_late : (x : PositionTree) (ts rest : List Token) → Last_is x ts rest → continues_position rest ≡ false → begins (word words.First) ts ≡ false
  last_late x ts rest (inl (e, q, (span, line, f))) stop = ap (begins (word words.First)) f
  last_late x ts rest (inr s) stop = before_late words.First refl refl refl x ts rest s stop

  position_to : (x : PositionTree) (ts rest : List Token) → First_is x ts rest → Position_is n x ts rest
  position_to x ts rest (inl (u, q, s)) = subst (λ x. Position_is n x ts rest) q s
  position_to x ts rest (inr (inl (u, q, s))) = subst (λ x. Position_is n x ts rest) q s
  position_to x ts rest (inr (inr (inl (e, q, s)))) = subst (λ x. Position_is n x ts rest) q s
  position_to x ts rest (inr (inr (inr (inl (e, q, s))))) = subst (λ x. Position_is n x ts rest) q s
  position_to x ts rest (inr (inr (inr (inr (q, s))))) = subst (λ x. Position_is n x ts rest) q s

  position_from : (x : PositionTree) (ts rest : List Token) → Position_is n x ts rest → First_is x ts rest
  position_from by_discipline ts rest s = inr (inr (inr (inr (refl, s))))
  position_from at_first ts rest s = inl (tt, refl, s)
  position_from at_last ts rest s = inr (inl (tt, refl, s))
  position_from (before e) ts rest s = inr (inr (inl (e, refl, s)))
  position_from (after e) ts rest s = inr (inr (inr (inl (e, refl, s))))

  pub position_reads : Reads (suc n) (position_in (suc n)) (position_in (suc m)) (Position_is n) continues_position
  unfolding position_in
  position_reads =
      reshaped_reads (either_reads (word_item words.First (λ u. at_first))
      (either_reads (word_item words.Last (λ u. at_last))
      (either_reads (item_made (word words.Before) sum_reads before)
      (either_reads (item_made (word words.After) sum_reads after) (done_reads (suc n) by_discipline) continues_position (λ ts stop. (position_sum ts stop, refl)) (λ x ts rest s stop. ap (begins (word words.After)) s.1 ∙ position_word rest stop words.After refl))
      continues_position (λ ts stop. (position_sum ts stop, stop)) (after_late words.Before refl refl))
      continues_position (λ ts stop. (refl, stop)) (before_late words.Last refl refl refl))
      continues_position (λ ts stop. (refl, stop)) last_late) (Position_is n) position_to position_from

  -- it doesn't continue the member
  pub position_stops : (x : PositionTree) (ts a : List Token) → Position_is n x ts a → continues_sum a ≡ false → continues_sum ts ≡ false
  position_stops by_discipline ts a s stop = ap continues_sum s ∙ stop
  position_stops at_first ts a (span, line, e) stop = ap continues_sum e
  position_stops at_last ts a (span, line, e) stop = ap continues_sum e
  position_stops _ ts a (b, (span, line, e), s) stop = ap continues_sum e

  -- ---- when a notice is due

  abbrev In_units_or_now : WhenTree → Shape
  In_units_or_now x = either_shape (Made in_units (λ e. Word_is words.In ▷ Sum_is n e ▷ Word_is words.Unit) x) (Made (λ (u : Unit {0}). now) (λ (u : Unit {0}). Word_is words.Now) x)

  in_late : (x : WhenTree) (ts rest : List Token) → In_units_or_now x ts rest → begins (word words.At) ts ≡ false
  in_late x ts rest (inl (e, q, (a, (span, line, f), s))) = ap (begins (word words.At)) f
  in_late x ts rest (inr (u, q, (span, line, f))) = ap (begins (word words.At)) f

  pub when_reads : Reads (suc n) (when_in (suc n)) (when_in (suc m)) (When_is n) continues_sum
  unfolding when_in
  when_reads =
      reshaped_reads (either_reads (item_made (word words.At) sum_reads at_time)
      (either_reads (item_made (word words.In) (before_mark_reads (word words.Unit) sum_reads (λ span line ts. refl)) in_units) (made_reads (expect_reads (suc n) (word words.Now)) (λ u. now)) continues_sum (λ ts stop. (refl, refl)) (λ x ts rest s stop. ap (begins (word words.In)) s.2.2))
      continues_sum (λ ts stop. (stop, stop)) (λ x ts rest s stop. in_late x ts rest s))
      (When_is n) to from
    where
      to : (x : WhenTree) (ts rest : List Token) → either_shape (Made at_time (λ e. Word_is words.At ▷ Sum_is n e) x) (In_units_or_now x) ts rest → When_is n x ts rest
      to x ts rest (inl (e, q, s)) = subst (λ x. When_is n x ts rest) q s
      to x ts rest (inr (inl (e, q, s))) = subst (λ x. When_is n x ts rest) q s
      to x ts rest (inr (inr (u, q, s))) = subst (λ x. When_is n x ts rest) q s

      from : (x : WhenTree) (ts rest : List Token) → When_is n x ts rest → either_shape (Made at_time (λ e. Word_is words.At ▷ Sum_is n e) x) (In_units_or_now x) ts rest
      from (at_time e) ts rest s = inl (e, refl, s)
      from (in_units e) ts rest s = inr (inl (e, refl, s))
      from now ts rest s = inr (inr (tt, refl, s))

  when_stops : (x : WhenTree) (ts rest : List Token) → When_is n x ts rest → (begins_class classes.Given ts || continues_sums ts) ≡ false
  when_stops now ts rest (span, line, f) = rw f refl
  when_stops _ ts rest (a, (span, line, f), s) = rw f refl

  abbrev pub Due_is : List ExpressionTree × WhenTree → Shape
  Due_is p = perhaps_listed (One_of classes.Given) (Sum_is n) p.0 ▷ When_is n p.1

  pub due_reads : Reads (suc n) (due_in (suc n)) (due_in (suc m)) Due_is continues_sum
  due_reads = seq_reads given_reads when_reads (λ x ts rest s stop. when_stops x ts rest s)

  given_word_stops : (w : Word) (ts a : List Token) → has_word classes.Given w ≡ true → Word_is w ts a → (begins (word words.Called) ts || continues_sum ts) ≡ false
  given_word_stops words.Given ts a e (span, line, f) = rw f refl
  given_word_stops words.Giving ts a e (span, line, f) = rw f refl
  given_word_stops _ ts a e at = absurd cc

  -- what is given, and when, doesn't continue a CALLED and its expression
  pub due_stops : (p : List ExpressionTree × WhenTree) (ts rest : List Token) → Due_is p ts rest → (begins (word words.Called) ts || continues_sum ts) ≡ false
  due_stops ([], now) ts rest (a, e, (span, line, f)) = rw (e, f) refl
  due_stops ([], _) ts rest (a, e, (b, (span, line, f), s)) = rw (e, f) refl
  due_stops (x ∷ xs, w) ts rest (a, (b, (v, held, at), s), t) = given_word_stops v ts b held at
