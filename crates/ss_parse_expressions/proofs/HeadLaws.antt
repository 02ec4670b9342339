-- The heads of loops: what is read is spelled, and what is spelled is read.
use Rattle.std.proofs.Common.{◌≡◌, ℕ, suc, ◌≤◌, Bool, true, false, ◌||◌, List, ◌∷◌, Option, Some, None, refl, ap, subst, ◌∙◌, arith, inl, inr}
use Rattle.std.proofs.lemmas.Bool.{or_from}
use Rattle.ss_parse_expressions.proofs.Common.{after_dropped, apply, begins, begins_among, begins_by, begins_class, choose_reader, comma, done, Equals, expect, in_table, is, One_of, Reader, Reference_is, rows, skip_comma, sum_in, Sum_is, symbol, the, Token, Word, word}
use Rattle.ss_lex.specs.declared.word.Word.TheVariants as words
use Rattle.ss_lex.specs.declared.token.TokenKind.TheVariants as kinds
use Rattle.ss_base.specs.declared.words.GuardKind.{GuardKind}
use Rattle.ss_tree.specs.Tree.{ExpressionTree, NamedTree, ConditionTree, PhraseTree, GuardTree, StartTree, from_end, from_member, after_member, HeadTree, over_range, over_members, over_class, LoopHeadTree, guarded}
use Rattle.ss_parse_expressions.specs.declared.classes.WordClass.TheVariants as classes
use Rattle.ss_parse_expressions.specs.Shapes.{Shape, ◌▷◌, nothing, either_shape, provided, noise, Word_is, Symbol_is, Name_is, Word_for, each_in_turn, perhaps, flagged}
use Rattle.ss_parse_expressions.specs.SpelledConditions.{Start_is, Head_rest}
use Rattle.ss_parse_expressions.specs.WordTables.{phrase_of, guard_of}
use Rattle.ss_parse_expressions.specs.ReadHeads.{phrase_tree, guard_tree, begins_phrase, begins_guard, phrase_in, guard_in, phrases_in, guards_in, step_in, range_tree, range_in, start_in, reverse, members_tree, members_in, class_tree, class_in, each_named, each_in, for_in, guarded_in}
use Rattle.ss_parse_expressions.proofs.Tools.{or_false}
use Rattle.ss_parse_expressions.proofs.Marks.{token_less, starts_otherwise, begins_table}
use Rattle.ss_parse_expressions.proofs.ReaderLaws.{Reads, Item, continues_never, Made, item_of, item_marked, noisy_item, expect_reads, seq_reads, following_reads, bind_reads, apply_reads, made_reads, marked_reads, reshaped_reads, fewer_reads, maybe_reads, flag_reads, item_or_none, either_reads}
use Rattle.ss_parse_expressions.proofs.Rows.{rows_reads, each_first, Loop, loop_of}
use Rattle.ss_parse_expressions.proofs.WordLaws.{word_in_reads, expect_class_reads, name_reads, item_made, one_begins, one_less, no_word}
use Rattle.ss_parse_expressions.proofs.Beginnings.{continues_sum}
use Rattle.ss_parse_expressions.proofs.Sums.{sum_in_reads}
use Rattle.ss_parse_expressions.proofs.PlaceLaws.{continues_place}
use Rattle.ss_parse_expressions.proofs.ConditionLaws.{stops_place, the_set_reads, In_condition, continues_condition, condition_in_reads, condition_less}

-- words that may follow a part of a head and continue it
abbrev pub head_more : Word → Bool
head_more words.By = true
head_more words.From = true
head_more words.After = true
head_more words.In = true
head_more words.Called = true
head_more _ = false

-- which tokens continue a part of a head, other than those that begin phrases
abbrev pub continues_head : List Token → Bool
continues_head ts = begins_among head_more ts || continues_condition ts

-- none of the words that may continue a part of a head
no_head_word : (w : Word) → head_more w ≡ true → (ts : List Token) → continues_head ts ≡ false → begins (word w) ts ≡ false
no_head_word w more ts stop = no_word head_more w more ts (or_false (begins_among head_more ts) (continues_condition ts) stop).0

-- the same, for a part that only this word continues
not_continued : (w : Word) → head_more w ≡ true → (ts : List Token) → continues_head ts ≡ false → (begins (word w) ts || continues_never ts) ≡ false
not_continued w more ts stop = or_from (begins (word w) ts) (continues_never ts) (no_head_word w more ts stop) refl

no_condition : (ts : List Token) → continues_head ts ≡ false → continues_condition ts ≡ false
no_condition ts stop = (or_false (begins_among head_more ts) (continues_condition ts) stop).1

pub condition_no_sum : (ts : List Token) → continues_condition ts ≡ false → continues_sum ts ≡ false
condition_no_sum ts stop =
    let a = or_false (begins (word words.Or) ts) _ stop in
    let b = or_false (begins (word words.And) ts || (continues_sum ts || continues_sum ts)) _ a.1 in
    let c = or_false (begins (word words.And) ts) _ b.0 in
    (or_false (continues_sum ts) (continues_sum ts) c.1).0

no_sum : (ts : List Token) → continues_head ts ≡ false → continues_sum ts ≡ false
no_sum ts stop = condition_no_sum ts (no_condition ts stop)

-- ---- what begins with a word of a table, with a comma before it or not

-- these words are neither OR nor AND, and continue no part of a head
abbrev Continue_no_head : {K : Type 0} → (Word → Option K) → Type 0
Continue_no_head {K = K} table = (w : Word) (kind : K) → table w ≡ Some kind → (is (word words.Or) (kinds.Word w) ≡ false) × (is (word words.And) (kinds.Word w) ≡ false) × (head_more w ≡ false)

module _ {K X : Type 0} (table : Word → Option K) (others : Continue_no_head table) (kind : X → K) (condition : X → ConditionTree) where
  -- such a word and a condition
  abbrev Headed : ℕ → X → Shape
  Headed n x = Word_for table (kind x) ▷ In_condition n (condition x)

  abbrev begins_headed : List Token → Bool
  begins_headed ts = begins_by (in_table table) (skip_comma ts)

  headed_stops : (n : ℕ) (ts : List Token) (x : X) (rest : List Token) → (noise ▷ Headed n x) ts rest → continues_head ts ≡ false
  headed_stops n ts x rest (a, inr (span, line, e), s) = ap continues_head e
  headed_stops n ts x rest (a, inl e, (b, (w, means, (span, line, f)), s)) =
      let no = others w (kind x) means in
      let no_or : is (word words.Or) (kinds.Word w) ≡ false = no.0 in
      let no_and : is (word words.And) (kinds.Word w) ≡ false = no.1 in
      let no_more : head_more w ≡ false = no.2 in
      rw (e, f, no_or, no_and, no_more) refl

  headed_item : {n : ℕ} {r r' : Reader X} → Reads n r r' (Headed n) continues_condition → Item n begins_headed (λ ts. r (skip_comma ts)) (λ ts. r' (skip_comma ts)) (λ x. noise ▷ Headed n x) continues_condition
  headed_item {n = n} law = noisy_item law (begins_by (in_table table)) (λ ts x rest s. begins_table (in_table table) ts s.0 (kind x) (kinds.Word s.1.0, s.1.1, s.1.2)) (starts_otherwise comma (begins_by (in_table table)) (λ span line ts. refl)) (λ ts x rest s. omega (arith, token_less (kinds.Word s.1.0) ts s.0 s.1.2, condition_less n n (omega arith) s.0 (condition x) rest s.2))

  headed_rows : {n : ℕ} {r r' : Reader X} → Reads n r r' (Headed n) continues_condition → Reads n (rows begins_headed (λ ts. r (skip_comma ts))) (rows begins_headed (λ ts. r' (skip_comma ts))) (each_in_turn (λ x. noise ▷ Headed n x)) (λ ts. begins_headed ts || continues_head ts)
  headed_rows {n = n} law =
      fewer_reads (rows_reads (headed_item law) (λ ts x rest s. no_condition ts (headed_stops n ts x rest s))) (λ ts. begins_headed ts || continues_head ts)
      (λ ts stop. let both = or_false (begins_headed ts) (continues_head ts) stop in or_from (begins_headed ts) (continues_condition ts) both.0 (no_condition ts both.1))

  -- a token that can't continue a head and begins none of these doesn't begin a row of them
  headed_first : (n : ℕ) (xs : List X) (ts rest : List Token) → each_in_turn (λ x. noise ▷ Headed n x) xs ts rest → (begins_headed rest || continues_head rest) ≡ false → continues_head ts ≡ false
  headed_first n xs ts rest s stop = each_first continues_head (headed_stops n) xs ts rest s (or_false (begins_headed rest) (continues_head rest) stop).1

-- ---- phrases

phrase_no_head : Continue_no_head phrase_of
phrase_no_head w kind e = (grind arith, grind arith, grind arith)

abbrev pub Bare_phrase : ℕ → PhraseTree → Shape
Bare_phrase n x = Word_for phrase_of x.kind ▷ In_condition n x.condition

phrase_reads : (n m : ℕ) → n ≤ m → Reads n (phrase_in n) (phrase_in m) (Bare_phrase n) continues_condition
unfolding phrase_in
phrase_reads n m le = apply_reads (seq_reads (word_in_reads n phrase_of) (condition_in_reads n m le) (λ c ts rest s stop. refl)) phrase_tree (Bare_phrase n) (λ p ts rest s. s) (λ x ts rest s. ((x.kind, x.condition), refl, s))

pub phrases_loop : (n : ℕ) → Loop (λ ts. begins_phrase (skip_comma ts)) (λ r. phrase_in n (skip_comma r))
phrases_loop n = loop_of (headed_item phrase_of phrase_no_head (λ (x : PhraseTree). x.kind) (λ (x : PhraseTree). x.condition) (phrase_reads n n (omega arith))) refl

-- ---- the conditions of a loop that begins with WHILE or UNTIL

guard_no_head : Continue_no_head guard_of
guard_no_head w kind e = (grind arith, grind arith, grind arith)

abbrev pub Bare_guard : ℕ → GuardTree → Shape
Bare_guard n x = Word_for guard_of x.kind ▷ In_condition n x.condition

guard_reads : (n m : ℕ) → n ≤ m → Reads n (guard_in n) (guard_in m) (Bare_guard n) continues_condition
unfolding guard_in
guard_reads n m le = apply_reads (seq_reads (word_in_reads n guard_of) (condition_in_reads n m le) (λ c ts rest s stop. refl)) guard_tree (Bare_guard n) (λ p ts rest s. s) (λ x ts rest s. ((x.kind, x.condition), refl, s))

pub guards_loop : (n : ℕ) → Loop (λ ts. begins_guard (skip_comma ts)) (λ r. guard_in n (skip_comma r))
guards_loop n = loop_of (headed_item guard_of guard_no_head (λ (x : GuardTree). x.kind) (λ (x : GuardTree). x.condition) (guard_reads n n (omega arith))) refl

-- ---- FOR

-- what continues a loop's head that begins with FOR
abbrev pub continues_for : List Token → Bool
continues_for ts = begins_phrase (skip_comma ts) || continues_head ts

abbrev pub Noisy_phrase : ℕ → PhraseTree → Shape
Noisy_phrase n x = noise ▷ Bare_phrase n x

module _ (n m : ℕ) (le : n ≤ m) where
  room_sum : Reads (suc n) (sum_in (suc n)) (sum_in (suc m)) (λ e. Sum_is n e) continues_sum
  room_sum = sum_in_reads (suc n) (suc m) (omega arith)

  room_phrases : Reads (suc n) (phrases_in (suc n)) (phrases_in (suc m)) (each_in_turn (Noisy_phrase (suc n))) continues_for
  room_phrases = headed_rows phrase_of phrase_no_head (λ (x : PhraseTree). x.kind) (λ (x : PhraseTree). x.condition) (phrase_reads (suc n) (suc m) (omega arith))

  -- what can't continue a part of a head is no phrase
  by_phrases : (xs : List PhraseTree) (ts rest : List Token) → each_in_turn (Noisy_phrase (suc n)) xs ts rest → continues_for rest ≡ false → continues_head ts ≡ false
  by_phrases xs ts rest s stop = headed_first phrase_of phrase_no_head (λ (x : PhraseTree). x.kind) (λ (x : PhraseTree). x.condition) (suc n) xs ts rest s stop

  step_reads : Reads (suc n) (step_in (suc n)) (step_in (suc m)) (perhaps (λ e. Word_is words.By ▷ Sum_is n e)) (λ ts. begins (word words.By) ts || continues_sum ts)
  step_reads = maybe_reads (item_marked (word words.By) room_sum)

  stops_step : (ts : List Token) → continues_head ts ≡ false → (begins (word words.By) ts || continues_sum ts) ≡ false
  stops_step ts stop = or_from (begins (word words.By) ts) (continues_sum ts) (no_head_word words.By refl ts stop) (no_sum ts stop)

  step_stops : (p : Option ExpressionTree × List PhraseTree) (ts rest : List Token) → (perhaps (λ e. Word_is words.By ▷ Sum_is n e) p.0 ▷ each_in_turn (Noisy_phrase (suc n)) p.1) ts rest → continues_for rest ≡ false → continues_sum ts ≡ false
  step_stops (None, ps) ts rest (a, e, s) stop = ap continues_sum e ∙ no_sum a (by_phrases ps a rest s stop)
  step_stops (Some e, ps) ts rest (a, (b, (span, line, f), s), t) stop = ap continues_sum f

  abbrev Range_parts : List ℕ × (ExpressionTree × (ExpressionTree × (Option ExpressionTree × List PhraseTree))) → Shape
  Range_parts p = Name_is p.0 ▷ Symbol_is Equals ▷ Sum_is n p.1.0 ▷ Word_is words.To ▷ Sum_is n p.1.1.0 ▷ perhaps (λ e. Word_is words.By ▷ Sum_is n e) p.1.1.1.0 ▷ each_in_turn (Noisy_phrase (suc n)) p.1.1.1.1

  range_reads : Reads (suc n) (range_in (suc n)) (range_in (suc m)) (Made range_tree Range_parts) continues_for
  unfolding range_in
  range_reads =
      made_reads (seq_reads (name_reads (suc n)) (marked_reads (symbol Equals) (seq_reads room_sum (marked_reads (word words.To) (seq_reads room_sum (seq_reads step_reads room_phrases (λ ps ts rest s stop. stops_step ts (by_phrases ps ts rest s stop))) step_stops)) (λ p ts rest s stop. ap continues_sum s.1.2))) (λ p ts rest s stop. refl)) range_tree

  -- ---- over a set

  -- which tokens continue the place where a loop over a set begins
  abbrev continues_start : List Token → Bool
  continues_start ts = begins (word words.From) ts || (begins (word words.After) ts || continues_sum ts)

  stops_start : (ts : List Token) → continues_head ts ≡ false → continues_start ts ≡ false
  stops_start ts stop =
      or_from (begins (word words.From) ts) (begins (word words.After) ts || continues_sum ts) (no_head_word words.From refl ts stop)
      (or_from (begins (word words.After) ts) (continues_sum ts) (no_head_word words.After refl ts stop) (no_sum ts stop))

  after_reads : Reads (suc n) (choose_reader (begins (word words.After)) (apply after_member (after_dropped (expect (word words.After)) (sum_in (suc n)))) (done from_end)) (choose_reader (begins (word words.After)) (apply after_member (after_dropped (expect (word words.After)) (sum_in (suc m)))) (done from_end)) (λ x. either_shape (Made after_member (λ e. Word_is words.After ▷ Sum_is n e) x) (provided (from_end ≡ x) nothing)) (λ ts. begins (word words.After) ts || continues_sum ts)
  after_reads = item_or_none (item_made (word words.After) room_sum after_member) from_end

  after_late : (x : StartTree) (ts rest : List Token) → either_shape (Made after_member (λ e. Word_is words.After ▷ Sum_is n e) x) (provided (from_end ≡ x) nothing) ts rest → continues_start rest ≡ false → begins (word words.From) ts ≡ false
  after_late x ts rest (inl (e, is, (a, (span, line, f), s))) stop = ap (begins (word words.From)) f
  after_late x ts rest (inr (is, e)) stop = ap (begins (word words.From)) e ∙ (or_false (begins (word words.From) rest) _ stop).0

  start_reads : Reads (suc n) (start_in (suc n)) (start_in (suc m)) (Start_is n) continues_start
  unfolding start_in
  start_reads =
      reshaped_reads (either_reads (item_made (word words.From) room_sum from_member) after_reads continues_start
      (λ ts stop. let both = or_false (begins (word words.From) ts) (begins (word words.After) ts || continues_sum ts) stop in ((or_false (begins (word words.After) ts) (continues_sum ts) both.1).1, both.1))
      after_late) (Start_is n) to from
    where
      to : (x : StartTree) (ts rest : List Token) → either_shape (Made from_member (λ e. Word_is words.From ▷ Sum_is n e) x) (either_shape (Made after_member (λ e. Word_is words.After ▷ Sum_is n e) x) (provided (from_end ≡ x) nothing)) ts rest → Start_is n x ts rest
      to x ts rest (inl (e, is, s)) = subst (λ x. Start_is n x ts rest) is s
      to x ts rest (inr (inl (e, is, s))) = subst (λ x. Start_is n x ts rest) is s
      to x ts rest (inr (inr (is, s))) = subst (λ x. Start_is n x ts rest) is s

      from : (x : StartTree) (ts rest : List Token) → Start_is n x ts rest → either_shape (Made from_member (λ e. Word_is words.From ▷ Sum_is n e) x) (either_shape (Made after_member (λ e. Word_is words.After ▷ Sum_is n e) x) (provided (from_end ≡ x) nothing)) ts rest
      from from_end ts rest s = inr (inr (refl, s))
      from (from_member e) ts rest s = inl (e, refl, s)
      from (after_member e) ts rest s = inr (inl (e, refl, s))

  abbrev Reverse_words : Shape
  Reverse_words = Word_is words.In ▷ Word_is words.Reverse ▷ Word_is words.Order

  reverse_reads : Reads (suc n) reverse reverse (flagged Reverse_words) (λ ts. begins (word words.In) ts || continues_never ts)
  unfolding reverse
  reverse_reads = flag_reads (item_marked (word words.In) (marked_reads (word words.Reverse) (expect_reads (suc n) (word words.Order))))

  reverse_stops : (p : Bool × List PhraseTree) (ts rest : List Token) → (flagged Reverse_words p.0 ▷ each_in_turn (Noisy_phrase (suc n)) p.1) ts rest → continues_for rest ≡ false → continues_start ts ≡ false
  reverse_stops (true, ps) ts rest (a, (b, (span, line, e), s), t) stop = ap continues_start e
  reverse_stops (false, ps) ts rest (a, e, t) stop = ap continues_start e ∙ stops_start a (by_phrases ps a rest t stop)

  start_stops : (p : StartTree × (Bool × List PhraseTree)) (ts rest : List Token) → (Start_is n p.0 ▷ flagged Reverse_words p.1.0 ▷ each_in_turn (Noisy_phrase (suc n)) p.1.1) ts rest → continues_for rest ≡ false → continues_place ts ≡ false
  start_stops (from_end, q) ts rest (a, e, s) stop =
      let no = reverse_stops q a rest s stop in
      ap continues_place e ∙ stops_place a (or_false (begins (word words.After) a) (continues_sum a) (or_false (begins (word words.From) a) (begins (word words.After) a || continues_sum a) no).1).1
  start_stops (from_member x, q) ts rest (a, (b, (span, line, e), s), t) stop = ap continues_place e
  start_stops (after_member x, q) ts rest (a, (b, (span, line, e), s), t) stop = ap continues_place e

  abbrev Members_parts : NamedTree × (StartTree × (Bool × List PhraseTree)) → Shape
  Members_parts p = Word_is words.In ▷ (the ▷ Reference_is n p.0) ▷ Start_is n p.1.0 ▷ flagged Reverse_words p.1.1.0 ▷ each_in_turn (Noisy_phrase (suc n)) p.1.1.1

  members_item : (v : List ℕ) → Item (suc n) (begins (word words.In)) (members_in (suc n) v) (members_in (suc m) v) (Made (members_tree v) Members_parts) continues_for
  unfolding members_in
  members_item v = item_made (word words.In) (seq_reads (the_set_reads n m le) (seq_reads start_reads (seq_reads reverse_reads room_phrases (λ ps ts rest s stop. not_continued words.In refl ts (by_phrases ps ts rest s stop))) reverse_stops) start_stops) (members_tree v)

  -- ---- over a class

  abbrev Called_name : Option (List ℕ) → Shape
  Called_name = perhaps (λ v. Word_is words.Called ▷ Name_is v)

  abbrev Class_parts : Option (List ℕ) × List PhraseTree → Shape
  Class_parts p = Called_name p.0 ▷ each_in_turn (Noisy_phrase (suc n)) p.1

  class_reads : (v : List ℕ) → Reads (suc n) (class_in (suc n) v) (class_in (suc m) v) (Made (class_tree v) Class_parts) continues_for
  unfolding class_in
  class_reads v = made_reads (seq_reads (maybe_reads (item_marked (word words.Called) (name_reads (suc n)))) room_phrases (λ ps ts rest s stop. not_continued words.Called refl ts (by_phrases ps ts rest s stop))) (class_tree v)

  class_late : (v : List ℕ) (x : HeadTree) (ts rest : List Token) → Made (class_tree v) Class_parts x ts rest → continues_for rest ≡ false → begins (word words.In) ts ≡ false
  class_late v x ts rest ((None, ps), is, (a, e, s)) stop = ap (begins (word words.In)) e ∙ no_head_word words.In refl a (by_phrases ps a rest s stop)
  class_late v x ts rest ((Some c, ps), is, (a, (b, (span, line, e), s), t)) stop = ap (begins (word words.In)) e

  abbrev Named_parts : List ℕ → HeadTree → Shape
  Named_parts v x = either_shape (Made (members_tree v) Members_parts x) (Made (class_tree v) Class_parts x)

  named_reads : (v : List ℕ) → Reads (suc n) (each_named (suc n) v) (each_named (suc m) v) (Named_parts v) continues_for
  named_reads v = either_reads (members_item v) (class_reads v) continues_for (λ ts stop. (stop, stop)) (class_late v)

  abbrev Each_parts : HeadTree → Shape
  Each_parts x = One_of classes.Each ▷ (λ ts rest. (v : List ℕ) × (Name_is v ▷ Named_parts v x) ts rest)

  each_reads : Reads (suc n) (each_in (suc n)) (each_in (suc m)) Each_parts continues_for
  unfolding each_in
  each_reads = following_reads (expect_class_reads (suc n) classes.Each) (bind_reads (name_reads (suc n)) named_reads (λ v x ts rest s stop. refl)) (λ x ts rest s stop. refl)

  each_item : Item (suc n) (begins_class classes.Each) (each_in (suc n)) (each_in (suc m)) Each_parts continues_for
  each_item =
      item_of (begins_class classes.Each) each_reads (λ ts x rest s. one_begins classes.Each ts s.0 s.1)
      (λ ts x rest s. omega (arith, one_less classes.Each ts s.0 s.1, (bind_reads (name_reads (suc n)) named_reads (λ v x ts rest s stop. refl)).shorter s.0 x rest s.2))

  -- ---- the whole

  range_late : (x : HeadTree) (ts rest : List Token) → Made range_tree Range_parts x ts rest → continues_for rest ≡ false → begins_class classes.Each ts ≡ false
  range_late x ts rest (p, is, (a, (span, line, e), s)) stop = ap (begins_class classes.Each) e

  for_to : (x : HeadTree) (ts rest : List Token) → either_shape (Each_parts x) (Made range_tree Range_parts x) ts rest → Head_rest n x ts rest
  for_to x ts rest (inl (a, e, (v, (b, name, inl (p, is, (c, i, (d, s, t))))))) = subst (λ x. Head_rest n x ts rest) is (a, e, (b, name, (c, i, (s.0, s.1, (d, s.2, t)))))
  for_to x ts rest (inl (a, e, (v, (b, name, inr (p, is, s))))) = subst (λ x. Head_rest n x ts rest) is (a, e, (b, name, s))
  for_to x ts rest (inr (p, is, s)) = subst (λ x. Head_rest n x ts rest) is s

  for_from : (x : HeadTree) (ts rest : List Token) → Head_rest n x ts rest → either_shape (Each_parts x) (Made range_tree Range_parts x) ts rest
  for_from (over_range v from to step ps) ts rest s = inr ((v, (from, (to, (step, ps)))), refl, s)
  for_from (over_members v set start rev ps) ts rest (a, e, (b, name, (c, i, (f, t, (d, s, more))))) = inl (a, e, (v, (b, name, inl ((set, (start, (rev, ps))), refl, (c, i, (d, (f, t, s), more))))))
  for_from (over_class c v ps) ts rest (a, e, (b, name, s)) = inl (a, e, (c, (b, name, inr ((v, ps), refl, s))))

  -- the head of a FOR after its first word
  pub for_reads : Reads (suc n) (for_in (suc n)) (for_in (suc m)) (Head_rest n) continues_for
  unfolding for_in
  for_reads = reshaped_reads (either_reads each_item range_reads continues_for (λ ts stop. (stop, stop)) range_late) (Head_rest n) for_to for_from

  -- ---- WHILE and UNTIL

  abbrev pub continues_guarded : List Token → Bool
  continues_guarded ts = begins_guard (skip_comma ts) || continues_head ts

  room_guards : Reads (suc n) (guards_in (suc n)) (guards_in (suc m)) (each_in_turn (λ x. noise ▷ Bare_guard (suc n) x)) continues_guarded
  room_guards = headed_rows guard_of guard_no_head (λ (x : GuardTree). x.kind) (λ (x : GuardTree). x.condition) (guard_reads (suc n) (suc m) (omega arith))

  abbrev pub Guards_made : GuardKind → ConditionTree → LoopHeadTree → Shape
  Guards_made kind c = Made guarded (Made (λ gs. guard_tree (kind, c) ∷ gs) (each_in_turn (λ x. noise ▷ Bare_guard (suc n) x)))

  guards_no_condition : (kind : GuardKind) (c : ConditionTree) (x : LoopHeadTree) (ts rest : List Token) → Guards_made kind c x ts rest → continues_guarded rest ≡ false → continues_condition ts ≡ false
  guards_no_condition kind c x ts rest (all, is, (gs, makes, s)) stop = no_condition ts (headed_first guard_of guard_no_head (λ (x : GuardTree). x.kind) (λ (x : GuardTree). x.condition) (suc n) gs ts rest s stop)

  abbrev pub Guarded_parts : GuardKind → LoopHeadTree → Shape
  Guarded_parts kind x ts rest = (c : ConditionTree) × (In_condition (suc n) c ▷ Guards_made kind c x) ts rest

  pub guarded_reads : (kind : GuardKind) → Reads (suc n) (guarded_in (suc n) kind) (guarded_in (suc m) kind) (Guarded_parts kind) continues_guarded
  unfolding guarded_in
  guarded_reads kind = bind_reads (condition_in_reads (suc n) (suc m) (omega arith)) (λ c. made_reads (made_reads room_guards (λ gs. guard_tree (kind, c) ∷ gs)) guarded) (guards_no_condition kind)
