-- Statements of a preamble after their first word: what is read is spelled, and what is spelled is read.
use Rattle.std.proofs.Common.{◌≡◌, ℕ, true, false, ◌||◌, List, Option, Some, None, refl, ap, subst, ◌∙◌, arith, inl, inr}
use Rattle.ss_parse.proofs.Common.{begins_class, begins_item, begins_name, ClassKind, either_reads, fail_reads, has_word, Item_is, items_reads, Line, mode_of_word, ModeWord, name_reads, NamedKey, NamedStatistic, names_reads, noisy, noisy_mark_reads, optional_class_reads, perhaps_listed, perhaps_listed_reads, Token, Weighting, Word, word_in_reads}
use Rattle.std.proofs.lemmas.Option.{same_Some}
use Rattle.ss_lex.specs.declared.word.Word.TheVariants as words
use Rattle.ss_lex.specs.declared.token.TokenKind.TheVariants as kinds
use Rattle.ss_base.specs.declared.words.Weighting.TheVariants as weightings
use Rattle.ss_tree.specs.Tree.{ClauseTree, PreambleTree, permanent_entities, temporary_entities, event_notices, every, normally, system_owns, define_variables, define_sets, priority_order, break_ties, statistics}
use Rattle.ss_parse_expressions.specs.declared.classes.WordClass.TheVariants as alike
use Rattle.ss_parse_expressions.specs.Shapes.{Shape, ◌▷◌, never, either_shape, Word_is, Name_is, Word_for, separated_list}
use Rattle.ss_parse_expressions.specs.Reading.{word, begins_by, expect, in_table, taken, closed, apply, begins_more}
use Rattle.ss_parse_expressions.specs.ReadWords.{fail}
use Rattle.ss_parse_expressions.proofs.Marks.{token_less, begins_table}
use Rattle.ss_parse_statements.proofs.Beginnings.{both_false}
use Rattle.ss_parse_expressions.proofs.ReaderLaws.{Reads, Item, continues_never, Made, made_reads, reshaped_reads, seq_reads, following_reads, bind_reads, marked_reads, closed_reads, fewer_reads, item_of, item_marked, expect_reads}
use Rattle.ss_parse.specs.SpelledPreambles.{Keys_are, Statistic_is, Clauses_are, Order_is, article, preamble_line, preamble_first, Preamble_rest}
use Rattle.ss_parse.specs.ReadPreambles.{permanent_at, temporary_at, notices_at, every_at, normally_at, system_at, define_end, define_at, priority_at, break_at, statistics_at, preamble_at, preamble_word}
use Rattle.ss_parse.proofs.Orders.{continues_preamble, over, over_list, keys_reads, order_reads, order_no_mode}
use Rattle.ss_parse.proofs.Statistics.{weighting_known, found_reads}
use Rattle.ss_parse.proofs.Clauses.{clauses_reads}

pub preamble_known : (x : PreambleTree) → preamble_word (preamble_first x) ≡ true
preamble_known (statistics line weighting fs subject) = weighting_known weighting
preamble_known _ = refl

pub mode_no_article : (w : Word) (mode : ModeWord) → mode_of_word w ≡ Some mode → has_word alike.Article w ≡ false
mode_no_article words.Integer mode e = refl
mode_no_article words.Alpha mode e = refl
mode_no_article words.Real mode e = refl
mode_no_article _ mode e = absurd cc

-- a statement of this line and this first word, in a group of this kind, after the first word
abbrev pub Pre_is : Option ClassKind → Line → Word → PreambleTree → Shape
Pre_is group line w x ts rest = (preamble_line x ≡ line) × (preamble_first x ≡ w) × Preamble_rest group x ts rest

-- ---- what is read of a statement after its first word

-- EVERY, in a group
abbrev Every_parts : Option ClassKind → Line → PreambleTree → Shape
Every_parts None line x = never
Every_parts (Some kind) line x = Made (λ (p : List ℕ × List ClauseTree). every line kind p.0 p.1) (λ p. Name_is p.0 ▷ Clauses_are p.1) x

-- DEFINE
abbrev Mode_end : Line → List (List ℕ) → PreambleTree → Shape
Mode_end line ns = Made (define_variables line ns) (λ mode. Word_for mode_of_word mode ▷ Word_is words.Variable)

abbrev Order_end : Line → List (List ℕ) → PreambleTree → Shape
Order_end line ns = Made (define_sets line ns) Order_is

abbrev Define_parts : Line → PreambleTree → Shape
Define_parts line x ts rest = (ns : List (List ℕ)) × ((separated_list Name_is ns ▷ Word_is words.As) ▷ (article ▷ either_shape (Mode_end line ns x) (Order_end line ns x))) ts rest

-- TALLY and ACCUMULATE
abbrev Statistics_parts : List NamedStatistic × List ℕ → Shape
Statistics_parts p = separated_list Statistic_is p.0 ▷ Word_is words.Of ▷ Name_is p.1

abbrev Parts : Option ClassKind → Line → Word → PreambleTree → Shape
Parts group line words.Permanent x = Made (λ (u : Unit {0}). permanent_entities line) (λ u. Word_is words.Entities) x
Parts group line words.Temporary x = Made (λ (u : Unit {0}). temporary_entities line) (λ u. Word_is words.Entities) x
Parts group line words.Event x = Made (event_notices line) (λ ns. Word_is words.Notices ▷ perhaps_listed (Word_is words.Include) Name_is ns) x
Parts group line words.Every x = Every_parts group line x
Parts group line words.Normally x = Made (normally line) (λ mode. noisy words.Mode ▷ Word_is words.Is ▷ Word_for mode_of_word mode) x
Parts group line words.The x = Made (system_owns line) (λ ns. Word_is words.System ▷ Word_is words.Owns ▷ separated_list Item_is ns) x
Parts group line words.Define x = Define_parts line x
Parts group line words.Priority x = Made (priority_order line) (λ ns. Word_is words.Order ▷ Word_is words.Is ▷ separated_list Name_is ns) x
Parts group line words.Break x = Made (λ (p : List ℕ × List NamedKey). break_ties line p.0 p.1) (λ p. Name_is p.0 ▷ Word_is words.Ties ▷ Word_is words.By ▷ Keys_are p.1) x
Parts group line words.Tally x = Made (λ p. statistics line weightings.Tally p.0 p.1) Statistics_parts x
Parts group line words.Accumulate x = Made (λ p. statistics line weightings.Accumulate p.0 p.1) Statistics_parts x
Parts group line _ x = never

parts_to : (group : Option ClassKind) (line : Line) (w : Word) (x : PreambleTree) (ts rest : List Token) → Parts group line w x ts rest → Pre_is group line w x ts rest
parts_to group line words.Permanent x ts rest (u, is, s) = subst (λ x. Pre_is group line words.Permanent x ts rest) is (refl, refl, s)
parts_to group line words.Temporary x ts rest (u, is, s) = subst (λ x. Pre_is group line words.Temporary x ts rest) is (refl, refl, s)
parts_to group line words.Event x ts rest (p, is, s) = subst (λ x. Pre_is group line words.Event x ts rest) is (refl, refl, s)
parts_to None line words.Every x ts rest s = absurd s
parts_to (Some kind) line words.Every x ts rest (p, is, s) = subst (λ x. Pre_is (Some kind) line words.Every x ts rest) is (refl, refl, (refl, s))
parts_to group line words.Normally x ts rest (p, is, s) = subst (λ x. Pre_is group line words.Normally x ts rest) is (refl, refl, s)
parts_to group line words.The x ts rest (p, is, s) = subst (λ x. Pre_is group line words.The x ts rest) is (refl, refl, s)
parts_to group line words.Define x ts rest (ns, (a, (b, s, w), (c, art, inl (mode, is, t)))) = subst (λ x. Pre_is group line words.Define x ts rest) is (refl, refl, (b, s, (a, w, (c, art, t))))
parts_to group line words.Define x ts rest (ns, (a, (b, s, w), (c, art, inr (o, is, t)))) = subst (λ x. Pre_is group line words.Define x ts rest) is (refl, refl, (b, s, (a, w, (c, art, t))))
parts_to group line words.Priority x ts rest (p, is, s) = subst (λ x. Pre_is group line words.Priority x ts rest) is (refl, refl, s)
parts_to group line words.Break x ts rest (p, is, s) = subst (λ x. Pre_is group line words.Break x ts rest) is (refl, refl, s)
parts_to group line words.Tally x ts rest (p, is, s) = subst (λ x. Pre_is group line words.Tally x ts rest) is (refl, refl, s)
parts_to group line words.Accumulate x ts rest (p, is, s) = subst (λ x. Pre_is group line words.Accumulate x ts rest) is (refl, refl, s)
parts_to group line _ x ts rest s = absurd s

parts_of : (group : Option ClassKind) (x : PreambleTree) (ts rest : List Token) → Preamble_rest group x ts rest → Parts group (preamble_line x) (preamble_first x) x ts rest
parts_of group (permanent_entities l) ts rest s = (tt, refl, s)
parts_of group (temporary_entities l) ts rest s = (tt, refl, s)
parts_of group (event_notices l included) ts rest s = (included, refl, s)
parts_of None (every l kind class cs) ts rest s = let no = s.0 in absurd cc
parts_of (Some kind) (every l kind' class cs) ts rest (is, s) = ((class, cs), ap (λ (c : ClassKind). every l c class cs) (same_Some kind kind' is), s)
parts_of group (normally l mode) ts rest s = (mode, refl, s)
parts_of group (system_owns l sets) ts rest s = (sets, refl, s)
parts_of group (define_variables l ns mode) ts rest (b, s, (a, v, (c, art, t))) = (ns, (a, (b, s, v), (c, art, inl (mode, refl, t))))
parts_of group (define_sets l ns o) ts rest (b, s, (a, v, (c, art, t))) = (ns, (a, (b, s, v), (c, art, inr (o, refl, t))))
parts_of group (priority_order l classes) ts rest s = (classes, refl, s)
parts_of group (break_ties l class keys) ts rest s = ((class, keys), refl, s)
parts_of group (statistics l weightings.Tally fs subject) ts rest s = ((fs, subject), refl, s)
parts_of group (statistics l weightings.Accumulate fs subject) ts rest s = ((fs, subject), refl, s)

parts_from : (group : Option ClassKind) (line : Line) (w : Word) (x : PreambleTree) (ts rest : List Token) → Pre_is group line w x ts rest → Parts group line w x ts rest
parts_from group line w x ts rest s =
    let parts : Parts group (preamble_line x) (preamble_first x) x ts rest = parts_of group x ts rest s.2 in
    subst (λ (l : Line). Parts group l w x ts rest) s.0 (subst (λ (v : Word). Parts group (preamble_line x) v x ts rest) s.1 parts)

-- ---- the readers

module _ (k : ℕ) where
  none_reads : Reads k fail fail (λ (x : PreambleTree). never) continues_preamble
  none_reads = fewer_reads (fail_reads k) continues_preamble (λ ts stop. refl)

  every_reads : (group : Option ClassKind) (line : Line) → Reads k (every_at group line) (every_at group line) (Every_parts group line) continues_preamble
  unfolding every_at
  every_reads None line = none_reads
  every_reads (Some kind) line = made_reads (seq_reads (name_reads k) (clauses_reads k) (λ p ts rest s stop. refl)) (λ p. every line kind p.0 p.1)

  mode_item : (line : Line) (ns : List (List ℕ)) → Item k (begins_by (in_table mode_of_word)) (apply (define_variables line ns) (closed (taken (in_table mode_of_word)) (expect (word words.Variable)))) (apply (define_variables line ns) (closed (taken (in_table mode_of_word)) (expect (word words.Variable)))) (Mode_end line ns) continues_never
  mode_item line ns =
      item_of (begins_by (in_table mode_of_word)) (made_reads (closed_reads (word_in_reads k mode_of_word) (expect_reads k (word words.Variable)) (λ ts rest s stop. refl)) (define_variables line ns))
      (λ ts x rest s. begins_table (in_table mode_of_word) ts s.2.0 s.0 (kinds.Word s.2.1.0, s.2.1.1, s.2.1.2))
      (λ ts x rest s. omega (arith, token_less (kinds.Word s.2.1.0) ts s.2.0 s.2.1.2, token_less (kinds.Word words.Variable) s.2.0 rest s.2.2))

  end_reads : (line : Line) (ns : List (List ℕ)) → Reads k (define_end line ns) (define_end line ns) (λ x. either_shape (Mode_end line ns x) (Order_end line ns x)) continues_preamble
  end_reads line ns = either_reads (mode_item line ns) (made_reads (order_reads k) (define_sets line ns)) continues_preamble (λ ts stop. (refl, stop)) (λ x ts rest s stop. (order_no_mode k s.0 ts rest s.2).0)

  end_no_article : (line : Line) (ns : List (List ℕ)) (x : PreambleTree) (ts rest : List Token) → either_shape (Mode_end line ns x) (Order_end line ns x) ts rest → begins_class alike.Article ts ≡ false
  end_no_article line ns x ts rest (inl (mode, is, (a, (w, means, (span, l, e)), s))) = ap (begins_class alike.Article) e ∙ mode_no_article w mode means
  end_no_article line ns x ts rest (inr (o, is, s)) = (order_no_mode k o ts rest s).1

  statistics_reads : (line : Line) (weighting : Weighting) → Reads k (statistics_at line weighting) (statistics_at line weighting) (Made (λ p. statistics line weighting p.0 p.1) Statistics_parts) continues_preamble
  unfolding statistics_at
  statistics_reads line weighting =
      fewer_reads (made_reads {S = Statistics_parts} (seq_reads (found_reads k) (marked_reads (word words.Of) (name_reads k)) (λ n ts rest s stop. ap (λ (r : List Token). begins_more begins_name r || (continues_never r || continues_never r)) s.1.2)) (λ p. statistics line weighting p.0 p.1))
      continues_preamble (λ ts stop. refl)

  parts_reads : (group : Option ClassKind) (line : Line) (w : Word) → Reads k (preamble_at group line w) (preamble_at group line w) (Parts group line w) continues_preamble
  unfolding preamble_at permanent_at temporary_at normally_at system_at priority_at break_at notices_at define_at
  parts_reads group line words.Permanent = fewer_reads (made_reads (expect_reads k (word words.Entities)) (λ u. permanent_entities line)) continues_preamble (λ ts stop. refl)
  parts_reads group line words.Temporary = fewer_reads (made_reads (expect_reads k (word words.Entities)) (λ u. temporary_entities line)) continues_preamble (λ ts stop. refl)
  parts_reads group line words.Event =
      fewer_reads (made_reads (marked_reads (word words.Notices) (perhaps_listed_reads (item_marked (word words.Include) (names_reads k)))) (event_notices line))
      continues_preamble (λ ts stop. both_false _ _ (over words.Include refl ts stop) (over_list begins_name ts stop))
  parts_reads group line words.Every = every_reads group line
  parts_reads group line words.Normally = fewer_reads (made_reads (following_reads (noisy_mark_reads k (word words.Mode) refl) (marked_reads (word words.Is) (word_in_reads k mode_of_word)) (λ x ts rest s stop. refl)) (normally line)) continues_preamble (λ ts stop. refl)
  parts_reads group line words.The = fewer_reads (made_reads (marked_reads (word words.System) (marked_reads (word words.Owns) (items_reads k))) (system_owns line)) continues_preamble (λ ts stop. over_list begins_item ts stop)
  parts_reads group line words.Define = bind_reads (closed_reads (names_reads k) (expect_reads k (word words.As)) (λ ts rest s stop. ap (λ (r : List Token). begins_more begins_name r || (continues_never r || continues_never r)) s.2)) (λ ns. optional_class_reads (end_reads line ns) alike.Article (end_no_article line ns)) (λ ns x ts rest s stop. refl)
  parts_reads group line words.Priority = fewer_reads (made_reads (marked_reads (word words.Order) (marked_reads (word words.Is) (names_reads k))) (priority_order line)) continues_preamble (λ ts stop. over_list begins_name ts stop)
  parts_reads group line words.Break = made_reads (seq_reads (name_reads k) (marked_reads (word words.Ties) (marked_reads (word words.By) (keys_reads k))) (λ p ts rest s stop. refl)) (λ p. break_ties line p.0 p.1)
  parts_reads group line words.Tally = statistics_reads line weightings.Tally
  parts_reads group line words.Accumulate = statistics_reads line weightings.Accumulate
  parts_reads group line _ = none_reads

  pub word_law : (group : Option ClassKind) (line : Line) (w : Word) → Reads k (preamble_at group line w) (preamble_at group line w) (Pre_is group line w) continues_preamble
  word_law group line w = reshaped_reads (parts_reads group line w) (Pre_is group line w) (parts_to group line w) (parts_from group line w)
