-- Clauses: what is read is spelled, and what is spelled is read.
use Rattle.std.proofs.Common.{◌≡◌, ℕ, ◌<◌, Bool, true, false, ◌||◌, List, [], ◌∷◌, length, refl, ap, subst, ◌∙◌, arith, inl, inr, ◌⊎◌}
use Rattle.ss_parse.proofs.Common.{continues_never, either_reads, fewer_reads, first_and_reads, has_word, Item_is, item_made, item_of, items_reads, Loop, loop_of, Made, made_reads, marked_reads, maybe_list_reads, or_false, Reads, reshaped_reads, separated_item, Token, token_less, Word}
use Rattle.ss_lex.specs.declared.word.Word.TheVariants as words
use Rattle.ss_lex.specs.declared.token.TokenKind.{TokenKind}
use Rattle.ss_lex.specs.declared.token.TokenKind.TheVariants as kinds
use Rattle.ss_tree.specs.Tree.{ClauseTree, has, owns, belongs_to}
use Rattle.ss_parse_expressions.specs.declared.classes.WordClass.TheVariants as alike
use Rattle.ss_parse_expressions.specs.Shapes.{Shape, ◌▷◌, either_shape, separator, Word_is, separated_list}
use Rattle.ss_parse_expressions.specs.Reading.{word, is, begins, comma, skip_separator, begins_more, list_of}
use Rattle.ss_parse_expressions.specs.ReadWords.{among, begins_item}
use Rattle.ss_parse_expressions.proofs.Marks.{starts_otherwise}
use Rattle.ss_parse_expressions.proofs.Rows as rows_laws
use Rattle.ss_parse.specs.SpelledPreambles.{Clause_is, Clauses_are}
use Rattle.ss_parse.specs.ReadPreambles.{clause, clause_word, begins_clause, clauses}
use Rattle.ss_parse.proofs.Orders.{preamble_more, continues_preamble, no_comma, over}

clause_no_item : (w : Word) → clause_word w ≡ true → (has_word alike.Article w ≡ false) × (is (word words.And) (kinds.Word w) ≡ false)
clause_no_item words.Has e = (refl, refl)
clause_no_item words.Owns e = (refl, refl)
clause_no_item words.May e = (refl, refl)
clause_no_item _ e = absurd cc

-- a clause begins with a word of its own
clause_first : (x : ClauseTree) (ts rest : List Token) → Clause_is x ts rest → (w : Word) × (m : List Token) × (clause_word w ≡ true) × Word_is w ts m
clause_first (has ns) ts rest (m, w, s) = (words.Has, m, refl, w)
clause_first (owns ns) ts rest (m, w, s) = (words.Owns, m, refl, w)
clause_first (belongs_to ns) ts rest (m, w, s) = (words.May, m, refl, w)

module _ (k : ℕ) where
  abbrev continues_items : List Token → Bool
  continues_items ts = begins_more begins_item ts || (continues_never ts || continues_never ts)

  abbrev Belongs_parts : List (List ℕ) → Shape
  Belongs_parts ns = Word_is words.May ▷ Word_is words.Belong ▷ Word_is words.To ▷ separated_list Item_is ns

  abbrev Owns_or_belongs : ClauseTree → Shape
  Owns_or_belongs x = either_shape (Made owns (λ ns. Word_is words.Owns ▷ separated_list Item_is ns) x) (Made belongs_to Belongs_parts x)

  clause_reads : Reads k clause clause Clause_is continues_items
  unfolding clause
  clause_reads =
      reshaped_reads (either_reads (item_made (word words.Has) (items_reads k) has)
      (either_reads (item_made (word words.Owns) (items_reads k) owns) (made_reads (marked_reads (word words.May) (marked_reads (word words.Belong) (marked_reads (word words.To) (items_reads k)))) belongs_to) continues_items (λ ts stop. (stop, stop)) (λ x ts rest s stop. ap (begins (word words.Owns)) s.2.1.2))
      continues_items (λ ts stop. (stop, stop)) late) Clause_is to from
    where
      late : (x : ClauseTree) (ts rest : List Token) → Owns_or_belongs x ts rest → continues_items rest ≡ false → begins (word words.Has) ts ≡ false
      late x ts rest (inl (ns, is, (a, (span, line, e), s))) stop = ap (begins (word words.Has)) e
      late x ts rest (inr (ns, is, (a, (span, line, e), s))) stop = ap (begins (word words.Has)) e

      to : (x : ClauseTree) (ts rest : List Token) → either_shape (Made has (λ ns. Word_is words.Has ▷ separated_list Item_is ns) x) (Owns_or_belongs x) ts rest → Clause_is x ts rest
      to x ts rest (inl (ns, is, s)) = subst (λ x. Clause_is x ts rest) is s
      to x ts rest (inr (inl (ns, is, s))) = subst (λ x. Clause_is x ts rest) is s
      to x ts rest (inr (inr (ns, is, s))) = subst (λ x. Clause_is x ts rest) is s

      from : (x : ClauseTree) (ts rest : List Token) → Clause_is x ts rest → either_shape (Made has (λ ns. Word_is words.Has ▷ separated_list Item_is ns) x) (Owns_or_belongs x) ts rest
      from (has ns) ts rest s = inl (ns, refl, s)
      from (owns ns) ts rest s = inr (inl (ns, refl, s))
      from (belongs_to ns) ts rest s = inr (inr (ns, refl, s))

  clause_begins : (ts : List Token) (x : ClauseTree) (rest : List Token) → Clause_is x ts rest → begins_clause ts ≡ true
  clause_begins ts x rest s = let f = clause_first x ts rest s in ap begins_clause f.3.2 ∙ f.2

  clause_less : (ts : List Token) (x : ClauseTree) (rest : List Token) → Clause_is x ts rest → length rest < length ts
  clause_less ts (has ns) rest (a, w, s) = omega (arith, token_less (kinds.Word words.Has) ts a w, (items_reads k).shorter a ns rest s)
  clause_less ts (owns ns) rest (a, w, s) = omega (arith, token_less (kinds.Word words.Owns) ts a w, (items_reads k).shorter a ns rest s)
  clause_less ts (belongs_to ns) rest (a, w, (b, v, (c, u, s))) = omega (arith, token_less (kinds.Word words.May) ts a w, token_less (kinds.Word words.Belong) a b v, token_less (kinds.Word words.To) b c u, (items_reads k).shorter c ns rest s)

  clause_no_and : (ts : List Token) → begins_clause ts ≡ true → begins (word words.And) ts ≡ false
  clause_no_and = starts_otherwise (word words.And) begins_clause (λ span line ts. refl)

  -- a separator and a clause are not a separator and an item
  clause_stops : (ts : List Token) (x : ClauseTree) (rest : List Token) → (separator ▷ Clause_is x) ts rest → continues_items ts ≡ false
  clause_stops ts x rest (a, separated, s) = go separated (clause_first x a rest s)
    where
      go : separator ts a → ((w : Word) × (m : List Token) × (clause_word w ≡ true) × Word_is w a m) → continues_items ts ≡ false
      go (inl (span, line, e)) (w, m, held, (span', line', f)) =
          let no = clause_no_item w held in
          rw (e, f, no.1, no.0) refl
      go (inr (inl (span, line, e))) (w, m, held, (span', line', f)) =
          rw (e, f, (clause_no_item w held).0) refl
      go (inr (inr (b, (span, line, e), (span'', line'', g)))) (w, m, held, (span', line', f)) =
          rw (e, g, f, (clause_no_item w held).0) refl

  clause_list_reads : Reads k (list_of begins_clause clause) (list_of begins_clause clause) (separated_list Clause_is) (λ ts. begins_more begins_clause ts || (continues_items ts || continues_items ts))
  clause_list_reads = first_and_reads clause_reads (separated_item clause_reads begins_clause clause_begins clause_no_and) (λ ts x rest s. let no = clause_stops ts x rest s in (no, no)) clause_less

  pub clauses_reads : Reads k clauses clauses Clauses_are continues_preamble
  clauses_reads = fewer_reads (maybe_list_reads (item_of begins_clause clause_list_reads clauses_begin less) to from (λ ts. refl)) continues_preamble stops
    where
      clauses_begin : (ts : List Token) (xs : List ClauseTree) (rest : List Token) → separated_list Clause_is xs ts rest → begins_clause ts ≡ true
      clauses_begin ts [] rest s = absurd s
      clauses_begin ts (x ∷ xs) rest s = clause_begins ts x s.0 s.1

      less : (ts : List Token) (xs : List ClauseTree) (rest : List Token) → separated_list Clause_is xs ts rest → length rest < length ts
      less ts xs rest s = rows_laws.first_less clause_reads (separated_item clause_reads begins_clause clause_begins clause_no_and) (λ ts x rest s. let no = clause_stops ts x rest s in (no, no)) clause_less ts xs rest s

      to : (xs : List ClauseTree) (ts rest : List Token) → separated_list Clause_is xs ts rest → Clauses_are xs ts rest
      to [] ts rest s = absurd s
      to (x ∷ xs) ts rest s = s

      from : (xs : List ClauseTree) (ts rest : List Token) → Clauses_are xs ts rest → ((xs ≡ []) × (ts ≡ rest)) ⊎ separated_list Clause_is xs ts rest
      from [] ts rest s = inl (refl, s)
      from (x ∷ xs) ts rest s = inr s

      no_clause : (ts : List Token) → continues_preamble ts ≡ false → begins_clause ts ≡ false
      no_clause [] stop = refl
      no_clause (t ∷ ts) stop = go t.kind (or_false (is comma t.kind) (among preamble_more t.kind) stop).1
        where
          go : (kind : TokenKind) → among preamble_more kind ≡ false → among clause_word kind ≡ false
          go (kinds.Word words.Has) e = absurd cc
          go (kinds.Word words.Owns) e = absurd cc
          go (kinds.Word words.May) e = absurd cc
          go _ e = refl

      stops : (ts : List Token) → continues_preamble ts ≡ false → (begins_clause ts || (begins_more begins_clause ts || (continues_items ts || continues_items ts))) ≡ false
      stops ts stop = rw (no_clause ts stop, no_comma ts stop, over words.And refl ts stop) refl

-- ---- the loop over clauses

pub clauses_loop : Loop (begins_more begins_clause) (λ r. clause (skip_separator r))
clauses_loop = loop_of (separated_item (clause_reads 0) begins_clause (clause_begins 0) (clause_no_and 0)) refl
