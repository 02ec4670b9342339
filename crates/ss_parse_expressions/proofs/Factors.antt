-- Factors: what is read is spelled, and what is spelled is read.
use Rattle.std.proofs.Common.{◌≡◌, ℕ, zero, suc, ◌+◌, ◌<◌, ◌||◌, List, [], ◌∷◌, length, Option, Some, None, Ok, refl, ap, subst, ◌∙◌, arith, inl, inr, ◌⊎◌}
use Rattle.ss_parse_expressions.proofs.Common.{and_expression, and_term, begins, begins_more, call, CloseParenthesis, Designator, expression_row, ExpressionRow, ExpressionTree, Function, function_of, named, no_expression, no_term, number, openers, OpenParenthesis, opens, parenthesised, product, signed, sum, text, Token, Token_is, TokenKind, Word}
use Rattle.ss_lex.specs.declared.word.Word.TheVariants as words
use Rattle.ss_lex.specs.declared.token.TokenKind.TheVariants as kinds
use Rattle.ss_tree.specs.declared.expression.Designator.TheVariants as designators
use Rattle.ss_parse_expressions.specs.Shapes.{Shape, ◌▷◌, nothing, never, provided, Symbol_is, Word_for, Word_is, separator, each_in_turn, separated_list, nested_shape}
use Rattle.ss_parse_expressions.specs.SpelledExpressions.{ExpressionPlace, sum_place, factor_place, Designated, Spelled, Further_arguments}
use Rattle.ss_parse_expressions.specs.ReadExpressions.{opening, closing, designator_of_word, begins_sum, arguments_with, enclosed_with, subscripts_with, parenthesised_with, factor_in_words, factor_at, factor_with, sum_in}
use Rattle.ss_parse_expressions.proofs.Marks.{token_less}
use Rattle.ss_parse_expressions.proofs.Depth.{Upto, upto_same, Bounded, bounded_more, bounded_opened}
use Rattle.ss_parse_expressions.proofs.ReaderLaws.{Reads, Item, Made, continues_never, done_reads, reshaped_reads, fewer_reads, made_reads, before_mark_reads, opened_reads, opened_item, maybe_list_reads}
use Rattle.ss_parse_expressions.proofs.Rows.{list_reads}
use Rattle.ss_parse_expressions.proofs.WordLaws.{fail_reads}
use Rattle.ss_parse_expressions.proofs.Beginnings.{In, in_begins, sum_no_and, continues_factor, continues_sum}

-- ---- rows of arguments as lists

pub further_arguments : (levels : ℕ) (xs : List ExpressionTree) (ts rest : List Token) → each_in_turn (λ e. separator ▷ Spelled e sum_place levels) xs ts rest → Further_arguments (expression_row xs) levels ts rest
further_arguments levels [] ts rest e = e
further_arguments levels (x ∷ xs) ts rest (m, (n, separated, one), more) = (n, separated, (m, one, further_arguments levels xs m rest more))

pub arguments_listed : (levels : ℕ) (es : ExpressionRow) (ts rest : List Token) → Further_arguments es levels ts rest → (xs : List ExpressionTree) × (expression_row xs ≡ es) × each_in_turn (λ e. separator ▷ Spelled e sum_place levels) xs ts rest
arguments_listed levels no_expression ts rest e = ([], refl, e)
arguments_listed levels (and_expression x es) ts rest (n, separated, (m, one, more)) =
    let found = arguments_listed levels es m rest more in
    (x ∷ found.0, ap (and_expression x) found.1, (m, (n, separated, one), found.2))

-- ---- arguments in parentheses

abbrev Enclosed : ℕ → List ExpressionTree → Shape
Enclosed n xs = Symbol_is OpenParenthesis ▷ separated_list (In n) xs ▷ Symbol_is CloseParenthesis

-- arguments in parentheses, as a row of the tree
abbrev Enclosed_row : ℕ → ExpressionRow → Shape
Enclosed_row n no_expression = never
Enclosed_row n (and_expression e es) = Symbol_is OpenParenthesis ▷ nested_shape (λ l. Spelled e sum_place l ▷ Further_arguments es l) n ▷ Symbol_is CloseParenthesis

enclosed_to : (n : ℕ) (xs : List ExpressionTree) (ts rest : List Token) → Enclosed n xs ts rest → Enclosed_row n (expression_row xs) ts rest
enclosed_to n [] ts rest (a, opened, (b, nothing_there, close)) = absurd nothing_there
enclosed_to zero (x ∷ xs) ts rest (a, opened, (b, some, close)) = absurd some.1
enclosed_to (suc n) (x ∷ xs) ts rest (a, opened, (b, some, close)) = (a, opened, (b, (some.0, some.1, further_arguments n xs some.0 b some.2), close))

enclosed_from : (n : ℕ) (es : ExpressionRow) (ts rest : List Token) → Enclosed_row n es ts rest → (xs : List ExpressionTree) × (expression_row xs ≡ es) × Enclosed n xs ts rest
enclosed_from n no_expression ts rest s = absurd s
enclosed_from zero (and_expression e es) ts rest (a, opened, (b, some, close)) = absurd some
enclosed_from (suc n) (and_expression e es) ts rest (a, opened, (b, (m, one, more), close)) =
    let found = arguments_listed n es m b more in
    (e ∷ found.0, ap (and_expression e) found.1, (a, opened, (b, (m, one, found.2), close)))

-- subscripts, or none
abbrev Subscripts : ℕ → List ExpressionTree → Shape
Subscripts n [] = nothing
Subscripts n (x ∷ xs) = Enclosed n (x ∷ xs)

subscripts_to : (n : ℕ) (xs : List ExpressionTree) (ts rest : List Token) → Enclosed n xs ts rest → Subscripts n xs ts rest
subscripts_to n [] ts rest (a, opened, (b, nothing_there, close)) = absurd nothing_there
subscripts_to n (x ∷ xs) ts rest s = s

subscripts_from : (n : ℕ) (xs : List ExpressionTree) (ts rest : List Token) → Subscripts n xs ts rest → ((xs ≡ []) × (ts ≡ rest)) ⊎ Enclosed n xs ts rest
subscripts_from n [] ts rest e = inl (refl, e)
subscripts_from n (x ∷ xs) ts rest s = inr s

named_to : (d : Designator) (n : ℕ) (xs : List ExpressionTree) (place : ExpressionPlace) (ts a rest : List Token) → Designated d ts a → Subscripts n xs a rest → Spelled (named d (expression_row xs)) place n ts rest
named_to d n [] place ts a rest at e = subst (λ r. Designated d ts r) e at
named_to d n (x ∷ xs) place ts a rest at s = (a, at, enclosed_to n (x ∷ xs) a rest s)

named_from : (d : Designator) (n : ℕ) (es : ExpressionRow) (place : ExpressionPlace) (ts rest : List Token) → Spelled (named d es) place n ts rest → (xs : List ExpressionTree) × (expression_row xs ≡ es) × (Designated d ▷ Subscripts n xs) ts rest
named_from d n no_expression place ts rest s = ([], refl, (rest, s, refl))
named_from d n (and_expression e es) place ts rest (a, at, s) =
    let found = enclosed_from n (and_expression e es) a rest s in
    (found.0, found.1, (a, at, go found.0 found.1 found.2))
  where
    go : (xs : List ExpressionTree) → expression_row xs ≡ and_expression e es → Enclosed n xs a rest → Subscripts n xs a rest
    go [] is s = absurd cc
    go (x ∷ xs) is s = s

call_to : (f : Function) (n : ℕ) (xs : List ExpressionTree) (place : ExpressionPlace) (ts a rest : List Token) → Word_for function_of f ts a → Enclosed n xs a rest → Spelled (call f (expression_row xs)) place n ts rest
call_to f n [] place ts a rest at (b, opened, (c, nothing_there, close)) = absurd nothing_there
call_to f n (x ∷ xs) place ts a rest at s = (a, at, enclosed_to n (x ∷ xs) a rest s)

call_from : (f : Function) (n : ℕ) (es : ExpressionRow) (place : ExpressionPlace) (ts rest : List Token) → Spelled (call f es) place n ts rest → (xs : List ExpressionTree) × (expression_row xs ≡ es) × (Word_for function_of f ▷ Enclosed n xs) ts rest
call_from f n no_expression place ts rest s = absurd s
call_from f n (and_expression e es) place ts rest (a, at, s) =
    let found = enclosed_from n (and_expression e es) a rest s in
    (found.0, found.1, (a, at, found.2))

-- ---- words in factors

pub word_designates : (w : Word) (d : Designator) (ts rest : List Token) → designator_of_word w ≡ Some d → Word_is w ts rest → Designated d ts rest
word_designates words.TimeV d ts rest e at = let is_v : designators.TimeV ≡ d = cc in subst (λ d. Designated d ts rest) is_v at
word_designates words.TimeA d ts rest e at = let is_a : designators.TimeA ≡ d = cc in subst (λ d. Designated d ts rest) is_a at
word_designates _ d ts rest e at = absurd cc

function_no_designator : (w : Word) (f : Function) → function_of w ≡ Some f → designator_of_word w ≡ None
function_no_designator w f e = grind arith

-- ---- the laws of an expression, given those of what is in its parentheses

module _ (n m : ℕ) (inner : Reads n (sum_in n) (sum_in m) (In n) continues_sum) (inner_less : (ts : List Token) (e : ExpressionTree) (rest : List Token) → In n e ts rest → length rest < length ts) where
  pub arguments_reads : Reads n (arguments_with (sum_in n)) (arguments_with (sum_in m)) (separated_list (In n)) (λ ts. begins_more begins_sum ts || (continues_sum ts || continues_sum ts))
  arguments_reads = list_reads inner begins_sum (in_begins n) sum_no_and inner_less (λ span line ts. refl) (λ span line ts. refl)

  enclosed_reads : Reads (suc n) (enclosed_with (sum_in n)) (enclosed_with (sum_in m)) (Enclosed n) continues_never
  unfolding enclosed_with
  enclosed_reads = opened_reads opening refl (before_mark_reads closing arguments_reads (λ span line ts. refl))

  enclosed_item : Item (suc n) (begins opening) (enclosed_with (sum_in n)) (enclosed_with (sum_in m)) (Enclosed n) continues_never
  unfolding enclosed_with
  enclosed_item = opened_item opening refl (before_mark_reads closing arguments_reads (λ span line ts. refl))

  subscripts_reads : Reads (suc n) (subscripts_with (sum_in n)) (subscripts_with (sum_in m)) (Subscripts n) (λ ts. begins opening ts || continues_never ts)
  unfolding subscripts_with
  subscripts_reads = maybe_list_reads enclosed_item (subscripts_to n) (subscripts_from n) (λ ts. refl)

  parenthesised_reads : Reads n (parenthesised_with (sum_in n)) (parenthesised_with (sum_in m)) (Made parenthesised (λ (e : ExpressionTree). In n e ▷ Symbol_is CloseParenthesis)) continues_never
  unfolding parenthesised_with
  parenthesised_reads = made_reads (before_mark_reads closing inner (λ span line ts. refl)) parenthesised

  -- ---- factors

  -- what is spelled after a word, by what the word designates or else which function it names
  abbrev After_word : Option Designator → Option Function → ExpressionTree → Shape
  After_word (Some d) f x = Made (λ (xs : List ExpressionTree). named d (expression_row xs)) (Subscripts n) x
  After_word None (Some f) x = Made (λ (xs : List ExpressionTree). call f (expression_row xs)) (Enclosed n) x
  After_word None None x = never

  -- what is spelled after the first token of a factor
  abbrev After_token : TokenKind → ExpressionTree → Shape
  After_token (kinds.Number v) x = provided (number v ≡ x) nothing
  After_token (kinds.Text t) x = provided (text t ≡ x) nothing
  After_token (kinds.Name v) x = After_word (Some (designators.Name v)) None x
  After_token (kinds.Word w) x = After_word (designator_of_word w) (function_of w) x
  After_token (kinds.Symbol OpenParenthesis) x = Made parenthesised (λ (e : ExpressionTree). In n e ▷ Symbol_is CloseParenthesis) x
  After_token _ x = never

  -- how many levels may be opened after it
  abbrev room_after : TokenKind → ℕ
  room_after (kinds.Symbol OpenParenthesis) = n
  room_after _ = suc n

  after_word_reads : (d : Option Designator) (f : Option Function) → Reads (suc n) (factor_in_words (sum_in n) d f) (factor_in_words (sum_in m) d f) (After_word d f) continues_factor
  after_word_reads (Some d) f = fewer_reads (made_reads subscripts_reads (λ xs. named d (expression_row xs))) continues_factor (λ ts stop. rw stop refl)
  after_word_reads None (Some f) = fewer_reads (made_reads enclosed_reads (λ xs. call f (expression_row xs))) continues_factor (λ ts stop. refl)
  after_word_reads None None = fewer_reads (fail_reads (suc n)) continues_factor (λ ts stop. refl)

  after_token_reads : (k : TokenKind) → Reads (room_after k) (factor_at (sum_in n) k) (factor_at (sum_in m) k) (After_token k) continues_factor
  unfolding factor_at
  after_token_reads (kinds.Number v) = fewer_reads (done_reads (suc n) (number v)) continues_factor (λ ts stop. refl)
  after_token_reads (kinds.Text t) = fewer_reads (done_reads (suc n) (text t)) continues_factor (λ ts stop. refl)
  after_token_reads (kinds.Name v) = after_word_reads (Some (designators.Name v)) None
  after_token_reads (kinds.Word w) = after_word_reads (designator_of_word w) (function_of w)
  after_token_reads (kinds.Symbol OpenParenthesis) = fewer_reads parenthesised_reads continues_factor (λ ts stop. refl)
  after_token_reads _ = fewer_reads (fail_reads (suc n)) continues_factor (λ ts stop. refl)

  after_token_opening : (k : TokenKind) (ts : List Token) → Bounded (suc n) (opens k + openers ts) (factor_at (sum_in n) k ts)
  after_token_opening (kinds.Symbol OpenParenthesis) ts = bounded_opened n (openers ts) (1 + openers ts) _ (omega arith) ((after_token_reads (kinds.Symbol OpenParenthesis)).opening ts)
  after_token_opening k ts = bounded_more (suc n) (openers ts) (opens k + openers ts) _ (omega arith) ((after_token_reads k).opening ts)

  -- a factor's first token, and what follows it
  abbrev Factor_parts : ExpressionTree → Shape
  Factor_parts x ts rest = (k : TokenKind) × (Token_is k ▷ After_token k x) ts rest

  factor_parts_read : Reads (suc n) (factor_with (sum_in n)) (factor_with (sum_in m)) Factor_parts continues_factor
  factor_parts_read = record {
    sound = sound;
    complete = λ ts x rest s stop. ap (factor_with (sum_in n)) s.1.1.2 ∙ (after_token_reads s.0).complete s.1.0 x rest s.1.2 stop;
    shorter = λ ts x rest s. omega (arith, token_less s.0 ts s.1.0 s.1.1, (after_token_reads s.0).shorter s.1.0 x rest s.1.2);
    under = under;
    opening = opening;
  }
    where
      sound : (ts : List Token) (x : ExpressionTree) (rest : List Token) → factor_with (sum_in n) ts ≡ Ok (x, rest) → Factor_parts x ts rest
      sound [] x rest e = absurd cc
      sound (t ∷ ts) x rest e = (t.kind, (ts, (t.span, t.line, refl), (after_token_reads t.kind).sound ts x rest e))

      under : (ts : List Token) → Upto (factor_with (sum_in n) ts) (factor_with (sum_in m) ts)
      under [] = upto_same _
      under (t ∷ ts) = (after_token_reads t.kind).under ts

      opening : (ts : List Token) → Bounded (suc n) (openers ts) (factor_with (sum_in n) ts)
      opening [] = tt
      opening (t ∷ ts) = after_token_opening t.kind ts

  after_word_to : (w : Word) (d : Option Designator) (f : Option Function) (x : ExpressionTree) (ts a rest : List Token) → designator_of_word w ≡ d → function_of w ≡ f → Word_is w ts a → After_word d f x a rest → Spelled x factor_place n ts rest
  after_word_to w (Some d) f x ts a rest designates means at (xs, is, s) = subst (λ (x : ExpressionTree). Spelled x factor_place n ts rest) is (named_to d n xs factor_place ts a rest (word_designates w d ts a designates at) s)
  after_word_to w None (Some f) x ts a rest designates means at (xs, is, s) = subst (λ (x : ExpressionTree). Spelled x factor_place n ts rest) is (call_to f n xs factor_place ts a rest (w, means, at) s)
  after_word_to w None None x ts a rest designates means at s = absurd s

  factor_to : (x : ExpressionTree) (ts rest : List Token) → Factor_parts x ts rest → Spelled x factor_place n ts rest
  factor_to x ts rest (kinds.Number v, (a, at, (is, e))) = subst (λ (x : ExpressionTree). Spelled x factor_place n ts rest) is (subst (λ (r : List Token). Token_is (kinds.Number v) ts r) e at)
  factor_to x ts rest (kinds.Text t, (a, at, (is, e))) = subst (λ (x : ExpressionTree). Spelled x factor_place n ts rest) is (subst (λ (r : List Token). Token_is (kinds.Text t) ts r) e at)
  factor_to x ts rest (kinds.Name v, (a, at, (xs, is, s))) = subst (λ (x : ExpressionTree). Spelled x factor_place n ts rest) is (named_to (designators.Name v) n xs factor_place ts a rest at s)
  factor_to x ts rest (kinds.Word w, (a, at, s)) = after_word_to w (designator_of_word w) (function_of w) x ts a rest refl refl at s
  factor_to x ts rest (kinds.Symbol OpenParenthesis, (a, at, (e, is, s))) = subst (λ (x : ExpressionTree). Spelled x factor_place n ts rest) is (a, at, s)
  factor_to x ts rest (_, (a, at, s)) = absurd s

  named_parts : (d : Designator) (x : ExpressionTree) (ts a rest : List Token) → Designated d ts a → After_word (Some d) None x a rest → Factor_parts x ts rest
  named_parts (designators.Name v) x ts a rest at s = (kinds.Name v, (a, at, s))
  named_parts designators.TimeV x ts a rest at s = (kinds.Word words.TimeV, (a, at, s))
  named_parts designators.TimeA x ts a rest at s = (kinds.Word words.TimeA, (a, at, s))

  call_parts : (f : Function) (x : ExpressionTree) (ts a rest : List Token) → Word_for function_of f ts a → After_word None (Some f) x a rest → Factor_parts x ts rest
  call_parts f x ts a rest (w, means, at) s =
      let no = function_no_designator w f means in
      (kinds.Word w, (a, at, rw (no, means) s))

  factor_from : (x : ExpressionTree) (ts rest : List Token) → Spelled x factor_place n ts rest → Factor_parts x ts rest
  factor_from (number v) ts rest at = (kinds.Number v, (rest, at, (refl, refl)))
  factor_from (text t) ts rest at = (kinds.Text t, (rest, at, (refl, refl)))
  factor_from (named d es) ts rest s =
      let found = named_from d n es factor_place ts rest s in
      named_parts d (named d es) ts found.2.0 rest found.2.1 (found.0, ap (named d) found.1, found.2.2)
  factor_from (call f es) ts rest s =
      let found = call_from f n es factor_place ts rest s in
      call_parts f (call f es) ts found.2.0 rest found.2.1 (found.0, ap (call f) found.1, found.2.2)
  factor_from (parenthesised x) ts rest (a, at, s) = (kinds.Symbol OpenParenthesis, (a, at, (x, refl, s)))
  factor_from (product x no_expression) ts rest s = absurd s
  factor_from (product x (and_expression f fs)) ts rest s = absurd s.0
  factor_from (signed sign x) ts rest s = absurd s.0
  factor_from (sum x no_term) ts rest s = absurd s
  factor_from (sum x (and_term sign f fs)) ts rest s = absurd s.0

  pub factor_reads : Reads (suc n) (factor_with (sum_in n)) (factor_with (sum_in m)) (λ e. Spelled e factor_place n) continues_factor
  factor_reads = reshaped_reads factor_parts_read (λ e. Spelled e factor_place n) factor_to factor_from

  pub factor_less : (ts : List Token) (x : ExpressionTree) (rest : List Token) → Spelled x factor_place n ts rest → length rest < length ts
  factor_less ts x rest s =
      let p = factor_from x ts rest s in
      omega (arith, token_less p.0 ts p.1.0 p.1.1, (after_token_reads p.0).shorter p.1.0 x rest p.1.2)
