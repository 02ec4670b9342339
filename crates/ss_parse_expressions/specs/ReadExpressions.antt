-- Reading expressions from left to right.
use Rattle.std.specs.Prelude.{ℕ, zero, suc, Bool, true, false, ◌||◌, List, [], ◌∷◌, Option, Some, None, Ok, Err}
use Rattle.ss_lex.specs.declared.word.Word.{Word}
use Rattle.ss_lex.specs.declared.word.Word.TheVariants as words
use Rattle.ss_lex.specs.declared.token.Symbol.{Symbol}
use Rattle.ss_lex.specs.declared.token.Symbol.TheVariants.{OpenParenthesis, CloseParenthesis, Plus, Minus, Star}
use Rattle.ss_lex.specs.declared.token.TokenKind.{TokenKind}
use Rattle.ss_lex.specs.declared.token.TokenKind.TheVariants as kinds
use Rattle.ss_lex.specs.declared.token.Token.{Token}
use Rattle.ss_parse_expressions.specs.declared.failure.ParseFault.TheVariants.{Syntax}
use Rattle.ss_base.specs.declared.words.Sign.{Sign}
use Rattle.ss_base.specs.declared.words.Sign.TheVariants as signs
use Rattle.ss_tree.specs.declared.expression.Function.{Function}
use Rattle.ss_tree.specs.declared.expression.Designator.{Designator}
use Rattle.ss_tree.specs.declared.expression.Designator.TheVariants as designators
use Rattle.ss_tree.specs.Tree.{ExpressionTree, number, text, named, call, parenthesised, product, signed, sum, expression_row, term_row}
use Rattle.ss_parse_expressions.specs.WordTables.{function_of}
use Rattle.ss_parse_expressions.specs.Reading.{Reader, Mark, symbol, begins, skip, expect, is_some, begins_by, taken, seq, after_dropped, closed, apply, maybe_list, choose_reader, too_deep, rows, list_of}

-- ---- single tokens

abbrev pub opening : Mark
opening = symbol OpenParenthesis

abbrev pub closing : Mark
closing = symbol CloseParenthesis

abbrev pub star : Mark
star = symbol Star

abbrev pub sign_of_symbol : Symbol → Option Sign
sign_of_symbol Plus = Some signs.Plus
sign_of_symbol Minus = Some signs.Minus
sign_of_symbol _ = None

abbrev pub sign_of_token : TokenKind → Option Sign
sign_of_token (kinds.Symbol s) = sign_of_symbol s
sign_of_token _ = None

abbrev pub begins_sign : List Token → Bool
begins_sign = begins_by sign_of_token

-- what is named, TIME.V and TIME.A included
abbrev pub designator_of_word : Word → Option Designator
designator_of_word words.TimeV = Some designators.TimeV
designator_of_word words.TimeA = Some designators.TimeA
designator_of_word _ = None

abbrev pub designator_of : TokenKind → Option Designator
designator_of (kinds.Name n) = Some (designators.Name n)
designator_of (kinds.Word w) = designator_of_word w
designator_of _ = None

-- whether a sum can begin with a token of this kind
abbrev pub begins_value : TokenKind → Bool
begins_value (kinds.Number n) = true
begins_value (kinds.Text t) = true
begins_value (kinds.Name n) = true
begins_value (kinds.Word w) = is_some (designator_of_word w) || is_some (function_of w)
begins_value (kinds.Symbol OpenParenthesis) = true
begins_value (kinds.Symbol Plus) = true
begins_value (kinds.Symbol Minus) = true
begins_value _ = false

abbrev pub begins_sum : List Token → Bool
begins_sum [] = false
begins_sum (t ∷ ts) = begins_value t.kind

-- ---- expressions

-- a term and further terms, of which there may be none
abbrev pub sum_of_terms : ExpressionTree → List (Sign × ExpressionTree) → ExpressionTree
sum_of_terms e [] = e
sum_of_terms e (t ∷ ts) = sum e (term_row (t ∷ ts))

-- a factor and further factors, of which there may be none
abbrev pub product_of : ExpressionTree → List ExpressionTree → ExpressionTree
product_of e [] = e
product_of e (f ∷ fs) = product e (expression_row (f ∷ fs))

module _ (inner : Reader ExpressionTree) where
  -- expressions with separators between
  abbrev pub arguments_with : Reader (List ExpressionTree)
  arguments_with = list_of begins_sum inner

  -- expressions in parentheses
  unfoldable pub enclosed_with : Reader (List ExpressionTree)
  enclosed_with = after_dropped (expect opening) (closed arguments_with (expect closing))

  -- subscripts, if there are any
  unfoldable pub subscripts_with : Reader (List ExpressionTree)
  subscripts_with = maybe_list (begins opening) enclosed_with

  abbrev pub named_with : Designator → Reader ExpressionTree
  named_with d = apply (λ xs. named d (expression_row xs)) subscripts_with

  abbrev pub call_with : Function → Reader ExpressionTree
  call_with f = apply (λ xs. call f (expression_row xs)) enclosed_with

  -- an expression in parentheses, after the opening one
  unfoldable pub parenthesised_with : Reader ExpressionTree
  parenthesised_with = apply parenthesised (closed inner (expect closing))

  abbrev pub factor_in_words : Option Designator → Option Function → Reader ExpressionTree
  factor_in_words (Some d) f ts = named_with d ts
  factor_in_words None (Some f) ts = call_with f ts
  factor_in_words None None ts = Err Syntax

  -- a factor that begins with a token of this kind, which was taken
  unfoldable pub factor_at : TokenKind → Reader ExpressionTree
  factor_at (kinds.Number n) ts = Ok (number n, ts)
  factor_at (kinds.Text t) ts = Ok (text t, ts)
  factor_at (kinds.Name n) ts = named_with (designators.Name n) ts
  factor_at (kinds.Word w) ts = factor_in_words (designator_of_word w) (function_of w) ts
  factor_at (kinds.Symbol OpenParenthesis) ts = parenthesised_with ts
  factor_at _ ts = Err Syntax

  abbrev pub factor_with : Reader ExpressionTree
  factor_with [] = Err Syntax
  factor_with (t ∷ ts) = factor_at t.kind ts

  -- further factors, each after a star
  abbrev pub further_factors_with : Reader (List ExpressionTree)
  further_factors_with = rows (begins star) (λ r. factor_with (skip star r))

  unfoldable pub term_with : Reader ExpressionTree
  term_with = apply (λ p. product_of p.0 p.1) (seq factor_with further_factors_with)

  -- a sign and its term
  unfoldable pub signed_term_with : Reader (Sign × ExpressionTree)
  signed_term_with = seq (taken sign_of_token) term_with

  -- the first term, which may have a sign
  unfoldable pub first_term_with : Reader ExpressionTree
  first_term_with = choose_reader begins_sign (apply (λ p. signed p.0 p.1) signed_term_with) term_with

  abbrev pub further_terms_with : Reader (List (Sign × ExpressionTree))
  further_terms_with = rows begins_sign signed_term_with

  unfoldable pub sum_with : Reader ExpressionTree
  sum_with = apply (λ p. sum_of_terms p.0 p.1) (seq first_term_with further_terms_with)

-- an expression, where this many levels, itself among them, may be opened
unfoldable pub sum_in : ℕ → Reader ExpressionTree
sum_in zero = too_deep
sum_in (suc room) = sum_with (sum_in room)
