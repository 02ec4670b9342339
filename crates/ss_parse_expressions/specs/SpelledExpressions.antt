-- Which tokens spell an expression.
use Rattle.std.specs.Prelude.{ℕ}
use Rattle.ss_lex.specs.declared.token.TokenKind.TheVariants as kinds
use Rattle.ss_lex.specs.declared.token.Symbol.TheVariants.{OpenParenthesis, CloseParenthesis, Plus, Minus, Star}
use Rattle.ss_lex.specs.declared.word.Word.TheVariants as words
use Rattle.ss_base.specs.declared.words.Sign.{Sign}
use Rattle.ss_base.specs.declared.words.Sign.TheVariants as signs
use Rattle.ss_tree.specs.declared.expression.Designator.{Designator}
use Rattle.ss_tree.specs.declared.expression.Designator.TheVariants as designators
use Rattle.ss_tree.specs.Tree.{ExpressionTree, number, text, named, call, parenthesised, product, signed, sum, ExpressionRow, no_expression, and_expression, TermRow, no_term, and_term, NamedTree}
use Rattle.ss_parse_expressions.specs.Shapes.{Shape, ◌▷◌, nothing, never, provided, Token_is, Word_is, Symbol_is, Name_is, Word_for, separator, nested_shape}
use Rattle.ss_parse_expressions.specs.WordTables.{function_of}

-- The places of an expression, by which expressions need no parentheses there.
pub data ExpressionPlace : Type 0 where
  -- any expression
  sum_place : ExpressionPlace
  -- the first term of a sum, which may have a sign
  first_place : ExpressionPlace
  -- a further term of a sum
  term_place : ExpressionPlace
  -- a factor
  factor_place : ExpressionPlace

-- where a product needs no parentheses
abbrev pub Can_take_product : ExpressionPlace → Type 0
Can_take_product factor_place = ⊥
Can_take_product _ = Unit {0}

-- where a term with a sign needs no parentheses
abbrev pub Can_take_sign : ExpressionPlace → Type 0
Can_take_sign sum_place = Unit {0}
Can_take_sign first_place = Unit {0}
Can_take_sign _ = ⊥

-- where a sum needs no parentheses
abbrev pub Can_take_sum : ExpressionPlace → Type 0
Can_take_sum sum_place = Unit {0}
Can_take_sum _ = ⊥

abbrev pub Sign_is : Sign → Shape
Sign_is signs.Plus = Symbol_is Plus
Sign_is signs.Minus = Symbol_is Minus

-- TIME.V and TIME.A count as names
abbrev pub Designated : Designator → Shape
Designated (designators.Name n) = Name_is n
Designated designators.TimeV = Word_is words.TimeV
Designated designators.TimeA = Word_is words.TimeA

abbrev mutual
  -- Where so many levels of nesting may still be opened, the tokens in front spell the expression.
  pub Spelled : ExpressionTree → ExpressionPlace → ℕ → Shape
  Spelled (number n) place levels = Token_is (kinds.Number n)
  Spelled (text t) place levels = Token_is (kinds.Text t)
  Spelled (named d no_expression) place levels = Designated d
  Spelled (named d (and_expression e es)) place levels =
      Designated d ▷ Symbol_is OpenParenthesis ▷ nested_shape (λ l. Spelled e sum_place l ▷ Further_arguments es l) levels ▷ Symbol_is CloseParenthesis
  Spelled (call f (and_expression e es)) place levels =
      Word_for function_of f ▷ Symbol_is OpenParenthesis ▷ nested_shape (λ l. Spelled e sum_place l ▷ Further_arguments es l) levels ▷ Symbol_is CloseParenthesis
  Spelled (parenthesised e) place levels =
      Symbol_is OpenParenthesis ▷ nested_shape (λ l. Spelled e sum_place l) levels ▷ Symbol_is CloseParenthesis
  Spelled (product e (and_expression f fs)) place levels =
      provided (Can_take_product place) (Spelled e factor_place levels ▷ Symbol_is Star ▷ Spelled f factor_place levels ▷ Further_factors fs levels)
  Spelled (signed sign e) place levels = provided (Can_take_sign place) (Sign_is sign ▷ Spelled e term_place levels)
  Spelled (sum e (and_term sign f fs)) place levels =
      provided (Can_take_sum place) (Spelled e first_place levels ▷ Sign_is sign ▷ Spelled f term_place levels ▷ Further_terms fs levels)
  -- a call without an argument, a product of one factor, a sum of one term
  Spelled _ place levels = never

  pub Further_arguments : ExpressionRow → ℕ → Shape
  Further_arguments no_expression levels = nothing
  Further_arguments (and_expression e es) levels = separator ▷ Spelled e sum_place levels ▷ Further_arguments es levels

  pub Further_factors : ExpressionRow → ℕ → Shape
  Further_factors no_expression levels = nothing
  Further_factors (and_expression f fs) levels = Symbol_is Star ▷ Spelled f factor_place levels ▷ Further_factors fs levels

  pub Further_terms : TermRow → ℕ → Shape
  Further_terms no_term levels = nothing
  Further_terms (and_term sign e es) levels = Sign_is sign ▷ Spelled e term_place levels ▷ Further_terms es levels

-- any expression
abbrev pub Sum_is : ℕ → ExpressionTree → Shape
Sum_is levels e = Spelled e sum_place levels

-- one subscript at most
abbrev pub Subscript : ExpressionRow → ℕ → Shape
Subscript no_expression levels = nothing
Subscript (and_expression e no_expression) levels = Symbol_is OpenParenthesis ▷ nested_shape (λ l. Sum_is l e) levels ▷ Symbol_is CloseParenthesis
Subscript (and_expression e (and_expression f fs)) levels = never

-- what a value is put into
abbrev pub Target_is : ℕ → NamedTree → Shape
Target_is levels t = Designated t.designator ▷ Subscript t.subscripts levels

abbrev pub Plain_name : Designator → Shape
Plain_name (designators.Name n) = Name_is n
Plain_name _ = never

-- a set
abbrev pub Reference_is : ℕ → NamedTree → Shape
Reference_is levels r = Plain_name r.designator ▷ Subscript r.subscripts levels
