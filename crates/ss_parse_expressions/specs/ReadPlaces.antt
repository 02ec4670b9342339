-- Reading what a program names: targets and references to sets.
use Rattle.std.specs.Prelude.{ℕ, zero, suc, Bool, List, Option, Some, None}
use Rattle.ss_lex.specs.declared.token.TokenKind.{TokenKind}
use Rattle.ss_lex.specs.declared.token.Token.{Token}
use Rattle.ss_lex.specs.declared.token.TokenKind.TheVariants as kinds
use Rattle.ss_tree.specs.declared.expression.Designator.{Designator}
use Rattle.ss_tree.specs.declared.expression.Designator.TheVariants as designators
use Rattle.ss_tree.specs.Tree.{ExpressionTree, ExpressionRow, no_expression, and_expression, NamedTree}
use Rattle.ss_parse_expressions.specs.Reading.{Reader, begins, expect, begins_by, taken, seq, after_dropped, closed, apply, maybe, too_deep, list_of}
use Rattle.ss_parse_expressions.specs.ReadExpressions.{opening, closing, designator_of, begins_sum, sum_in}

abbrev pub subscript_row : Option ExpressionTree → ExpressionRow
subscript_row None = no_expression
subscript_row (Some e) = and_expression e no_expression

abbrev pub named_tree : Designator × Option ExpressionTree → NamedTree
named_tree p = record { designator = p.0; subscripts = subscript_row p.1 }

-- one subscript, in parentheses
unfoldable pub subscript_with : Reader ExpressionTree → Reader ExpressionTree
subscript_with inner = after_dropped (expect opening) (closed inner (expect closing))

-- a set's name
abbrev pub plain_of : TokenKind → Option Designator
plain_of (kinds.Name n) = Some (designators.Name n)
plain_of _ = None

-- a name that the table knows, with a subscript or without
unfoldable pub named_place_in : (TokenKind → Option Designator) → ℕ → Reader NamedTree
named_place_in table zero = too_deep
named_place_in table (suc room) = apply named_tree (seq (taken table) (maybe (begins opening) (subscript_with (sum_in room))))

-- what a value is put into
abbrev pub target_in : ℕ → Reader NamedTree
target_in = named_place_in designator_of

-- a set
abbrev pub reference_in : ℕ → Reader NamedTree
reference_in = named_place_in plain_of

abbrev pub begins_target : List Token → Bool
begins_target = begins_by designator_of

-- targets with separators between
abbrev pub targets_in : ℕ → Reader (List NamedTree)
targets_in room = list_of begins_target (target_in room)

-- expressions with separators between
abbrev pub sums_in : ℕ → Reader (List ExpressionTree)
sums_in room = list_of begins_sum (sum_in room)
