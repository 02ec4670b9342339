-- Expressions, items of PRINT, targets and sets.
use Rattle.std.proofs.Common.{ℕ, ◌+◌, ◌≤◌, Option, Some, None, option_map, arith}
use Rattle.ss_check_laws.proofs.Common.{and_expression, and_term, AValue, Calculate, call, Designator, Expression, ExpressionRow, ExpressionTree, Fetch, Meaning, meaning_of, meaning_of_class, Multiply, named, NamedTree, no_expression, no_term, of_one, One, Owner, owner_of_meaning, parenthesised, product, Scope, SetOwner, signed, sum, TermRow, Two, Variable, variable_of}
use Rattle.ss_names_meaning.specs.Expressions.{entity_of, item, meaning_with_entity, place_named, set_named, set_owner, subscript, entity_implied, expression, factors, of_owner, one, place_of, resolved_item, resolved_operator, resolved_value, set_of_name, target, terms, two, value_alone, value_of_entity}
use Rattle.ss_program.specs.Nodes.{option_nodes, unless_plain, expression_nodes, subscript_nodes, item_nodes, set_nodes, place_nodes}
use Rattle.ss_base.specs.declared.layout.Owner.TheVariants as owners
use Rattle.ss_tree.specs.Nodes as tree
use Rattle.ss_names.specs.declared.meaning.Meaning.TheVariants as meanings
use Rattle.ss_check_laws.proofs.Within.{Within, so, followed, looked}

plain_less : (e : Expression) (n : ℕ) → unless_plain e n ≤ n
plain_less (Fetch x) n = omega arith
plain_less _ n = omega arith

-- ---- what a name means, of an entity

-- what the entity is written with; only that of TIME.A counts where it is a variable
abbrev pub of_nodes : Meaning → Option Expression → ℕ
of_nodes meanings.NoticeTime = option_nodes expression_nodes
of_nodes _ = option_nodes subscript_nodes

abbrev pub found_nodes : Meaning × Option Expression → ℕ
found_nodes p = of_nodes p.0 p.1

pub of_less : (m : Meaning) (of : Option Expression) → option_nodes subscript_nodes of ≤ of_nodes m of
of_less meanings.NoticeTime None = omega arith
of_less meanings.NoticeTime (Some e) = plain_less e (expression_nodes e)
of_less _ of = omega arith

value_in : (m : Meaning) (e : Expression) → Within expression_nodes (1 + of_nodes m (Some e)) (value_of_entity m e)
value_in (meanings.Statistic None statistic) e = omega arith
value_in _ e = omega arith

alone : (m : Meaning) (n : ℕ) → Within expression_nodes (1 + n) (value_alone m)
alone (meanings.Statistic None statistic) n = omega arith
alone _ n = omega arith

value_small : (m : Meaning) (of : Option Expression) → Within expression_nodes (1 + of_nodes m of) (resolved_value m of)
value_small m None = alone m (of_nodes m None)
value_small m (Some e) = value_in m e

shown : {n : ℕ} {r : Option Expression} → Within expression_nodes n r → Within item_nodes n (option_map AValue r)
shown {r = None} h = omega arith
shown {r = Some e} h = record { small = h.small }

shown_small : (m : Meaning) (of : Option Expression) → Within item_nodes (1 + of_nodes m of) (resolved_item m of)
shown_small (meanings.Statistic None statistic) None = omega arith
shown_small (meanings.Statistic None statistic) (Some e) = omega arith
shown_small m of = shown (value_small m of)

pub place_small : (m : Meaning) (of : Option Expression) → Within place_nodes (1 + of_nodes m of) (place_of m of)
place_small meanings.NoticeTime None = omega arith
place_small _ None = omega arith
place_small meanings.NoticeTime (Some e) = omega arith
place_small _ (Some e) = omega arith

owner_less : (of : Option Expression) → set_nodes (set_owner of) ≤ 1 + option_nodes subscript_nodes of
owner_less None = omega arith
owner_less (Some e) = omega arith

factors_less : (es : ExpressionRow) → tree.factor_nodes es ≤ tree.product_nodes es
factors_less no_expression = omega arith
factors_less (and_expression e es) = omega arith

terms_less : (es : TermRow) → tree.term_nodes es ≤ tree.sum_nodes es
terms_less no_term = omega arith
terms_less (and_term sign e es) = omega arith

fetched_small : (x : Option Variable) → Within subscript_nodes 0 (of_one x Fetch)
fetched_small None = omega arith
fetched_small (Some x) = omega arith

abbrev pair_nodes : Expression × Expression → ℕ
pair_nodes p = expression_nodes p.0 + expression_nodes p.1

-- a set with its owner
abbrev pub owner_nodes : ℕ × SetOwner → ℕ
owner_nodes p = set_nodes p.1

module _ (s : Scope) where
  -- ---- the entity

  implied_small : (class : ℕ) → Within subscript_nodes 0 (entity_implied s class)
  implied_small class = looked (meaning_of_class s class) (λ m. fetched_small (variable_of m))

  owned_small : (o : Owner) (e : Option Expression) → Within (option_nodes subscript_nodes) (option_nodes expression_nodes e) (of_owner s o e)
  owned_small owners.System None = omega arith
  owned_small owners.System (Some e) = omega arith
  owned_small (owners.Class class) None = followed (implied_small class) (λ x p. omega arith)
  owned_small (owners.Class class) (Some e) = omega (arith, plain_less e (expression_nodes e))

  entity_small : (m : Meaning) (e : Option Expression) → Within (of_nodes m) (option_nodes expression_nodes e) (entity_of s m e)
  entity_small meanings.NoticeTime e = omega arith
  entity_small m e = owned_small (owner_of_meaning s.table m) e

  named_small : (d : Designator) (e : Option Expression) → Within found_nodes (option_nodes expression_nodes e) (meaning_with_entity s d e)
  named_small d e = looked (meaning_of s d) (λ m. followed (entity_small m e) (λ of p. omega arith))

  -- ---- expressions

  mutual
    unfolding expression

    pub small : (e : ExpressionTree) → Within expression_nodes (tree.expression_tree_nodes e) (expression s e)
    small (named d es) = followed (subscript_small es) (λ e p. followed (named_small d e) (λ q r. so (value_small q.0 q.1) (λ x t. omega arith)))
    small (call (One op) es) = followed (one_small es) (λ x p. omega arith)
    small (call (Two op) es) = followed (two_small es) (λ x p. omega arith)
    small (parenthesised e) = small e
    small (product e es) = followed (small e) (λ left p. so (factors_small left es) (λ x q. omega (arith, factors_less es)))
    small (signed sign e) = followed (small e) (λ x p. omega arith)
    small (sum e es) = followed (small e) (λ left p. so (terms_small left es) (λ x q. omega (arith, terms_less es)))
    small _ = omega arith

    subscript_small : (es : ExpressionRow) → Within (option_nodes expression_nodes) (tree.row_nodes es) (subscript s es)
    subscript_small (and_expression e no_expression) = followed (small e) (λ x p. omega arith)
    subscript_small _ = omega arith

    one_small : (es : ExpressionRow) → Within expression_nodes (tree.row_nodes es) (one s es)
    one_small (and_expression e no_expression) = so (small e) (λ x p. omega arith)
    one_small _ = omega arith

    two_small : (es : ExpressionRow) → Within pair_nodes (tree.row_nodes es) (two s es)
    two_small (and_expression e (and_expression f no_expression)) = followed (small e) (λ x p. followed (small f) (λ y q. omega arith))
    two_small _ = omega arith

    factors_small : (left : Expression) (es : ExpressionRow) → Within expression_nodes (expression_nodes left + tree.factor_nodes es) (factors s left es)
    factors_small left no_expression = omega arith
    factors_small left (and_expression e es) = followed (small e) (λ x p. so (factors_small (Calculate Multiply left x) es) (λ y q. omega arith))

    terms_small : (left : Expression) (es : TermRow) → Within expression_nodes (expression_nodes left + tree.term_nodes es) (terms s left es)
    terms_small left no_term = omega arith
    terms_small left (and_term sign e es) = followed (small e) (λ x p. so (terms_small (Calculate (resolved_operator sign) left x) es) (λ y q. omega arith))

  pub place_named_small : (d : Designator) (es : ExpressionRow) → Within found_nodes (tree.row_nodes es) (place_named s d es)
  place_named_small d es = followed (subscript_small es) (λ e p. so (named_small d e) (λ q r. omega arith))

  pub item_small : (e : ExpressionTree) → Within item_nodes (tree.expression_tree_nodes e) (item s e)
  item_small (parenthesised e) = item_small e
  item_small (named d es) = followed (place_named_small d es) (λ p q. so (shown_small p.0 p.1) (λ x r. omega arith))
  item_small e = shown (small e)

  pub target_small : (n : NamedTree) → Within place_nodes (tree.named_nodes n) (target s n)
  target_small n = followed (place_named_small n.designator n.subscripts) (λ p q. so (place_small p.0 p.1) (λ x r. omega arith))

  pub set_small : (n : NamedTree) → Within owner_nodes (tree.named_nodes n) (set_named s n)
  set_small n =
      looked (set_of_name s n.designator) (λ set.
      followed (subscript_small n.subscripts) (λ e p. followed (entity_small (meanings.Set set) e) (λ of q. omega (arith, owner_less of))))
