-- Conditions, heads of loops and parts of statements.
use Rattle.std.proofs.Common.{ℕ, ◌+◌, ◌≤◌, List, [], ◌∷◌, Option, Some, None, sum_by, arith}
use Rattle.ss_check_laws.proofs.Common.{class_named, history_of, mode_of_meaning, option_map_or, Scope, sum_by-cons, Variable, variable_named}
use Rattle.ss_tree.specs.Nodes as tree
use Rattle.ss_names_meaning.specs.Heads.{phrases_of, resolved_phrase, called_variable, guard, head, resolved_start}
use Rattle.ss_tree.specs.Tree.{ConditionTree, ExpressionTree, HeadTree, NamedTree, TestTree, compare, empty, member, data_ended, PhraseTree, GuardTree, StartTree, from_end, from_member, after_member, over_range, over_members, over_class, PositionTree, before, after, WhenTree, at_time, in_units, now}
use Rattle.ss_program.specs.Nodes.{alternative_nodes, condition_nodes, expression_nodes, guard_nodes, head_nodes, phrase_nodes, place_nodes, position_nodes, restart_nodes, start_nodes, target_nodes, test_nodes, when_nodes}
use Rattle.ss_names_uses.specs.declared.used.ClassNeed.TheVariants as needs
use Rattle.ss_names_meaning.specs.Answers.{each}
use Rattle.ss_names_meaning.specs.Conditions.{one_test, conjunction, condition}
use Rattle.ss_names_meaning.specs.Statements.{entity_called, new_place, position, reader, restart, when}
use Rattle.ss_check_laws.proofs.Within.{Within, so, followed, looked, there_small, each_small}
use Rattle.ss_check_laws.proofs.ExpressionSizes.{of_less, place_named_small, place_small, set_small, small, target_small}

-- what a FOR goes over, without its phrases
abbrev pub own_nodes : HeadTree → ℕ
own_nodes (over_range variable from to step phrases) = 1 + tree.expression_tree_nodes from + tree.expression_tree_nodes to + option_map_or tree.expression_tree_nodes step 0
own_nodes (over_members variable set from reverse phrases) = 1 + tree.named_nodes set + tree.start_tree_nodes from
own_nodes (over_class class called phrases) = 1

pub own_and_phrases : (over : HeadTree) → own_nodes over + sum_by tree.phrase_tree_nodes (phrases_of over) ≤ tree.head_tree_nodes over
own_and_phrases (over_class class called phrases) = omega arith
own_and_phrases _ = omega arith

module _ (s : Scope) where
  -- ---- conditions

  test_small : (t : TestTree) → Within test_nodes (tree.test_tree_nodes t) (one_test s t)
  unfolding one_test
  test_small (compare left relation right) = followed (small s left) (λ x p. followed (small s right) (λ y q. omega arith))
  test_small (empty set negated) = followed (set_small s set) (λ x p. omega arith)
  test_small (member e set negated) = followed (small s e) (λ x p. followed (set_small s set) (λ y q. omega arith))
  test_small (data_ended negated) = omega arith

  conjunction_small : (ts : List TestTree) → Within alternative_nodes (tree.alternative_tree_nodes ts) (conjunction s ts)
  unfolding each
  conjunction_small [] = omega arith
  conjunction_small (t ∷ ts) =
      followed (test_small t) (λ x p. followed (each_small test_small ts) (λ xs q. omega (arith, sum_by-cons tree.test_tree_nodes t ts)))

  pub condition_small : (cs : ConditionTree) → Within condition_nodes (tree.condition_tree_nodes cs) (condition s cs)
  unfolding each
  condition_small [] = omega arith
  condition_small (c ∷ cs) =
      followed (conjunction_small c) (λ x p. followed (each_small conjunction_small cs) (λ xs q. omega (arith, sum_by-cons tree.alternative_tree_nodes c cs)))

  pub phrase_small : (p : PhraseTree) → Within phrase_nodes (tree.phrase_tree_nodes p) (resolved_phrase s p)
  phrase_small p = followed (condition_small p.condition) (λ x q. omega arith)

  pub guard_small : (g : GuardTree) → Within guard_nodes (tree.guard_tree_nodes g) (guard s g)
  guard_small g = followed (condition_small g.condition) (λ x q. omega arith)

  -- ---- heads

  start_small : (t : StartTree) → Within start_nodes (tree.start_tree_nodes t) (resolved_start s t)
  start_small from_end = omega arith
  start_small (from_member e) = followed (small s e) (λ x p. omega arith)
  start_small (after_member e) = followed (small s e) (λ x p. omega arith)

  pub head_small : (over : HeadTree) → Within head_nodes (own_nodes over) (head s over)
  unfolding head
  head_small (over_range variable from to step phrases) =
      looked (variable_named s variable) (λ v.
      followed (small s from) (λ x p. followed (small s to) (λ y q. followed (there_small (small s) step) (λ z r. omega arith))))
  head_small (over_members variable set from reverse phrases) =
      looked (variable_named s variable) (λ v. followed (set_small s set) (λ x p. followed (start_small from) (λ y q. omega arith)))
  head_small (over_class name called phrases) =
      looked (class_named s needs.Permanent name) (λ class. looked (called_variable s class.variable called) (λ v. omega arith))

  -- ---- parts of statements

  pub reader_small : (n : NamedTree) → Within target_nodes (tree.named_nodes n) (reader s n)
  reader_small n =
      followed (place_named_small s n.designator n.subscripts) (λ p q. followed (place_small p.0 p.1) (λ x r. looked (mode_of_meaning p.0) (λ mode. omega arith)))

  pub new_small : (x : Variable) (called : Option NamedTree) → Within place_nodes (1 + option_map_or tree.named_nodes called 0) (new_place s x called)
  new_small x None = omega arith
  new_small x (Some n) = so (target_small s n) (λ y p. omega arith)

  pub called_small : (x : Variable) (called : Option ExpressionTree) → Within expression_nodes (1 + option_map_or tree.expression_tree_nodes called 0) (entity_called s x called)
  called_small x None = omega arith
  called_small x (Some e) = so (small s e) (λ y p. omega arith)

  pub restart_small : (n : NamedTree) → Within restart_nodes (tree.named_nodes n) (restart s n)
  restart_small n =
      looked (history_of s n.designator) (λ k.
      followed (place_named_small s n.designator n.subscripts) (λ p q. omega (arith, of_less p.0 p.1)))

  pub position_small : (t : PositionTree) → Within position_nodes (tree.position_tree_nodes t) (position s t)
  position_small (before e) = followed (small s e) (λ x p. omega arith)
  position_small (after e) = followed (small s e) (λ x p. omega arith)
  position_small _ = omega arith

  pub when_small : (t : WhenTree) → Within when_nodes (tree.when_tree_nodes t) (when s t)
  when_small (at_time e) = followed (small s e) (λ x p. omega arith)
  when_small (in_units e) = followed (small s e) (λ x p. omega arith)
  when_small now = omega arith
