-- Resolved conditions: each name is replaced by what it means.
use Rattle.std.specs.Prelude.{List, Option, Some}
use Rattle.ss_tree.specs.Tree.{TestTree, compare, empty, member, data_ended, ConditionTree}
use Rattle.ss_program.specs.Program.{Test, Compare, DataEnded, Empty, Member, Condition}
use Rattle.ss_names_meaning.specs.Answers.{each, of_one, of_two}
use Rattle.ss_names_scopes.specs.Scopes.{Scope}
use Rattle.ss_names_meaning.specs.Expressions.{expression, set_named}

unfoldable pub one_test : Scope → TestTree → Option Test
one_test c (compare left relation right) = of_two (expression c left) (expression c right) (Compare relation)
one_test c (empty set negated) = of_one (set_named c set) (λ s. Empty negated s.0 s.1)
one_test c (member e set negated) = of_two (expression c e) (set_named c set) (λ x s. Member negated s.0 x s.1)
one_test c (data_ended negated) = Some (DataEnded negated)

-- tests joined by AND
abbrev pub conjunction : Scope → List TestTree → Option (List Test)
conjunction c tests = each (one_test c) tests

-- conjunctions joined by OR
abbrev pub condition : Scope → ConditionTree → Option Condition
condition c alternatives = each (conjunction c) alternatives
