-- Statements, and bodies of sections.
use Rattle.std.proofs.Common.{◌+◌, arith}
use Rattle.ss_check_laws.proofs.Common.{add_statement, and_statement, Block, call_statement, cancel_statement, class_named, counted, create_every, create_statement, destroy_statement, Done, file_statement, find_if_statement, find_statement, FindOutcome, for_head, guarded, HeadTree, if_statement, let_statement, Line, loop_statement, LoopHeadTree, no_statement, phrases_of, print_statement, read_statement, remove_end, remove_statement, reset_statement, schedule_new, schedule_statement, Scope, skip_statement, StatementRow, StatementTree, subtract_statement}
use Rattle.ss_tree.specs.declared.statement.FindOutcome.TheVariants as outcomes
use Rattle.ss_tree.specs.Nodes as tree
use Rattle.ss_program.specs.Nodes.{statement_nodes, block_nodes}
use Rattle.ss_names_uses.specs.declared.used.ClassNeed.TheVariants as needs
use Rattle.ss_names_meaning.specs.Statements.{find, find_by, resolved_loop, routine_named, simple_statement, statement, statements}
use Rattle.ss_check_laws.specs.SizeLaws.{BodiesStaySmall}
use Rattle.ss_check_laws.proofs.Within.{Within, at_most, so, followed, looked, where_small, each_small, each_as_many}
use Rattle.ss_check_laws.proofs.ExpressionSizes.{small, item_small, target_small, set_small}
use Rattle.ss_check_laws.proofs.PartSizes.{own_and_phrases, condition_small, phrase_small, guard_small, head_small, reader_small, new_small, called_small, restart_small, position_small, when_small}

module _ (s : Scope) where
  -- ---- loops around statements

  loop_small : (line : Line) (over : LoopHeadTree) (body : Block) → Within statement_nodes (1 + tree.loop_head_nodes over + block_nodes body) (resolved_loop line s over body)
  loop_small line (for_head over) body =
      followed (head_small s over) (λ h p. followed (each_small (phrase_small s) (phrases_of over)) (λ ps q. omega (arith, own_and_phrases over)))
  loop_small line (guarded guards) body = followed (each_small (guard_small s) guards) (λ gs p. omega arith)

  find_small : (line : Line) (over : HeadTree) (found missing : Block) → Within statement_nodes (1 + tree.head_tree_nodes over + block_nodes found + block_nodes missing) (find line s over found missing)
  find_small line over found missing =
      followed (head_small s over) (λ h p. followed (each_small (phrase_small s) (phrases_of over)) (λ ps q. omega (arith, own_and_phrases over)))

  find_by_small : (o : FindOutcome) (line : Line) (over : HeadTree) (first second : Block) → Within statement_nodes (1 + tree.head_tree_nodes over + block_nodes first + block_nodes second) (find_by o line s over first second)
  find_by_small outcomes.Found line over first second = find_small line over first second
  find_by_small outcomes.None line over first second = so (find_small line over second first) (λ x p. omega arith)

  -- ---- statements without statements in them

  simple_small : (t : StatementTree) → Within statement_nodes (tree.statement_tree_nodes t) (simple_statement s t)
  unfolding simple_statement
  simple_small (let_statement line n e) = followed (target_small s n) (λ x p. followed (small s e) (λ y q. omega arith))
  simple_small (add_statement line e n) = followed (small s e) (λ x p. followed (target_small s n) (λ y q. omega arith))
  simple_small (subtract_statement line e n) = followed (small s e) (λ x p. followed (target_small s n) (λ y q. omega arith))
  simple_small (call_statement line name given yielding) =
      looked (routine_named s name) (λ r.
      followed (each_small (small s) given) (λ xs p. followed (each_small (target_small s) yielding) (λ ys q. where_small _ _ (omega arith))))
  simple_small (read_statement line targets) = followed (each_small (reader_small s) targets) (λ xs p. omega arith)
  simple_small (find_statement line over) = so (find_small line over Done Done) (λ x p. omega arith)
  simple_small (create_statement line name called) =
      looked (class_named s needs.Single name) (λ class. followed (new_small s class.variable called) (λ x p. omega arith))
  simple_small (create_every line names) = followed (each_as_many (counted s) names) (λ ks p. omega arith)
  simple_small (destroy_statement line name called) =
      looked (class_named s needs.Single name) (λ class. followed (called_small s class.variable called) (λ x p. omega arith))
  simple_small (file_statement line e at n) =
      followed (small s e) (λ x p. followed (position_small s at) (λ y q. followed (set_small s n) (λ z r. omega arith)))
  simple_small (remove_end line end n m) = followed (target_small s n) (λ x p. followed (set_small s m) (λ y q. omega arith))
  simple_small (remove_statement line e n) = followed (small s e) (λ x p. followed (set_small s n) (λ y q. omega arith))
  simple_small (schedule_new line name called given time) =
      looked (class_named s needs.Notice name) (λ class.
      followed (new_small s class.variable called) (λ x p.
      followed (each_small (small s) given) (λ xs q. followed (when_small s time) (λ due r. where_small _ _ (omega arith)))))
  simple_small (schedule_statement line name called given time) =
      looked (class_named s needs.Notice name) (λ class.
      followed (called_small s class.variable called) (λ x p.
      followed (each_small (small s) given) (λ xs q. followed (when_small s time) (λ due r. where_small _ _ (omega arith)))))
  simple_small (cancel_statement line name called) =
      looked (class_named s needs.Notice name) (λ class. followed (called_small s class.variable called) (λ x p. omega arith))
  simple_small (reset_statement line targets) = followed (each_small (restart_small s) targets) (λ xs p. omega arith)
  simple_small (print_statement line items pictures) = followed (each_small (item_small s) items) (λ xs p. omega arith)
  simple_small (skip_statement line e) = followed (small s e) (λ x p. omega arith)
  simple_small _ = omega arith

  -- ---- bodies

  mutual
    unfolding statement

    statement_small : (t : StatementTree) → Within statement_nodes (tree.statement_tree_nodes t) (statement s t)
    statement_small (if_statement line test first second) =
        followed (row_small first) (λ a p. followed (row_small second) (λ b q. followed (condition_small s test) (λ x r. omega arith)))
    statement_small (loop_statement line over row) = followed (row_small row) (λ b p. so (loop_small line over b) (λ x q. omega arith))
    statement_small (find_if_statement line over outcome first second) =
        followed (row_small first) (λ a p. followed (row_small second) (λ b q. so (find_by_small outcome line over a b) (λ x r. omega arith)))
    statement_small t = simple_small t

    pub row_small : (ts : StatementRow) → Within block_nodes (tree.statements_nodes ts) (statements s ts)
    row_small no_statement = omega arith
    row_small (and_statement t ts) = followed (statement_small t) (λ x p. followed (row_small ts) (λ xs q. omega arith))

pub bodies_stay_small : BodiesStaySmall
bodies_stay_small s body done h = at_most block_nodes (tree.statements_nodes body) (statements s body) done (row_small s body) h
