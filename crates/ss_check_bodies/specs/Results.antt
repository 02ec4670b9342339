-- The scope that names are resolved by, and what calls answer for steps one after the other.
use Rattle.std.specs.Prelude.{◌≡◌, ◌⊎◌, List, [], ◌∷◌, ◌++◌, map, Option, Some, Result, Ok, Err}
use Rattle.std.specs.Global.{Vec}
use Rattle.ss_tree.specs.Tree.{ExpressionRow, ExpressionTree, HeadTree}
use Rattle.ss_base.specs.declared.words.Operator.{Operator}
use Rattle.ss_base.specs.declared.words.Operator.TheVariants.{Multiply}
use Rattle.ss_base.specs.declared.words.Sign.{Sign}
use Rattle.ss_program.specs.declared.expression.Operation.{Operation}
use Rattle.ss_program.specs.declared.head.Head.{Head as HeadMade}
use Rattle.ss_program.specs.declared.head.Phrase.{Phrase as PhraseMade}
use Rattle.ss_program.specs.Program.{Calculate, Expression, Head, Phrase}
use Rattle.ss_program.specs.View.{view_expression, view_head, view_phrase}
use Rattle.ss_names_scopes.specs.Scopes.{Scope}
use Rattle.ss_names_scopes.specs.Seen.{view_scope}
use Rattle.ss_names_meaning.specs.declared.error.ResolveError.{ResolveError}
use Rattle.ss_names_meaning.specs.declared.error.ResolveError.TheVariants.{Memory, Unresolved}
use Rattle.ss_names_meaning.specs.Answers.{◌>>=◌, each, of_one}
use Rattle.ss_names_meaning.specs.Expressions.{expression, resolved_operator, two}
use Rattle.ss_names_meaning.specs.Heads.{head, resolved_phrase, phrases_of}
use Rattle.ss_check_bodies.specs.declared.resolver.Resolver.{Resolver as ResolverValue}

-- the scope of what resolves
abbrev pub scope_in : ResolverValue → Scope
scope_in r = view_scope r.scope

-- what was made first, beside what was made next, unless that failed
abbrev pub IsMadeBeside : {A B : Type 0} → A → Result B ResolveError → Result (A × B) ResolveError → Type 0
IsMadeBeside first next (Ok p) = (p.0 ≡ first) × (next ≡ Ok p.1)
IsMadeBeside first next (Err e) = next ≡ Err e

-- what was made first, beside what was made next, unless one of them failed
abbrev pub IsMadeOfBoth : {A B : Type 0} → Result A ResolveError → Result B ResolveError → Result (A × B) ResolveError → Type 0
IsMadeOfBoth first next (Ok p) = (first ≡ Ok p.0) × (next ≡ Ok p.1)
IsMadeOfBoth first next (Err e) = (first ≡ Err e) ⊎ ((x : _) × (first ≡ Ok x) × (next ≡ Err e))

-- what was made first, and then what was made next, unless that failed
abbrev pub IsMadeAfter : {A : Type 0} → Vec A → Result A ResolveError → Result (Vec A) ResolveError → Type 0
IsMadeAfter made next (Ok all) = (x : _) × (next ≡ Ok x) × (all.items ≡ made.items ++ x ∷ [])
IsMadeAfter made next (Err Memory) = Unit {0}
IsMadeAfter made next (Err Unresolved) = next ≡ Err Unresolved

-- what a FOR goes over, and its phrases
abbrev pub resolved_over : Scope → HeadTree → Option (Head × List Phrase)
resolved_over c t = do
  h ← head c t
  phrases ← each (resolved_phrase c) (phrases_of t)
  Some (h, phrases)

abbrev pub over_seen : HeadMade × Vec PhraseMade → Head × List Phrase
over_seen p = (view_head p.0, map view_phrase p.1.items)

-- a further factor and a further term, each an operation on what is on its left
abbrev pub factor : Scope → ExpressionTree → Option (Operator × Expression)
factor c e = of_one {B = Operator × Expression} (expression c e) (λ x. (Multiply, x))

abbrev pub further_term : Scope → Sign × ExpressionTree → Option (Operator × Expression)
further_term c t = of_one {B = Operator × Expression} (expression c t.1) (λ x. (resolved_operator t.0, x))

abbrev pub operation_seen : Operation → Operator × Expression
operation_seen o = (o.operator, view_expression o.operand)

-- a function of two numbers
abbrev pub operation : Scope → Operator → ExpressionRow → Option Expression
operation c operator arguments = do
  p ← two c arguments
  Some (Calculate operator p.0 p.1)
