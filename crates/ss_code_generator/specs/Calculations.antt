-- Expressions that go to a place, and operations on a number, worked off from left to right.
use Rattle.std.specs.Prelude.{List}
use Rattle.std.specs.List.{fold}
use Rattle.ss_program.specs.declared.expression.Operation.{Operation}
use Rattle.ss_program.specs.Program.{Expression}
use Rattle.ss_program.specs.View.{view_expression}
use Rattle.ss_program.specs.Views.{with_operation}
use Rattle.ss_code_instructions.specs.Instructions.{Target, Placed}
use Rattle.ss_code_instructions.specs.Instructions as i
use Rattle.ss_code_instructions.specs.Translation.{Site, operand, after, expression_code, with_operand}
use Rattle.ss_code_generator.specs.declared.expressions.Operand.{Operand as Read}
use Rattle.ss_code_generator.specs.declared.generator.Generator.{Generator}
use Rattle.ss_code_generator.specs.declared.generator.Site.{Site as Here}
use Rattle.ss_code_pieces.specs.Lined.{Lined}
use Rattle.ss_code_generator.specs.Emitted.{HasGenerated, HasNoMore, IsSiteTarget, HasEmittedTo, IsTyped, IsRead, IsInteger}
use Rattle.ss_code_instructions.specs.declared.address.Address.{Address}

-- the code of an expression, whose value goes to an address
abbrev pub HasEmittedExpression : (old new : Generator) → (before after : Lined) → Here → Address → Expression → Type 0
HasEmittedExpression old new before after here to e = HasEmittedTo old new before after here to (IsTyped e) (λ t x. expression_code t x e)

-- a number and operations on it
abbrev pub with_operations : Expression → List Operation → Expression
with_operations e os = fold with_operation e os

-- the code of an operation, once the number on its left is there
abbrev pub operation_code : Site → Expression → Operation → Target → List Placed
operation_code t e o to = with_operand (after t e) (view_expression o.operand) (λ y. i.Calculate o.operator (operand t e) y to)

-- the number on the left, and where the result goes
pub record LeftOperand : Type 0 where
  pub left : Expression
  pub to : Target

-- an operation on a number that is there
abbrev pub HasOperated : (old new : Generator) → (before following : Lined) → Here → Read → Address → Operation → Type 0
HasOperated old new before following here left to o =
    HasGenerated {I = LeftOperand} old new before following here (λ f t x. IsRead f t x.left left × IsSiteTarget f t x.to to × IsInteger (view_expression o.operand) t.scope) (λ t x. operation_code t x.left o x.to) HasNoMore
