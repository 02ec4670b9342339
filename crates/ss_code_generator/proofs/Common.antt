-- The names of other crates, and of definitions here, that several proofs of this crate cite, passed on from one place. Declares nothing.
pub use Rattle.ss_base.specs.declared.layout.Mode.{Mode}
pub use Rattle.ss_base.specs.declared.layout.Mode.TheVariants.{Alpha, Integer}
pub use Rattle.ss_base.specs.declared.line.Line.{Line}
pub use Rattle.ss_base.specs.declared.value.Value.{Value}
pub use Rattle.ss_base.specs.declared.value.Value.TheVariants.{Whole}
pub use Rattle.ss_base.specs.declared.words.End.{End}
pub use Rattle.ss_base.specs.declared.words.Relation.{Relation}
pub use Rattle.ss_base.specs.declared.words.Sign.{Sign}
pub use Rattle.ss_code_generator.specs.Calculations.{with_operations}
pub use Rattle.ss_code_generator.specs.Emitted.{AreNumbers, Final, HasAdded, HasBorne, HasEmitted, HasEmittedAround, HasEmittedAroundBoth, HasEmittedTo, HasGenerated, HasGrown, HasNoMore, HasPrintModes, HasReadBy, HasReadOperand, IsAround, IsInteger, IsLocated, IsRead, IsRunBy, IsSiteBearer, IsSiteOperand, IsSiteTarget, IsTyped}
pub use Rattle.ss_code_generator.specs.Filings.{filing_instruction}
pub use Rattle.ss_code_generator.specs.Items.{IsTypedItem, running_kind}
pub use Rattle.ss_code_generator.specs.Looped.{HasTakenItems, HasTakenLoopItem, item_loop_code, loop_width}
pub use Rattle.ss_code_generator.specs.Printed.{HasEmittedBlock, HasPrinted, HasPrintedLines, line_or_none}
pub use Rattle.ss_code_generator.specs.Spots.{Assignment, HasAssigned, HasAssignedLanded, HasHeldMode, HasTargetRoom, IsAttribute, IsSpot, IsTypedPlace, IsVariable, IsWatchedAs, Taking, landed_code, landing, spot_cells}
pub use Rattle.ss_code_generator.specs.declared.generator.Generator.{Generator}
pub use Rattle.ss_code_generator.specs.declared.loops.MemberLoop.{MemberLoop}
pub use Rattle.ss_code_generator.specs.declared.targets.AttributeSpot.{AttributeSpot}
pub use Rattle.ss_code_generator.specs.declared.targets.Spot.{Spot}
pub use Rattle.ss_code_generator.specs.declared.targets.VariableSpot.{VariableSpot}
pub use Rattle.ss_code_instructions.proofs.Stacked.{values_high}
pub use Rattle.ss_code_instructions.specs.Carried.{IsCarriedOut, IsInFrame, RunningLines, lines_of_running, mode_here}
pub use Rattle.ss_code_instructions.specs.Facts.{expression_of, must_look, watch}
pub use Rattle.ss_code_instructions.specs.Forms.{asking_member, asking_set, calculating, comparing, fetching, moving, reading, removing, storing}
pub use Rattle.ss_code_instructions.specs.Instructions.{Bearer, Constant, Held, Instruction, Leave, Lines, Operand, Placed, Stays, Taken, Target}
pub use Rattle.ss_code_instructions.specs.Translation.{Site, above, after, after_bearer, after_place, after_values, assignment, bearer, bearer_code, code_of, condition_code, creates_code, entity_code, expression_code, expression_mode, guards_code, height, is_kept, next, operand, operand_code, or_integer, phrases_code, place, place_code, reads_code, remove_end_code, restarts_code, stay, take_code, tests_code, to_place_code, values_code, with_operand}
pub use Rattle.ss_code_instructions.specs.declared.address.Address.{Address}
pub use Rattle.ss_code_instructions.specs.declared.item.ItemKind.{ItemKind}
pub use Rattle.ss_code_pieces.specs.Lined.{Lined, no_code, on_line}
pub use Rattle.ss_code_pieces.specs.Preamble.{filing_of, scope_for_modes}
pub use Rattle.ss_code_pieces.specs.declared.facts.Ordering.{Ordering}
pub use Rattle.ss_meaning.specs.Values.{operator_of}
pub use Rattle.ss_program.specs.Program.{AMean, AMeanOf, AValue, Expression, InputTarget, Place, PrintItem, Program, Restart, ToAttribute, ToCount, ToVariable}
pub use Rattle.ss_program.specs.View.{view_body, view_condition, view_conjunction, view_guard, view_head, view_item, view_owner, view_phrase, view_place, view_program, view_restart, view_target, view_test, view_when}
unfoldable pub use Rattle.ss_program.specs.View.{view_expression}
pub use Rattle.ss_program.specs.WellTyped.{CanTakeMode, HasMode, IsTypedCondition, IsTypedHead, IsTypedOwner, IsTypedPhrase, IsTypedRestart, IsTypedStatement, IsTypedTest, TypedScope, field_mode, mode_at}
pub use Rattle.ss_program.specs.declared.expression.MemberQuery.{MemberQuery}
pub use Rattle.ss_program.specs.declared.expression.SetQuery.{SetQuery}
pub use Rattle.ss_program.specs.declared.expression.Variable.{Variable}
pub use Rattle.ss_program.specs.declared.expression.Variable.TheVariants.{Global, Local}
pub use Rattle.ss_program.specs.declared.sections.Statistic.{Statistic}
pub use Rattle.ss_program.specs.declared.sections.Subject.TheVariants.{OfAttribute, OfCount}
pub use Rattle.ss_program.specs.declared.statement.CountedClass.{CountedClass}
pub use Rattle.std.proofs.lemmas.Bool.{eq-eqb, eqb-true, true≢false}
pub use Rattle.std.proofs.lemmas.List.{drop_more, length-map, map-append, take_all, take_more}
pub use Rattle.std.proofs.lemmas.Result.{on_ok_weaker}
pub use Rattle.std.specs.Option.{option_map}
pub use Rattle.std.specs.Prelude.{pos, slice_get}
