-- The names of other crates, and of definitions here, that several proofs of this crate cite, passed on from one place. Declares nothing.
pub use Rattle.ss_base.specs.Layout.{mode_of}
pub use Rattle.ss_base.specs.declared.fault.FaultKind.{FaultKind}
pub use Rattle.ss_base.specs.declared.fault.FaultKind.TheVariants.{CreatedTwice}
pub use Rattle.ss_base.specs.declared.layout.ClassKind.TheVariants.{Notice, Permanent}
pub use Rattle.ss_base.specs.declared.layout.ClassLayout.{ClassLayout}
pub use Rattle.ss_base.specs.declared.layout.Discipline.{Discipline}
pub use Rattle.ss_base.specs.declared.layout.Mode.{Mode}
pub use Rattle.ss_base.specs.declared.layout.Mode.TheVariants.{Integer}
pub use Rattle.ss_base.specs.declared.layout.SetLayout.{SetLayout}
pub use Rattle.ss_base.specs.declared.line.Line.{Line}
pub use Rattle.ss_base.specs.declared.value.Value.{Value}
pub use Rattle.ss_base.specs.declared.value.Value.TheVariants.{Text, Whole}
pub use Rattle.ss_base.specs.declared.words.End.{End}
pub use Rattle.ss_base.specs.declared.words.GuardKind.{GuardKind}
pub use Rattle.ss_base.specs.declared.words.PhraseKind.{PhraseKind}
pub use Rattle.ss_base.specs.declared.words.Sign.{Sign}
pub use Rattle.ss_code_instructions.specs.Facts.{expression_of, is_watched, may_fault, must_look, needs_look, neighbour_of, watch}
pub use Rattle.ss_code_instructions.specs.Instructions.{Bearer, EntryPoint, Held, Instruction, Into, ItemKind, Jump, Lines, Onto, Operand, Placed, ShowsMean, ShowsMeanOf, ShowsValue, Stays, Taken, Target}
pub use Rattle.ss_code_instructions.specs.Laws.{CodeBehaves, HasShape, ShapeStays}
pub use Rattle.ss_code_instructions.specs.Machine.{Code, Goes, NoStep, Over, Stepped, Walk, act, assignable_count, begin_walk, cells_of_kinds, changed_attribute, enter, has_item, has_next, is_due, item_before, leave, mean_item, next_item, print_lines, step, step_at, take_event, take_next, unsigned, values_shown, walk_at, walk_cells, walk_further, when_due, with_loop, with_rest, with_walk_in_cells}
pub use Rattle.ss_code_instructions.specs.Reached.{HasTakenIf, ReachedFits}
pub use Rattle.ss_code_instructions.specs.Running.{HasGoneRight, IsFaithful, Underway, after_one_step, start, steps}
pub use Rattle.ss_code_instructions.specs.Shape.{AreFitForItems, AreFoundAt, AreGivenModes, CanBePrinted, HasOnTop, IsAccepting, IsDueAt, IsFitForCode, IsGivingMode, IsGivingPosition, IsOfKind, IsSuited, modes_onto}
pub use Rattle.ss_code_instructions.specs.States.{ARoutine, AnEvent, Breaks, Called, Core, Done, Frame, MachineState, Moved, Rest, Sends, Stuck, TakenOff, To, Written, at_height, back_if, cell_at, core_at, deliver, deliver_with, did, fit, lies_above, onward, onward_if, or_zero, past, put_to, take_off, with_bearer, with_block, with_operand_value, with_position, with_top_number, with_topmost, with_values}
pub use Rattle.ss_code_instructions.specs.Translation.{Site, above, after, after_bearer, after_values, all_events, all_routines, alternatives_code, assignment, bearer, bearer_code, begin_code, block_code, block_prints, change_code, code_of, condition_code, count_code, creates_code, entity_code, event_code, event_entry, events_code, events_prints, expression_code, expression_mode, file_code, filing_by, find_code, first_site, for_code, forget, forget_to, give_code, gives_code, guard_code, guards_code, height, if_code, in_loop, is_kept, items_cells, items_code, leaf, let_code, lines_of_items, looked_code, loop_cells, main_code, main_prints, main_scope, member_code, negated_code, next, no_line, number_loop, operand, operand_cells, operand_code, or_cell, or_in_cell, or_integer, owner_cell, owner_code, owner_kept, phrases_code, place, place_mode, prints_before_events, range_code, reads_code, remove_code, remove_end_code, restarts_code, results_cells, routine_code, routine_entry, routines_code, routines_prints, schedule_code, schedule_new_code, section_code, site_at_line, start_code, statement_code, statement_prints, stay, step_code, take_code, test_code, tests_code, to_place_code, turns_code, unless_leaf, values_cells, values_code, variable_code, walk_loop, when_code, with_cells, with_operand, with_owner}
pub use Rattle.ss_meaning.proofs.Expressions.{asked_alone, asked_of}
pub use Rattle.ss_meaning.proofs.Fine.{Fine, Sane, There, fine_turned, fit_fine}
pub use Rattle.ss_meaning.proofs.Statements.{held_length}
pub use Rattle.ss_meaning.proofs.Whole.{first_fits}
pub use Rattle.ss_meaning.specs.Entities.{attribute, class_at, entity, field_at, is_permanent, is_single, made_all, made_count, made_one, time_of, with_new, without}
pub use Rattle.ss_meaning.specs.Events.{AtTime, Beginning, Coming, Later, clock, coming_with, endowed, event_begun, filed_notice, is_awaited, made_notice, next_event, prepared, rescheduled, time_at, unscheduled, with_notice_time}
pub use Rattle.ss_meaning.specs.Expressions.{all_pass, both, either, entity_value, holds, looked_at, member_value, not_if, owner_value, time_value, value, value_if_any, values}
pub use Rattle.ss_meaning.specs.Fitting.{AreOfModes, IsFittingStore}
pub use Rattle.ss_meaning.specs.Histories.{all_noting, noted, same_subject}
pub use Rattle.ss_meaning.specs.Loops.{GoesOn, IsFound, Turn, indices, over, phrases, range_of, visit}
pub use Rattle.ss_meaning.specs.Meaning.{Ended, Ending, Fault, Paused, Run, calls, come_back, enclosed, meaning, routine_called, run_at, setting_of, with_locals}
pub use Rattle.ss_meaning.specs.Parts.{Faulted, Left, OutOfTicks, Outcome, Part, Returned, RunState, Stopped, WentOn, Wrong, change, choose, get, look, looked, needed, outcome_then, send, settle, settle_with, take_tick, then_nothing, tick_from, write}
pub use Rattle.ss_meaning.specs.Places.{InAttribute, InCount, InVariable, assigned_attribute, assigned_variable, is_of_mode}
pub use Rattle.ss_meaning.specs.Sets.{ByRule, Filing, Foremost, Hindmost, JustAfter, JustBefore, begun, begun_at, end_removed, filed_by, filed_in, goes_on, is_empty, is_fit, is_in, is_none, known_owner, member, of_member, of_set, owner_number, recounted, removed_at, removed_from}
pub use Rattle.ss_meaning.specs.State.{is_made}
pub use Rattle.ss_meaning.specs.Statements.{Calls, change_by, effects, give_to, read_value, with_input}
pub use Rattle.ss_meaning.specs.Statistics.{figure, mean, reset}
pub use Rattle.ss_meaning.specs.Store.{Setting, Store, appended, fetched, first_values, front, opened, prepended, put, put_at, taken_by_modes, with_heap, with_histories, yielded}
pub use Rattle.ss_meaning.specs.Values.{Fails, Failure, TypeError, applied, calculated, due, empty_lines, if_ok, number_of, operator_of, printed, related, same_mode, sure, turned, unless_fault, where_fit}
pub use Rattle.ss_meaning.specs.Words.{Given, is_ended, value_given}
pub use Rattle.ss_program.specs.Item.{Item}
pub use Rattle.ss_program.specs.Item.TheVariants.{Is, Mean}
pub use Rattle.ss_program.specs.Program.{AMean, AMeanOf, AValue, After, AfterMember, AsFirst, AsLast, At, AtEnd, Attribute, BeforeMember, Block, ByDiscipline, Calculate, Clock, Compare, Condition, Constant, DataEnded, Each, Empty, Entity, Event, Expression, Fetch, Figure, FigureOf, From, Guard, Head, In, InputTarget, Member, Members, Now, Numbers, OfMember, OfSet, OfSystemSet, Phrase, Place, Position, PrintItem, Program, Restart, Routine, SetOwner, Signed, Start, Test, TheSystem, TimeOf, ToAttribute, ToCount, ToVariable, Unary, When}
pub use Rattle.ss_program.specs.WellTyped.{IsSet, IsWellTyped, TypedScope, field_mode}
pub use Rattle.ss_program.specs.declared.expression.Variable.{Variable}
pub use Rattle.ss_program.specs.declared.expression.Variable.TheVariants.{Global, Local}
pub use Rattle.ss_program.specs.declared.sections.Statistic.{Statistic}
pub use Rattle.ss_program.specs.declared.sections.Subject.{Subject}
pub use Rattle.ss_program.specs.declared.sections.Subject.TheVariants.{OfAttribute, OfCount, OfVariable}
pub use Rattle.ss_program.specs.declared.statement.CountedClass.{CountedClass}
pub use Rattle.ss_world.specs.Disciplines.{filed}
pub use Rattle.ss_world.specs.Lists.{IsInList}
pub use Rattle.ss_world.specs.Sets.{count_in, filed_after, filed_before, filed_first, filed_last, removed}
pub use Rattle.ss_world.specs.State.{State, assigned, created, timed}
pub use Rattle.std.proofs.lemmas.Bool.{eq-eqb, eqb-true, ne_eqb}
pub use Rattle.std.specs.List.{AllZip}
pub use Rattle.std.specs.Option.{option_map}
pub use Rattle.std.specs.Prelude.{Result, int_lt, pos, slice_get, take}
