-- The names of other crates, and of definitions here, that several proofs of this crate cite, passed on from one place. Declares nothing.
pub use Rattle.ss_base.specs.Layout.{mode_of}
pub use Rattle.ss_base.specs.declared.fault.FaultKind.{FaultKind}
pub use Rattle.ss_base.specs.declared.fault.Refused.{Refused}
pub use Rattle.ss_base.specs.declared.layout.ClassKind.{ClassKind}
pub use Rattle.ss_base.specs.declared.layout.ClassKind.TheVariants.{Notice, Permanent}
pub use Rattle.ss_base.specs.declared.layout.ClassLayout.{ClassLayout}
pub use Rattle.ss_base.specs.declared.layout.Discipline.{Discipline}
pub use Rattle.ss_base.specs.declared.layout.Discipline.TheVariants.{Fifo, Lifo, Ranked}
pub use Rattle.ss_base.specs.declared.layout.Layout.{Layout}
pub use Rattle.ss_base.specs.declared.layout.Mode.{Mode}
pub use Rattle.ss_base.specs.declared.layout.Mode.TheVariants.{Alpha, Integer}
pub use Rattle.ss_base.specs.declared.layout.Owner.{Owner}
pub use Rattle.ss_base.specs.declared.layout.Owner.TheVariants.{Class, System}
pub use Rattle.ss_base.specs.declared.layout.SetLayout.{SetLayout}
pub use Rattle.ss_base.specs.declared.line.Line.{Line}
pub use Rattle.ss_base.specs.declared.value.Value.{Value}
pub use Rattle.ss_base.specs.declared.value.Value.TheVariants.{Text, Whole}
pub use Rattle.ss_base.specs.declared.words.End.{End}
pub use Rattle.ss_base.specs.declared.words.Operator.{Operator}
pub use Rattle.ss_base.specs.declared.words.Relation.{Relation}
pub use Rattle.ss_base.specs.declared.words.Sign.{Sign}
pub use Rattle.ss_code_instructions.specs.Carried.{HasBearer, HasOperand, HasTarget, Is, IsTargetAt}
pub use Rattle.ss_code_instructions.specs.Facts.{watch}
pub use Rattle.ss_code_instructions.specs.Forms.{asking_member, asking_set, calculating, comparing_numbers}
pub use Rattle.ss_code_instructions.specs.Instructions.{Bearer, Operand, Placed, Target}
pub use Rattle.ss_code_instructions.specs.Machine.{Code, act, assignable_count, has_item, is_due, unsigned}
pub use Rattle.ss_code_instructions.specs.Shape.{IsAccepting, IsGivingBearer, IsSetBearer, IsSuited, typed_scope}
pub use Rattle.ss_code_instructions.specs.States.{Breaks, Core, Moved, Rest, Stuck, To, Written, back_if, cell_at, core_at, deliver, deliver_with, did, fit, onward, onward_if, past, with_operand_value}
pub use Rattle.ss_code_instructions.specs.declared.address.Address.{Address}
pub use Rattle.ss_machine_frames.proofs.Entering.{cleared_long, value_long, value_texts}
pub use Rattle.ss_machine_frames.proofs.Lists.{set_length}
pub use Rattle.ss_machine_frames.proofs.Reading.{BothWithin, Only, Refers, bearer_within, both_within, hold_length, only_number, only_text, own_is, read_within, reads, reads_bearer, reads_both, shorter}
pub use Rattle.ss_machine_frames.proofs.Writing.{cells_held}
pub use Rattle.ss_machine_frames.specs.Holding.{AreCellsAt, IsAtSite, IsCoreHeld, MachineSite}
pub use Rattle.ss_machine_frames.specs.Rows.{IsValueAt, TwoRows, place_at, with_number, with_value}
pub use Rattle.ss_machine_instructions.specs.Doing.{Compiled, HasNoTick, HasPerformed, IsDelivered, IsDelivering, IsHeld, IsReadyFor, answered, as_text}
pub use Rattle.ss_machine_instructions.specs.Entered.{IsOutOfMemory}
pub use Rattle.ss_machine_instructions.specs.Noted.{HasNoted, IsNotedAfter, IsNotedIf}
pub use Rattle.ss_machine_instructions.specs.Ways.{at_place, back_at, back_if_at, done_unless_fault, faulted, faulted_by, faulted_test, item_after, none_of, on_after, on_at, on_if_at, refused_by, stopped, test_of, tested_at}
pub use Rattle.ss_machine_instructions.specs.Worldly.{HasChangedIf, HasFiled, HasRemoved, HasTaken, IsCounted, IsCountedOut, IsNotedRight, IsOwner, IsRuled, IsSettled, IsSettledGiving, IsSettling, member_answer}
pub use Rattle.ss_machine_instructions.specs.declared.flow.Ending.TheVariants.{Ended, NoMemory, Paused}
pub use Rattle.ss_machine_instructions.specs.declared.flow.Here.{Here}
pub use Rattle.ss_machine_instructions.specs.declared.state.State.{State}
pub use Rattle.ss_machine_time.specs.Figures.{statistic_variable}
pub use Rattle.ss_machine_world.proofs.Composing.{unwatched}
pub use Rattle.ss_machine_world.proofs.Leaving.{there_in}
pub use Rattle.ss_machine_world.proofs.Reading.{value_once}
pub use Rattle.ss_machine_world.proofs.Said.{said_of_layout}
pub use Rattle.ss_machine_world.proofs.Starting.{seen_of}
pub use Rattle.ss_machine_world.specs.Numbers.{HasValidSubject, IsReferenceToSubject, attribute_noted, count_noted, created_all_known}
pub use Rattle.ss_machine_world.specs.Seen.{HasAnswer, HasChanged, HasChangedWhere, HasChangedWithMemory, HasMade, HasRearranged, IsRight, Seen, as_value, number_if, with_seen, without_value}
pub use Rattle.ss_meaning.proofs.Fine.{Fine}
pub use Rattle.ss_meaning.proofs.Lists.{every_get}
pub use Rattle.ss_meaning.specs.Entities.{made_one, without}
pub use Rattle.ss_meaning.specs.Fitting.{AreOfModes, IsFittingStore}
pub use Rattle.ss_meaning.specs.Histories.{noted}
pub use Rattle.ss_meaning.specs.Places.{assigned_variable}
pub use Rattle.ss_meaning.specs.Sets.{ByRule, Foremost, Hindmost, JustAfter, JustBefore, owner_as, set_answer}
pub use Rattle.ss_meaning.specs.Statistics.{figure, mean, reset}
pub use Rattle.ss_meaning.specs.Store.{Setting, Store, World}
pub use Rattle.ss_meaning.specs.Values.{Fails, Failure, TypeError, computed, computed_alone, due, if_ok, operator_of, related, turned, where_fit}
pub use Rattle.ss_program.specs.Program.{Program}
pub use Rattle.ss_program.specs.WellTyped.{IsWellTyped, field_mode}
pub use Rattle.ss_program.specs.declared.expression.MemberQuery.{MemberQuery}
pub use Rattle.ss_program.specs.declared.expression.SetQuery.{SetQuery}
pub use Rattle.ss_program.specs.declared.expression.Variable.TheVariants.{Global}
pub use Rattle.ss_program.specs.declared.sections.Statistic.{Statistic}
pub use Rattle.ss_program.specs.declared.sections.Subject.{Subject}
pub use Rattle.ss_program.specs.declared.sections.Subject.TheVariants.{OfAttribute, OfCount, OfVariable}
pub use Rattle.ss_records.specs.Attributes.{IsAssigned, IsChanged, changed_number}
pub use Rattle.ss_world.specs.Disciplines.{HasMemberKeys, filed, member_test}
pub use Rattle.ss_world.specs.Sets.{count_in, joiner, owner, owner_in}
pub use Rattle.ss_world.specs.State.{assigned, known_in, modes_of, no_value, records_in, time_in, value_in}
pub use Rattle.std.proofs.lemmas.Bool.{eq-eqb}
pub use Rattle.std.proofs.lemmas.Option.{slice_get_within}
pub use Rattle.std.specs.Option.{option_map}
pub use Rattle.std.specs.Prelude.{MatchResult, int_lt, is_some, pos, slice_get}
