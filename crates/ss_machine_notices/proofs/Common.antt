-- The names of other crates, and of definitions here, that several proofs of this crate cite, passed on from one place. Declares nothing.
pub use Rattle.ss_base.specs.Layout.{mode_of}
pub use Rattle.ss_base.specs.declared.fault.FaultKind.{FaultKind}
pub use Rattle.ss_base.specs.declared.fault.FaultKind.TheVariants.{AlreadyScheduled, WrongClass}
pub use Rattle.ss_base.specs.declared.fault.Refused.{Refused}
pub use Rattle.ss_base.specs.declared.fault.Refused.TheVariants.{Fault, Memory}
pub use Rattle.ss_base.specs.declared.layout.ClassKind.TheVariants.{Notice}
pub use Rattle.ss_base.specs.declared.layout.Mode.{Mode}
pub use Rattle.ss_base.specs.declared.layout.Mode.TheVariants.{Alpha, Integer}
pub use Rattle.ss_base.specs.declared.value.Value.{Value}
pub use Rattle.ss_base.specs.declared.value.Value.TheVariants.{Text, Whole}
pub use Rattle.ss_code_instructions.specs.Carried.{IsEntry}
pub use Rattle.ss_code_instructions.specs.Facts.{watch}
pub use Rattle.ss_code_instructions.specs.Instructions.{EntryPoint}
pub use Rattle.ss_code_instructions.specs.Machine.{act, enter, is_due, take_next}
pub use Rattle.ss_code_instructions.specs.Shape.{IsSuited}
pub use Rattle.ss_code_instructions.specs.States.{AnEvent, Breaks, Core, Rest, Stuck, To, at_height, did, fit}
pub use Rattle.ss_code_instructions.specs.declared.address.Address.{Address}
pub use Rattle.ss_code_instructions.specs.declared.entry.SectionEntry.{SectionEntry}
pub use Rattle.ss_code_instructions.specs.declared.instruction.Instruction.TheVariants.{TakeEvent}
pub use Rattle.ss_machine_events.specs.Events.{IsNextNotice}
pub use Rattle.ss_machine_events.specs.Scheduled.{IsNoticeClass, time_after}
pub use Rattle.ss_machine_frames.proofs.Entering.{cleared_long, value_long, value_texts}
pub use Rattle.ss_machine_frames.proofs.Lists.{set_length}
pub use Rattle.ss_machine_frames.proofs.Reading.{hold_length, own_is}
pub use Rattle.ss_machine_frames.specs.Holding.{AreValuesAt}
pub use Rattle.ss_machine_frames.specs.Rows.{AreAlike, TwoRows, cleared, place_at, with_number}
pub use Rattle.ss_machine_instructions.proofs.Filing.{one}
pub use Rattle.ss_machine_instructions.proofs.Placing.{calm, deep_at, deep_here, frame_small, located, one_tick_at, site, small, suits, suits_as}
pub use Rattle.ss_machine_instructions.proofs.Programs.{noticed_in}
pub use Rattle.ss_machine_instructions.proofs.Seeing.{seen_is}
pub use Rattle.ss_machine_instructions.proofs.Settling.{fine_is, fine_right, notices_seen}
pub use Rattle.ss_machine_instructions.specs.Doing.{Compiled, HasNoTick, HasOneTick, HasPerformed, IsDelivering, IsReadyFor}
pub use Rattle.ss_machine_instructions.specs.Entered.{HasEntered, IsOutOfMemory}
pub use Rattle.ss_machine_instructions.specs.Ways.{begun_event_at, faulted, on_after}
pub use Rattle.ss_machine_instructions.specs.Worldly.{HasChangedIf, IsSettling, refused_where, unless_refused}
pub use Rattle.ss_machine_instructions.specs.declared.flow.Ending.TheVariants.{NoMemory}
pub use Rattle.ss_machine_instructions.specs.declared.flow.Here.{Here}
pub use Rattle.ss_machine_instructions.specs.declared.state.State.{State}
pub use Rattle.ss_machine_notices.specs.Beginning.{AreRead, AreReceived, HasLetGo, HasLetGoThen, HasReceived, IsNextEvent, IsUnbegun}
pub use Rattle.ss_machine_notices.specs.Giving.{HasGivenValues, HasSetField, IsNoticeMade, IsReadBack, IsSettledIn, IsSettledWithMemory, IsSuitable, number_or, refiled, unpended}
pub use Rattle.ss_machine_world.proofs.Said.{said_of_layout}
pub use Rattle.ss_machine_world.proofs.Starting.{seen_of}
pub use Rattle.ss_machine_world.specs.Numbers.{attribute_noted}
pub use Rattle.ss_machine_world.specs.Seen.{HasAnswer, HasChanged, HasChangedWithMemory, HasRearranged, IsRight, Seen, as_value, with_seen}
pub use Rattle.ss_meaning.proofs.Entities.{HasField, class_said, field_said}
pub use Rattle.ss_meaning.proofs.Events.{ComingAs, next_event_there}
pub use Rattle.ss_meaning.proofs.Fine.{There}
pub use Rattle.ss_meaning.specs.Entities.{comes_singly, gone, is_single}
pub use Rattle.ss_meaning.specs.Events.{Beginning, Coming, attributes_given, coming_with, filed_notice, not_past, prepared, rescheduled, unscheduled}
pub use Rattle.ss_meaning.specs.Fitting.{IsFittingStore, class_of_record, living}
pub use Rattle.ss_meaning.specs.Histories.{noted}
pub use Rattle.ss_meaning.specs.Places.{assigned_attribute}
pub use Rattle.ss_meaning.specs.Store.{Notices, Store}
pub use Rattle.ss_meaning.specs.Values.{Fails, Failure, turned}
pub use Rattle.ss_program.specs.Program.{Program}
pub use Rattle.ss_program.specs.WellTyped.{field_mode, kind_of_class}
pub use Rattle.ss_program.specs.declared.sections.Subject.TheVariants.{OfAttribute, OfVariable}
pub use Rattle.ss_world.specs.PendingList.{is_pending, least_event}
pub use Rattle.ss_world.specs.State.{and_then, known_in, modes_of, timed, value_in}
pub use Rattle.std.proofs.lemmas.Bool.{eq-eqb, eqb-true}
pub use Rattle.std.proofs.lemmas.Option.{none-some, slice_get-map, slice_get_read, slice_get_within}
pub use Rattle.std.specs.Prelude.{IfSome, is_some, pos, slice_get, slice_set}
