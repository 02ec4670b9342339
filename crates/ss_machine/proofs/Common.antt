-- The names of other crates, and of definitions here, that several proofs of this crate cite, passed on from one place. Declares nothing.
pub use Rattle.ss_base.specs.Failures.{HasRisenBy}
pub use Rattle.ss_base.specs.Layout.{first_value}
pub use Rattle.ss_base.specs.declared.fault.FaultKind.{FaultKind}
pub use Rattle.ss_base.specs.declared.fault.FaultKind.TheVariants.{BadCount}
pub use Rattle.ss_base.specs.declared.layout.Mode.{Mode}
pub use Rattle.ss_base.specs.declared.layout.Mode.TheVariants.{Integer}
pub use Rattle.ss_base.specs.declared.line.Line.{Line}
pub use Rattle.ss_base.specs.declared.value.Value.{Value}
pub use Rattle.ss_base.specs.declared.value.Value.TheVariants.{Text, Whole}
pub use Rattle.ss_code.specs.Running.{Generated, IsGenerated}
pub use Rattle.ss_code_instructions.specs.Carried.{RunningCode, RunningLines, item_modes, kind_of_item, lines_of_running}
pub use Rattle.ss_code_instructions.specs.Instructions.{Instruction, Placed}
pub use Rattle.ss_code_instructions.specs.Laws.{HasShape, JumpsLand, StepsGoOn}
pub use Rattle.ss_code_instructions.specs.Machine.{Code, Goes, Over, act, is_due, step, step_at, when_due, with_rest}
pub use Rattle.ss_code_instructions.specs.Measure.{left_from}
pub use Rattle.ss_code_instructions.specs.Reached.{InputStays, ReachedFits, ReachedGoes, at_core, core_with_input, input_of}
pub use Rattle.ss_code_instructions.specs.Running.{Underway, after_one_step, goes_back, steps}
pub use Rattle.ss_code_instructions.specs.Shape.{IsSuited}
pub use Rattle.ss_code_instructions.specs.States.{Breaks, Core, MachineState, Rest, Stuck, past}
pub use Rattle.ss_code_instructions.specs.declared.address.Address.{Address}
pub use Rattle.ss_code_instructions.specs.declared.entry.SectionEntry.{SectionEntry}
pub use Rattle.ss_code_instructions.specs.declared.item.ItemKind.{ItemKind}
pub use Rattle.ss_input.specs.Inputs.{HasFound, source_block, source_missed, source_reader}
pub use Rattle.ss_input.specs.declared.source.Source.{Source}
pub use Rattle.ss_machine.specs.Beginning.{IsFirstState, first_here, firsts_laid, none_laid, values_laid}
pub use Rattle.ss_machine.specs.Counts.{HasSteps, last_steps, left_in_all, left_in_calls, reads, stop_for, takes_tick, takes_tick_at, writes}
pub use Rattle.ss_machine.specs.Held.{IsReady}
pub use Rattle.ss_machine.specs.Reading.{HasRead}
pub use Rattle.ss_machine.specs.Runs.{HasCome, HasFailedRead, IsCutOfStep, IsFinished, IsLeadingTo, IsRunResult, does_read, does_write}
pub use Rattle.ss_machine.specs.Sent.{HasTakenLess, HasTakenPart}
pub use Rattle.ss_machine.specs.Shown.{AreShown, CanShow, CanShowOne, CanTakeAll, HasSentAll, HasSentLess, HasSentPart, IsPrintable, IsShown}
pub use Rattle.ss_machine.specs.Situations.{CanRunCode, IsCodeOf, IsHere, IsRepresented, IsSituated, Situation, situated}
pub use Rattle.ss_machine.specs.Start.{IsAtStart}
pub use Rattle.ss_machine.specs.Steps.{HasGoneOn, HasWalked, IsDoingSo, IsLast, IsPausedStep, IsStepResult, IsStoppedBy, IsUnmade, IsUnmadeWriting}
pub use Rattle.ss_machine.specs.Writing.{HasWritten, IsSending}
pub use Rattle.ss_machine.specs.declared.stop.Stop.{Stop}
pub use Rattle.ss_machine_frames.proofs.Entering.{cut}
pub use Rattle.ss_machine_frames.proofs.Writing.{cells_held}
pub use Rattle.ss_machine_frames.specs.Holding.{AreCallsAt, AreValuesAt}
pub use Rattle.ss_machine_frames.specs.Rows.{TwoRows, cleared, place_at, with_value}
pub use Rattle.ss_machine_instructions.proofs.Comparing.{back_small}
pub use Rattle.ss_machine_instructions.proofs.Delivering.{put_within}
pub use Rattle.ss_machine_instructions.proofs.Placing.{can_fetch, suits}
pub use Rattle.ss_machine_instructions.specs.Doing.{Can, Compiled, HasDone, HasPerformed, IsHeld, IsReadyFor, line_or}
pub use Rattle.ss_machine_instructions.specs.Ways.{back_at, entered_at, led, on_after, on_at, on_if_at, past_at, tested_at, turned_at}
pub use Rattle.ss_machine_instructions.specs.declared.flow.Ending.{Ending}
pub use Rattle.ss_machine_instructions.specs.declared.flow.Ending.TheVariants.{Ended, Faulted, NoInput, NoMemory, NoOutput, Paused}
pub use Rattle.ss_machine_instructions.specs.declared.flow.Here.{Here}
pub use Rattle.ss_machine_instructions.specs.declared.state.State.{State}
pub use Rattle.ss_machine_walks.specs.Many.{HasMadeMany}
pub use Rattle.ss_machine_world.specs.Numbers.{IsReferenceToSubject}
pub use Rattle.ss_machine_world.specs.Seen.{Seen, with_seen}
pub use Rattle.ss_meaning.specs.Expressions.{not_if}
pub use Rattle.ss_meaning.specs.Statistics.{mean}
pub use Rattle.ss_meaning.specs.Store.{Store, first_values}
pub use Rattle.ss_meaning.specs.Values.{Fails, Failure, TypeError, due, line_end, lines_with}
pub use Rattle.ss_meaning.specs.Words.{is_ended, value_given}
unfoldable pub use Rattle.ss_picture.specs.Pictures.{filled, picture_fields}
pub use Rattle.ss_picture.specs.Sending.{HasSentFirst}
pub use Rattle.ss_picture.specs.Suited.{AreSuitedItems}
pub use Rattle.ss_picture.specs.declared.items.Item.{Item}
pub use Rattle.ss_picture.specs.declared.items.Item.TheVariants.{Is, Mean}
pub use Rattle.std.proofs.lemmas.List.{append-nil, append_assoc, drop_all, drop_min, drop_more, take_min}
pub use Rattle.std.proofs.lemmas.Nat.{mul-le}
pub use Rattle.std.proofs.lemmas.Option.{slice_get_within}
pub use Rattle.std.specs.Io.KnownBytes.{Appends, Keeps}
pub use Rattle.std.specs.List.{AllByRecursion, flat_map}
pub use Rattle.std.specs.Prelude.{Result, is_some, length, slice_get}
