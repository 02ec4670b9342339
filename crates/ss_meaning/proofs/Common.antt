-- The names of other crates, and of definitions here, that several proofs of this crate cite, passed on from one place. Declares nothing.
pub use Rattle.ss_base.specs.Layout.{first_value, mode_of}
pub use Rattle.ss_base.specs.declared.fault.FaultKind.{FaultKind}
pub use Rattle.ss_base.specs.declared.layout.ClassKind.{ClassKind}
pub use Rattle.ss_base.specs.declared.layout.ClassKind.TheVariants.{Notice, Permanent, Temporary}
pub use Rattle.ss_base.specs.declared.layout.ClassLayout.{ClassLayout}
pub use Rattle.ss_base.specs.declared.layout.Discipline.{Discipline}
pub use Rattle.ss_base.specs.declared.layout.Discipline.TheVariants.{Fifo, Lifo, Ranked}
pub use Rattle.ss_base.specs.declared.layout.Layout.{Layout}
pub use Rattle.ss_base.specs.declared.layout.Mode.{Mode}
pub use Rattle.ss_base.specs.declared.layout.Mode.TheVariants.{Alpha, Integer}
pub use Rattle.ss_base.specs.declared.layout.Owner.{Owner}
pub use Rattle.ss_base.specs.declared.layout.Owner.TheVariants.{Class, System}
pub use Rattle.ss_base.specs.declared.layout.RankKey.{RankKey}
pub use Rattle.ss_base.specs.declared.line.Line.{Line}
pub use Rattle.ss_base.specs.declared.value.Value.{Value}
pub use Rattle.ss_base.specs.declared.value.Value.TheVariants.{Text, Whole}
pub use Rattle.ss_base.specs.declared.words.End.{End}
pub use Rattle.ss_base.specs.declared.words.Sign.{Sign}
pub use Rattle.ss_meaning.specs.Entities.{attribute, entity, made_one, time_of}
pub use Rattle.ss_meaning.specs.Events.{AtOnce, AtTime, Beginning, Coming, Later, event_begun, filed_notice, is_awaited, made_notice, next_event, rescheduled, time_at, unscheduled}
pub use Rattle.ss_meaning.specs.Fitting.{AreOfModes, Has, HasAllHistories, HasHistories, IsFittingHeap, IsFittingStore, IsIndex, IsLiving, IsLivingAs, IsLivingOwner, IsNotice, IsSoundStore, IsSubjectOwner, class_of_record, living, made}
pub use Rattle.ss_meaning.specs.Histories.{ending, noted}
pub use Rattle.ss_meaning.specs.Parts.{Again, Faulted, Left, OutOfTicks, Outcome, Over, Part, Returned, RunState, Stopped, WentOn, Wrong, choose, get, go_on, look, loop, outcome_then, tick_from}
pub use Rattle.ss_meaning.specs.Places.{InAttribute, InVariable, Spot, assigned_attribute, held, written}
pub use Rattle.ss_meaning.specs.Sets.{JustAfter, JustBefore, begun, begun_at, coming, filed_in, goes_on, is_empty, is_in, is_none, known_owner, member, of_member, of_set, removed_at, removed_from}
pub use Rattle.ss_meaning.specs.Statements.{Calls, effects}
pub use Rattle.ss_meaning.specs.Statistics.{figure, mean, reset}
pub use Rattle.ss_meaning.specs.Store.{Column, Store, fetched, put_at, with_heap, with_histories}
pub use Rattle.ss_meaning.specs.Values.{Fails, Failure, TypeError, due, if_ok, number_of, same_mode, sure, turned, unless_fault, where_fit}
pub use Rattle.ss_picture.specs.declared.items.Item.{Item}
pub use Rattle.ss_program.specs.Program.{Block, Event, Program, Routine}
pub use Rattle.ss_program.specs.WellTyped.{IsWellTyped}
pub use Rattle.ss_program.specs.declared.expression.Variable.{Variable}
pub use Rattle.ss_program.specs.declared.expression.Variable.TheVariants.{Global}
pub use Rattle.ss_program.specs.declared.sections.Statistic.{Statistic}
pub use Rattle.ss_program.specs.declared.sections.Subject.{Subject}
pub use Rattle.ss_program.specs.declared.sections.Subject.TheVariants.{OfAttribute, OfCount, OfVariable}
pub use Rattle.ss_program.specs.declared.statement.CountedClass.{CountedClass}
pub use Rattle.ss_world.specs.PendingList.{is_pending}
pub use Rattle.ss_world.specs.PendingNotice.{PendingNotice}
pub use Rattle.ss_world.specs.State.{State, and_then, entity_in, kind_of, members_of, modes_of, number_in}
pub use Rattle.std.proofs.lemmas.Bool.{eq-eqb, eqb-false, eqb-true, le-leb}
pub use Rattle.std.proofs.lemmas.Bool.Decides.{Decides-int_eq}
pub use Rattle.std.specs.Option.{IfSome, option_and_then, option_map}
pub use Rattle.std.specs.Ordering.{int_eq}
pub use Rattle.std.specs.Prelude.{Result}
