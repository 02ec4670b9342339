-- The names of other crates, and of definitions here, that several proofs of this crate cite, passed on from one place. Declares nothing.
pub use Rattle.ss_base.specs.Plain.{PlainLayout}
pub use Rattle.ss_base.specs.declared.fault.FaultKind.{FaultKind}
pub use Rattle.ss_base.specs.declared.fault.FaultKind.TheVariants.{NoEntity}
pub use Rattle.ss_base.specs.declared.fault.Refused.TheVariants.{Fault, Memory}
pub use Rattle.ss_base.specs.declared.layout.ClassLayout.{ClassLayout}
pub use Rattle.ss_base.specs.declared.layout.Discipline.{Discipline}
pub use Rattle.ss_base.specs.declared.layout.Layout.{Layout}
pub use Rattle.ss_base.specs.declared.layout.Mode.TheVariants.{Integer}
pub use Rattle.ss_base.specs.declared.layout.Owner.{Owner}
pub use Rattle.ss_base.specs.declared.layout.Owner.TheVariants.{Class}
pub use Rattle.ss_base.specs.declared.layout.SetLayout.{SetLayout}
pub use Rattle.ss_base.specs.declared.value.Value.{Value}
pub use Rattle.ss_base.specs.declared.value.Value.TheVariants.{Text, Whole}
pub use Rattle.ss_machine_time.specs.Figures.{renewed_known}
pub use Rattle.ss_machine_time.specs.Records.{HasRooms, columns_of, figured, is_home, is_up_to, renewed_where}
pub use Rattle.ss_machine_time.specs.Times.{IsNoted, Times, columns}
pub use Rattle.ss_machine_world.specs.Classes.{AreSaid, AreSaidFrom}
pub use Rattle.ss_machine_world.specs.Numbers.{IsHeldBySubject, IsReferenceTo, attribute_noted, count_noted}
pub use Rattle.ss_machine_world.specs.Seen.{HasAnswer, HasChanged, HasChangedWhere, HasChangedWithMemory, HasMade, HasRearranged, IsAlwaysOk, IsRight, Seen, with_seen}
pub use Rattle.ss_machine_world.specs.declared.class.ClassEntry.{ClassEntry}
pub use Rattle.ss_meaning.specs.Entities.{attribute, entity, gone, is_single, made_one, without}
pub use Rattle.ss_meaning.specs.Events.{ranked_from, unscheduled}
pub use Rattle.ss_meaning.specs.Histories.{ending, figure_kept, mean_kept, noted, starting}
pub use Rattle.ss_meaning.specs.Places.{assigned_attribute, is_of_mode}
pub use Rattle.ss_meaning.specs.Sets.{owner_by_layout}
pub use Rattle.ss_meaning.specs.Statistics.{reset}
pub use Rattle.ss_meaning.specs.Store.{Column, Notices, Store, with_heap, with_histories}
pub use Rattle.ss_meaning.specs.Values.{Fails, Failure, due, if_ok, number_of, sure, turned, unless_fault, where_fit}
pub use Rattle.ss_program.specs.declared.sections.Statistic.{Statistic}
pub use Rattle.ss_program.specs.declared.sections.Subject.{Subject}
pub use Rattle.ss_program.specs.declared.sections.Subject.TheVariants.{OfAttribute, OfCount, OfVariable}
pub use Rattle.ss_world.specs.Disciplines.{filed}
pub use Rattle.ss_world.specs.PendingList.{cancelled, is_pending}
pub use Rattle.ss_world.specs.Sets.{count_in, owner, owner_in}
pub use Rattle.ss_world.specs.State.{State, created_all, destroyed, known_in, modes_of, no_value, value_in}
pub use Rattle.std.proofs.lemmas.Option.{slice_get_read}
pub use Rattle.std.specs.List.{list_any}
pub use Rattle.std.specs.Prelude.{slice_get}
