-- The names of other crates, and of definitions here, that several proofs of this crate cite, passed on from one place. Declares nothing.
pub use Rattle.ss_base.specs.declared.fault.FaultKind.{FaultKind}
pub use Rattle.ss_base.specs.declared.fault.FaultKind.TheVariants.{BadCount, FiledTwice, InASet, NotFiled, Overflow, OwnsMembers}
pub use Rattle.ss_base.specs.declared.layout.ClassKind.{ClassKind}
pub use Rattle.ss_base.specs.declared.layout.ClassKind.TheVariants.{Notice, Permanent, Temporary}
pub use Rattle.ss_base.specs.declared.layout.Owner.TheVariants.{Class}
pub use Rattle.ss_base.specs.declared.value.Value.TheVariants.{Text, Whole}
pub use Rattle.ss_records.specs.Commands.{after_command, after_commands, command_answer, command_answers, done_with_state, state_in}
pub use Rattle.ss_records.specs.declared.commands.Command.{Command}
pub use Rattle.ss_records.specs.declared.commands.Command.TheVariants.{Create, CreateAll, Destroy, FileAfter, FileBefore, FileFirst, FileLast, Remove, SetTime, SetValue}
pub use Rattle.ss_records.specs.declared.commands.CommandAnswer.{CommandAnswer}
pub use Rattle.ss_records.specs.declared.commands.CommandAnswer.TheVariants.{Number}
pub use Rattle.ss_records_entities.proofs.Listed.{members_with}
pub use Rattle.ss_records_entities.specs.Attributes.{IsChanged, changed_number}
pub use Rattle.ss_records_entities.specs.Parts.{state}
pub use Rattle.ss_records_words.specs.Shape.{set_places}
pub use Rattle.ss_world.specs.Disciplines.{member_test}
pub use Rattle.ss_world.specs.Sets.{filed_after, filed_before, filed_first, filed_last, joiner, less, member_class, next_in, owner, previous_in, put_after, put_before, put_beside, put_in, removed, taken_out, with_list_of}
pub use Rattle.ss_world.specs.State.{Heaped, IsRefusalOf, LAST_NUMBER, MOST_ENTITIES, Record, State, and_then, assigned, contains, created, created_all, destroyed, entity_in, in_a_set, is_filed, is_made, kind_of, let_go, made_many, members_of, notice, number_in, owns_members, record_with_value, timed, value_in, with_created, with_entity, with_entity_of_kind, with_made, with_members, with_time}
pub use Rattle.std.proofs.lemmas.Int.{to_z-of_z}
pub use Rattle.std.specs.Prelude.{Err, IfSome, MatchResult, Ok}
