-- The names of other crates, and of definitions here, that several proofs of this crate cite, passed on from one place. Declares nothing.
pub use Rattle.ss_base.specs.Plain.{PlainClass, PlainLayout}
pub use Rattle.ss_base.specs.declared.layout.ClassKind.{ClassKind}
pub use Rattle.ss_base.specs.declared.layout.ClassKind.TheVariants.{Notice}
pub use Rattle.ss_base.specs.declared.layout.Mode.{Mode}
pub use Rattle.ss_base.specs.declared.layout.Mode.TheVariants.{Alpha, Integer}
pub use Rattle.ss_base.specs.declared.layout.Owner.{Owner}
pub use Rattle.ss_base.specs.declared.layout.SetLayout.{SetLayout}
pub use Rattle.ss_base.specs.declared.line.Line.{Line}
pub use Rattle.ss_base.specs.declared.words.Operator.TheVariants.{Multiply}
pub use Rattle.ss_check_laws.specs.BodyLaws.{BodiesResolve, IsResolvedClass, IsResolvedForHead, IsResolvedHead}
pub use Rattle.ss_check_laws.specs.Links.{AreValid, IsLinked}
pub use Rattle.ss_check_rules.specs.Kinds.{has_value, if_means, is_mean, is_variable, suits_class}
pub use Rattle.ss_check_rules.specs.Modes.{attribute_mode, is_text, meaning_mode, mode_of_use}
pub use Rattle.ss_check_rules.specs.Refusal.{breaches, place_breaks, use_breaks}
pub use Rattle.ss_check_rules.specs.declared.error.CheckError.{CheckError}
pub use Rattle.ss_names.specs.Entries.{class_by, event_by, given_by, is_notice_class, notice_by, number_added, priority_by, routine_by}
pub use Rattle.ss_names.specs.Table.{Table, mode_of_attribute, owner_kind_of_set, owner_of_meaning, owner_of_statistic, owner_of_subject, subject_of, table}
pub use Rattle.ss_names.specs.declared.entry.EventSection.{EventSection}
pub use Rattle.ss_names.specs.declared.entry.RoutineSection.{RoutineSection}
pub use Rattle.ss_names.specs.declared.meaning.Meaning.{Meaning}
pub use Rattle.ss_names_declarations.proofs.Entries.{entry_of_key, firsts_once, place_from, there, value_by_place, value_from_place}
pub use Rattle.ss_names_declarations.specs.Declarations.{declarations, flat_map_from}
pub use Rattle.ss_names_declarations.specs.Earliest.{unless}
pub use Rattle.ss_names_declarations.specs.NameTable.{place_in, same_name, value_for}
pub use Rattle.ss_names_declarations.specs.declared.declaration.Declaration.{Declaration}
pub use Rattle.ss_names_declarations.specs.declared.declaration.Declared.{Declared}
pub use Rattle.ss_names_laws.proofs.Each.{at_place, each_empty, every_first, every_piece, from_places, in_parts, joined}
pub use Rattle.ss_names_laws.proofs.Items.{at_item, each_item}
pub use Rattle.ss_names_laws.proofs.Parts.{each_length, numbers_length}
pub use Rattle.ss_names_laws.proofs.Results.{each_made, goes}
pub use Rattle.ss_names_laws.proofs.Steps.{each_at, got, numbers_at}
pub use Rattle.ss_names_laws.proofs.Unbroken.{first_fails, first_holds, holds_unless}
pub use Rattle.ss_names_meaning.specs.Answers.{of_one, where_holds}
unfoldable pub use Rattle.ss_names_meaning.specs.Answers.{each}
pub use Rattle.ss_names_meaning.specs.Classes.{class_named, class_number, counted, variable_named}
pub use Rattle.ss_names_meaning.specs.Expressions.{expression, item, resolved_item, target}
pub use Rattle.ss_names_meaning.specs.Heads.{phrases_of}
pub use Rattle.ss_names_meaning.specs.Layouts.{ResolvedLayout, class_layout, resolved_layout, tie_keys}
pub use Rattle.ss_names_meaning.specs.Resolved.{local_modes}
pub use Rattle.ss_names_meaning.specs.declared.classes.NamedClass.{NamedClass}
pub use Rattle.ss_names_scopes.specs.Locals.{Moded, locals_of}
pub use Rattle.ss_names_scopes.specs.Scopes.{Scope, hidden_by, history_of, is_kind, is_main, is_main_section, known_mode, local_mode, meaning_of, meaning_of_class, meaning_of_name, mode_of_meaning, scope_of, variable_of}
pub use Rattle.ss_names_uses.specs.Uses.{place_use, row_length}
pub use Rattle.ss_names_uses.specs.declared.used.ClassNeed.{ClassNeed}
pub use Rattle.ss_names_uses.specs.declared.used.Use.{Use}
pub use Rattle.ss_picture.specs.declared.field.Field.{Field}
pub use Rattle.ss_program.specs.Program.{AValue, Block, Calculate, Done, Event, Expression, Fetch, PrintItem, Program, Routine, SetOwner, ToVariable}
pub use Rattle.ss_program.specs.declared.expression.SetQuery.TheVariants.{MemberCount}
pub use Rattle.ss_program.specs.declared.expression.Variable.{Variable}
pub use Rattle.ss_program.specs.declared.expression.Variable.TheVariants.{Global}
pub use Rattle.ss_program.specs.declared.sections.Statistic.{Statistic}
pub use Rattle.ss_program.specs.declared.sections.Subject.{Subject}
pub use Rattle.ss_program.specs.declared.statement.CountedClass.{CountedClass}
pub use Rattle.ss_tree.specs.Names.{NameBytes}
pub use Rattle.ss_tree.specs.Tree.{ExpressionRow, ExpressionTree, GuardTree, HeadTree, LoopHeadTree, NamedTree, PhraseTree, StartTree, StatementRow, StatementTree, TermRow, TestTree, WhenTree, add_statement, after_member, and_expression, and_statement, and_term, at_time, call, call_statement, cancel_statement, compare, create_every, create_statement, data_ended, destroy_statement, empty, file_statement, find_if_statement, find_statement, for_head, from_end, from_member, guarded, if_statement, in_units, let_statement, loop_statement, member, named, no_expression, no_statement, no_term, now, over_class, over_members, over_range, parenthesised, print_statement, product, read_statement, remove_end, remove_statement, reset_statement, schedule_new, schedule_statement, signed, skip_statement, statement_row, subtract_statement, sum}
pub use Rattle.ss_tree.specs.declared.expression.Designator.{Designator}
pub use Rattle.ss_tree.specs.declared.expression.Designator.TheVariants.{Name}
pub use Rattle.ss_tree.specs.declared.expression.Function.TheVariants.{One, Two}
pub use Rattle.ss_tree.specs.declared.statement.FindOutcome.{FindOutcome}
pub use Rattle.std.proofs.lemmas.Bool.{and_parts, both_ways, cond-true, eqb-true, false≢true, leb-true, ltb-true, not-false, not-true}
pub use Rattle.std.proofs.lemmas.List.Sums.{sum_by-cons}
pub use Rattle.std.proofs.lemmas.Option.{get_or_from_slice_get, none-some, same_Some, slice_get-get_or, slice_get-map, slice_get_within}
pub use Rattle.std.specs.List.{AllZip}
pub use Rattle.std.specs.Map.{keys_of, values_of}
pub use Rattle.std.specs.Option.{option_map_or}
pub use Rattle.std.specs.Prelude.{is_some, option_and_then, option_to_list, slice_get}
