-- The names of other crates, and of definitions here, that several proofs of this crate cite, passed on from one place. Declares nothing.
pub use Rattle.ss_base.specs.Layout.{owns_among}
pub use Rattle.ss_base.specs.Plain.{PlainClass, PlainLayout}
pub use Rattle.ss_base.specs.declared.layout.ClassKind.{ClassKind}
pub use Rattle.ss_base.specs.declared.layout.ClassKind.TheVariants.{Notice, Permanent, Temporary}
pub use Rattle.ss_base.specs.declared.layout.Discipline.{Discipline}
pub use Rattle.ss_base.specs.declared.layout.Mode.{Mode}
pub use Rattle.ss_base.specs.declared.layout.Mode.TheVariants.{Integer}
pub use Rattle.ss_base.specs.declared.layout.Owner.{Owner}
pub use Rattle.ss_base.specs.declared.layout.RankKey.{RankKey}
pub use Rattle.ss_base.specs.declared.layout.SetLayout.{SetLayout}
pub use Rattle.ss_base.specs.declared.line.Line.{Line}
pub use Rattle.ss_check_rules.specs.Modes.{is_text}
pub use Rattle.ss_check_rules.specs.Refusal.{refusal_of_uses}
pub use Rattle.ss_names.specs.Entries.{attribute_after, attribute_by, attribute_classes, attributes, attributes_after, attributes_of_class, class_by, class_variables, classes, count_name, fields, given_by, global_variables, mode_of_name, set_by, set_names, set_of, variable_by}
pub use Rattle.ss_names.specs.Modes.{value_mode}
pub use Rattle.ss_names.specs.Table.{Table, class_entry, class_meaning, count_entry, count_meaning, declares, mode_of_attribute, numbered, subject_of, table, variable_meaning}
pub use Rattle.ss_names.specs.declared.entry.Attribute.{Attribute}
pub use Rattle.ss_names.specs.declared.entry.DefinedOrder.{DefinedOrder}
pub use Rattle.ss_names.specs.declared.entry.RankedBy.{RankedBy}
pub use Rattle.ss_names.specs.declared.entry.Set.{Set}
pub use Rattle.ss_names.specs.declared.entry.TiedBy.{TiedBy}
pub use Rattle.ss_names.specs.declared.meaning.Meaning.{Meaning}
pub use Rattle.ss_names_declarations.proofs.Entries.{entry_of_key, firsts_once, key_at, keys_append, place_from, place_of_value, there, value_append, value_at, value_by_place, value_from_place, value_in_firsts}
pub use Rattle.ss_names_declarations.specs.Declarations.{at_line, declarations, flat_map_from, in_definition, in_preamble_statement, in_section, in_section_head, local_declaration, parameter_declaration}
pub use Rattle.ss_names_declarations.specs.Earliest.{unless}
pub use Rattle.ss_names_declarations.specs.NameTable.{entry_beside, entry_if, first_entries, place_among, place_in, same_name, value_for, with_first}
pub use Rattle.ss_names_declarations.specs.declared.declaration.Declaration.{Declaration}
pub use Rattle.ss_names_declarations.specs.declared.declaration.Declared.{Declared}
pub use Rattle.ss_names_declarations.specs.declared.declaration.SetRule.{SetRule}
pub use Rattle.ss_names_laws.specs.ValidTables.{IsMeant, IsValidTable, parameters_of}
pub use Rattle.ss_names_meaning.specs.Answers.{where_holds}
unfoldable pub use Rattle.ss_names_meaning.specs.Answers.{each, upto}
pub use Rattle.ss_names_meaning.specs.Layouts.{ResolvedLayout, class_layout, count_by, counts, discipline, disciplines, layout, ordered, rank_key, rank_keys, ranked_by, resolved_layout, resolved_statistic, ruled, set_layout, statistics, tie_keys, tied_by}
pub use Rattle.ss_names_scopes.specs.Locals.{Moded, defined, local_used, locals_of, moded_in}
pub use Rattle.ss_names_scopes.specs.Scopes.{mode_of_meaning}
pub use Rattle.ss_names_uses.specs.Uses.{as_attribute, in_body, in_kind, in_places, uses}
pub use Rattle.ss_names_uses.specs.declared.used.Role.{Role}
pub use Rattle.ss_names_uses.specs.declared.used.Use.{Use}
pub use Rattle.ss_names_uses.specs.declared.used.Used.{Used}
pub use Rattle.ss_program.specs.declared.expression.SetQuery.TheVariants.{MemberCount}
pub use Rattle.ss_program.specs.declared.expression.Variable.TheVariants.{Global, Local}
pub use Rattle.ss_program.specs.declared.sections.Statistic.{Statistic}
pub use Rattle.ss_program.specs.declared.sections.Subject.{Subject}
pub use Rattle.ss_program.specs.declared.sections.Subject.TheVariants.{OfAttribute, OfCount, OfVariable}
pub use Rattle.ss_program.specs.declared.statement.CountedClass.{CountedClass}
pub use Rattle.ss_tables_rules.specs.Broken.{refusal_of_declarations}
pub use Rattle.ss_tables_rules.specs.Once.{once_of, same_once}
pub use Rattle.ss_tables_rules.specs.Rules.{broken_by, broken_in}
pub use Rattle.ss_tables_rules.specs.declared.once.Once.{Once}
pub use Rattle.ss_tree.specs.Names.{NameBytes}
pub use Rattle.ss_tree.specs.Tree.{DefinitionTree, OrderTree, PreambleTree, ProgramTree, SectionKindTree, SectionTree, define_sets, event, main, ranked, routine}
pub use Rattle.ss_tree.specs.declared.preamble.NamedKey.{NamedKey}
pub use Rattle.std.proofs.lemmas.Bool.{both_ways, cases_lt, eq-eqb, eqb-true, not-false, or_parts}
pub use Rattle.std.proofs.lemmas.List.{length-append, length-map, map-append}
pub use Rattle.std.proofs.lemmas.List.Elements.{filter-append}
pub use Rattle.std.proofs.lemmas.List.FromFn.{get_or-map-range_with_len}
pub use Rattle.std.proofs.lemmas.Option.{cond_some, same_Some, slice_get-get_or, slice_get-map, slice_get_within}
pub use Rattle.std.specs.Cmp.Lexicographic.{bytes_decides}
pub use Rattle.std.specs.List.{filter}
pub use Rattle.std.specs.Map.{keys_of, values_of}
pub use Rattle.std.specs.Option.{option_or}
pub use Rattle.std.specs.Prelude.{option_to_list, slice_get}
