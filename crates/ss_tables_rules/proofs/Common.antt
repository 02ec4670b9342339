-- The names of other crates, and of definitions here, that several proofs of this crate cite, passed on from one place. Declares nothing.
pub use Rattle.ss_base.specs.declared.line.Line.{Line}
pub use Rattle.ss_names.specs.Table.{Table}
pub use Rattle.ss_names_declarations.specs.Earliest.{earlier, earlier_of, unless}
pub use Rattle.ss_names_declarations.specs.declared.declaration.Declaration.{Declaration}
pub use Rattle.ss_names_scopes.proofs.Finding.{earlier_of_list, found_after, viewed_after}
pub use Rattle.ss_tables_rules.specs.Broken.{declaration_breaches}
pub use Rattle.ss_tables_rules.specs.Keys.{is_foreign, is_foreign_to_any, member_named, misranked, misranked_in, misranked_key}
pub use Rattle.ss_tables_rules.specs.Once.{again, once_added, once_of, repeats, repeats_after}
pub use Rattle.ss_tables_rules.specs.Order.{table_error_order}
pub use Rattle.ss_tables_rules.specs.Rules.{unmoded_in, unmoded_use}
pub use Rattle.ss_tables_rules.specs.declared.error.TableError.{TableError}
pub use Rattle.ss_tree.specs.Names.{NameBytes}
pub use Rattle.ss_tree.specs.View.{view_preamble, view_section}
pub use Rattle.std.proofs.lemmas.List.Sums.{fold-append}
pub use Rattle.std.specs.List.{flat_map, fold}
pub use Rattle.std.specs.Option.{option_or}
