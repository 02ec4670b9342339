-- The names of other crates, and of definitions here, that several proofs of this crate cite, passed on from one place. Declares nothing.
pub use Rattle.ss_names_declarations.specs.Declarations.{at_line, flat_map_from, in_clause, in_definition, in_preamble_statement, in_section}
pub use Rattle.ss_tree.specs.View.{view_clause, view_definition, view_preamble, view_section}
pub use Rattle.ss_tree.specs.declared.preamble.NamedKey.{NamedKey}
pub use Rattle.std.proofs.lemmas.Map.Made.{is_some-lookup}
pub use Rattle.std.specs.List.{flat_map, list_any}
pub use Rattle.std.specs.Map.{keys_of, lookup, values_of}
