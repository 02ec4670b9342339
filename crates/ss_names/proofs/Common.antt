-- The names of other crates, and of definitions here, that several proofs of this crate cite, passed on from one place. Declares nothing.
pub use Rattle.ss_base.specs.declared.layout.ClassKind.{ClassKind}
pub use Rattle.ss_base.specs.declared.layout.Mode.{Mode}
pub use Rattle.ss_base.specs.declared.line.Line.{Line}
pub use Rattle.ss_names.specs.Entries.{attributes_of_class, given_by, row_of}
pub use Rattle.ss_names.specs.Filling.{Fields, HasRows, all_entered, enter_name, entered, entities_pass, field_pushed, meanings_pass, names_pass, variables_pass, with_all_meanings, with_field, with_subjects}
pub use Rattle.ss_names.specs.Table.{Table}
pub use Rattle.ss_names.specs.declared.entry.Attribute.{Attribute}
pub use Rattle.ss_names.specs.declared.entry.Set.{Set}
pub use Rattle.ss_names.specs.declared.meaning.Meaning.{Meaning}
pub use Rattle.ss_names_declarations.proofs.Entries.{keys_append}
pub use Rattle.ss_names_declarations.specs.NameTable.{entry_beside, entry_if, first_entries, place_among, place_in, same_name, value_for, with_first, with_name}
pub use Rattle.ss_names_declarations.specs.declared.declaration.Declaration.{Declaration}
pub use Rattle.ss_names_declarations.specs.declared.declaration.Declared.{Declared}
pub use Rattle.ss_tree.specs.Names.{NameBytes}
pub use Rattle.std.proofs.lemmas.List.{length-map, length-set, map_push}
pub use Rattle.std.proofs.lemmas.List.FromFn.{length-map-range_with_len}
pub use Rattle.std.proofs.lemmas.List.Sums.{fold-append}
pub use Rattle.std.proofs.lemmas.Result.{on_ok_weaker}
pub use Rattle.std.specs.List.{fold}
pub use Rattle.std.specs.Map.{keys_of}
pub use Rattle.std.specs.Option.{option_or}
pub use Rattle.std.specs.Prelude.{slice_get}
