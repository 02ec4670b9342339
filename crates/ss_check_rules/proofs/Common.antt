-- The names of other crates, and of definitions here, that several proofs of this crate cite, passed on from one place. Declares nothing.
pub use Rattle.ss_check_rules.specs.Order.{check_error_order}
pub use Rattle.ss_check_rules.specs.Refusal.{breaches_in_section, breaks, eventless, in_preamble}
pub use Rattle.ss_check_rules.specs.declared.error.CheckError.{CheckError}
pub use Rattle.ss_names.specs.Table.{Table}
pub use Rattle.ss_names.specs.declared.entry.RoutineSection.{RoutineSection}
pub use Rattle.ss_names_declarations.specs.Earliest.{earlier, earlier_of, unless}
pub use Rattle.ss_names_declarations.specs.NameTable.{place_in, value_for}
pub use Rattle.ss_names_scopes.proofs.Finding.{earlier_of_list, found_after, viewed_after}
pub use Rattle.ss_names_scopes.specs.Locals.{Moded, locals, locals_of, uses_seen}
pub use Rattle.ss_names_scopes.specs.Scopes.{Scope, is_main_section}
pub use Rattle.ss_names_scopes.specs.Seen.{view_scope}
pub use Rattle.ss_names_uses.specs.Uses.{uses}
pub use Rattle.ss_names_uses.specs.declared.used.Use.{Use}
pub use Rattle.ss_tree.specs.View.{view_preamble, view_section}
pub use Rattle.ss_tree.specs.declared.preamble.PreambleStatement.{PreambleStatement}
pub use Rattle.ss_tree.specs.declared.program.Section.{Section}
pub use Rattle.std.proofs.lemmas.List.{length-map}
pub use Rattle.std.specs.Global.{Vec}
pub use Rattle.std.specs.List.{flat_map, fold, list_any}
pub use Rattle.std.specs.Prelude.{option_and_then}
