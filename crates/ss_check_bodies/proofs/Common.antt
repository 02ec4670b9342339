-- The names of other crates, and of definitions here, that several proofs of this crate cite, passed on from one place. Declares nothing.
pub use Rattle.ss_base.specs.declared.line.Line.{Line}
pub use Rattle.ss_check_bodies.specs.Results.{scope_in}
pub use Rattle.ss_names_meaning.proofs.Each.{each_fails, each_next, no_items}
pub use Rattle.ss_names_meaning.proofs.Steps.{failed, fails_then}
pub use Rattle.ss_names_meaning.specs.Answers.{HasGiven}
unfoldable pub use Rattle.ss_names_meaning.specs.Answers.{each}
pub use Rattle.ss_names_meaning.specs.Expressions.{expression, item}
pub use Rattle.ss_names_meaning.specs.declared.error.ResolveError.{ResolveError}
pub use Rattle.ss_names_meaning.specs.declared.error.ResolveError.TheVariants.{Memory, Unresolved}
pub use Rattle.ss_names_scopes.specs.Scopes.{Scope}
pub use Rattle.ss_tree.specs.View.{view_term}
unfoldable pub use Rattle.ss_tree.specs.View.{view_expression_tree}
pub use Rattle.std.specs.Global.{Vec}
pub use Rattle.std.specs.List.{fold}
