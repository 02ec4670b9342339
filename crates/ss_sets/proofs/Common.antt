-- The names of other crates, and of definitions here, that several proofs of this crate cite, passed on from one place. Declares nothing.
pub use Rattle.ss_base.specs.Order.{value_cmp}
pub use Rattle.ss_base.specs.declared.fault.FaultKind.{FaultKind}
pub use Rattle.ss_base.specs.declared.layout.RankKey.{RankKey}
pub use Rattle.ss_base.specs.declared.value.Value.{Value}
pub use Rattle.ss_base.specs.declared.value.Value.TheVariants.{Whole}
pub use Rattle.ss_records.specs.Passing.{before_where, first_where}
pub use Rattle.ss_sets.specs.Walks.{is_after}
pub use Rattle.ss_world.specs.Disciplines.{filed_ranked, members_passed, owned, ranks_after, value_of}
pub use Rattle.ss_world.specs.Lists.{IsInList, head0}
pub use Rattle.ss_world.specs.Sets.{AreMembersApart, joiner, member_class, owner}
pub use Rattle.ss_world.specs.State.{State, and_then}
pub use Rattle.std.proofs.lemmas.Int.{to_z-of_z}
pub use Rattle.std.specs.Ordering.{match_ordering}
pub use Rattle.std.specs.Prelude.{IsOk, MatchResult, Result, pos, slice_index_or, ℤ}
