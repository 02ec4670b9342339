-- The names of other crates, and of definitions here, that several proofs of this crate cite, passed on from one place. Declares nothing.
pub use Rattle.ss_base.specs.declared.layout.Layout.{Layout}
pub use Rattle.ss_base.specs.declared.layout.Mode.TheVariants.{Alpha}
pub use Rattle.ss_base.specs.declared.layout.Owner.{Owner}
pub use Rattle.ss_base.specs.declared.layout.Owner.TheVariants.{Class, System}
pub use Rattle.ss_base.specs.declared.layout.SetLayout.{SetLayout}
pub use Rattle.ss_base.specs.declared.value.Value.TheVariants.{Text, Whole}
pub use Rattle.ss_records_blocks.proofs.Entries.{get_there}
pub use Rattle.ss_records_blocks.proofs.Puts.{put_other}
pub use Rattle.ss_records_blocks.proofs.Same.{by_same, differs, same}
pub use Rattle.ss_records_blocks.specs.Cells.{Cells, Word, link, number, put_word, word_at, word_of, words_at}
pub use Rattle.ss_records_blocks.specs.declared.store.BlockPlace.{BlockPlace}
pub use Rattle.ss_records_words.specs.Kept.{ArePartsKept}
pub use Rattle.ss_records_words.specs.Laid.{AreLaidTo}
pub use Rattle.ss_records_words.specs.Places.{Directory, IsListedAt, class_at_place, entity_at, listing, owner_at, place_in_record}
pub use Rattle.ss_records_words.specs.Plans.{bases_of}
pub use Rattle.ss_records_words.specs.Reading.{IsValuePut, plain, value_of_words}
pub use Rattle.ss_records_words.specs.Shape.{block_words, count_before, count_sets, joins, links_start, owned_by, owned_start, set_places}
pub use Rattle.ss_records_words.specs.Slotted.{IsEntityOf, MayOwn, member_base, owner_base, slots_of}
pub use Rattle.ss_records_words.specs.declared.plan.Bases.{Bases}
pub use Rattle.ss_records_words.specs.declared.plan.Extent.{Extent}
pub use Rattle.ss_world.specs.Lists.{IsInList, IsNotInList, succ}
pub use Rattle.ss_world.specs.State.{Members, has_members, is_filed, members_of}
pub use Rattle.std.proofs.lemmas.Option.{slice_get_within}
pub use Rattle.std.specs.List.{list_all}
