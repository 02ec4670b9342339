-- The names of other crates, and of definitions here, that several proofs of this crate cite, passed on from one place. Declares nothing.
pub use Rattle.ss_base.specs.Layout.{mode_of}
pub use Rattle.ss_base.specs.declared.fault.FaultKind.{FaultKind}
pub use Rattle.ss_base.specs.declared.fault.FaultKind.TheVariants.{WrongClass}
pub use Rattle.ss_base.specs.declared.layout.ClassKind.{ClassKind}
pub use Rattle.ss_base.specs.declared.layout.ClassKind.TheVariants.{Notice, Permanent, Temporary}
pub use Rattle.ss_base.specs.declared.layout.ClassLayout.{ClassLayout}
pub use Rattle.ss_base.specs.declared.layout.Layout.{Layout}
pub use Rattle.ss_base.specs.declared.layout.Mode.{Mode}
pub use Rattle.ss_base.specs.declared.layout.Mode.TheVariants.{Alpha, Integer}
pub use Rattle.ss_base.specs.declared.layout.Owner.{Owner}
pub use Rattle.ss_base.specs.declared.layout.Owner.TheVariants.{Class, System}
pub use Rattle.ss_base.specs.declared.layout.SetLayout.{SetLayout}
pub use Rattle.ss_base.specs.declared.value.Value.{Value}
pub use Rattle.ss_base.specs.declared.value.Value.TheVariants.{Whole}
pub use Rattle.ss_records_blocks.proofs.Count.{blocks_without}
pub use Rattle.ss_records_blocks.proofs.Entries.{get_inside, get_there, living_bound}
pub use Rattle.ss_records_blocks.proofs.Numbers.{length-with_word}
pub use Rattle.ss_records_blocks.proofs.Paging.{quot, rem}
pub use Rattle.ss_records_blocks.proofs.Puts.{length-blanks, length_put, put_other, word_blank, word_here, word_other, words_new, words_without}
pub use Rattle.ss_records_blocks.proofs.Same.{by_same, differs, false_is_not_true, same}
pub use Rattle.ss_records_blocks.specs.Cells.{Cells, IsCounter, IsLink, IsNumber, MayBeNumber, Memory, Word, blanks, counter, link, number, put_word, with_word, without_block, word_at, word_of, words_at}
pub use Rattle.ss_records_blocks.specs.Links.{HasLink, Slots, hooked, linked_in, rewired, unlinked_in}
pub use Rattle.ss_records_blocks.specs.Pages.{in_page}
pub use Rattle.ss_records_blocks.specs.Places.{Numbers, living_count, row_in}
pub use Rattle.ss_records_blocks.specs.Writes.{IsWrittenAt, owned_from}
pub use Rattle.ss_records_blocks.specs.declared.links.EntityBlock.{EntityBlock}
pub use Rattle.ss_records_blocks.specs.declared.store.BlockPlace.{BlockPlace}
pub use Rattle.ss_records_entities.specs.Looked.{IsLooked}
pub use Rattle.ss_records_entities.specs.Parts.{AreNeighbours, CanJoin, HasNeighbours, IsEntityPlace, IsInPlace, IsKept, IsOwnerBlock, places, state, uncounted}
pub use Rattle.ss_records_entities.specs.Passing.{first_where, ranks_past}
pub use Rattle.ss_records_entities.specs.Skimming.{IsPassedOver, IsReachedIn, IsSkimmed, is_passed}
pub use Rattle.ss_records_entities.specs.declared.records.Records.{Records}
pub use Rattle.ss_records_words.proofs.Disjoint.{above_head, entry_of, is_of, owner_inside}
pub use Rattle.ss_records_words.proofs.Filed.{above_zero, contains_in, filed_or_not, in_contains, not_filed_in}
pub use Rattle.ss_records_words.proofs.Listing.{listed}
pub use Rattle.ss_records_words.proofs.Splice.{after_in, before_in, distinct_less, head_is, in_left, in_mid, last_is, not_and_in, not_in, pred_is, succ_is}
pub use Rattle.ss_records_words.specs.Kept.{AreFormed, AreOfClass, ArePartsKept, IsPermanent, IsSmall, issued_place, numbered_place, state_of}
pub use Rattle.ss_records_words.specs.Laid.{AreLaidTo, IsBorn, IsLaid, IsSystemLaid}
pub use Rattle.ss_records_words.specs.Links.{AreShowing, AreSlotsApart, IsLinkedIn, IsOfMember, IsOfOwner, IsRewired, IsUnlinked, Words, words_of}
pub use Rattle.ss_records_words.specs.Places.{Directory, IsListedAt, IsMade, Made, class_at_place, entity_at, listing, lying, own_or, owner_at, permanent_count, place_in_record}
pub use Rattle.ss_records_words.specs.Plans.{is_system}
pub use Rattle.ss_records_words.specs.Reading.{IsValuePut, class_in_words, plain, record_at, record_of, records_at, value_at, value_of_words, values_from}
pub use Rattle.ss_records_words.specs.Shape.{block_words, count_before, count_sets, joins, links_start, owned_by, owned_start, set_places, values_end}
pub use Rattle.ss_records_words.specs.Slotted.{AreSpared, IsEntityOf, IsNameKept, IsOfName, MayOwn, member_base, owner_base, slots_of}
pub use Rattle.ss_world.specs.Disciplines.{member_test}
pub use Rattle.ss_world.specs.Lists.{AreAllDistinct, IsInList, IsNotInList, head0, last_or, pred_from, succ, with_list}
pub use Rattle.ss_world.specs.Sets.{first_in, follower, joiner, last_in, less, member_class, member_in, owner, owner_by, owner_in, owner_kind, precursor, put_after, put_before, taken_out, with_list_of}
pub use Rattle.ss_world.specs.State.{LAST_NUMBER, Members, Record, State, and_then, assigned, contains, created, created_all, destroyed, entity_in, entity_of_kind, first_record, has_members, in_a_set, indexed, is_filed, is_notice, kind_in, kind_of, let_go, members_of, modes_of, no_value, number_in, numbered_record, of_class, owner_of, owns_members, record_with_value, time_in, timed, value_in, with_made, with_members, with_time}
pub use Rattle.std.proofs.lemmas.Bool.{lt-ltb}
pub use Rattle.std.proofs.lemmas.Int.{ints, to_z-of_z}
pub use Rattle.std.proofs.lemmas.Option.{IfSome_then, slice_get_within}
pub use Rattle.std.specs.Int.{cast_signed, cast_unsigned}
pub use Rattle.std.specs.Ordering.{int_cmp, match_ordering}
pub use Rattle.std.specs.Prelude.{Bool, IsOk, MatchResult, Option, Result, is_some, nat_abs, nat_eq, nat_lt, negsuc, not, pos, replicate, ℤ}
