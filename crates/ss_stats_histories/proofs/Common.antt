-- The names of other crates, and of definitions here, that several proofs of this crate cite, passed on from one place. Declares nothing.
pub use Rattle.ss_base.specs.declared.fault.FaultKind.TheVariants.{Overflow}
pub use Rattle.ss_base.specs.declared.layout.Layout.{Layout}
pub use Rattle.ss_base.specs.declared.layout.Owner.{Owner}
pub use Rattle.ss_base.specs.declared.layout.Owner.TheVariants.{Class}
pub use Rattle.ss_base.specs.declared.value.Value.TheVariants.{Whole}
pub use Rattle.ss_meaning.specs.Histories.{at_start, begun_in, ended_in, ending, folded, history_of_subject, renewed, starting}
pub use Rattle.ss_meaning.specs.Store.{Column}
pub use Rattle.ss_meaning.specs.Values.{if_ok, sure}
pub use Rattle.ss_program.specs.declared.sections.Statistic.{Statistic}
pub use Rattle.ss_program.specs.declared.sections.Subject.{Subject}
pub use Rattle.ss_stats.specs.History.{History, is_full, restarted, with_noted_value}
pub use Rattle.ss_stats_histories.specs.Each.{HasRoom, IsKeptUntil, StatisticHistories, bare, begun_shown, changed_at, ended_shown, first_at, has_at, noted_by, noted_one, refused_at, refused_in, renewed_one, shown, stops_at}
pub use Rattle.ss_stats_histories.specs.Places.{is_about, places_where}
pub use Rattle.ss_stats_histories.specs.Records.{HasRooms, IsUntil, Recorded, Records, Rows, by_number, column_of, columns_of, figured, found_in, is_up_to, mean_in, none_in, none_yet, noted_column, noted_to, noted_value, renewed_column, renewed_to, rooms_of, rows_of, statistics_of}
pub use Rattle.ss_stats_histories.specs.declared.unnoted.Unnoted.{Unnoted}
pub use Rattle.std.proofs.Math.Path.{fun_ext}
pub use Rattle.std.proofs.lemmas.Bool.{ltb-true}
pub use Rattle.std.proofs.lemmas.Bool.Decides.{Decides-int_eq}
pub use Rattle.std.proofs.lemmas.Int.{ints}
pub use Rattle.std.proofs.lemmas.List.{map-append, take_more}
pub use Rattle.std.proofs.lemmas.Option.{slice_get_past}
pub use Rattle.std.specs.Option.{option_or}
pub use Rattle.std.specs.Prelude.{⊤}
