use Rattle.std.proofs.Common.{◌≡◌, take}
use Rattle.ss_program.specs.declared.sections.Subject.{Subject}
use Rattle.ss_stats_histories.specs.Places.{places_where, is_about, place_found}
use Rattle.ss_stats_histories.proofs.about.tables_of.Given as goal

abbrev pub invariant-loop-place : goal.invariant-loop-place
invariant-loop-place l = (s : Subject) → place_found s l.tables.variables l.tables.attributes l.tables.sets ≡ places_where (is_about s) (take l.place l.statistics)
