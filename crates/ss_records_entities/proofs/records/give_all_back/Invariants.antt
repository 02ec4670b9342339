use Rattle.std.proofs.Common.{◌*◌}
use Rattle.ss_records_words.specs.Places.{lying}
use Rattle.ss_records_entities.proofs.Living.{Left}
use Rattle.ss_records_entities.proofs.records.give_all_back.Given as goal

abbrev pub invariant-loop-i : goal.invariant-loop-i
invariant-loop-i l = record { left : Left l.fn.blocks.cells l.blocks.cells l.fn.system.at (lying l.fn.directory.places l.fn.permanents) l.i }

abbrev pub invariant-loop-stretch : goal.invariant-loop-stretch
invariant-loop-stretch l = record { left : Left l.fn.blocks.cells l.blocks.cells l.fn.system.at (lying l.fn.directory.places l.fn.permanents) (l.stretch * 256) }
