use Rattle.std.proofs.Common.{◌≡◌, take}
use Rattle.std.specs.List.{flat_map}
use Rattle.ss_names_meaning.specs.Layouts.{count_by}
use Rattle.ss_names_meaning.proofs.globals.counts_among.Given as goal

abbrev pub invariant-loop-meaning : goal.invariant-loop-meaning
invariant-loop-meaning l = l.counted.items ≡ flat_map count_by (take l.meaning-index l.meanings)
