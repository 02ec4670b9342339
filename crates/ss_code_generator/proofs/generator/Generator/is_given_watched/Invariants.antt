use Rattle.std.proofs.Common.{◌≡◌}
use Rattle.ss_code_generator.specs.Notices.{any_watched}
use Rattle.ss_code_generator.proofs.generator.Generator.is_given_watched.Given as goal

abbrev pub invariant-loop-field : goal.invariant-loop-field
invariant-loop-field l = l.watched ≡ any_watched l.self.program.now.statistics.items l.class l.field
