use Rattle.std.proofs.Common.{take}
use Rattle.ss_code_generator.proofs.Common.{HasEmittedBlock, view_body}
use Rattle.ss_code_generator.proofs.generator.Generator.+statements.Given as goal

abbrev pub invariant-body-loop-s : goal.invariant-body-loop-s
invariant-body-loop-s l = HasEmittedBlock l.initial.self l.self l.code l.height l.initial.prints.items l.prints.items (view_body (take l.s-index l.body))
